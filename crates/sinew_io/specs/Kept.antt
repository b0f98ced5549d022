-- What a sink over memory keeps.
use Rattle.std.specs.Prelude.{ℕ, ◌+◌, List, ◌++◌, length, take, Bool, ◌||◌, nat_lt, Option, Some, None, if◌then◌else◌}

-- The bytes that a sink keeps, how many it has room for, and whether it took more.
pub record Kept : Type 0 where
  pub bytes : List ℕ
  pub room : ℕ
  pub over : Bool

-- What the sink tells: the bytes kept, while they are all that it took.
abbrev pub told_bytes : Kept → Option (List ℕ)
told_bytes kept = if kept.over then None else Some kept.bytes

-- The sink after it took a text whole.
abbrev pub kept_after : Kept → List ℕ → Kept
kept_after kept text = record kept { bytes = take kept.room (kept.bytes ++ text); over = kept.over || nat_lt kept.room (length kept.bytes + length text) }
