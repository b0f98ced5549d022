-- Which bytes of a text stand for themselves where it is printed.
use Rattle.std.specs.Prelude.{ℕ, ◌==◌, Bool, not, ◌&&◌, nat_le}

-- No byte below a space does, no `"` and no `\`.
abbrev pub stands_for_itself : ℕ → Bool
stands_for_itself byte = nat_le 32 byte && not (byte == 34) && not (byte == 92)
