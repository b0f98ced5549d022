-- What a piece says, case by case.
use Rattle.std.proofs.Common.{◌≡◌, ℕ, ◌<◌, ◌≤◌, Bool, true, false, List, length, refl}
use Rattle.std.specs.Prelude.{◌||◌}
use Rattle.std.specs.List.{list_all}
use Rattle.std.specs.Str.{IsUtf8, is_utf8}
use Rattle.std.proofs.lemmas.Bool.{lt-ltb, le-ltb}
use Rattle.std.proofs.lemmas.Str.{IsUtf8-from_is_utf8, is_utf8-from_IsUtf8}
use Rattle.script_reader.specs.Pieces.{nothing, bad, said_alone, said_short, is_blank, is_gap, is_remark, past, statement_in, most_lines, most_line_bytes}
use Rattle.script_reader.specs.declared.why.Why.TheVariants.{Lines, Utf8}

false_unless : (b : Bool) → (b ≡ true → ⊥) → b ≡ false
false_unless true h = absurd (h refl)
false_unless false h = refl

pub said_lines : (number : ℕ) (piece : List ℕ) → most_lines < number → said_alone number piece ≡ bad Lines
said_lines number piece many = let e = lt-ltb most_lines number many in rw e refl

pub said_whole : (number : ℕ) (piece : List ℕ) → number ≤ most_lines → length piece ≤ most_line_bytes → said_alone number piece ≡ said_short piece
said_whole number piece few short =
    let e = le-ltb most_lines number few in
    let l = le-ltb most_line_bytes (length piece) short in
    rw (e, l) refl

pub said_bad : (piece : List ℕ) → ¬ (IsUtf8 piece) → said_short piece ≡ bad Utf8
said_bad piece h = let u = false_unless (is_utf8 piece) (λ t. h (IsUtf8-from_is_utf8 piece t)) in rw u refl

pub said_nothing : (piece : List ℕ) → IsUtf8 piece → (list_all is_blank piece || is_remark piece) ≡ true → said_short piece ≡ nothing
said_nothing piece u h = let v = is_utf8-from_IsUtf8 piece u in rw (v, h) refl

pub said_statement : (piece : List ℕ) → IsUtf8 piece → list_all is_blank piece ≡ false → is_remark piece ≡ false → said_short piece ≡ statement_in (past is_gap piece)
said_statement piece u b r = let v = is_utf8-from_IsUtf8 piece u in rw (v, b, r) refl
