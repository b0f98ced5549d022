-- The script that bytes are, or the fault for which they are none, as a function.
use Rattle.std.specs.Prelude.{ℕ, zero, suc, ◌+◌, List, [], ◌∷◌, ◌++◌, length, count_by, Result, Ok, Err, nat_lt, nat_eq, if◌then◌else◌, option_to_list}
use Rattle.std.specs.List.{list_any}
use Rattle.script_reader.specs.Pieces.{nothing, statement, bad, said, pieces_of}
use Rattle.script_reader.specs.Script.{most_script_bytes}
use Rattle.script_reader.specs.Sessions.{is_said_by, last_of}
use Rattle.script_reader.specs.declared.line.Line.{Line}
use Rattle.script_reader.specs.declared.script_fault.ScriptFault.{ScriptFault}
use Rattle.script_reader.specs.declared.why.Why as why

-- The numbers below a bound that stand in a list, ascending.
abbrev pub ascending : List ℕ → ℕ → List ℕ
ascending list zero = []
ascending list (suc bound) = ascending list bound ++ (if list_any (nat_eq bound) list then bound ∷ [] else [])

-- The line that a statement makes behind the lines before it: its place counts the lines of its session, and it follows the last of these and those that it names.
abbrev pub line_behind : List Line → ℕ → List ℕ → List ℕ → Line
line_behind before session named text = record {
  session = session;
  place = count_by (is_said_by session) before + 1;
  follows = ascending (named ++ option_to_list (last_of session before)) (length before);
  text = text;
}

-- The lines above and those that the pieces make behind them, numbered on from a number; or the fault of the first bad piece.
abbrev pub read_from : ℕ → List Line → List (List ℕ) → Result (List Line) ScriptFault
read_from number above [] = Ok above
read_from number above (piece ∷ pieces) = elim (said number above piece) [
  | nothing ↦ read_from (number + 1) above pieces
  | statement session named text ↦ read_from (number + 1) (above ++ line_behind above session named text ∷ []) pieces
  | bad reason ↦ Err (record { line = number; why = reason })
]

-- The script that bytes are, or their one fault: too many bytes, else the first bad piece.
abbrev pub script_of : List ℕ → Result (List Line) ScriptFault
script_of bytes =
    if nat_lt most_script_bytes (length bytes) then Err (record { line = 0; why = why.TheVariants.Size })
    else read_from 1 [] (pieces_of bytes)
