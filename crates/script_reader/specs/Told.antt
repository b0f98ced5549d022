-- What the code's answers about a piece tell, in the words of `Pieces`.
use Rattle.std.specs.Prelude.{◌≡◌, ◌⊎◌, ℕ, List, [], ◌∷◌, ◌++◌, Option, Some, None, Result, Ok, Err}
use Rattle.script_reader.specs.Pieces.{Said, nothing, statement, bad}
use Rattle.script_reader.specs.declared.named.Named.{Named}
use Rattle.script_reader.specs.declared.statement.Statement.{Statement}
use Rattle.script_reader.specs.declared.why.Why.{Why}

-- A statement that was read but for the lines that it names, or the fault that there is none.
abbrev pub said_by : Result Statement Why → Said
said_by (Ok s) = statement s.session [] s.rest.now
said_by (Err why) = bad why

-- What was read from a piece but for the lines that it names.
abbrev pub told : Result (Option Statement) Why → Said
told (Ok None) = nothing
told (Ok (Some s)) = statement s.session [] s.rest.now
told (Err why) = bad why

-- The lines that were named so far, in front of those that are named behind them.
abbrev pub named_before : List ℕ → Option Named → Option Named
named_before lines None = None
named_before lines (Some named) = Some (record { lines = lines ++ named.lines; text = named.text })

-- The bytes without a line feed that ends them.
abbrev pub IsWithoutEnd : List ℕ → List ℕ → Type 0
IsWithoutEnd bytes body = (bytes ≡ body ++ 10 ∷ []) ⊎ ((body ≡ bytes) × ((front : List ℕ) → bytes ≡ front ++ 10 ∷ [] → ⊥))
