-- Sessions, and the lines that one says.
use Rattle.std.specs.Prelude.{ℕ, ◌+◌, ◌-◌, ◌≤◌, List, [], ◌∷◌, Bool, ◌==◌, length, Option, slice_get, if◌then◌else◌}
use Rattle.script_reader.specs.declared.line.Line.{Line}

-- The most sessions of a script.
abbrev pub most_sessions : ℕ
most_sessions = 64

-- The number of a session: they are numbered from 1 on.
abbrev pub IsSession : ℕ → Type 0
IsSession session = (1 ≤ session) × (session ≤ most_sessions)

-- The session says the line.
abbrev pub is_said_by : ℕ → Line → Bool
is_said_by session line = line.session == session

-- The positions of the lines that the session says, ascending; the first line has the position given.
abbrev pub lines_from : ℕ → ℕ → List Line → List ℕ
lines_from at session [] = []
lines_from at session (line ∷ lines) = if is_said_by session line then at ∷ lines_from (at + 1) session lines else lines_from (at + 1) session lines

-- The positions of the lines that the session says, ascending.
abbrev pub lines_of : ℕ → List Line → List ℕ
lines_of session lines = lines_from 0 session lines

-- The position of the last line that the session says.
abbrev pub last_of : ℕ → List Line → Option ℕ
last_of session lines = slice_get (lines_of session lines) (length (lines_of session lines) - 1)
