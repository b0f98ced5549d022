-- What is kept while a script is read: the positions of the lines of each session.
use Rattle.std.specs.Prelude.{◌≡◌, ℕ, ◌+◌, ◌<◌, List, [], length, slice_index_or}
use Rattle.script_reader.specs.Sessions.{most_sessions, lines_of}
use Rattle.script_reader.specs.declared.line.Line.{Line}

-- What is kept for each session, from the first on, are the positions of its lines.
pub record TellsSessions (kept : List (List ℕ)) (lines : List Line) : Type 0 where
  pub all : length kept ≡ most_sessions
  pub each : (k : ℕ) → k < most_sessions → slice_index_or kept k [] ≡ lines_of (k + 1) lines
