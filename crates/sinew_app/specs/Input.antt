-- What a reading of the input gives.
use Rattle.std.specs.Prelude.{◌≡◌, ℕ, List, Option, Ok, Err}
use Rattle.sinew_io.specs.Told.{Gave, NothingLeft}
use Rattle.script_reader.specs.Reader.{script_of}
use Rattle.script_reader.specs.declared.line.Line.{Line}
use Rattle.script_reader.specs.declared.script_fault.ScriptFault.{ScriptFault}
use Rattle.sinew_app.specs.Outcome.{WasRead}

-- The input was read to its end, and is a script.
pub record GaveScript (left_before left_after : Option (List ℕ)) (lines : List Line) : Type 0 where
  pub input : List ℕ
  pub gave : Gave left_before left_after input
  pub whole : NothingLeft left_after
  pub script : script_of input ≡ Ok lines

-- The input was read, and is no script.
pub record GaveNoScript (left_before left_after : Option (List ℕ)) (fault : ScriptFault) : Type 0 where
  pub input : List ℕ
  pub read : WasRead left_before left_after input
  pub bad : script_of input ≡ Err fault
