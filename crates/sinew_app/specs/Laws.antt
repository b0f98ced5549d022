-- What holds of the runs of a script.
use Rattle.std.specs.Prelude.{◌≡◌, List}
use Rattle.script_reader.specs.declared.line.Line.{Line}
use Rattle.sinew_app.specs.Run.{Run, IsSerial, IsLegal}
use Rattle.sinew_app.specs.Printing.{printing}

-- Two serial runs of the lines are one run.
abbrev pub HasOneSerialRun : List Line → Type 0
HasOneSerialRun lines = (a b : Run) → IsSerial lines a → IsSerial lines b → a ≡ b

-- Two legal runs of the lines of which the same is printed are one run.
abbrev pub IsShownByPrinting : List Line → Type 0
IsShownByPrinting lines = (a b : Run) → IsLegal lines a → IsLegal lines b → printing lines a ≡ printing lines b → a ≡ b

-- The lines have a serial run.
abbrev pub HasSerialRun : List Line → Type 0
HasSerialRun lines = (run : Run) × IsSerial lines run
