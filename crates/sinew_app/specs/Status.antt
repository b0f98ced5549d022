-- The exit code of a status, and the status after a text was to be written.
use Rattle.std.specs.Prelude.{ℕ, Result, Ok, Err}
use Rattle.std.specs.declared.alloc.AllocError.{AllocError}
use Rattle.sinew_io.specs.declared.written.Written as written
use Rattle.sinew_app.specs.declared.status.Status.{Status}
use Rattle.sinew_app.specs.declared.status.Status.TheVariants as status

-- The code with which the program ends.
abbrev pub code_of : Status → ℕ
code_of status.Done = 0
code_of status.Words = 2
code_of status.Script = 3
code_of status.Read = 4
code_of status.Write = 5
code_of status.Memory = 6

-- The status after a text was to be written: the one given where it was written whole.
abbrev pub status_after : Status → Result written.Written AllocError → Status
status_after whole (Ok written.TheVariants.Done) = whole
status_after whole (Ok (written.TheVariants.Failed n)) = status.Write
status_after whole (Err e) = status.Memory
