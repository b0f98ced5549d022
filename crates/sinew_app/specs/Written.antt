-- What writing a run leaves.
use Rattle.std.specs.Prelude.{◌≡◌, ℕ, List, Option}
use Rattle.sinew_io.specs.Whole.{WritesAll}
use Rattle.sinew_io.specs.declared.written.Written.{Written}
use Rattle.script_reader.specs.declared.line.Line.{Line}
use Rattle.commit_core.specs.Commits.{texts_of}
use Rattle.commit_core.specs.declared.entry.Entry.{Entry}
use Rattle.sinew_app.specs.Run.{Run, IsSerial, texts_at}
use Rattle.sinew_app.specs.Printing.{printing}

-- The printing of the serial run of the lines was written, or a front of it, and the texts of the store's commits are those of its order.
pub record WritesRun (written : Written) (taken_before taken_after : Option (List ℕ)) (lines : List Line) (commits : List Entry) : Type 0 where
  pub run : Run
  pub serial : IsSerial lines run
  pub store : texts_of commits ≡ texts_at lines run.order
  pub wrote : WritesAll written taken_before taken_after (printing lines run)
