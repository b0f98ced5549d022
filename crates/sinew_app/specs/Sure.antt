-- What a run from a text in memory leaves, where no device can fail.
use Rattle.std.specs.Prelude.{◌≡◌, ℕ, List, [], Option, Some, Err}
use Rattle.sinew_io.specs.Told.{Took}
use Rattle.script_reader.specs.Reader.{script_of}
use Rattle.script_reader.specs.declared.line.Line.{Line}
use Rattle.script_reader.specs.declared.script_fault.ScriptFault.{ScriptFault}
use Rattle.commit_core.specs.declared.entry.Entry.{Entry}
use Rattle.sinew_app.specs.Run.{Run}
use Rattle.sinew_app.specs.Printing.{printing, refusal_text}
use Rattle.sinew_app.specs.Outcome.{WasRead, WasRun}

-- The text was read whole and is a script, and the sink took the printing of its serial run, the texts of whose order are those of the store's commits.
pub record PrintsRun (text left : List ℕ) (taken_before taken_after : Option (List ℕ)) (commits : List Entry) : Type 0 where
  pub whole : left ≡ []
  pub lines : List Line
  pub run : Run
  pub ran : WasRun text lines run commits
  pub took : Took taken_before taken_after (printing lines run)

-- The text is no script, the sink took the line that says so, and the store has no commit.
pub record PrintsRefusal (text left : List ℕ) (taken_before taken_after : Option (List ℕ)) (commits : List Entry) : Type 0 where
  pub input : List ℕ
  pub read : WasRead (Some text) (Some left) input
  pub fault : ScriptFault
  pub bad : script_of text ≡ Err fault
  pub took : Took taken_before taken_after (refusal_text fault)
  pub store : commits ≡ []
