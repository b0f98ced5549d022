-- What a run from a source to a sink leaves, for each status.
use Rattle.std.specs.Prelude.{◌≡◌, ℕ, ◌+◌, ◌≤◌, ◌⊎◌, List, [], length, take, Option, Result, Ok, Err}
use Rattle.sinew_io.specs.Told.{Gave, Took, NothingLeft}
use Rattle.script_reader.specs.Reader.{script_of}
use Rattle.script_reader.specs.Script.{most_script_bytes}
use Rattle.script_reader.specs.declared.line.Line.{Line}
use Rattle.script_reader.specs.declared.script_fault.ScriptFault.{ScriptFault}
use Rattle.commit_core.specs.Commits.{texts_of}
use Rattle.commit_core.specs.declared.entry.Entry.{Entry}
use Rattle.sinew_app.specs.Run.{Run, IsSerial, texts_at}
use Rattle.sinew_app.specs.declared.status.Status.{Status}
use Rattle.sinew_app.specs.declared.status.Status.TheVariants as status_of
use Rattle.sinew_app.specs.Printing.{printing, refusal_text}

-- The input was read: it is no longer than a script may be and the source had nothing left behind it, or it is one byte longer, whatever is left.
pub record WasRead (left_before left_after : Option (List ℕ)) (input : List ℕ) : Type 0 where
  pub gave : Gave left_before left_after input
  pub whole : ((length input ≤ most_script_bytes) × NothingLeft left_after) ⊎ (length input ≡ most_script_bytes + 1)

-- The input is a script, the run is its serial run, and the texts of the store's commits are those of its order, place by place.
pub record WasRun (input : List ℕ) (lines : List Line) (run : Run) (commits : List Entry) : Type 0 where
  pub script : script_of input ≡ Ok lines
  pub serial : IsSerial lines run
  pub store : texts_of commits ≡ texts_at lines run.order

-- Done: the input was read to its end and run, and the sink took the printing of the run.
pub record IsDone (left_before left_after taken_before taken_after : Option (List ℕ)) (commits : List Entry) : Type 0 where
  pub input : List ℕ
  pub gave : Gave left_before left_after input
  pub whole : NothingLeft left_after
  pub lines : List Line
  pub run : Run
  pub ran : WasRun input lines run commits
  pub took : Took taken_before taken_after (printing lines run)

-- Refused: the input was read and is no script, the sink took the line that says so, and the store has no commit.
pub record IsRefused (left_before left_after taken_before taken_after : Option (List ℕ)) (commits : List Entry) : Type 0 where
  pub input : List ℕ
  pub read : WasRead left_before left_after input
  pub fault : ScriptFault
  pub bad : script_of input ≡ Err fault
  pub took : Took taken_before taken_after (refusal_text fault)
  pub store : commits ≡ []

-- The sink took a front of the output, and not all of it.
abbrev pub TookFront : Option (List ℕ) → Option (List ℕ) → List ℕ → Type 0
TookFront taken_before taken_after output = (n : ℕ) × (n + 1 ≤ length output) × Took taken_before taken_after (take n output)

-- The writing broke off: in the printing of the run, the texts of whose order are those of the store's commits, or in the line of a refusal, with no commit.
pub data IsBroken (left_before left_after taken_before taken_after : Option (List ℕ)) (commits : List Entry) : Type 0 where
  in_printing : (input : List ℕ) (lines : List Line) (run : Run) → Gave left_before left_after input → NothingLeft left_after →
      WasRun input lines run commits → TookFront taken_before taken_after (printing lines run) →
      IsBroken left_before left_after taken_before taken_after commits
  in_refusal : (input : List ℕ) (fault : ScriptFault) → WasRead left_before left_after input → script_of input ≡ Err fault →
      TookFront taken_before taken_after (refusal_text fault) → commits ≡ [] →
      IsBroken left_before left_after taken_before taken_after commits

-- Nothing was written, and the store has no commit.
pub record IsUnwritten (taken_before taken_after : Option (List ℕ)) (commits : List Entry) : Type 0 where
  pub sink : taken_after ≡ taken_before
  pub store : commits ≡ []

-- The input alone decides: a script is done, other bytes are refused; or memory was wanting.
abbrev pub IsDecided : Result (List Line) ScriptFault → Status → Type 0
IsDecided (Ok lines) status = (status ≡ status_of.Done) ⊎ (status ≡ status_of.Memory)
IsDecided (Err fault) status = (status ≡ status_of.Script) ⊎ (status ≡ status_of.Memory)
