-- A reading of a question, and when it agrees with a list of commits.
use Rattle.std.specs.Prelude.{◌≡◌, ℕ, ◌≤◌, List, Option, Some, length, take}
use Rattle.doc_values.specs.declared.col_ref.ColRef.{ColRef}
use Rattle.sql_tree.specs.declared.select.Select.{Select}
use Rattle.row_columns.specs.Contents.{Cells}
use Rattle.query_meaning.specs.Plans.{rows_under, Serve}
use Rattle.commit_core.specs.Query.{documents_asked}
use Rattle.commit_core.specs.Plan.{Plan, refused, read, write, plan_of}
use Rattle.commit_core.specs.Replies.{state_after}
use Rattle.commit_core.specs.declared.prepared_sort.PreparedSort.{PreparedSort}
use Rattle.commit_core.specs.declared.prepared_sort.PreparedSort.TheVariants as sort

-- What a plan is.
abbrev pub sort_of : Plan → PreparedSort
sort_of (refused line) = sort.Refused
sort_of (read question) = sort.Read
sort_of (write change) = sort.Write

-- A reading: its text, the number of commits that it is made over, the references that it reads of each table, and the rows of each that were read, once they were.
pub record ReadingOf : Type 0 where
  pub text : List ℕ
  pub at : ℕ
  pub references : List (List ColRef)
  pub rows : Option (List (List Cells))

-- A reading agrees with commits of texts: its text is a question, they are as many as its number or more, its references, a list for each table, serve the question, and what it has read is what the documents of its tables hold under them after the first so many.
pub record Agrees (reading : ReadingOf) (texts : List (List ℕ)) : Type 0 where
  pub question : Select
  pub planned : plan_of reading.text ≡ read question
  pub reached : reading.at ≤ length texts
  pub each : length reading.references ≡ length question.tables
  pub serve : Serve reading.references question
  pub found : (rows : List (List Cells)) → reading.rows ≡ Some rows → rows ≡ rows_under reading.references question (documents_asked question (state_after (take reading.at texts)))
