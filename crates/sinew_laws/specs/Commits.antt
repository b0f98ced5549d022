-- What a write leaves, and what a reading holds.
use Rattle.std.specs.Prelude.{◌≡◌, ℕ, List, take, Some}
use Rattle.row_columns.specs.Contents.{Cells}
use Rattle.commit_core.specs.Plan.{plan_of}
use Rattle.commit_core.specs.Replies.{told_of, state_after}
use Rattle.commit_core.specs.OneWrite.{IsWrite}
use Rattle.commit_core.specs.Agreement.{ReadingOf, Agrees, sort_of}
use Rattle.commit_core.specs.declared.entry.Entry.{Entry}
use Rattle.commit_core.specs.declared.reply.Reply.{Reply}
use Rattle.commit_core.specs.declared.prepared_sort.PreparedSort.TheVariants as sort

-- A write of a text by a caller over commits leaves one list of commits, and one reply.
abbrev pub LeavesOneThing : Type 0
LeavesOneThing = (caller : ℕ) (text : List ℕ) (old one other : List Entry) (first second : Reply) →
    IsWrite caller text old one first → IsWrite caller text old other second → (one ≡ other) × (first ≡ second)

-- Readings of one text under the same references at one number, over commits of which the first so many are the same, have read the same rows, once both have read.
abbrev pub HoldsOneThing : Type 0
HoldsOneThing = (a b : ReadingOf) (texts others : List (List ℕ)) (one other : List (List Cells)) → Agrees a texts → Agrees b others →
    a.text ≡ b.text → a.references ≡ b.references → a.at ≡ b.at → take a.at texts ≡ take a.at others → a.rows ≡ Some one → b.rows ≡ Some other → one ≡ other

-- Readings of one text under the same references that have read the same rows are told the same, each over the commits that it is made over, whichever these are.
abbrev pub IsToldByItsRows : Type 0
IsToldByItsRows = (a b : ReadingOf) (texts others : List (List ℕ)) (rows : List (List Cells)) → Agrees a texts → Agrees b others →
    a.text ≡ b.text → a.references ≡ b.references → a.rows ≡ Some rows → b.rows ≡ Some rows →
    told_of a.text (state_after (take a.at texts)) ≡ told_of b.text (state_after (take b.at others))

-- A reading that agrees with commits is one of a question.
abbrev pub IsOfAQuestion : Type 0
IsOfAQuestion = (reading : ReadingOf) (texts : List (List ℕ)) → Agrees reading texts → sort_of (plan_of reading.text) ≡ sort.Read
