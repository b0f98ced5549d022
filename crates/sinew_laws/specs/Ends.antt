-- What holds of the ways in which a run ends.
use Rattle.std.specs.Prelude.{◌≡◌, ◌≢◌, ◌⊎◌, ◌++◌, List, [], ℕ, Option, Some, Ok, Err}
use Rattle.script_reader.specs.declared.line.Line.{Line}
use Rattle.script_reader.specs.declared.script_fault.ScriptFault.{ScriptFault}
use Rattle.commit_core.specs.Commits.{texts_of}
use Rattle.commit_core.specs.declared.entry.Entry.{Entry}
use Rattle.sinew_app.specs.Outcome.{IsDone, IsRefused, IsBroken, IsUnwritten, IsDecided}
use Rattle.sinew_app.specs.declared.status.Status.{Status}
use Rattle.sinew_app.specs.declared.status.Status.TheVariants as status_of

-- What a sink took in two runs stands in a relation, where it tells its bytes after both.
abbrev pub WhereTold : (List ℕ → List ℕ → Type 0) → Option (List ℕ) → Option (List ℕ) → Type 0
WhereTold Related (Some one) (Some other) = Related one other
WhereTold Related _ _ = Unit {0}

-- Bytes are a front of others, and not all of them.
abbrev pub IsFrontOf : List ℕ → List ℕ → Type 0
IsFrontOf one other = (rest : List ℕ) × (other ≡ one ++ rest) × (rest ≢ [])

-- Two runs from one source to one sink that are done leave the source the same, with the same texts of commits, where it tells its bytes; and the sink the same, where this tells its bytes too.
abbrev pub LeavesOneEnd : Type 0
LeavesOneEnd = (left left_one left_other : List ℕ) (taken taken_one taken_other : Option (List ℕ)) (one other : List Entry) →
    IsDone (Some left) (Some left_one) taken taken_one one →
    IsDone (Some left) (Some left_other) taken taken_other other →
    (left_one ≡ left_other) × WhereTold (λ a b. a ≡ b) taken_one taken_other × (texts_of one ≡ texts_of other)

-- Two runs from one source to one sink that are refused leave the source the same, with the same commits, where it tells its bytes; and the sink the same, where this tells its bytes too.
abbrev pub LeavesOneRefusal : Type 0
LeavesOneRefusal = (left left_one left_other : List ℕ) (taken taken_one taken_other : Option (List ℕ)) (one other : List Entry) →
    IsRefused (Some left) (Some left_one) taken taken_one one →
    IsRefused (Some left) (Some left_other) taken taken_other other →
    (left_one ≡ left_other) × WhereTold (λ a b. a ≡ b) taken_one taken_other × (one ≡ other)

-- A run whose writing broke off leaves the source as one from the same source that is done or refused, with the same texts of commits, where the source tells its bytes; and what the sink took is a front of what it takes there, and not all of that, where the sink tells its bytes too.
abbrev pub LeavesAFront : Type 0
LeavesAFront = (left left_one left_other : List ℕ) (taken taken_one taken_other : Option (List ℕ)) (one other : List Entry) →
    IsBroken (Some left) (Some left_one) taken taken_one one →
    (IsDone (Some left) (Some left_other) taken taken_other other
    ⊎ IsRefused (Some left) (Some left_other) taken taken_other other) →
    (left_one ≡ left_other) × WhereTold IsFrontOf taken_one taken_other × (texts_of one ≡ texts_of other)

-- Wherever the writing breaks off from one source to one sink, the same is read and the store has the same texts of commits, where the source tells its bytes.
abbrev pub LeavesItsCommits : Type 0
LeavesItsCommits = (left left_one left_other : List ℕ) (taken taken_one taken_other : Option (List ℕ)) (one other : List Entry) →
    IsBroken (Some left) (Some left_one) taken taken_one one →
    IsBroken (Some left) (Some left_other) taken taken_other other →
    (left_one ≡ left_other) × (texts_of one ≡ texts_of other)

-- Where nothing was written the sink is as it was, and the store has no commit.
abbrev pub LeavesSinkAndStore : Type 0
LeavesSinkAndStore = (before after : Option (List ℕ)) (commits : List Entry) → IsUnwritten before after commits → (after ≡ before) × (commits ≡ [])

-- A status that the input alone decides is not Read, Write or Words, and one that is decided both for a script and for other bytes is Memory.
abbrev pub BlamesNoDevice : Type 0
BlamesNoDevice = (lines : List Line) (fault : ScriptFault) (status : Status) →
    ((IsDecided (Ok lines) status ⊎ IsDecided (Err fault) status) →
    (status ≢ status_of.Read) × (status ≢ status_of.Write) × (status ≢ status_of.Words))
    × (IsDecided (Ok lines) status → IsDecided (Err fault) status → status ≡ status_of.Memory)
