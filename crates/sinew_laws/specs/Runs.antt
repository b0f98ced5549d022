-- What a legal run shows.
use Rattle.std.specs.Prelude.{◌≡◌, ◌↔◌, ℕ, ◌<◌, ◌≤◌, List, true, length, Some, slice_get}
use Rattle.script_reader.specs.declared.line.Line.{Line}
use Rattle.commit_core.specs.declared.reply.Reply.{Reply}
use Rattle.sinew_app.specs.Run.{Run, IsLegal}

-- In a legal run of these lines the number of each is at most that of all commits.
abbrev pub HasNumbersWithinCommits : List Line → Type 0
HasNumbersWithinCommits lines = (run : Run) (k : ℕ) (reply : Reply) → IsLegal lines run → slice_get run.answers k ≡ Some reply → reply.at ≤ length run.order

-- In a legal run of these lines one stands in the order exactly where its reply is that of an accepted write.
abbrev pub HasAcceptedWritesAlone : List Line → Type 0
HasAcceptedWritesAlone lines = (run : Run) (k : ℕ) (reply : Reply) → IsLegal lines run → slice_get run.answers k ≡ Some reply →
    (reply.accepted ≡ true) ↔ ((i : ℕ) × (slice_get run.order i ≡ Some k))

-- In a legal run of these lines, of two of one session the one further down has at least the number of the one further up.
abbrev pub HasNumbersThatNeverFall : List Line → Type 0
HasNumbersThatNeverFall lines = (run : Run) (j k : ℕ) (upper lower : Line) (before after : Reply) → IsLegal lines run → j ≤ k →
    slice_get lines j ≡ Some upper → slice_get lines k ≡ Some lower → upper.session ≡ lower.session →
    slice_get run.answers j ≡ Some before → slice_get run.answers k ≡ Some after → before.at ≤ after.at

-- In a legal run of these lines, of two commits of one session the one whose line stands further up is the earlier one.
abbrev pub HasSessionsInOrder : List Line → Type 0
HasSessionsInOrder lines = (run : Run) (i j above below : ℕ) (upper lower : Line) → IsLegal lines run → above < below →
    slice_get lines above ≡ Some upper → slice_get lines below ≡ Some lower → upper.session ≡ lower.session →
    slice_get run.order i ≡ Some above → slice_get run.order j ≡ Some below → i < j
