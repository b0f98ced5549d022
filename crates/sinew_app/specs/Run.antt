-- Runs of a script, and which of them are legal.
use Rattle.std.specs.Prelude.{◌≡◌, ℕ, ◌+◌, ◌≤◌, List, [], true, false, length, take, map, count_by, Option, Some, None, slice_get}
use Rattle.script_reader.specs.declared.line.Line.{Line}
use Rattle.commit_core.specs.Replies.{Told, told_of, reply_at, state_after}
use Rattle.commit_core.specs.declared.reply.Reply.{Reply}

-- A run: the order of the lines that are commits, as their positions from 0 on, and the reply to each line of the script.
pub record Run : Type 0 where
  pub order : List ℕ
  pub answers : List Reply

-- The text of a line, if there is one.
abbrev pub text_of : Option Line → List ℕ
text_of None = []
text_of (Some line) = line.text

-- The text of the line at a position.
abbrev pub text_at : List Line → ℕ → List ℕ
text_at lines k = text_of (slice_get lines k)

-- The texts of lines at positions.
abbrev pub texts_at : List Line → List ℕ → List (List ℕ)
texts_at lines order = map (text_at lines) order

-- What the line at a position is told over the first so many commits of an order.
abbrev pub told_by_line : List Line → List ℕ → ℕ → ℕ → Told
told_by_line lines order number k = told_of (text_at lines k) (state_after (texts_at lines (take number order)))

-- A run is legal.
pub record IsLegal (lines : List Line) (run : Run) : Type 0 where
  -- each line has its answer
  pub answered : length run.answers ≡ length lines
  -- a line stands in the order at most once
  pub once : (i j k : ℕ) → slice_get run.order i ≡ Some k → slice_get run.order j ≡ Some k → i ≡ j
  -- a line whose reply is accepted stands in the order
  pub stands : (k : ℕ) (reply : Reply) → slice_get run.answers k ≡ Some reply → reply.accepted ≡ true → (i : ℕ) × (slice_get run.order i ≡ Some k)
  -- the i-th line of the order has number i, and its reply, which is accepted, is what its text is told over the commits before it
  pub committed : (i k : ℕ) → slice_get run.order i ≡ Some k →
      (slice_get run.answers k ≡ Some (reply_at (i + 1) (told_by_line lines run.order i k))) × ((told_by_line lines run.order i k).accepted ≡ true)
  -- any other line has the number of some commits, and its reply is what its text is told over so many
  pub other : (k : ℕ) (reply : Reply) → slice_get run.answers k ≡ Some reply → reply.accepted ≡ false →
      (reply.at ≤ length run.order) × (reply ≡ reply_at reply.at (told_by_line lines run.order reply.at k))
  -- a line's number is at least that of each line that it follows
  pub later : (j k p : ℕ) (line : Line) (before after : Reply) → slice_get lines k ≡ Some line → slice_get line.follows p ≡ Some j →
      slice_get run.answers j ≡ Some before → slice_get run.answers k ≡ Some after → before.at ≤ after.at

-- How many of the replies are those of commits.
abbrev pub accepted_in : List Reply → ℕ
accepted_in replies = count_by (λ reply. reply.accepted) replies

-- The serial run: the legal run in which each line's number is the number of accepted writes among itself and the lines above it.
pub record IsSerial (lines : List Line) (run : Run) : Type 0 where
  pub legal : IsLegal lines run
  pub numbers : (k : ℕ) (reply : Reply) → slice_get run.answers k ≡ Some reply → reply.at ≡ accepted_in (take (k + 1) run.answers)
