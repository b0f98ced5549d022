-- A text that is no write leaves the commits, and a query is told what its text is told over all commits.
use Rattle.std.proofs.Common.{◌≡◌, ℕ, List, length, take, false, refl, subst, arith}
use Rattle.std.proofs.lemmas.List.{length-map, take_all}
use Rattle.commit_core.specs.Agreement.{ReadingOf, sort_of}
use Rattle.commit_core.specs.Commits.{texts_of}
use Rattle.commit_core.specs.OneWrite.{IsWrite, told_over}
use Rattle.commit_core.specs.Plan.{Plan, refused, read, write, plan_of}
use Rattle.commit_core.specs.Replies.{told_of, told_plan, reply_at, state_after}
use Rattle.commit_core.specs.State.{State}
use Rattle.commit_core.specs.declared.entry.Entry.{Entry}
use Rattle.commit_core.specs.declared.prepared_sort.PreparedSort.TheVariants as sort
use Rattle.commit_core.specs.declared.reply.Reply.{Reply}

refused-not-accepted : (plan : Plan) (state : State) → sort.Refused ≡ sort_of plan → (told_plan plan state).accepted ≡ false
refused-not-accepted (refused line) state e = refl
refused-not-accepted (read query) state e = refl
refused-not-accepted (write change) state e = cc

read-not-accepted : (plan : Plan) (state : State) → sort.Read ≡ sort_of plan → (told_plan plan state).accepted ≡ false
read-not-accepted (refused line) state e = refl
read-not-accepted (read query) state e = refl
read-not-accepted (write change) state e = cc

-- No commit where the text is not accepted.
unchanged : (caller : ℕ) (text : List ℕ) (entries : List Entry) (reply : Reply) → (told_over entries text).accepted ≡ false →
    reply ≡ reply_at (length entries) (told_over entries text) → IsWrite caller text entries entries reply
unchanged caller text entries reply e replied = record { commits = rw e refl; replied = replied }

pub refused_unchanged : (caller : ℕ) (prepared text : List ℕ) (entries : List Entry) (reply : Reply) → prepared ≡ text →
    sort.Refused ≡ sort_of (plan_of prepared) →
    reply ≡ reply_at (length entries) (told_over entries prepared) → IsWrite caller text entries entries reply
refused_unchanged caller prepared text entries reply same e replied =
    subst (λ (t : List ℕ). IsWrite caller t entries entries reply) same
    (unchanged caller prepared entries reply (refused-not-accepted (plan_of prepared) _ e) replied)

pub read_unchanged : (caller : ℕ) (prepared text : List ℕ) (entries : List Entry) (reply : Reply) → prepared ≡ text →
    sort.Read ≡ sort_of (plan_of prepared) →
    reply ≡ reply_at (length entries) (told_over entries prepared) → IsWrite caller text entries entries reply
read_unchanged caller prepared text entries reply same e replied =
    subst (λ (t : List ℕ). IsWrite caller t entries entries reply) same
    (unchanged caller prepared entries reply (read-not-accepted (plan_of prepared) _ e) replied)

-- A reading over all commits is answered over all commits.
pub answered_over_all : (begun reading : ReadingOf) (text : List ℕ) (entries : List Entry) (reply : Reply) →
    begun.text ≡ text → (reading.at ≡ length entries) × (reading.text ≡ begun.text) →
    reply ≡ reply_at reading.at (told_of reading.text (state_after (take reading.at (texts_of entries)))) →
    reply ≡ reply_at (length entries) (told_over entries text)
answered_over_all begun reading text entries reply text-is kept replied =
    let all : take (length entries) (texts_of entries) ≡ texts_of entries =
    take_all (length entries) (texts_of entries) (rw length-map (omega arith)) in
    cc
