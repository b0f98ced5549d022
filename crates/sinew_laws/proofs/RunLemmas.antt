-- What holds of each legal run of lines.
use Rattle.std.proofs.Common.{◌≡◌, ℕ, zero, suc, ◌+◌, ◌<◌, ◌≤◌, Bool, true, false, List, [], ◌∷◌, ◌++◌, length, take, Some, refl, sym, ap, ◌∙◌, ⊎_elim, arith}
use Rattle.std.specs.Prelude.{slice_get, option_to_list, if◌then◌else◌}
use Rattle.std.proofs.lemmas.Bool.{cases_eq, eq-eqb, eqb-true, false≢true}
use Rattle.std.proofs.lemmas.List.{length-take-le}
use Rattle.std.proofs.lemmas.Option.{slice_get_within, slice_get_read, same_Some}
use Rattle.script_reader.specs.Script.{IsScript, IsLastAbove}
use Rattle.script_reader.specs.declared.line.Line.{Line}
use Rattle.script_reader.proofs.Behind.{last_above}
use Rattle.commit_core.specs.Replies.{reply_at}
use Rattle.commit_core.specs.declared.reply.Reply.{Reply}
use Rattle.sinew_app.specs.Run.{Run, told_by_line, IsLegal}

-- A line's number is that of some commits of the run.
pub number_within : (lines : List Line) (run : Run) (k : ℕ) (reply : Reply) → IsLegal lines run → slice_get run.answers k ≡ Some reply → reply.at ≤ length run.order
number_within lines run k reply legal e = by reply.accepted refl where
  by : (accepted : Bool) → reply.accepted ≡ accepted → reply.at ≤ length run.order
  by true sure =
      let stands = legal.stands k reply e sure in
      let same : reply ≡ reply_at (stands.0 + 1) (told_by_line lines run.order stands.0 k) = same_Some _ _ (sym e ∙ (legal.committed stands.0 k stands.1).0) in
      let number-is : reply.at ≡ stands.0 + 1 = ap (λ (r : Reply). r.at) same in
      omega (arith, slice_get_within run.order stands.0 k stands.1)
  by false out = (legal.other k reply e out).0

-- A line that stands in the order has an accepted reply.
pub in_order : (lines : List Line) (run : Run) (k : ℕ) (reply : Reply) → IsLegal lines run → slice_get run.answers k ≡ Some reply → (i : ℕ) × (slice_get run.order i ≡ Some k) → reply.accepted ≡ true
in_order lines run k reply legal e s =
    let committed = legal.committed s.0 k s.1 in
    let same : reply ≡ reply_at (s.0 + 1) (told_by_line lines run.order s.0 k) = same_Some _ _ (sym e ∙ committed.0) in
    ap (λ (r : Reply). r.accepted) same ∙ committed.1

there : {A : Type 0} (xs : List A) (k : ℕ) → k < length xs → (x : A) × (slice_get xs k ≡ Some x)
there [] k l = absurd (omega arith)
there (x ∷ xs) zero l = (x, refl)
there (x ∷ xs) (suc k) l = there xs k (omega arith)

-- A line with others of its session above it follows the last of these.
follows_last : (lines : List Line) → IsScript lines → (j k : ℕ) (upper lower : Line) → j < k → slice_get lines j ≡ Some upper → slice_get lines k ≡ Some lower → upper.session ≡ lower.session →
    (last : ℕ) × IsLastAbove lines lower.session last k
follows_last lines rules j k upper lower above at_j at_k same = ⊎_elim
    (λ found. found)
    (λ none. absurd (none j (record { line = upper; stands = at_j; said_by = same; above = above })))
    (last_above lines lower.session k (omega (arith, slice_get_within lines k lower at_k)))

module _ (lines : List Line) (rules : IsScript lines) (run : Run) (legal : IsLegal lines run) where
  -- A line of a session has at least the number of the last line of that session above it.
  last_before : (last k : ℕ) (lower : Line) (before after : Reply) → IsLastAbove lines lower.session last k → slice_get lines k ≡ Some lower →
      slice_get run.answers last ≡ Some before → slice_get run.answers k ≡ Some after → before.at ≤ after.at
  last_before last k lower before after is at_k told told-after =
      let followed = (rules.following k lower at_k).last last is in
      legal.later last k followed.0 lower before after at_k (slice_get_read lower.follows (length lower.follows) followed.0 last refl followed.1 (sym followed.2)) told told-after

  -- Two lines of one session, the lower one among the first so many lines.
  in_session : (n j k : ℕ) (upper lower : Line) (before after : Reply) → k < n → j ≤ k → slice_get lines j ≡ Some upper → slice_get lines k ≡ Some lower → upper.session ≡ lower.session →
      slice_get run.answers j ≡ Some before → slice_get run.answers k ≡ Some after → before.at ≤ after.at
  in_session zero j k upper lower before after few order at_j at_k same told-before told-after = absurd (omega (arith, few))
  in_session (suc n) j k upper lower before after few order at_j at_k same told-before told-after =
      ⊎_elim
      (λ one.
      let alike : before ≡ after = same_Some before after (sym told-before ∙ (ap (λ (p : ℕ). slice_get run.answers p) one ∙ told-after)) in
      omega (arith, ap (λ (r : Reply). r.at) alike))
      (λ differ.
      let last = follows_last lines rules j k upper lower (omega (arith, order, differ)) at_j at_k same in
      let stands = last.1.stands in
      let between = there run.answers last.0 (omega (arith, legal.answered, slice_get_within lines last.0 stands.line stands.stands)) in
      let above : before.at ≤ between.0.at =
      in_session n j last.0 upper stands.line before between.0 (omega (arith, few, stands.above))
      (last.1.last j (record { line = upper; stands = at_j; said_by = same; above = omega (arith, order, differ) })) at_j stands.stands (same ∙ sym stands.said_by) told-before between.1 in
      omega (arith, above, last_before last.0 k lower between.0 after last.1 at_k between.1 told-after))
      (cases_eq j k)

  pub never_falls : (j k : ℕ) (upper lower : Line) (before after : Reply) → j ≤ k → slice_get lines j ≡ Some upper → slice_get lines k ≡ Some lower → upper.session ≡ lower.session →
      slice_get run.answers j ≡ Some before → slice_get run.answers k ≡ Some after → before.at ≤ after.at
  never_falls j k upper lower before after = in_session (suc k) j k upper lower before after (omega arith)

  -- Of two commits of one session the upper line is the earlier one.
  pub keeps_sessions : (i j above below : ℕ) (upper lower : Line) → above < below → slice_get lines above ≡ Some upper → slice_get lines below ≡ Some lower → upper.session ≡ lower.session →
      slice_get run.order i ≡ Some above → slice_get run.order j ≡ Some below → i < j
  keeps_sessions i j above below upper lower order at-above at-below same at-i at-j =
      let numbers : i + 1 ≤ j + 1 =
      never_falls above below upper lower (reply_at (i + 1) (told_by_line lines run.order i above)) (reply_at (j + 1) (told_by_line lines run.order j below))
      (omega (arith, order)) at-above at-below same (legal.committed i above at-i).0 (legal.committed j below at-j).0 in
      ⊎_elim
      (λ one.
      let alike : above ≡ below = same_Some above below (sym at-i ∙ (ap (λ (k : ℕ). slice_get run.order k) one ∙ at-j)) in
      absurd (omega (arith, order, alike)))
      (λ differ. omega (arith, numbers, differ))
      (cases_eq i j)
