-- Two legal runs of which the same is printed are one run.
use Rattle.std.proofs.Common.{◌≡◌, ℕ, suc, ◌+◌, ◌^◌, ◌<◌, ◌≤◌, Bool, true, false, eqb, List, [], ◌∷◌, length, map, take, Option, Some, refl, sym, ap, ◌∙◌, subst, ⊎_elim, arith}
use Rattle.std.specs.Prelude.{slice_get, option_map}
use Rattle.std.specs.List.{AllByRecursion, IsDistinct, list_any}
use Rattle.std.proofs.lemmas.Bool.{eqb-true, ne_eqb, or_cases}
use Rattle.std.proofs.lemmas.Map.Steps.{length-le_from_distinct_below}
use Rattle.std.proofs.lemmas.Option.{slice_get_within, slice_get-map, same_Some}
use Rattle.script_reader.specs.Laws.{AreToldApart, HaveSmallNumbers}
use Rattle.script_reader.specs.declared.line.Line.{Line}
use Rattle.exec_finish.specs.Lines.{IsLines}
use Rattle.commit_core.specs.Replies.{told_of, reply_at, state_after}
use Rattle.commit_core.specs.declared.reply.Reply.{Reply}
use Rattle.sinew_app.specs.Run.{Run, text_at, texts_at, told_by_line, IsLegal}
use Rattle.sinew_app.specs.Printing.{printing}
use Rattle.sinew_app.proofs.LawsOneRun.{same_run}
use Rattle.sinew_app.proofs.LawsShown.{Readable, answers_shown, commits_marked, commits_shown}

-- ---- lists by their positions

from_each : {A : Type 0} (P : A → Type 0) (xs : List A) → ((k : ℕ) (x : A) → slice_get xs k ≡ Some x → P x) → AllByRecursion P xs
from_each P [] each = tt
from_each P (x ∷ xs) each = (each 0 x refl, from_each P xs (λ k y e. each (suc k) y e))

same_by_positions : {A : Type 0} (xs ys : List A) → length xs ≡ length ys →
    ((k : ℕ) (x y : A) → slice_get xs k ≡ Some x → slice_get ys k ≡ Some y → x ≡ y) → xs ≡ ys
same_by_positions [] [] l each = refl
same_by_positions [] (y ∷ ys) l each = absurd (omega arith)
same_by_positions (x ∷ xs) [] l each = absurd (omega arith)
same_by_positions (x ∷ xs) (y ∷ ys) l each =
    let head = each 0 x y refl refl in
    let rest = same_by_positions xs ys (omega arith) (λ k a b e f. each (suc k) a b e f) in
    cc

-- ---- numbers that stand in a list once, all of them below a number

distinct : (xs : List ℕ) → ((i j k : ℕ) → slice_get xs i ≡ Some k → slice_get xs j ≡ Some k → i ≡ j) → IsDistinct eqb xs
unfolding IsDistinct
distinct [] once = tt
distinct (x ∷ xs) once = (
  from_each (λ y. eqb x y ≡ false) xs
      (λ k y e. ne_eqb x y (λ same. let both : 0 ≡ suc k = once 0 (suc k) y (ap (λ (z : ℕ). Some z) same) e in omega arith)),
  distinct xs (λ i j k e f. let both = once (suc i) (suc j) k e f in omega arith),
)

all_below : (n q : ℕ) (xs : List ℕ) → AllByRecursion (λ x. x < n) xs → list_any (eqb q) xs ≡ true → q < n
all_below n q [] below e = absurd (cc)
all_below n q (x ∷ xs) below e =
    ⊎_elim (λ here. omega (arith, below.0, eqb-true q x here)) (λ later. all_below n q xs below.1 later) (or_cases (eqb q x) (list_any (eqb q) xs) e)

-- ---- legal runs

module _ (lines : List Line) (run : Run) (legal : IsLegal lines run) where
  commit_within : (i k : ℕ) → slice_get run.order i ≡ Some k → k < length lines
  commit_within i k e =
      omega (arith, legal.answered, slice_get_within run.answers k _ (legal.committed i k e).0)

  commits_within : AllByRecursion (λ k. k < length lines) run.order
  commits_within = from_each (λ k. k < length lines) run.order commit_within

  commits_few : length run.order ≤ length lines
  commits_few = length-le_from_distinct_below run.order (length lines) (distinct run.order legal.once)
      (λ q e. all_below (length lines) q run.order commits_within e)

  -- The reply to the line that stands at a position of the order.
  commit_reply : (i k : ℕ) (reply : Reply) → slice_get run.order i ≡ Some k → slice_get run.answers k ≡ Some reply →
      (reply ≡ reply_at (i + 1) (told_by_line lines run.order i k)) × (reply.accepted ≡ true)
  commit_reply i k reply at e =
      let committed = legal.committed i k at in
      let same = same_Some _ _ (sym e ∙ committed.0) in
      (same, ap (λ (r : Reply). r.accepted) same ∙ committed.1)

  -- Each reply counts at most all commits, and has what a text is told over some commits.
  reply_told : (k : ℕ) (reply : Reply) → slice_get run.answers k ≡ Some reply →
      (n : ℕ) × (reply.at ≤ length run.order) × (reply.body ≡ (told_by_line lines run.order n k).body)
  reply_told k reply e = by reply.accepted refl where
    by : (accepted : Bool) → reply.accepted ≡ accepted → (n : ℕ) × (reply.at ≤ length run.order) × (reply.body ≡ (told_by_line lines run.order n k).body)
    by true sure =
        let stands = legal.stands k reply e sure in
        let same = (commit_reply stands.0 k reply stands.1 e).0 in
        let at-is : reply.at ≡ stands.0 + 1 = ap (λ (r : Reply). r.at) same in
        (stands.0, omega (arith, slice_get_within run.order stands.0 k stands.1), ap (λ (r : Reply). r.body) same)
    by false out =
        let other = legal.other k reply e out in
        (reply.at, other.0, ap (λ (r : Reply). r.body) other.1)

  replies_readable : length lines < 2 ^ 64 → ((text : List ℕ) (texts : List (List ℕ)) → IsLines (told_of text (state_after texts)).body) →
      AllByRecursion Readable run.answers
  replies_readable few are_lines = from_each (λ (reply : Reply). Readable reply) run.answers (λ k reply e.
      let told = reply_told k reply e in
      record {
        small = omega (arith, commits_few, told.1);
        lines = subst (λ (body : List ℕ). IsLines body) (sym told.2) (are_lines (text_at lines k) (texts_at lines (take told.0 run.order)));
      })

-- ---- both runs

module _ (lines : List Line) (a b : Run) (legal-a : IsLegal lines a) (legal-b : IsLegal lines b) (orders : a.order ≡ b.order) where
  -- An accepted reply of one run is that of the other.
  accepted_same : (k : ℕ) (ra rb : Reply) → slice_get a.answers k ≡ Some ra → slice_get b.answers k ≡ Some rb → ra.accepted ≡ true → ra ≡ rb
  accepted_same k ra rb ea eb sure =
      let stands = legal-a.stands k ra ea sure in
      let of-a = commit_reply lines a legal-a stands.0 k ra stands.1 ea in
      let of-b = commit_reply lines b legal-b stands.0 k rb (subst (λ (order : List ℕ). slice_get order stands.0 ≡ Some k) orders stands.1) eb in
      of-a.0 ∙ (ap (λ (order : List ℕ). reply_at (stands.0 + 1) (told_by_line lines order stands.0 k)) orders ∙ sym of-b.0)

  others_same : (k : ℕ) (ra rb : Reply) → slice_get a.answers k ≡ Some ra → slice_get b.answers k ≡ Some rb → ra.at ≡ rb.at →
      ra.accepted ≡ false → rb.accepted ≡ false → ra ≡ rb
  others_same k ra rb ea eb at-is out-a out-b =
      let of-a = legal-a.other k ra ea out-a in
      let of-b = legal-b.other k rb eb out-b in
      of-a.1 ∙ (ap (λ (order : List ℕ). reply_at ra.at (told_by_line lines order ra.at k)) orders
      ∙ (ap (λ (n : ℕ). reply_at n (told_by_line lines b.order n k)) at-is ∙ sym of-b.1))

module _ (lines : List Line) (a b : Run) (legal-a : IsLegal lines a) (legal-b : IsLegal lines b) where
  replies_same : a.order ≡ b.order → map (λ (reply : Reply). reply.at) a.answers ≡ map (λ (reply : Reply). reply.at) b.answers →
      (k : ℕ) (ra rb : Reply) → slice_get a.answers k ≡ Some ra → slice_get b.answers k ≡ Some rb → ra ≡ rb
  replies_same orders ats k ra rb ea eb = by ra.accepted refl rb.accepted refl where
    at-is : ra.at ≡ rb.at
    at-is =
        let at : Reply → ℕ = λ reply. reply.at in
        let at-a : slice_get (map at a.answers) k ≡ Some ra.at = slice_get-map at a.answers k ∙ ap (λ (o : Option Reply). option_map at o) ea in
        let at-b : slice_get (map at b.answers) k ≡ Some rb.at = slice_get-map at b.answers k ∙ ap (λ (o : Option Reply). option_map at o) eb in
        same_Some _ _ (sym at-a ∙ (ap (λ (ns : List ℕ). slice_get ns k) ats ∙ at-b))

    by : (accepted-a : Bool) → ra.accepted ≡ accepted-a → (accepted-b : Bool) → rb.accepted ≡ accepted-b → ra ≡ rb
    by true sure accepted-b eq-b = accepted_same lines a b legal-a legal-b orders k ra rb ea eb sure
    by false out true sure = sym (accepted_same lines b a legal-b legal-a (sym orders) k rb ra eb ea sure)
    by false out false out-b = others_same lines a b legal-a legal-b orders k ra rb ea eb at-is out out-b

-- A run shows in its printing.
pub shown : (lines : List Line) → AreToldApart lines → HaveSmallNumbers lines → length lines < 2 ^ 64 →
    ((text : List ℕ) (texts : List (List ℕ)) → IsLines (told_of text (state_after texts)).body) →
    (a b : Run) → IsLegal lines a → IsLegal lines b → printing lines a ≡ printing lines b → a ≡ b
shown lines told_apart small few are_lines a b legal-a legal-b e =
    let answers = answers_shown lines a.answers b.answers _ _ legal-a.answered legal-b.answered
    (replies_readable lines a legal-a few are_lines) (replies_readable lines b legal-b few are_lines)
    (commits_marked lines 1 a.order (length a.order)) (commits_marked lines 1 b.order (length b.order)) e in
    let orders = commits_shown lines told_apart small 1 a.order b.order (length a.order) (length b.order)
    (commits_within lines a legal-a) (commits_within lines b legal-b) answers.1 in
    same_run a b orders
    (same_by_positions a.answers b.answers (legal-a.answered ∙ sym legal-b.answered)
    (replies_same lines a b legal-a legal-b orders answers.0))
