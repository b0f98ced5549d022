-- Two serial runs of the same lines are one run: line by line, both give the same answer.
use Rattle.std.proofs.Common.{◌≡◌, ℕ, zero, suc, ◌+◌, ◌<◌, ◌≤◌, Bool, true, false, cond, List, [], ◌∷◌, ◌++◌, length, take, Some, refl, sym, ap, ◌∙◌, subst, add-one, arith}
use Rattle.std.specs.Prelude.{slice_get}
use Rattle.std.proofs.lemmas.List.{take_more, take_all}
use Rattle.std.proofs.lemmas.List.Sums.{sum_by_push, sum_by-take-le}
use Rattle.std.proofs.lemmas.Option.{slice_get_within, get_or_from_slice_get, same_Some}
use Rattle.script_reader.specs.declared.line.Line.{Line}
use Rattle.commit_core.specs.Replies.{Told, told_of, reply_at, state_after}
use Rattle.commit_core.specs.declared.reply.Reply.{Reply}
use Rattle.sinew_app.specs.Run.{Run, text_at, texts_at, told_by_line, accepted_in, IsSerial}

pub there : {A : Type 0} (xs : List A) (k : ℕ) → k < length xs → (x : A) × (slice_get xs k ≡ Some x)
there [] k l = absurd (omega arith)
there (x ∷ xs) zero l = (x, refl)
there (x ∷ xs) (suc k) l = there xs k (omega arith)

take_next : {A : Type 0} (xs : List A) (k : ℕ) (x : A) → slice_get xs k ≡ Some x → take (k + 1) xs ≡ take k xs ++ x ∷ []
take_next {A} xs k x e =
    take_more xs k x (slice_get_within xs k x e) ∙ ap (λ (y : A). take k xs ++ y ∷ []) (get_or_from_slice_get xs k x x e)

accepted_next : (answers : List Reply) (k : ℕ) (reply : Reply) → slice_get answers k ≡ Some reply →
    accepted_in (take (k + 1) answers) ≡ accepted_in (take k answers) + cond reply.accepted 1 0
accepted_next answers k reply e =
    ap (λ (front : List Reply). accepted_in front) (take_next answers k reply e) ∙ sum_by_push (λ (a : Reply). cond a.accepted 1 0) (take k answers) reply

-- Both parts of a run determine it.
pub same_run : (a b : Run) → a.order ≡ b.order → a.answers ≡ b.answers → a ≡ b
same_run a b orders answers =
    let make : List ℕ → List Reply → Run = λ order replies. record { order = order; answers = replies } in
    ap (λ (order : List ℕ). make order a.answers) orders ∙ ap (λ (replies : List Reply). make b.order replies) answers

-- The reply to the line at a position, where so many lines above it are commits: it is told over these, and it is the next commit if it is accepted.
record Answered (lines : List Line) (run : Run) (k number : ℕ) (reply : Reply) : Type 0 where
  replied : reply ≡ reply_at (number + cond (told_by_line lines run.order number k).accepted 1 0) (told_by_line lines run.order number k)
  joins : (told_by_line lines run.order number k).accepted ≡ true → slice_get run.order number ≡ Some k

answered : (lines : List Line) (run : Run) → IsSerial lines run → (k : ℕ) (reply : Reply) → slice_get run.answers k ≡ Some reply →
    Answered lines run k (accepted_in (take k run.answers)) reply
answered lines run serial k reply e = by reply.accepted refl where
  number : ℕ
  number = accepted_in (take k run.answers)

  counted : reply.at ≡ number + cond reply.accepted 1 0
  counted = serial.numbers k reply e ∙ accepted_next run.answers k reply e

  by : (accepted : Bool) → reply.accepted ≡ accepted → Answered lines run k number reply
  by true sure =
      let stands = serial.legal.stands k reply e sure in
      let committed = serial.legal.committed stands.0 k stands.1 in
      let same : reply ≡ reply_at (stands.0 + 1) (told_by_line lines run.order stands.0 k) = same_Some _ _ (sym e ∙ committed.0) in
      let at-is : reply.at ≡ stands.0 + 1 = ap (λ (r : Reply). r.at) same in
      let number-is : stands.0 ≡ number = omega (arith, rw sure at counted) in
      let facts = subst (λ (n : ℕ). (reply ≡ reply_at (n + 1) (told_by_line lines run.order n k)) × ((told_by_line lines run.order n k).accepted ≡ true) × (slice_get run.order n ≡ Some k))
      number-is (same, committed.1, stands.1) in
      record {
        replied = facts.0 ∙ ap (λ (accepted : Bool). reply_at (number + cond accepted 1 0) (told_by_line lines run.order number k)) (sym facts.1);
        joins = λ _. facts.2;
      }
  by false out =
      let other = serial.legal.other k reply e out in
      let number-is : reply.at ≡ number = omega (arith, rw out at counted) in
      let same : reply ≡ reply_at number (told_by_line lines run.order number k) =
      subst (λ (n : ℕ). reply ≡ reply_at n (told_by_line lines run.order n k)) number-is other.1 in
      let refused : (told_by_line lines run.order number k).accepted ≡ false = sym (ap (λ (r : Reply). r.accepted) same) ∙ out in
      let none : number ≡ number + cond (told_by_line lines run.order number k).accepted 1 0 = rw refused (omega arith) in
      record {
        replied = same ∙ ap (λ (n : ℕ). reply_at n (told_by_line lines run.order number k)) none;
        joins = λ sure. absurd (cc);
      }

-- A serial run has no more commits than accepted replies.
commits_accepted : (lines : List Line) (run : Run) → IsSerial lines run → length run.order ≤ accepted_in run.answers
commits_accepted lines run serial = up_to (length run.order) refl where
  below : (i : ℕ) → i < length run.order → i + 1 ≤ accepted_in run.answers
  below i l =
      let stands = there run.order i l in
      let committed = serial.legal.committed i stands.0 stands.1 in
      omega (arith, serial.numbers stands.0 _ committed.0, sum_by-take-le (λ (a : Reply). cond a.accepted 1 0) run.answers (stands.0 + 1))

  up_to : (n : ℕ) → length run.order ≡ n → n ≤ accepted_in run.answers
  up_to zero e = omega arith
  up_to (suc n) e = omega (arith, below n (omega arith))

module _ (lines : List Line) (a b : Run) (serial-a : IsSerial lines a) (serial-b : IsSerial lines b) where
  -- Both runs answer the lines above a position alike, and have the same commits among them.
  record Alike (k : ℕ) : Type 0 where
    answers : take k a.answers ≡ take k b.answers
    order : take (accepted_in (take k a.answers)) a.order ≡ take (accepted_in (take k a.answers)) b.order

  told_alike : (k : ℕ) → Alike k → told_by_line lines a.order (accepted_in (take k a.answers)) k ≡ told_by_line lines b.order (accepted_in (take k a.answers)) k
  told_alike k s = ap (λ (taken : List ℕ). told_of (text_at lines k) (state_after (texts_at lines taken))) s.order

  orders_alike : (k n : ℕ) (told-a told-b : Told) (accepted : Bool) → take n a.order ≡ take n b.order → told-a ≡ told-b → told-a.accepted ≡ accepted →
      (told-a.accepted ≡ true → slice_get a.order n ≡ Some k) → (told-b.accepted ≡ true → slice_get b.order n ≡ Some k) →
      take (n + cond accepted 1 0) a.order ≡ take (n + cond accepted 1 0) b.order
  orders_alike k n told-a told-b true same told sure joins-a joins-b =
      let sure-b : told-b.accepted ≡ true = sym (ap (λ (t : Told). t.accepted) told) ∙ sure in
      take_next a.order n k (joins-a sure) ∙ (ap (λ (front : List ℕ). front ++ k ∷ []) same ∙ sym (take_next b.order n k (joins-b sure-b)))
  orders_alike k n told-a told-b false same told out joins-a joins-b =
      let none : n + cond false 1 0 ≡ n = omega arith in
      subst (λ (m : ℕ). take m a.order ≡ take m b.order) (sym none) same

  alike_next : (k : ℕ) → k < length lines → Alike k → Alike (k + 1)
  alike_next k l s =
      let number = accepted_in (take k a.answers) in
      let in-a = there a.answers k (omega (arith, serial-a.legal.answered)) in
      let in-b = there b.answers k (omega (arith, serial-b.legal.answered)) in
      let of-a = answered lines a serial-a k in-a.0 in-a.1 in
      let of-b = subst (λ (n : ℕ). Answered lines b k n in-b.0) (sym (ap (λ (front : List Reply). accepted_in front) s.answers)) (answered lines b serial-b k in-b.0 in-b.1) in
      let told = told_alike k s in
      let same : in-a.0 ≡ in-b.0 = of-a.replied ∙ (ap (λ (t : Told). reply_at (number + cond t.accepted 1 0) t) told ∙ sym of-b.replied) in
      let accepted-is : in-a.0.accepted ≡ (told_by_line lines a.order number k).accepted = ap (λ (r : Reply). r.accepted) of-a.replied in
      let counted : number + cond (told_by_line lines a.order number k).accepted 1 0 ≡ accepted_in (take (k + 1) a.answers) =
      sym (accepted_next a.answers k in-a.0 in-a.1 ∙ ap (λ (t : Bool). number + cond t 1 0) accepted-is) in
      record {
        answers = take_next a.answers k in-a.0 in-a.1
            ∙ (ap (λ (front : List Reply). front ++ in-a.0 ∷ []) s.answers
            ∙ (ap (λ (reply : Reply). take k b.answers ++ reply ∷ []) same ∙ sym (take_next b.answers k in-b.0 in-b.1)));
        order = subst (λ (m : ℕ). take m a.order ≡ take m b.order) counted
            (orders_alike k number _ _ (told_by_line lines a.order number k).accepted s.order told refl of-a.joins of-b.joins);
      }

  alike : (k : ℕ) → k ≤ length lines → Alike k
  alike zero l = record { answers = refl; order = refl }
  alike (suc k) l = subst (λ (m : ℕ). Alike m) (add-one k) (alike_next k (omega arith) (alike k (omega arith)))

  pub one_run : a ≡ b
  one_run =
      let s = alike (length lines) (omega arith) in
      let all-a : take (length lines) a.answers ≡ a.answers = take_all (length lines) a.answers (omega (arith, serial-a.legal.answered)) in
      let all-b : take (length lines) b.answers ≡ b.answers = take_all (length lines) b.answers (omega (arith, serial-b.legal.answered)) in
      let answers : a.answers ≡ b.answers = sym all-a ∙ (s.answers ∙ all-b) in
      let counted : accepted_in (take (length lines) a.answers) ≡ accepted_in a.answers = ap (λ (front : List Reply). accepted_in front) all-a in
      let counts : accepted_in a.answers ≡ accepted_in b.answers = ap (λ (replies : List Reply). accepted_in replies) answers in
      let order : take (accepted_in a.answers) a.order ≡ take (accepted_in a.answers) b.order =
      subst (λ (n : ℕ). take n a.order ≡ take n b.order) counted s.order in
      let order-a : take (accepted_in a.answers) a.order ≡ a.order = take_all _ a.order (commits_accepted lines a serial-a) in
      let order-b : take (accepted_in a.answers) b.order ≡ b.order = take_all _ b.order (omega (arith, counts, commits_accepted lines b serial-b)) in
      same_run a b (sym order-a ∙ (order ∙ order-b)) answers
