-- What the parts of a printing show: the number of each answer, and the order of the commits.
use Rattle.std.proofs.Common.{◌≡◌, ℕ, ◌+◌, ◌^◌, ◌<◌, List, [], ◌∷◌, ◌++◌, length, map, Option, Some, None, refl, sym, ap, ◌∙◌, subst, append_assoc, arith}
use Rattle.std.specs.Prelude.{slice_get, codes, decimal}
use Rattle.std.specs.List.{AllByRecursion}
use Rattle.std.proofs.lemmas.Fmt.{decimal_injective}
use Rattle.std.proofs.lemmas.List.{append_cancel_left}
use Rattle.script_reader.specs.Laws.{AreToldApart, HaveSmallNumbers}
use Rattle.script_reader.specs.declared.line.Line.{Line}
use Rattle.exec_finish.specs.Lines.{IsLines}
use Rattle.exec_finish.specs.Answer.{line}
use Rattle.commit_core.specs.declared.reply.Reply.{Reply}
use Rattle.sinew_app.specs.Printing.{name_of, name_in, reply_text, replies_text, commits_text, count_text}
use Rattle.sinew_app.proofs.LawsCuts.{Free, cut, decimal_free, free_append, Marked, cut_bodies}
use Rattle.sinew_app.proofs.LawsOneRun.{there}

-- ---- answers

-- A reply whose number and lines can be read in a printing.
pub record Readable (reply : Reply) : Type 0 where
  pub small : reply.at < 2 ^ 64
  pub lines : IsLines reply.body

answer_flat : (l : Line) (reply : Reply) (more : List ℕ) →
    reply_text l reply ++ more ≡ 35 ∷ (name_of l ++ (32 ∷ 64 ∷ (decimal reply.at ++ 10 ∷ (reply.body ++ more))))
answer_flat l reply more = simp append_assoc

answers_flat : (l : Line) (ls : List Line) (reply : Reply) (replies : List Reply) (x : List ℕ) →
    replies_text (l ∷ ls) (reply ∷ replies) ++ x ≡ 35 ∷ (name_of l ++ (32 ∷ 64 ∷ (decimal reply.at ++ 10 ∷ (reply.body ++ (replies_text ls replies ++ x)))))
answers_flat l ls reply replies x =
    append_assoc (reply_text l reply) (replies_text ls replies) x ∙ answer_flat l reply (replies_text ls replies ++ x)

answers_marked : (ls : List Line) (replies : List Reply) (x : List ℕ) → Marked x → Marked (replies_text ls replies ++ x)
answers_marked [] replies x m = m
answers_marked (l ∷ ls) [] x m = m
answers_marked (l ∷ ls) (reply ∷ replies) x m = subst (λ (text : List ℕ). Marked text) (sym (answers_flat l ls reply replies x)) refl

-- The number of each answer shows, and so does what stands behind the answers.
pub answers_shown : (ls : List Line) (ps qs : List Reply) (x y : List ℕ) → length ps ≡ length ls → length qs ≡ length ls →
    AllByRecursion Readable ps → AllByRecursion Readable qs → Marked x → Marked y → replies_text ls ps ++ x ≡ replies_text ls qs ++ y →
    (map (λ (reply : Reply). reply.at) ps ≡ map (λ (reply : Reply). reply.at) qs) × (x ≡ y)
answers_shown [] [] [] x y ea eb ra rb p q e = (refl, e)
answers_shown [] [] (b ∷ qs) x y ea eb ra rb p q e = absurd (omega arith)
answers_shown [] (a ∷ ps) qs x y ea eb ra rb p q e = absurd (omega arith)
answers_shown (l ∷ ls) [] qs x y ea eb ra rb p q e = absurd (omega arith)
answers_shown (l ∷ ls) (a ∷ ps) [] x y ea eb ra rb p q e = absurd (omega arith)
answers_shown (l ∷ ls) (a ∷ ps) (b ∷ qs) x y ea eb ra rb p q e =
    let more-a = a.body ++ (replies_text ls ps ++ x) in
    let more-b = b.body ++ (replies_text ls qs ++ y) in
    let flat : 35 ∷ (name_of l ++ (32 ∷ 64 ∷ (decimal a.at ++ 10 ∷ more-a))) ≡ 35 ∷ (name_of l ++ (32 ∷ 64 ∷ (decimal b.at ++ 10 ∷ more-b))) =
    sym (answers_flat l ls a ps x) ∙ (e ∙ answers_flat l ls b qs y) in
    let named = append_cancel_left (name_of l) (32 ∷ 64 ∷ (decimal a.at ++ 10 ∷ more-a)) (32 ∷ 64 ∷ (decimal b.at ++ 10 ∷ more-b)) (cc) in
    let numbers = cut 10 (decimal a.at) (decimal b.at) more-a more-b (decimal_free 10 a.at (omega arith)) (decimal_free 10 b.at (omega arith)) (cc) in
    let at-is : a.at ≡ b.at = decimal_injective a.at b.at ra.0.small rb.0.small numbers.0 in
    let behind = cut_bodies a.body b.body _ _ ra.0.lines rb.0.lines (answers_marked ls ps x p) (answers_marked ls qs y q) numbers.1 in
    let rest = answers_shown ls ps qs x y (omega arith) (omega arith) ra.1 rb.1 p q behind in
    (cc, rest.1)

-- ---- commits

name_free : (l : Line) → Free 10 (name_of l)
name_free l = free_append 10 (decimal l.session) _ (decimal_free 10 l.session (omega arith)) (λ e. omega arith, decimal_free 10 l.place (omega arith))

name_in_free : (o : Option Line) → Free 10 (name_in o)
name_in_free None = tt
name_in_free (Some l) = name_free l

commit_flat : (number : ℕ) (name more : List ℕ) →
    line (codes "= " ++ (decimal number ++ (codes " " ++ name))) ++ more ≡ 61 ∷ 32 ∷ (decimal number ++ (32 ∷ (name ++ 10 ∷ more)))
commit_flat number name more = simp append_assoc

commits_flat : (lines : List Line) (number k : ℕ) (order : List ℕ) (x : List ℕ) →
    commits_text lines number (k ∷ order) ++ x ≡ 61 ∷ 32 ∷ (decimal number ++ (32 ∷ (name_in (slice_get lines k) ++ 10 ∷ (commits_text lines (number + 1) order ++ x))))
commits_flat lines number k order x =
    let name = name_in (slice_get lines k) in
    let rest = commits_text lines (number + 1) order in
    append_assoc (line (codes "= " ++ (decimal number ++ (codes " " ++ name)))) rest x ∙ commit_flat number name (rest ++ x)

pub commits_marked : (lines : List Line) (number : ℕ) (order : List ℕ) (n : ℕ) → Marked (commits_text lines number order ++ count_text n)
commits_marked lines number [] n = refl
commits_marked lines number (k ∷ order) n = subst (λ (text : List ℕ). Marked text) (sym (commits_flat lines number k order (count_text n))) refl

module _ (lines : List Line) (told_apart : AreToldApart lines) (small : HaveSmallNumbers lines) where
  named : (k j : ℕ) → k < length lines → j < length lines → name_in (slice_get lines k) ≡ name_in (slice_get lines j) → k ≡ j
  named k j lk lj e =
      let a = there lines k lk in
      let b = there lines j lj in
      let names : name_of a.0 ≡ name_of b.0 = ap (λ (o : Option Line). name_in o) (sym a.1) ∙ (e ∙ ap (λ (o : Option Line). name_in o) b.1) in
      let parts = cut 46 (decimal a.0.session) (decimal b.0.session) (decimal a.0.place) (decimal b.0.place)
      (decimal_free 46 a.0.session (omega arith)) (decimal_free 46 b.0.session (omega arith)) names in
      let small-a = small k a.0 a.1 in
      let small-b = small j b.0 b.1 in
      told_apart k j a.0 b.0 a.1 b.1
      (decimal_injective a.0.session b.0.session (omega arith) (omega arith) parts.0)
      (decimal_injective a.0.place b.0.place (omega arith) (omega arith) parts.1)

  -- The order of the commits shows.
  pub commits_shown : (number : ℕ) (ks js : List ℕ) (n m : ℕ) → AllByRecursion (λ k. k < length lines) ks → AllByRecursion (λ j. j < length lines) js →
      commits_text lines number ks ++ count_text n ≡ commits_text lines number js ++ count_text m → ks ≡ js
  commits_shown number [] [] n m wk wj e = refl
  commits_shown number [] (j ∷ js) n m wk wj e =
      let flat = e ∙ commits_flat lines number j js (count_text m) in
      let marks : ◌≡◌ {A = ℕ} 46 61 = cc in
      absurd (omega arith)
  commits_shown number (k ∷ ks) [] n m wk wj e =
      let flat = sym (commits_flat lines number k ks (count_text n)) ∙ e in
      let marks : ◌≡◌ {A = ℕ} 61 46 = cc in
      absurd (omega arith)
  commits_shown number (k ∷ ks) (j ∷ js) n m wk wj e =
      let more-k = commits_text lines (number + 1) ks ++ count_text n in
      let more-j = commits_text lines (number + 1) js ++ count_text m in
      let name-k = name_in (slice_get lines k) in
      let name-j = name_in (slice_get lines j) in
      let flat : 61 ∷ 32 ∷ (decimal number ++ (32 ∷ (name-k ++ 10 ∷ more-k))) ≡ 61 ∷ 32 ∷ (decimal number ++ (32 ∷ (name-j ++ 10 ∷ more-j))) =
      sym (commits_flat lines number k ks (count_text n)) ∙ (e ∙ commits_flat lines number j js (count_text m)) in
      let numbered = append_cancel_left (decimal number) (32 ∷ (name-k ++ 10 ∷ more-k)) (32 ∷ (name-j ++ 10 ∷ more-j)) (cc) in
      let names = cut 10 name-k name-j more-k more-j (name_in_free (slice_get lines k)) (name_in_free (slice_get lines j)) (cc) in
      let same = named k j wk.0 wj.0 names.0 in
      let rest = commits_shown (number + 1) ks js n m wk.1 wj.1 names.1 in
      cc
