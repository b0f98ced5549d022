-- An expression to which a term resolves means what the term means.
use Rattle.std.proofs.Common.{◌≡◌, ℕ, neg_ℤ, Bool, true, false, List, [], ◌∷◌, map, Option, Some, None, option_map, option_and_then, slice_get, refl, sym, ap, subst, ◌∙◌}
use Rattle.std.proofs.lemmas.Option.{slice_get-map}
use Rattle.doc_values.specs.declared.kind.Kind.{Kind}
use Rattle.doc_values.specs.declared.kind.Kind.TheVariants as kind
use Rattle.doc_values.specs.declared.compare_op.CompareOp.{CompareOp}
use Rattle.doc_values.specs.declared.compare_op.CompareOp.TheVariants as compare_op
use Rattle.doc_values.specs.declared.col_ref.ColRef.{ColRef}
use Rattle.doc_values.specs.declared.value.Value.{Value}
use Rattle.doc_values.specs.Doc.{Fields}
use Rattle.sql_tree.specs.declared.reference.Ref.{Ref}
use Rattle.sql_tree.specs.declared.addend.Addend.{Addend as TermAddend}
use Rattle.sql_tree.specs.declared.term.Term.{Term}
use Rattle.sql_tree.specs.declared.term.Term.TheVariants as term
use Rattle.sql_eval.specs.declared.slot.Slot.{Slot}
use Rattle.sql_eval.specs.declared.addend.Addend.{Addend}
use Rattle.sql_eval.specs.declared.expr.Expr.{Expr}
use Rattle.sql_eval.specs.declared.truth_value.Truth.{Truth}
use Rattle.sql_eval.specs.declared.truth_value.Truth.TheVariants.{True, False, Unknown}
use Rattle.sql_eval.specs.Truth as truths
use Rattle.sql_eval.specs.Operators as operators
use Rattle.sql_eval.specs.Kinds.{own_kind, wanted_beside}
use Rattle.row_columns.specs.Sides.{side_at}
use Rattle.sql_eval.specs.Meaning.{Part, part_of, given, read, truth_in, number_in, comparison_of}
use Rattle.row_columns.specs.Contents.{Cells}
use Rattle.sql_eval.specs.Resolved.{value_over, added_over, cell_at}
use Rattle.sql_eval.specs.Resolves.{IsReadAt, beside, among_written, between_written, Resolves, AllResolve, AddendsResolve, number, text, truth, null, column, wanted, disjunction, conjunction, negation, comparison, nullness, among, among_out, between, between_out, likeness, sum, product, minus, no_terms, more_terms, no_addends, more_addends, IsRowOf, HoldsReferences}
use Rattle.sql_eval.proofs.Expressions.{added_over-is}
use Rattle.sql_eval.proofs.TermEquations as terms
use Rattle.sql_eval.proofs.ValueEquations as exprs

pub truth_of_value : (t : Truth) → truths.truth_of (truths.value_of t) ≡ t
truth_of_value True = refl
truth_of_value False = refl
truth_of_value Unknown = refl

both_true : (t : Truth) → truths.both t True ≡ t
both_true True = refl
both_true False = refl
both_true Unknown = refl

-- A cell holds what its document gives.
cell_given : (columns : List ColRef) (name : List ℕ) (want : Option Kind) (j : ℕ) (side : Option Fields) (row : Option Cells) → slice_get columns j ≡ Some (record { name = name; want = want }) → IsRowOf columns side row
    → option_and_then (given name want) side ≡ option_and_then (λ r. option_and_then (λ cell. cell) (slice_get r.cells j)) row
cell_given columns name want j None None at holds = refl
cell_given columns name want j None (Some row) at holds = elim holds [ ]
cell_given columns name want j (Some doc) None at holds = elim holds [ ]
cell_given columns name want j (Some doc) (Some row) at holds =
    let gives : ColRef → Option Value = λ c. given c.name c.want doc in
    let cells : slice_get row.cells j ≡ Some (given name want doc) = ap (λ cs. slice_get cs j) holds ∙ slice_get-map gives columns j ∙ ap (option_map gives) at in
    sym (ap (option_and_then (λ cell. cell)) cells)

module _ (scope : List (List ℕ)) (refs : List (List ColRef)) (sides : List (Option Fields)) (tuple : List (Option Cells)) (holds : HoldsReferences refs sides tuple) where
  abbrev part : Term → Part
  part = part_of scope sides

  abbrev value : Expr → Option Value
  value = value_over tuple

  read_same : (r : Ref) (want : Option Kind) (s : Slot) → IsReadAt scope refs want r s → read scope sides r want ≡ cell_at tuple s
  read_same r want s at =
      ap (λ place. option_and_then (given r.name want) (option_and_then (side_at sides) place)) at.table
      ∙ cell_given at.columns r.name want s.column (side_at sides s.table) (side_at tuple s.table) at.column (holds s.table at.columns at.listed)

  -- A term and its expression: the kind by itself, and the meaning where a kind is wanted.
  record IsSame (want : Option Kind) (t : Term) (e : Expr) : Type 0 where
    own : (part t).own ≡ own_kind t
    means : (part t).means want ≡ value e

  abbrev AreSame : (Term → Option Kind) → List Term → List Expr → Type 0
  AreSame want [] [] = Unit {0}
  AreSame want [] (e ∷ es) = ⊥
  AreSame want (t ∷ ts) [] = ⊥
  AreSame want (t ∷ ts) (e ∷ es) = IsSame (want t) t e × AreSame want ts es

  truths_same : (ts : List Term) (es : List Expr) → AreSame (λ _. Some kind.Bool) ts es → map truth_in (map part ts) ≡ map truths.truth_of (map value es)
  truths_same [] [] same = refl
  truths_same [] (e ∷ es) same = elim same [ ]
  truths_same (t ∷ ts) [] same = elim same [ ]
  truths_same (t ∷ ts) (e ∷ es) same = λ i. truths.truth_of (same.0.means i) ∷ truths_same ts es same.1 i

  numbers_same : (ts : List Term) (es : List Expr) → AreSame (λ _. Some kind.Int) ts es → map number_in (map part ts) ≡ map operators.number_of (map value es)
  numbers_same [] [] same = refl
  numbers_same [] (e ∷ es) same = elim same [ ]
  numbers_same (t ∷ ts) [] same = elim same [ ]
  numbers_same (t ∷ ts) (e ∷ es) same = λ i. operators.number_of (same.0.means i) ∷ numbers_same ts es same.1 i

  -- A comparison of two terms, each with what is wanted of it beside the other.
  compared_same : (op : CompareOp) (t u : Term) (e f : Expr) → IsSame (beside (own_kind u) t) t e → IsSame (beside (own_kind t) u) u f → comparison_of op (part t) (part u) ≡ operators.comparison op (value e) (value f)
  compared_same op t u e f left right =
      let a : (part t).means (wanted_beside (part t).own (part u).own) ≡ value e = ap (λ k. (part t).means (wanted_beside k (part u).own)) left.own ∙ ap (λ k. (part t).means (wanted_beside (own_kind t) k)) right.own ∙ left.means in
      let b : (part u).means (wanted_beside (part u).own (part t).own) ≡ value f = ap (λ k. (part u).means (wanted_beside k (part t).own)) right.own ∙ ap (λ k. (part u).means (wanted_beside (own_kind u) k)) left.own ∙ right.means in
      λ i. operators.comparison op (a i) (b i)

  -- A comparison of a term that has a kind by itself, with a term that is wanted to be of it.
  owned_same : (op : CompareOp) (k : Kind) (t u : Term) (e f : Expr) → own_kind t ≡ Some k → IsSame None t e → IsSame (beside (Some k) u) u f → comparison_of op (part t) (part u) ≡ operators.comparison op (value e) (value f)
  owned_same op k t u e f is left right =
      compared_same op t u e f (subst (λ o. IsSame (wanted_beside o (own_kind u)) t e) (sym is) left) (subst (λ o. IsSame (wanted_beside (own_kind u) o) u f) (sym is) right)

  among_same : (k : Kind) (t : Term) (e : Expr) → own_kind t ≡ Some k → IsSame None t e → (ts : List Term) (es : List Expr) → AreSame (beside (Some k)) ts es
      → map (comparison_of compare_op.Eq (part t)) (map part ts) ≡ map (operators.comparison compare_op.Eq (value e)) (map value es)
  among_same k t e is arg [] [] same = refl
  among_same k t e is arg [] (f ∷ es) same = elim same [ ]
  among_same k t e is arg (u ∷ ts) [] same = elim same [ ]
  among_same k t e is arg (u ∷ ts) (f ∷ es) same = λ i. owned_same compare_op.Eq k t u e f is arg same.0 i ∷ among_same k t e is arg ts es same.1 i

  compare_truth : (op : CompareOp) (t u : Term) → truth_in (part (term.Compare op t u)) ≡ comparison_of op (part t) (part u)
  compare_truth op t u = ap truth_in (terms.part-Compare scope sides op t u) ∙ truth_of_value (comparison_of op (part t) (part u))

  compares_truths : (t : Term) (ts : List Term) → map truth_in (map part (map (term.Compare compare_op.Eq t) ts)) ≡ map (comparison_of compare_op.Eq (part t)) (map part ts)
  compares_truths t [] = refl
  compares_truths t (u ∷ ts) = λ i. compare_truth compare_op.Eq t u i ∷ compares_truths t ts i

  among_out_truth : (t : Term) (ts : List Term) → truth_in (part (term.Or (map (term.Compare compare_op.Eq t) ts))) ≡ truths.any_of (map (comparison_of compare_op.Eq (part t)) (map part ts))
  among_out_truth t ts =
      ap truth_in (terms.part-Or scope sides (map (term.Compare compare_op.Eq t) ts)) ∙ truth_of_value (truths.any_of (map truth_in (map part (map (term.Compare compare_op.Eq t) ts)))) ∙ ap truths.any_of (compares_truths t ts)

  between_out_truth : (t low high : Term) → truth_in (part (term.And (term.Compare compare_op.Ge t low ∷ term.Compare compare_op.Le t high ∷ []))) ≡ truths.both (comparison_of compare_op.Ge (part t) (part low)) (comparison_of compare_op.Le (part t) (part high))
  between_out_truth t low high =
      let a = truth_in (part (term.Compare compare_op.Ge t low)) in
      let b = truth_in (part (term.Compare compare_op.Le t high)) in
      ap truth_in (terms.part-And scope sides (term.Compare compare_op.Ge t low ∷ term.Compare compare_op.Le t high ∷ [])) ∙ truth_of_value (truths.both a (truths.both b True)) ∙ ap (truths.both a) (both_true b)
      ∙ (λ i. truths.both (compare_truth compare_op.Ge t low i) (compare_truth compare_op.Le t high i))

  -- What is written out means what the form means.
  among_out_means : (w : Option Kind) (t : Term) (ts : List Term) (negated : Bool) → (part (term.Among t ts negated)).means w ≡ (part (among_written t ts negated)).means w
  among_out_means w t ts true =
      ap (λ p. p.means w) (terms.part-Among scope sides t ts true) ∙ ap (λ x. truths.value_of (truths.denied x)) (sym (among_out_truth t ts)) ∙ sym (ap (λ p. p.means w) (terms.part-Not scope sides (term.Or (map (term.Compare compare_op.Eq t) ts))))
  among_out_means w t ts false =
      ap (λ p. p.means w) (terms.part-Among scope sides t ts false) ∙ ap (λ x. truths.value_of (truths.any_of x)) (sym (compares_truths t ts)) ∙ sym (ap (λ p. p.means w) (terms.part-Or scope sides (map (term.Compare compare_op.Eq t) ts)))

  between_out_means : (w : Option Kind) (t low high : Term) (negated : Bool) → (part (term.Between t low high negated)).means w ≡ (part (between_written t low high negated)).means w
  between_out_means w t low high true =
      let both_ends = term.Compare compare_op.Ge t low ∷ term.Compare compare_op.Le t high ∷ [] in
      ap (λ p. p.means w) (terms.part-Between scope sides t low high true) ∙ ap (λ x. truths.value_of (truths.denied x)) (sym (between_out_truth t low high)) ∙ sym (ap (λ p. p.means w) (terms.part-Not scope sides (term.And both_ends)))
  between_out_means w t low high false =
      let both_ends = term.Compare compare_op.Ge t low ∷ term.Compare compare_op.Le t high ∷ [] in
      let a = truth_in (part (term.Compare compare_op.Ge t low)) in
      let b = truth_in (part (term.Compare compare_op.Le t high)) in
      let ends : truths.both a (truths.both b True) ≡ truths.both (comparison_of compare_op.Ge (part t) (part low)) (comparison_of compare_op.Le (part t) (part high)) =
      ap (truths.both a) (both_true b) ∙ (λ i. truths.both (compare_truth compare_op.Ge t low i) (compare_truth compare_op.Le t high i)) in
      ap (λ p. p.means w) (terms.part-Between scope sides t low high false) ∙ ap truths.value_of (sym ends) ∙ sym (ap (λ p. p.means w) (terms.part-And scope sides both_ends))

  mutual
    same : {w : Option Kind} {t : Term} {e : Expr} → Resolves scope refs w t e → IsSame w t e
    same {w} (number {n = n}) = record { own = ap (λ p. p.own) (terms.part-Number scope sides n) ∙ sym (terms.own_kind-Number n); means = ap (λ p. p.means w) (terms.part-Number scope sides n) ∙ sym (exprs.value-Number tuple n) }
    same {w} (text {s = s}) = record { own = ap (λ p. p.own) (terms.part-Text scope sides s) ∙ sym (terms.own_kind-Text s); means = ap (λ p. p.means w) (terms.part-Text scope sides s) ∙ sym (exprs.value-Text tuple s) }
    same {w} (truth {b = b}) = record { own = ap (λ p. p.own) (terms.part-Bool scope sides b) ∙ sym (terms.own_kind-Bool b); means = ap (λ p. p.means w) (terms.part-Bool scope sides b) ∙ sym (exprs.value-Bool tuple b) }
    same {w} null = record { own = ap (λ p. p.own) (terms.part-Null scope sides) ∙ sym terms.own_kind-Null; means = ap (λ p. p.means w) (terms.part-Null scope sides) ∙ sym (exprs.value-Null tuple) }
    same {w} (column {r = r} {s = s} at) = record { own = ap (λ p. p.own) (terms.part-Column scope sides r) ∙ sym (terms.own_kind-Column r); means = ap (λ p. p.means w) (terms.part-Column scope sides r) ∙ read_same r w s at ∙ sym (exprs.value-Column tuple s) }
    same {w} (wanted {k = k} {r = r} {s = s} at) = record { own = ap (λ p. p.own) (terms.part-Wanted scope sides k r) ∙ sym (terms.own_kind-Wanted k r); means = ap (λ p. p.means w) (terms.part-Wanted scope sides k r) ∙ read_same r (Some k) s at ∙ sym (exprs.value-Wanted tuple k s) }
    same {w} (disjunction {ts = ts} {es = es} all) = record { own = ap (λ p. p.own) (terms.part-Or scope sides ts) ∙ sym (terms.own_kind-Or ts); means = ap (λ p. p.means w) (terms.part-Or scope sides ts) ∙ ap (λ x. truths.value_of (truths.any_of x)) (truths_same ts es (all_same all)) ∙ sym (exprs.value-Or tuple es) }
    same {w} (conjunction {ts = ts} {es = es} all) = record { own = ap (λ p. p.own) (terms.part-And scope sides ts) ∙ sym (terms.own_kind-And ts); means = ap (λ p. p.means w) (terms.part-And scope sides ts) ∙ ap (λ x. truths.value_of (truths.all_of x)) (truths_same ts es (all_same all)) ∙ sym (exprs.value-And tuple es) }
    same {w} (negation {t = t} {e = e} r) = record { own = ap (λ p. p.own) (terms.part-Not scope sides t) ∙ sym (terms.own_kind-Not t); means = ap (λ p. p.means w) (terms.part-Not scope sides t) ∙ ap (λ v. truths.value_of (truths.denied (truths.truth_of v))) (same r).means ∙ sym (exprs.value-Not tuple e) }
    same {w} (comparison {op = op} {t = t} {u = u} {e = e} {f = f} r q) = record { own = ap (λ p. p.own) (terms.part-Compare scope sides op t u) ∙ sym (terms.own_kind-Compare op t u); means = ap (λ p. p.means w) (terms.part-Compare scope sides op t u) ∙ ap truths.value_of (compared_same op t u e f (same r) (same q)) ∙ sym (exprs.value-Compare tuple op e f) }
    same {w} (nullness {t = t} {e = e} {negated = negated} r) = record { own = ap (λ p. p.own) (terms.part-IsNull scope sides t negated) ∙ sym (terms.own_kind-IsNull t negated); means = ap (λ p. p.means w) (terms.part-IsNull scope sides t negated) ∙ ap (operators.nullness negated) (same r).means ∙ sym (exprs.value-IsNull tuple e negated) }
    same {w} (among {k = k} {t = t} {ts = ts} {e = e} {es = es} {negated = negated} is r all) = record { own = ap (λ p. p.own) (terms.part-Among scope sides t ts negated) ∙ sym (terms.own_kind-Among t ts negated); means = ap (λ p. p.means w) (terms.part-Among scope sides t ts negated) ∙ ap (λ x. truths.value_of (truths.unless negated (truths.any_of x))) (among_same k t e is (same r) ts es (all_same all)) ∙ sym (exprs.value-Among tuple e es negated) }
    same {w} (among_out t ts negated is r) = record { own = ap (λ p. p.own) (terms.part-Among scope sides t ts negated) ∙ sym (terms.own_kind-Among t ts negated); means = among_out_means w t ts negated ∙ (same r).means }
    same {w} (between {k = k} {t = t} {low = low} {high = high} {e = e} {f = f} {g = g} {negated = negated} is r q s) =
        let arg = same r in
        let above = owned_same compare_op.Ge k t low e f is arg (same q) in
        let below = owned_same compare_op.Le k t high e g is arg (same s) in
        record { own = ap (λ p. p.own) (terms.part-Between scope sides t low high negated) ∙ sym (terms.own_kind-Between t low high negated); means = ap (λ p. p.means w) (terms.part-Between scope sides t low high negated) ∙ (λ i. truths.value_of (truths.unless negated (truths.both (above i) (below i)))) ∙ sym (exprs.value-Between tuple e f g negated) }
    same {w} (between_out t low high negated is r) = record { own = ap (λ p. p.own) (terms.part-Between scope sides t low high negated) ∙ sym (terms.own_kind-Between t low high negated); means = between_out_means w t low high negated ∙ (same r).means }
    same {w} (likeness {t = t} {e = e} {s = s} {negated = negated} r) = record { own = ap (λ p. p.own) (terms.part-Like scope sides t s negated) ∙ sym (terms.own_kind-Like t s negated); means = ap (λ p. p.means w) (terms.part-Like scope sides t s negated) ∙ ap (λ v. truths.value_of (truths.unless negated (operators.likeness v s))) (same r).means ∙ sym (exprs.value-Like tuple e s negated) }
    same {w} (sum {ts = ts} {es = es} all) = record { own = ap (λ p. p.own) (terms.part-Sum scope sides ts) ∙ sym (terms.own_kind-Sum ts); means = ap (λ p. p.means w) (terms.part-Sum scope sides ts) ∙ ap (λ x. operators.value_of_number (operators.sum_of x)) (addends_same all) ∙ sym (exprs.value-Sum tuple es) }
    same {w} (product {ts = ts} {es = es} all) = record { own = ap (λ p. p.own) (terms.part-Product scope sides ts) ∙ sym (terms.own_kind-Product ts); means = ap (λ p. p.means w) (terms.part-Product scope sides ts) ∙ ap (λ x. operators.value_of_number (operators.product_of x)) (numbers_same ts es (all_same all)) ∙ sym (exprs.value-Product tuple es) }
    same {w} (minus {t = t} {e = e} r) = record { own = ap (λ p. p.own) (terms.part-Minus scope sides t) ∙ sym (terms.own_kind-Minus t); means = ap (λ p. p.means w) (terms.part-Minus scope sides t) ∙ ap (λ v. operators.value_of_number (option_map neg_ℤ (operators.number_of v))) (same r).means ∙ sym (exprs.value-Minus tuple e) }

    all_same : {want : Term → Option Kind} {ts : List Term} {es : List Expr} → AllResolve scope refs want ts es → AreSame want ts es
    all_same no_terms = tt
    all_same (more_terms r all) = (same r, all_same all)

    addends_same : {ts : List TermAddend} {es : List Addend} → AddendsResolve scope refs ts es → map (terms.addend scope sides) ts ≡ map (added_over tuple) es
    addends_same no_addends = refl
    addends_same (more_addends {taken = taken} {t = t} {e = e} r all) =
        let one : terms.addend scope sides (record { minus = taken; term = t }) ≡ added_over tuple (record { minus = taken; expr = e }) =
        terms.addend-is scope sides (record { minus = taken; term = t }) ∙ ap (λ v. operators.signed taken (operators.number_of v)) (same r).means ∙ sym (added_over-is tuple (record { minus = taken; expr = e })) in
        λ i. one i ∷ addends_same all i

  -- The law.
  pub means_same : {w : Option Kind} {t : Term} {e : Expr} → Resolves scope refs w t e → (part t).means w ≡ value e
  means_same r = (same r).means
