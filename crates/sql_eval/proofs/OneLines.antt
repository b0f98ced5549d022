-- What a term means stays on its line where the arrays of the documents do.
use Rattle.std.proofs.Common.{◌≡◌, ℕ, ℤ, ◌==◌, zero, suc, List, [], ◌∷◌, map, neg_ℤ, Option, Some, None, option_map, option_and_then, sym, subst}
use Rattle.std.specs.Prelude.{IfSome, All}
use Rattle.std.specs.List.{AllByRecursion as EachIs}
use Rattle.std.specs.BTreeMap.{is_at}
use Rattle.std.specs.Ordering.{nat_cmp}
use Rattle.std.specs.Cmp.Lexicographic.{slice_cmp}
use Rattle.std.proofs.lemmas.Bool.{cond_both}
use Rattle.std.proofs.lemmas.List.Elements.{recursion_from_All}
use Rattle.doc_values.specs.declared.kind.Kind.{Kind}
use Rattle.doc_values.specs.declared.value.Value.{Value}
use Rattle.doc_values.specs.Value.{kind_of, HasOneLineArray}
use Rattle.doc_values.specs.Doc.{Fields, value_at}
use Rattle.doc_values.specs.Order.{rank}
use Rattle.sql_tree.specs.declared.reference.Ref.{Ref}
use Rattle.sql_tree.specs.declared.term.Term.{Term}
use Rattle.sql_tree.specs.declared.term.Term.TheOpen.{Term-F, Addend-F}
use Rattle.sql_tree.specs.declared.term.Term.TheFolds.{fold-Term, fold_out-Term}
use Rattle.sql_eval.specs.declared.truth_value.Truth.{Truth}
use Rattle.sql_eval.specs.declared.truth_value.Truth.TheVariants.{True, False, Unknown}
use Rattle.sql_eval.specs.Truth.{value_of, denied, any_of, all_of}
use Rattle.sql_eval.specs.Operators.{value_of_number, sum_of, product_of}
use Rattle.row_columns.specs.Sides.{side_at}
use Rattle.sql_eval.specs.Meaning.{Part, if_wanted, given, table_of, read, truth_in, number_in, comparison_of, means_step, part_step, addend_step, meaning}
use Rattle.sql_eval.specs.OneLine.{HaveOneLineArrays}

-- a document whose arrays stand on one line
abbrev IsPlain : Fields → Type 0
IsPlain = All (λ field. HasOneLineArray field.1)

-- NULL, or a value on one line
abbrev StaysOnLine : Option Value → Type 0
StaysOnLine v = IfSome v HasOneLineArray

truth_stays : (t : Truth) → StaysOnLine (value_of t)
truth_stays True = tt
truth_stays False = tt
truth_stays Unknown = tt

number_stays : (n : Option ℤ) → StaysOnLine (value_of_number n)
number_stays None = tt
number_stays (Some n) = tt

then_holds : {A B : Type 0} (P : A → Type 0) (Q : B → Type 0) (f : A → Option B) → ((x : A) → P x → IfSome (f x) Q) → (o : Option A) → IfSome o P → IfSome (option_and_then f o) Q
then_holds P Q f each None h = tt
then_holds P Q f each (Some x) h = each x h

value_stays : (name : List ℕ) (fields : Fields) → EachIs (λ field. HasOneLineArray field.1) fields → StaysOnLine (value_at name fields)
value_stays name [] h = tt
value_stays name (f ∷ fs) h = cond_both (is_at (slice_cmp nat_cmp name) f.0) (Some f.1) (value_at name fs) StaysOnLine (λ e. h.0) (λ e. value_stays name fs h.1)

wanted_stays : (want : Option Kind) (v : Value) → HasOneLineArray v → StaysOnLine (if_wanted want v)
wanted_stays None v h = h
wanted_stays (Some k) v h = cond_both (rank k == rank (kind_of v)) (Some v) None StaysOnLine (λ e. h) (λ e. tt)

given_stays : (name : List ℕ) (want : Option Kind) (fields : Fields) → IsPlain fields → StaysOnLine (given name want fields)
given_stays name want fields h =
    then_holds HasOneLineArray HasOneLineArray (if_wanted want) (wanted_stays want) (value_at name fields) (value_stays name fields (recursion_from_All (λ field. HasOneLineArray field.1) fields h))

side_stays : (sides : List (Option Fields)) (place : ℕ) → EachIs (λ side. IfSome side IsPlain) sides → IfSome (side_at sides place) IsPlain
side_stays [] place h = tt
side_stays (side ∷ sides) zero h = h.0
side_stays (side ∷ sides) (suc place) h = side_stays sides place h.1

nothing_said : (o : Option ℕ) → IfSome o (λ n. Unit {0})
nothing_said None = tt
nothing_said (Some n) = tt

-- What each level gives stays on its line, so what the term gives does.
level_given : (step : Term-F Part (Option ℤ) → Part) → ((level : Term-F Part (Option ℤ)) (want : Option Kind) → StaysOnLine ((step level).means want)) → (p : Part) (level : Term-F Part (Option ℤ)) → p ≡ step level → (want : Option Kind) → StaysOnLine (p.means want)
level_given step each p level e want = subst (λ (q : Part). StaysOnLine (q.means want)) (sym e) (each level want)

fold_stays : (step : Term-F Part (Option ℤ) → Part) (add : Addend-F Part (Option ℤ) → Option ℤ) → ((level : Term-F Part (Option ℤ)) (want : Option Kind) → StaysOnLine ((step level).means want)) → (t : Term) (want : Option Kind) → StaysOnLine ((fold-Term Part (Option ℤ) step add t).means want)
fold_stays step add each t want = level_given step each (fold-Term Part (Option ℤ) step add t) _ (fold_out-Term Part (Option ℤ) step add t) want

module _ (scope : List (List ℕ)) (sides : List (Option Fields)) (plain : HaveOneLineArrays sides) where
  read_stays : (r : Ref) (want : Option Kind) → StaysOnLine (read scope sides r want)
  read_stays r want =
      let all = recursion_from_All (λ side. IfSome side IsPlain) sides plain in
      let side = then_holds (λ n. Unit {0}) IsPlain (side_at sides) (λ place said. side_stays sides place all) (table_of scope r.qualifier) (nothing_said (table_of scope r.qualifier)) in
      then_holds IsPlain HasOneLineArray (given r.name want) (given_stays r.name want) (option_and_then (side_at sides) (table_of scope r.qualifier)) side

  level_stays : (level : Term-F Part (Option ℤ)) (want : Option Kind) → StaysOnLine (means_step scope sides level want)
  level_stays (Term-F.Number n) want = tt
  level_stays (Term-F.Text text) want = tt
  level_stays (Term-F.Bool b) want = tt
  level_stays Term-F.Null want = tt
  level_stays (Term-F.Column r) want = read_stays r want
  level_stays (Term-F.Wanted k r) want = read_stays r (Some k)
  level_stays (Term-F.Or ts) want = truth_stays (any_of (map truth_in ts))
  level_stays (Term-F.And ts) want = truth_stays (all_of (map truth_in ts))
  level_stays (Term-F.Not t) want = truth_stays (denied (truth_in t))
  level_stays (Term-F.Compare op a b) want = truth_stays (comparison_of op a b)
  level_stays (Term-F.IsNull t negated) want = tt
  level_stays (Term-F.Among t ts negated) want = truth_stays _
  level_stays (Term-F.Between t low high negated) want = truth_stays _
  level_stays (Term-F.Like t pattern negated) want = truth_stays _
  level_stays (Term-F.AnyOf t r) want = tt
  level_stays (Term-F.Sum ns) want = number_stays (sum_of ns)
  level_stays (Term-F.Product ts) want = number_stays (product_of (map number_in ts))
  level_stays (Term-F.Minus t) want = number_stays (option_map neg_ℤ (number_in t))
  level_stays Term-F.CountAll want = tt
  level_stays (Term-F.Aggregate call t) want = tt

  pub meaning_stays : (t : Term) (want : Option Kind) → StaysOnLine (meaning scope sides t want)
  meaning_stays t want = fold_stays (part_step scope sides) addend_step level_stays t want
