-- The plan of a question that keeps the rules can be run.
use Rattle.std.proofs.Common.{◌≡◌, ℕ, Bool, true, false, ◌&&◌, List, [], ◌∷◌, ◌++◌, map, length, Option, Some, None, IfSome, if◌then◌else◌, refl, sym, ap, subst, ◌∙◌}
use Rattle.std.specs.List.{list_all, AllByRecursion}
use Rattle.std.proofs.lemmas.List.Elements.{All-from_recursion}
use Rattle.doc_values.specs.declared.col_ref.ColRef.{ColRef}
use Rattle.sql_tree.specs.declared.select.Select.{Select}
use Rattle.sql_tree.specs.declared.term.Term.{Term}
use Rattle.sql_eval.specs.declared.expr.Expr.{Expr}
use Rattle.sql_eval.specs.declared.key_plan.KeyPlan.{KeyPlan}
use Rattle.sql_eval.specs.declared.select_plan.SelectPlan.{SelectPlan}
use Rattle.sql_eval.specs.Resolves.{AllResolve}
use Rattle.sql_eval.specs.Widths.{width_of, is_plain}
use Rattle.type_rules.specs.declared.rule.Rule.TheVariants.{Name, Wide}
use Rattle.type_rules.specs.declared.rule.Rule.TheVariants as rule
use Rattle.type_rules.specs.Places.{PlacedTerm, free, condition, item_terms, key_terms, places_of, scope_of}
use Rattle.type_rules.specs.Names.{names_hold}
use Rattle.type_rules.specs.Kinds.{kinds_hold}
use Rattle.type_rules.specs.Widths.{term_width, widths_hold}
use Rattle.type_rules.specs.Written.{IsQuestion}
use Rattle.type_rules.specs.Fault.{question_fault}
use Rattle.type_rules.specs.Plan.{ConditionResolves, IsPlanOf}
use Rattle.type_rules.specs.Runnable.{every_slot, is_column, IsComputed, CanBeRun}
use Rattle.type_rules.specs.Steps.{has_numerals, HasNumerals}
use Rattle.type_rules.proofs.Noting.{and_first, and_second}
use Rattle.type_rules.proofs.Running.{runs, all_run}

-- Where no rule is broken, each of them is kept.
pub rules_kept : (n k w : Bool) → (if n then (if k then (if w then None else Some Wide) else Some rule.Kind) else Some Name) ≡ None → (n ≡ true) × (w ≡ true)
rules_kept true true true h = (refl, refl)
rules_kept true true false h = cc
rules_kept true false w h = cc
rules_kept false k w h = cc

both : {a b : Bool} → a ≡ true → b ≡ true → (a && b) ≡ true
both h k = λ i. h i && k i

pub front : (f : PlacedTerm → Bool) (xs ys : List PlacedTerm) → list_all f (xs ++ ys) ≡ true → list_all f xs ≡ true
front f [] ys h = refl
front f (x ∷ xs) ys h = both (and_first (f x) _ h) (front f xs ys (and_second (f x) _ h))

pub back : (f : PlacedTerm → Bool) (xs ys : List PlacedTerm) → list_all f (xs ++ ys) ≡ true → list_all f ys ≡ true
back f [] ys h = h
back f (x ∷ xs) ys h = back f xs ys (and_second (f x) _ h)

free_narrow : (tables : ℕ) (ts : List Term) → list_all (λ (p : PlacedTerm). (term_width tables p.term).narrow) (map free ts) ≡ true → list_all (λ w. w.narrow) (map (term_width tables) ts) ≡ true
free_narrow tables [] h = refl
free_narrow tables (t ∷ ts) h = both (and_first (term_width tables t).narrow _ h) (free_narrow tables ts (and_second (term_width tables t).narrow _ h))

computed : (refs : List (List ColRef)) (tables : ℕ) (e : Expr) → length refs ≡ tables → is_plain e ≡ true → every_slot (is_column refs) e ≡ true → (width_of tables e).narrow ≡ true → IsComputed refs e
computed refs tables e same plain slots narrow = record { plain = plain; narrow = subst (λ k. (width_of k e).narrow ≡ true) (sym same) narrow; slots = slots }

all_computed : (refs : List (List ColRef)) (tables : ℕ) (es : List Expr) → length refs ≡ tables → list_all (λ b. b) (map is_plain es) ≡ true → list_all (λ b. b) (map (every_slot (is_column refs)) es) ≡ true → list_all (λ w. w.narrow) (map (width_of tables) es) ≡ true → AllByRecursion (IsComputed refs) es
all_computed refs tables [] same plain slots narrow = tt
all_computed refs tables (e ∷ es) same plain slots narrow = (
  computed refs tables e same (and_first (is_plain e) _ plain) (and_first (every_slot (is_column refs) e) _ slots) (and_first (width_of tables e).narrow _ narrow),
  all_computed refs tables es same (and_second (is_plain e) _ plain) (and_second (every_slot (is_column refs) e) _ slots) (and_second (width_of tables e).narrow _ narrow),
)

of_keys : (refs : List (List ColRef)) (keys : List KeyPlan) → AllByRecursion (IsComputed refs) (map (λ k. k.expr) keys) → AllByRecursion (λ (k : KeyPlan). IsComputed refs k.expr) keys
of_keys refs [] h = tt
of_keys refs (k ∷ keys) h = (h.0, of_keys refs keys h.1)

-- Terms whose places want nothing, and the expressions to which they resolve.
free_computed : (scope : List (List ℕ)) (refs : List (List ColRef)) (tables : ℕ) (ts : List Term) (es : List Expr) → length refs ≡ tables → AllResolve scope refs (λ _. None) ts es → list_all (λ (p : PlacedTerm). (term_width tables p.term).narrow) (map free ts) ≡ true
    → list_all (λ b. b) (map has_numerals es) ≡ true → AllByRecursion (IsComputed refs) es
free_computed scope refs tables ts es same all narrow numerals =
    let parts = all_run scope refs tables all in
    all_computed refs tables es same parts.plain parts.slots (parts.narrow numerals (free_narrow tables ts narrow))

condition_computed : (scope : List (List ℕ)) (refs : List (List ColRef)) (tables : ℕ) (t : Option Term) (e : Option Expr) → length refs ≡ tables → ConditionResolves scope refs t e → list_all (λ (p : PlacedTerm). (term_width tables p.term).narrow) (condition t) ≡ true
    → IfSome e (λ e. has_numerals e ≡ true) → IfSome e (IsComputed refs)
condition_computed scope refs tables None None same r narrow numerals = tt
condition_computed scope refs tables None (Some e) same r narrow numerals = absurd r
condition_computed scope refs tables (Some t) None same r narrow numerals = absurd r
condition_computed scope refs tables (Some t) (Some e) same r narrow numerals =
    let run = runs scope refs tables r in
    computed refs tables e same run.plain run.slots (run.narrow numerals (and_first (term_width tables t).narrow _ narrow))

pub can_be_run : (s : Select) (p : SelectPlan) → IsQuestion s → question_fault s ≡ None → IsPlanOf s p → HasNumerals p → CanBeRun p
can_be_run s p question kept plan numerals =
    let tables = length s.tables in
    let scope = scope_of s in
    let one : length s.tables ≡ 1 = ap length question.tables in
    let same : length p.refs ≡ tables = ap length plan.refs ∙ sym one in
    let narrow : PlacedTerm → Bool = λ q. (term_width tables q.term).narrow in
    let all : list_all narrow (places_of s) ≡ true = (rules_kept (names_hold s) (kinds_hold s) (widths_hold s) kept).1 in
    let fronts = front narrow (map free (item_terms s) ++ condition s.test) (map free (key_terms s)) all in
    record {
      refs = ap length plan.refs ∙ sym (ap length plan.tables ∙ ap (λ ts. length (map (λ t. t.collection) ts)) question.tables);
      test = condition_computed scope p.refs tables s.test p.test same plan.test (back narrow (map free (item_terms s)) (condition s.test) fronts) numerals.in_test;
      items = All-from_recursion (IsComputed p.refs) p.items (free_computed scope p.refs tables (item_terms s) p.items same plan.items (front narrow (map free (item_terms s)) (condition s.test) fronts) numerals.in_items);
      keys = All-from_recursion (λ k. IsComputed p.refs k.expr) p.keys (of_keys p.refs p.keys (free_computed scope p.refs tables (key_terms s) (map (λ k. k.expr) p.keys) same plan.keys (back narrow (map free (item_terms s) ++ condition s.test) (map free (key_terms s)) all) numerals.in_keys));
    }
