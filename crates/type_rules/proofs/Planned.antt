-- The parts of a plan, put together.
use Rattle.std.proofs.Common.{◌≡◌, ℕ, Bool, true, false, ◌&&◌, List, [], ◌∷◌, ◌++◌, map, Option, Some, None, refl, sym, ap, subst, ◌∙◌}
use Rattle.std.specs.List.{list_all, flat_map}
use Rattle.doc_values.specs.declared.col_ref.ColRef.{ColRef}
use Rattle.doc_values.specs.declared.kind.Kind.TheVariants as kind
use Rattle.sql_tree.specs.declared.select.Select.{Select}
use Rattle.sql_tree.specs.declared.term.Term.{Term}
use Rattle.sql_eval.specs.declared.expr.Expr.{Expr}
use Rattle.sql_eval.specs.Resolves.{AllResolve}
use Rattle.type_rules.specs.Places.{PlacedTerm, free, condition, item_terms, key_terms, places_of}
use Rattle.type_rules.specs.Names.{every_ref, is_bound}
use Rattle.type_rules.specs.Uses.{Use, Reader, reader_of, place_uses}
use Rattle.type_rules.specs.Plan.{ConditionResolves}
use Rattle.type_rules.specs.Steps.{Comes, is_bound_to, IsResolved, AreResolved, AreParts, places_bound_to}
use Rattle.sql_eval.specs.declared.key_plan.KeyPlan.{KeyPlan}
use Rattle.type_rules.specs.Places.{alias_of, scope_of}
use Rattle.type_rules.specs.Names.{names_hold}
use Rattle.type_rules.specs.Kinds.{kinds_hold}
use Rattle.type_rules.specs.Widths.{widths_hold}
use Rattle.type_rules.specs.Written.{IsQuestion}
use Rattle.type_rules.specs.Fault.{question_fault}
use Rattle.type_rules.specs.Plan.{IsPlanOf}
use Rattle.type_rules.proofs.Noting.{and_first, and_second, nothing_noted, and_then, said_so}
use Rattle.type_rules.proofs.Runs.{front, back, rules_kept}

both : {a b : Bool} → a ≡ true → b ≡ true → (a && b) ≡ true
both h k = λ i. h i && k i

abbrev free_uses : Reader → List Use
free_uses p = p.uses None

append : (xs ys zs : List Use) → xs ++ (ys ++ zs) ≡ (xs ++ ys) ++ zs
append [] ys zs = refl
append (x ∷ xs) ys zs = ap (λ us. x ∷ us) (append xs ys zs)

nil_behind : (xs : List Use) → xs ++ [] ≡ xs
nil_behind [] = refl
nil_behind (x ∷ xs) = ap (λ ys. x ∷ ys) (nil_behind xs)

flat_append : (xs ys : List PlacedTerm) → flat_map place_uses (xs ++ ys) ≡ flat_map place_uses xs ++ flat_map place_uses ys
flat_append [] ys = refl
flat_append (x ∷ xs) ys = ap (λ us. place_uses x ++ us) (flat_append xs ys) ∙ append (place_uses x) (flat_map place_uses xs) (flat_map place_uses ys)

free_places : (ts : List Term) → flat_map place_uses (map free ts) ≡ flat_map free_uses (map reader_of ts)
free_places [] = refl
free_places (t ∷ ts) = ap (λ us. (reader_of t).uses None ++ us) (free_places ts)

pub free_all : (f : Term → Bool) (ts : List Term) → list_all (λ (p : PlacedTerm). f p.term) (map free ts) ≡ true → list_all (λ b. b) (map f ts) ≡ true
free_all f [] h = refl
free_all f (t ∷ ts) h = both (and_first (f t) _ h) (free_all f ts (and_second (f t) _ h))

-- What holds of each term of a question holds of the items' terms, of the condition's and of the keys'.
pub of_items : (f : Term → Bool) (s : Select) → list_all (λ (p : PlacedTerm). f p.term) (places_of s) ≡ true → list_all (λ b. b) (map f (item_terms s)) ≡ true
of_items f s h =
    let test : PlacedTerm → Bool = λ p. f p.term in
    free_all f (item_terms s) (front test (map free (item_terms s)) (condition s.test) (front test (map free (item_terms s) ++ condition s.test) (map free (key_terms s)) h))

pub of_condition : (f : Term → Bool) (s : Select) → list_all (λ (p : PlacedTerm). f p.term) (places_of s) ≡ true → list_all (λ (p : PlacedTerm). f p.term) (condition s.test) ≡ true
of_condition f s h =
    let test : PlacedTerm → Bool = λ p. f p.term in
    back test (map free (item_terms s)) (condition s.test) (front test (map free (item_terms s) ++ condition s.test) (map free (key_terms s)) h)

pub of_keys : (f : Term → Bool) (s : Select) → list_all (λ (p : PlacedTerm). f p.term) (places_of s) ≡ true → list_all (λ b. b) (map f (key_terms s)) ≡ true
of_keys f s h =
    let test : PlacedTerm → Bool = λ p. f p.term in
    free_all f (key_terms s) (back test (map free (item_terms s) ++ condition s.test) (map free (key_terms s)) h)

pub parts_made : {c d e x : List ColRef} (s : Select) (items : List Expr) (test : Option Expr) (keys : List Expr) → AreResolved c d (flat_map free_uses (map reader_of (item_terms s))) (λ _. None) (item_terms s) items
    → Comes d e (flat_map place_uses (condition s.test)) (λ alias. list_all (λ p. every_ref (is_bound (alias ∷ [])) p.term) (condition s.test)) (λ scope refs. ConditionResolves scope refs s.test test)
    → AreResolved e x (flat_map free_uses (map reader_of (key_terms s))) (λ _. None) (key_terms s) keys → AreParts c x s items test keys
parts_made s items test keys one two three =
    said_so (and_then one (and_then two three))
    (flat_append (map free (item_terms s) ++ condition s.test) (map free (key_terms s))
    ∙ (λ i. flat_append (map free (item_terms s)) (condition s.test) i ++ free_places (key_terms s) i)
    ∙ ap (λ us. (us ++ flat_map place_uses (condition s.test)) ++ flat_map free_uses (map reader_of (key_terms s))) (free_places (item_terms s))
    ∙ sym (append (flat_map free_uses (map reader_of (item_terms s))) (flat_map place_uses (condition s.test)) (flat_map free_uses (map reader_of (key_terms s)))))
    (λ alias h. both (of_items (every_ref (is_bound (alias ∷ []))) s h) (both (of_condition (every_ref (is_bound (alias ∷ []))) s h) (of_keys (every_ref (is_bound (alias ∷ []))) s h)))
    (λ scope refs all. all)

pub some_made : {c d : List ColRef} (t : Term) (e : Expr) → IsResolved c d (Some kind.Bool) t e
    → Comes c d (flat_map place_uses (condition (Some t))) (λ alias. list_all (λ p. every_ref (is_bound (alias ∷ [])) p.term) (condition (Some t))) (λ scope refs. ConditionResolves scope refs (Some t) (Some e))
some_made t e r = said_so r (nil_behind ((reader_of t).uses (Some kind.Bool))) (λ alias h. and_first (is_bound_to t alias) true h) (λ scope refs all. all)

pub none_made : (c : List ColRef) → Comes c c (flat_map place_uses (condition None)) (λ alias. list_all (λ p. every_ref (is_bound (alias ∷ [])) p.term) (condition None)) (λ scope refs. ConditionResolves scope refs None None)
none_made c = nothing_noted c (λ scope refs. ConditionResolves scope refs None None) (λ scope refs. tt)

pub of_test : (c d : List ColRef) (t u : Option Term) (e : Option Expr) → t ≡ u → Comes c d (flat_map place_uses (condition u)) (λ alias. list_all (λ p. every_ref (is_bound (alias ∷ [])) p.term) (condition u)) (λ scope refs. ConditionResolves scope refs u e)
    → Comes c d (flat_map place_uses (condition t)) (λ alias. list_all (λ p. every_ref (is_bound (alias ∷ [])) p.term) (condition t)) (λ scope refs. ConditionResolves scope refs t e)
of_test c d t u e is r = subst (λ v. Comes c d (flat_map place_uses (condition v)) (λ alias. list_all (λ p. every_ref (is_bound (alias ∷ [])) p.term) (condition v)) (λ scope refs. ConditionResolves scope refs v e)) (sym is) r

pub map_behind : {X Y : Type 0} (f : X → Y) (xs : List X) (x : X) → map f (xs ++ x ∷ []) ≡ map f xs ++ f x ∷ []
map_behind f [] x = refl
map_behind f (y ∷ xs) x = ap (λ ys. f y ∷ ys) (map_behind f xs x)

fst : {A B : Type 0} → A × B → A
fst p = p.0

snd : {A B : Type 0} → A × B → B
snd p = p.1

pub planned : (s : Select) (c : List ColRef) (items : List Expr) (test : Option Expr) (keys : List KeyPlan) (tables : List (List ℕ)) (refs : List (List ColRef)) → IsQuestion s → question_fault s ≡ None → AreParts [] c s items test (map (λ k. k.expr) keys)
    → map (λ k. k.descending) keys ≡ map (λ k. k.descending) s.keys → tables ≡ map (λ t. t.collection) s.tables → refs ≡ c ∷ []
    → IsPlanOf s (record { from = record { tables = tables; joins = [] }; refs = refs; star = s.star; test = test; grouping = []; grouped = false; having = None; items = items; distinct = s.distinct; keys = keys; limit = s.limit })
planned s c items test keys tables refs question kept parts descending tables_are refs_are =
    let alias = alias_of question.table in
    let scope_is : scope_of s ≡ alias ∷ [] = ap (map alias_of) question.tables in
    let names : names_hold s ≡ true = (rules_kept (names_hold s) (kinds_hold s) (widths_hold s) kept).0 in
    let every : list_all (λ (p : PlacedTerm). every_ref (is_bound (scope_of s)) p.term) (places_of s) ≡ true = and_second _ _ names in
    let bound : places_bound_to s alias ≡ true = subst (λ scope. list_all (λ (p : PlacedTerm). every_ref (is_bound scope) p.term) (places_of s) ≡ true) scope_is every in
    let all = parts.holds alias [] bound in
    record {
      tables = tables_are;
      joins = refl;
      refs = refs_are ∙ ap (λ cs. cs ∷ []) parts.noted;
      star = refl;
      test = subst (λ scope. ConditionResolves scope refs s.test test) (sym scope_is) (subst (λ rs. ConditionResolves (alias ∷ []) rs s.test test) (sym refs_are) (fst (snd all)));
      grouping = refl;
      grouped = refl;
      having = refl;
      items = subst (λ scope. AllResolve scope refs (λ _. None) (item_terms s) items) (sym scope_is) (subst (λ rs. AllResolve (alias ∷ []) rs (λ _. None) (item_terms s) items) (sym refs_are) (fst all));
      distinct = refl;
      keys = subst (λ scope. AllResolve scope refs (λ _. None) (key_terms s) (map (λ k. k.expr) keys)) (sym scope_is) (subst (λ rs. AllResolve (alias ∷ []) rs (λ _. None) (key_terms s) (map (λ k. k.expr) keys)) (sym refs_are) (snd (snd all)));
      descending = descending;
      limit = refl;
    }
