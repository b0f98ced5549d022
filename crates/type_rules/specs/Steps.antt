-- What comes of each step in which a plan is made. This file serves private calls alone.
use Rattle.std.specs.Prelude.{◌≡◌, ℕ, nat_le, Bool, true, ◌&&◌, List, [], ◌∷◌, map, Option, Some, None, slice_get, if◌then◌else◌, IfSome}
use Rattle.std.specs.List.{list_all}
use Rattle.doc_values.specs.declared.kind.Kind.{Kind}
use Rattle.doc_values.specs.declared.col_ref.ColRef.{ColRef}
use Rattle.sql_tree.specs.declared.reference.Ref.{Ref}
use Rattle.sql_tree.specs.declared.addend.Addend.{Addend as TermAddend}
use Rattle.sql_tree.specs.declared.term.Term.{Term}
use Rattle.sql_eval.specs.declared.slot.Slot.{Slot}
use Rattle.sql_eval.specs.declared.addend.Addend.{Addend}
use Rattle.sql_eval.specs.declared.expr.Expr.{Expr}
use Rattle.sql_eval.specs.declared.expr.Expr.TheVariants as expr
use Rattle.sql_eval.specs.declared.expr.Expr.TheOpen.{Expr-F}
use Rattle.sql_eval.specs.declared.expr.Expr.TheFolds.{fold-Expr, fold-Addend}
use Rattle.sql_eval.specs.declared.select_plan.SelectPlan.{SelectPlan}
use Rattle.sql_eval.specs.Resolves.{Resolves, AllResolve, AddendsResolve}
use Rattle.type_rules.specs.Names.{every_ref, every_ref_in, is_bound}
use Rattle.sql_tree.specs.declared.select.Select.{Select}
use Rattle.type_rules.specs.Places.{places_of, item_terms, key_terms}
use Rattle.type_rules.specs.Plan.{ConditionResolves}
use Rattle.type_rules.specs.Uses.{Use, all_noted, reader_of, uses_of}

-- A slot of the one table is the place of a column with the name of a reference and the kind that is wanted of it.
pub record IsPlaceOf (columns : List ColRef) (r : Ref) (want : Option Kind) (slot : Slot) : Type 0 where
  pub table : slot.table ≡ 0
  pub column : slice_get columns slot.column ≡ Some (record { name = r.name; want = want })

-- References are noted behind the columns so far. What is said of a scope and of columns then holds in the scope of each alias that passes, whatever is noted later.
pub record Comes (before after : List ColRef) (uses : List Use) (passes : List ℕ → Bool) (Said : List (List ℕ) → List (List ColRef) → Type 0) : Type 0 where
  pub noted : after ≡ all_noted before uses
  pub holds : (alias : List ℕ) (later : List Use) → passes alias ≡ true → Said (alias ∷ []) (all_noted after later ∷ [])

-- Each reference of a term is to the table with this alias.
abbrev pub is_bound_to : Term → List ℕ → Bool
is_bound_to t alias = every_ref (is_bound (alias ∷ [])) t

-- The same of several terms.
abbrev pub are_bound_to : List Term → List ℕ → Bool
are_bound_to ts alias = list_all (λ p. p) (map (every_ref (is_bound (alias ∷ []))) ts)

-- The same of the members of a sum.
abbrev pub addends_bound_to : List TermAddend → List ℕ → Bool
addends_bound_to ts alias = list_all (λ p. p) (map (every_ref_in (is_bound (alias ∷ []))) ts)

-- The references of a term are noted, and it resolves to an expression.
abbrev pub IsResolved : List ColRef → List ColRef → Option Kind → Term → Expr → Type 0
IsResolved before after want t e = Comes before after ((reader_of t).uses want) (is_bound_to t) (λ scope refs. Resolves scope refs want t e)

-- The same of several terms, whose references are these.
abbrev pub AreResolved : List ColRef → List ColRef → List Use → (Term → Option Kind) → List Term → List Expr → Type 0
AreResolved before after uses want ts es = Comes before after uses (are_bound_to ts) (λ scope refs. AllResolve scope refs want ts es)

-- The same of the members of a sum.
abbrev pub AddendsAreResolved : List ColRef → List ColRef → List Use → List TermAddend → List Addend → Type 0
AddendsAreResolved before after uses ts es = Comes before after uses (addends_bound_to ts) (λ scope refs. AddendsResolve scope refs ts es)

-- One level of an expression: whether each numeral in it is at most 2 to the 63.
abbrev pub numerals_step : Expr-F Bool Bool → Bool
numerals_step (Expr-F.Number n) = nat_le n 9223372036854775808
numerals_step (Expr-F.Or es) = list_all (λ e. e) es
numerals_step (Expr-F.And es) = list_all (λ e. e) es
numerals_step (Expr-F.Not e) = e
numerals_step (Expr-F.Compare op e f) = e && f
numerals_step (Expr-F.IsNull e negated) = e
numerals_step (Expr-F.Among e es negated) = e && list_all (λ e. e) es
numerals_step (Expr-F.Between e low high negated) = e && (low && high)
numerals_step (Expr-F.Like e pattern negated) = e
numerals_step (Expr-F.Sum es) = list_all (λ e. e) es
numerals_step (Expr-F.Product es) = list_all (λ e. e) es
numerals_step (Expr-F.Minus e) = e
numerals_step (Expr-F.AnyOf e slot) = e
numerals_step (Expr-F.Aggregate call e) = e
numerals_step _ = true

-- Each numeral in an expression is at most 2 to the 63.
abbrev pub has_numerals : Expr → Bool
has_numerals = fold-Expr Bool Bool numerals_step (λ a. a.expr)

-- The same of a member of a sum.
abbrev pub has_numerals_in : Addend → Bool
has_numerals_in = fold-Addend Bool Bool numerals_step (λ a. a.expr)

-- An expression, or NOT of it.
abbrev pub denied_expr : Bool → Expr → Expr
denied_expr negated e = if negated then expr.Not e else e

-- Each numeral in the expressions of a plan is at most 2 to the 63.
pub record HaveNumerals (items : List Expr) (test : Option Expr) (keys : List Expr) : Type 0 where
  pub in_items : list_all (λ b. b) (map has_numerals items) ≡ true
  pub in_test : IfSome test (λ e. has_numerals e ≡ true)
  pub in_keys : list_all (λ b. b) (map has_numerals keys) ≡ true

-- The same of a plan.
abbrev pub HasNumerals : SelectPlan → Type 0
HasNumerals p = HaveNumerals p.items p.test (map (λ k. k.expr) p.keys)

-- Each reference of a question is to the table with this alias.
abbrev pub places_bound_to : Select → List ℕ → Bool
places_bound_to s alias = list_all (λ p. every_ref (is_bound (alias ∷ [])) p.term) (places_of s)

-- The references of a question are noted, and its terms resolve to these expressions.
abbrev pub AreParts : List ColRef → List ColRef → Select → List Expr → Option Expr → List Expr → Type 0
AreParts before after s items test keys = Comes before after (uses_of s) (places_bound_to s) (λ scope refs. AllResolve scope refs (λ _. None) (item_terms s) items × (ConditionResolves scope refs s.test test × AllResolve scope refs (λ _. None) (key_terms s) keys))
