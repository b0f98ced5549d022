-- The plan of a statement.
use Rattle.std.specs.Prelude.{◌≡◌, ℕ, false, List, [], ◌∷◌, map, Option, Some, None}
use Rattle.doc_values.specs.declared.kind.Kind.TheVariants as kind
use Rattle.doc_values.specs.declared.col_ref.ColRef.{ColRef}
use Rattle.sql_tree.specs.declared.select.Select.{Select}
use Rattle.sql_tree.specs.declared.statement.Statement as statement
use Rattle.sql_tree.specs.declared.term.Term.{Term}
use Rattle.sql_eval.specs.declared.expr.Expr.{Expr}
use Rattle.sql_eval.specs.declared.select_plan.SelectPlan.{SelectPlan}
use Rattle.sql_eval.specs.Resolves.{Resolves, AllResolve}
use Rattle.type_rules.specs.declared.typed_statement.Typed as typed
use Rattle.type_rules.specs.Places.{scope_of, item_terms, key_terms}
use Rattle.type_rules.specs.Uses.{columns_of}
use Rattle.type_rules.specs.Runnable.{CanBeRun}

-- A condition resolves to one, where a truth value is wanted; there is one exactly where there is the other.
abbrev pub ConditionResolves : List (List ℕ) → List (List ColRef) → Option Term → Option Expr → Type 0
ConditionResolves scope refs None None = Unit {0}
ConditionResolves scope refs (Some t) (Some e) = Resolves scope refs (Some kind.Bool) t e
ConditionResolves scope refs _ _ = ⊥

-- A plan of a question over one table: each expression is one to which its term resolves, over the columns that the question reads.
pub record IsPlanOf (s : Select) (p : SelectPlan) : Type 0 where
  pub tables : p.from.tables ≡ map (λ t. t.collection) s.tables
  pub joins : p.from.joins ≡ []
  pub refs : p.refs ≡ columns_of s ∷ []
  pub star : p.star ≡ s.star
  pub test : ConditionResolves (scope_of s) p.refs s.test p.test
  pub grouping : p.grouping ≡ []
  pub grouped : p.grouped ≡ false
  pub having : p.having ≡ None
  pub items : AllResolve (scope_of s) p.refs (λ _. None) (item_terms s) p.items
  pub distinct : p.distinct ≡ s.distinct
  pub keys : AllResolve (scope_of s) p.refs (λ _. None) (key_terms s) (map (λ k. k.expr) p.keys)
  pub descending : map (λ k. k.descending) p.keys ≡ map (λ k. k.descending) s.keys
  pub limit : p.limit ≡ s.limit

-- What is made of a statement: a load as it stands, and of a question its plan, which can be run.
abbrev pub IsTypedOf : statement.Statement → typed.Typed → Type 0
IsTypedOf (statement.TheVariants.Load c j) (typed.TheVariants.Load collection json) = (collection ≡ c) × (json ≡ j)
IsTypedOf (statement.TheVariants.Select s) (typed.TheVariants.Select p) = IsPlanOf s p × CanBeRun p
IsTypedOf _ _ = ⊥
