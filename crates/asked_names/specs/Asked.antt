-- Which names a question can ask for.
use Rattle.std.specs.Prelude.{◌≡◌, ℕ, List, [], ◌∷◌, map, None}
use Rattle.sql_tree.specs.declared.select.Select.{Select}
use Rattle.sql_tree.specs.declared.statement.Statement.TheVariants as statement
use Rattle.sql_tree.specs.declared.term.Term.TheVariants as term
use Rattle.sql_grammar.specs.Statement.{Spells}

-- Some text spells a question whose one item is the name, without qualifier.
pub record CanBeAskedFor (name : List ℕ) : Type 0 where
  pub text : List ℕ
  pub question : Select
  pub spells : Spells text (statement.Select question)
  pub asks : map (λ item. item.expr) question.items ≡ term.Column (record { qualifier = None; name = name }) ∷ []
