-- What holds of references to tables in scope.
use Rattle.std.specs.Prelude.{◌≡◌, ℕ, true, List, ◌∷◌, is_some}
use Rattle.sql_tree.specs.declared.reference.Ref.{Ref}
use Rattle.type_rules.specs.Names.{is_bound}

-- A reference that is bound where two or more tables are in scope has a qualifier.
abbrev pub NamesOneOfSeveral : Type 0
NamesOneOfSeveral = (a b : List ℕ) (scope : List (List ℕ)) (r : Ref) → is_bound (a ∷ b ∷ scope) r ≡ true → is_some r.qualifier ≡ true
