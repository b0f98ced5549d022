-- What a map of aliases answers. This file serves private types alone.
use Rattle.std.specs.Prelude.{◌≡◌, ℕ, List}
use Rattle.std.specs.Borrow.{Bor}
use Rattle.std.specs.Option.{option_copied}
use Rattle.std.specs.Str.{bytes_eq}
use Rattle.indexmap.specs.IndexMap.{IndexMap, get_by}
use Rattle.sql_tree.specs.declared.item.Item.{Item}
use Rattle.sql_tree.specs.declared.term.Term.{Term}
use Rattle.type_rules.specs.Places.{term_named}

-- A map has, for each name, the term of the first of these items that has the name as its alias.
abbrev pub HasTerms : {S : Type 0} → IndexMap (Bor (List ℕ)) (Bor Term) S → List Item → Type 0
HasTerms m items = (name : List ℕ) → option_copied (get_by (λ k. bytes_eq name k.now) m) ≡ term_named items name
