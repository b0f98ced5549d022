-- The terms of a question, and what their places want.
use Rattle.std.specs.Prelude.{ℕ, Bool, false, List, [], ◌∷◌, ◌++◌, map, Option, Some, None, option_and_then, unwrap_or, is_some, if◌then◌else◌}
use Rattle.std.specs.Option.{option_map_or}
use Rattle.std.specs.Str.{bytes_eq}
use Rattle.doc_values.specs.declared.kind.Kind.{Kind}
use Rattle.doc_values.specs.declared.kind.Kind.TheVariants as kind
use Rattle.sql_tree.specs.declared.reference.Ref.{Ref}
use Rattle.sql_tree.specs.declared.table.Table.{Table}
use Rattle.sql_tree.specs.declared.item.Item.{Item}
use Rattle.sql_tree.specs.declared.key.Key.{Key}
use Rattle.sql_tree.specs.declared.select.Select.{Select}
use Rattle.sql_tree.specs.declared.term.Term.{Term}
use Rattle.sql_tree.specs.declared.term.Term.TheOpen.{Term-F}
use Rattle.sql_tree.specs.declared.term.Term.TheFolds.{fold-Term}

-- The alias of a table: its collection where it has none.
abbrev pub alias_of : Table → List ℕ
alias_of t = unwrap_or t.alias t.collection

-- The aliases in scope, in the order of the tables.
abbrev pub scope_of : Select → List (List ℕ)
scope_of s = map alias_of s.tables

-- The name that a reference is, where it has no qualifier.
abbrev pub bare_name : Ref → Option (List ℕ)
bare_name r = if is_some r.qualifier then None else Some r.name

-- One level of a term: its name, where it is one name without qualifier.
abbrev pub lone_step : Term-F (Option (List ℕ)) (Unit {0}) → Option (List ℕ)
lone_step (Term-F.Column r) = bare_name r
lone_step _ = None

-- The name that a term is, where it is one name without qualifier.
abbrev pub lone_name : Term → Option (List ℕ)
lone_name = fold-Term (Option (List ℕ)) (Unit {0}) lone_step (λ _. tt)

-- Whether an item has the name as its alias.
abbrev pub has_alias : List ℕ → Item → Bool
has_alias name i = option_map_or (bytes_eq name) i.alias false

-- The term of the first item that has the name as its alias.
abbrev pub term_named : List Item → List ℕ → Option Term
term_named [] name = None
term_named (i ∷ is) name = if has_alias name i then Some i.expr else term_named is name

-- The term of a key: that of the item for which it stands, or its own.
abbrev pub key_term : List Item → Key → Term
key_term items key = unwrap_or (option_and_then (term_named items) (lone_name key.expr)) key.expr

-- A term, and the kind that its place wants, or none.
pub record PlacedTerm : Type 0 where
  pub term : Term
  pub want : Option Kind

-- A term in a place that wants a kind, or none.
abbrev pub placed : Term → Option Kind → PlacedTerm
placed t want = record { term = t; want = want }

-- A term in a place that wants nothing.
abbrev pub free : Term → PlacedTerm
free t = placed t None

-- A condition, where there is one: its place wants a truth value.
abbrev pub condition : Option Term → List PlacedTerm
condition None = []
condition (Some t) = placed t (Some kind.Bool) ∷ []

-- The terms of the items.
abbrev pub item_terms : Select → List Term
item_terms s = map (λ i. i.expr) s.items

-- The terms of the keys.
abbrev pub key_terms : Select → List Term
key_terms s = map (key_term s.items) s.keys

-- The terms of the items, of the condition and of the keys of a question, in this order.
abbrev pub places_of : Select → List PlacedTerm
places_of s = (map free (item_terms s) ++ condition s.test) ++ map free (key_terms s)
