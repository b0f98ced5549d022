-- The fields that a JSON tree gives once its nesting is flattened.
use Rattle.std.specs.Prelude.{List, ℕ, [], ◌∷◌, ◌++◌, option_map, option_to_list, fold}
use Rattle.serde_json.specs.Data.{Data, null, boolean, number, string, array, object, Members, no_members, member}
use Rattle.serde_json.specs.Written.{compact_text}
use Rattle.doc_values.specs.declared.value.Value as value
use Rattle.doc_values.specs.Doc.{Fields, with_field}
use Rattle.doc_flatten.specs.Tree.{int_of, dotted}

-- The fields that a tree gives under a path: null none, an object that is not empty those of its members, an array its compact text.
abbrev mutual
  pub fields_under : List ℕ → Data → Fields
  fields_under path null = []
  fields_under path (boolean b) = (path, value.TheVariants.Bool b) ∷ []
  fields_under path (number n) = option_to_list (option_map (λ z. (path, value.TheVariants.Int z)) (int_of n))
  fields_under path (string s) = (path, value.TheVariants.Text s) ∷ []
  fields_under path (array ds) = (path, value.TheVariants.Array (compact_text (array ds))) ∷ []
  fields_under path (object no_members) = (path, value.TheVariants.Object) ∷ []
  fields_under path (object (member key d ms)) = fields_under (dotted path key) d ++ members_fields path ms

  pub members_fields : List ℕ → Members → Fields
  members_fields path no_members = []
  members_fields path (member key d ms) = fields_under (dotted path key) d ++ members_fields path ms

-- The document with these fields put in, one after another.
abbrev pub with_all_fields : Fields → Fields → Fields
with_all_fields doc fields = fold (λ so_far field. with_field so_far field.0 field.1) doc fields
