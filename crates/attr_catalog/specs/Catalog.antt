-- What a catalog is: a list of attributes, each pair of name and kind once. The number of an attribute is its place.
use Rattle.std.specs.Prelude.{◌≡◌, ℕ, Bool, ◌&&◌, List, [], ◌∷◌, ◌++◌, nat_eq, Option, Some, is_some, option_map, position, slice_get, slice_set, if◌then◌else◌}
use Rattle.std.specs.Option.{option_map_or}
use Rattle.std.specs.Str.{bytes_eq}
use Rattle.doc_values.specs.declared.attr_id.AttrId.{AttrId}
use Rattle.doc_values.specs.declared.kind.Kind as kind
use Rattle.doc_values.specs.Order.{same_kind}
use Rattle.attr_catalog.specs.declared.kinds.Kinds.{Kinds}
use Rattle.attr_catalog.specs.Attribute.{Attribute, fresh}

-- The attributes of a catalog, in the order of their numbers.
abbrev pub Attributes : Type 0
Attributes = List Attribute

-- How many attributes a catalog may hold.
abbrev pub most_attributes : ℕ
most_attributes = 65536

-- How many versions a collection may have, so how many documents and how many clean ones.
abbrev pub most_versions : ℕ
most_versions = 2097152

-- Whether the attribute is that of a name and a kind.
abbrev pub is_of : List ℕ → kind.Kind → Attribute → Bool
is_of name of a = bytes_eq name a.name && same_kind of a.kind

-- The number at a place.
abbrev pub number : ℕ → AttrId
number place = record { 0 = place }

-- The number of the attribute of a name and a kind, if there is one.
abbrev pub id_of : List ℕ → kind.Kind → Attributes → Option AttrId
id_of name of attributes = option_map number (position (is_of name of) attributes)

-- The numbers of the attributes of a name, kind by kind.
abbrev pub kinds_of : List ℕ → Attributes → Kinds
kinds_of name attributes = record {
  bool_id = id_of name kind.TheVariants.Bool attributes;
  int_id = id_of name kind.TheVariants.Int attributes;
  text_id = id_of name kind.TheVariants.Text attributes;
  array_id = id_of name kind.TheVariants.Array attributes;
  object_id = id_of name kind.TheVariants.Object attributes;
}

-- The number that stands there for a kind.
abbrev pub id_at : kind.Kind → Kinds → Option AttrId
id_at kind.TheVariants.Bool kinds = kinds.bool_id
id_at kind.TheVariants.Int kinds = kinds.int_id
id_at kind.TheVariants.Text kinds = kinds.text_id
id_at kind.TheVariants.Array kinds = kinds.array_id
id_at kind.TheVariants.Object kinds = kinds.object_id

-- Each pair of name and kind stands once: what is found for an attribute's pair is its own place.
abbrev pub IsOnce : Attributes → Type 0
IsOnce attributes = (place : ℕ) (a : Attribute) → slice_get attributes place ≡ Some a → id_of a.name a.kind attributes ≡ Some (number place)

-- The attributes with a pair, which is appended where it is new.
abbrev pub with_pair : List ℕ → kind.Kind → Attributes → Attributes
with_pair name of attributes = if is_some (id_of name of attributes) then attributes else attributes ++ fresh name of ∷ []

-- The attributes with one of them changed.
abbrev pub changed : (Attribute → Attribute) → AttrId → Attributes → Attributes
changed change id attributes = option_map_or (λ a. slice_set attributes id.0 (change a)) (slice_get attributes id.0) attributes
