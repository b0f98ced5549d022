-- How a catalog is kept: names once each with the numbers of their kinds, and attributes that point to their names.
use Rattle.std.specs.Prelude.{◌≡◌, ◌≢◌, ◌<◌, ◌≤◌, ℕ, List, [], ◌∷◌, ◌++◌, length, map, Option, Some, None, slice_get, slice_set, ◌⊎◌}
use Rattle.std.specs.Option.{option_map_or}
use Rattle.doc_values.specs.declared.attr_id.AttrId.{AttrId}
use Rattle.doc_values.specs.declared.kind.Kind as kind
use Rattle.attr_catalog.specs.declared.home.Home as home
use Rattle.attr_catalog.specs.declared.kinds.Kinds.{Kinds}
use Rattle.attr_catalog.specs.declared.stored.Stored.{Stored}
use Rattle.attr_catalog.specs.Attribute.{Attribute}
use Rattle.attr_catalog.specs.Catalog.{Attributes, kinds_of, IsOnce, most_attributes}

-- Names, each with the numbers of its kinds.
abbrev pub Named : Type 0
Named = List (List ℕ × Kinds)

-- Each name stands once.
abbrev pub AreApart : Named → Type 0
AreApart names = (i j : ℕ) (a b : List ℕ × Kinds) → slice_get names i ≡ Some a → slice_get names j ≡ Some b → a.0 ≡ b.0 → i ≡ j

-- A list is another one with one item behind it.
abbrev pub HasOneBehind : {X : Type 0} → List X → List X → Type 0
HasOneBehind {X} all front = (x : X) × (all ≡ front ++ x ∷ [])

-- The name at a place.
abbrev pub name_at : Named → ℕ → List ℕ
name_at names place = option_map_or (λ named. named.0) (slice_get names place) []

-- The attribute that is stored.
abbrev pub shown : Named → Stored → Attribute
shown names s = record { name = name_at names s.name; kind = s.kind; count = s.count; home = s.home; mark = s.mark }

-- What is stored for an attribute that no document holds yet.
abbrev pub fresh_at : ℕ → kind.Kind → Stored
fresh_at place of = record { name = place; kind = of; count = 0; home = home.TheVariants.Reservoir; mark = None }

-- What is stored has changed as the attribute does that it shows, and its name and kind have stayed.
abbrev pub ShowsAs : (Attribute → Attribute) → Stored → Stored → Type 0
ShowsAs change before after = ((names : Named) → shown names after ≡ change (shown names before)) × (after.name ≡ before.name) × (after.kind ≡ before.kind)

-- The attributes that are stored.
abbrev pub all_shown : Named → List Stored → Attributes
all_shown names stored = map (shown names) stored

-- The numbers with another one for a kind.
abbrev pub with_id : kind.Kind → Option AttrId → Kinds → Kinds
with_id kind.TheVariants.Bool id kinds = record kinds { bool_id = id }
with_id kind.TheVariants.Int id kinds = record kinds { int_id = id }
with_id kind.TheVariants.Text id kinds = record kinds { text_id = id }
with_id kind.TheVariants.Array id kinds = record kinds { array_id = id }
with_id kind.TheVariants.Object id kinds = record kinds { object_id = id }

-- No kind has a number.
abbrev pub no_kinds : Kinds
no_kinds = record { bool_id = None; int_id = None; text_id = None; array_id = None; object_id = None }

-- A kind of the name at a place is forgotten: its number goes, and with the last number the name, which stood last.
abbrev pub Forgets : ℕ → kind.Kind → Named → Named → Type 0
Forgets place of before after =
    (n : List ℕ × Kinds) × (slice_get before place ≡ Some n)
    × (((with_id of None n.1 ≢ no_kinds) × (after ≡ slice_set before place (name_at before place, with_id of None n.1))) ⊎ ((with_id of None n.1 ≡ no_kinds) × (before ≡ after ++ n ∷ [])))

-- A name has a first attribute, and the attributes before that have earlier names.
pub record IsUsed (stored : List Stored) (place : ℕ) : Type 0 where
  pub first : ℕ
  pub attribute : Stored
  pub there : slice_get stored first ≡ Some attribute
  pub named : attribute.name ≡ place
  pub earlier : (i : ℕ) (s : Stored) → i < first → slice_get stored i ≡ Some s → s.name < place

-- Names and attributes belong together: each attribute has its name, each name its attributes and the numbers of its kinds, and no pair stands twice.
pub record BelongTogether (names : Named) (stored : List Stored) : Type 0 where
  pub named : (place : ℕ) (s : Stored) → slice_get stored place ≡ Some s → s.name < length names
  pub kinds : (place : ℕ) (n : List ℕ × Kinds) → slice_get names place ≡ Some n → n.1 ≡ kinds_of n.0 (all_shown names stored)
  pub used : (place : ℕ) → place < length names → IsUsed stored place
  pub apart : AreApart names
  pub once : IsOnce (all_shown names stored)
  pub few : length stored ≤ most_attributes
