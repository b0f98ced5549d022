-- Which path leads to the values of a name: the ways to its attributes, in the order of kinds.
use Rattle.std.specs.Prelude.{◌≡◌, ℕ, List, [], ◌∷◌, ◌++◌, Option, Some, None, slice_get}
use Rattle.std.specs.Option.{option_map_or}
use Rattle.doc_values.specs.declared.attr_id.AttrId.{AttrId}
use Rattle.doc_values.specs.declared.kind.Kind.{Kind}
use Rattle.doc_values.specs.declared.kind.Kind.TheVariants as kind
use Rattle.attr_catalog.specs.declared.home.Home.{Home}
use Rattle.attr_catalog.specs.declared.home.Home.TheVariants as home
use Rattle.attr_catalog.specs.declared.way.Way.{Way}
use Rattle.attr_catalog.specs.declared.way.Way.TheVariants as way
use Rattle.attr_catalog.specs.Attribute.{Attribute}
use Rattle.attr_catalog.specs.Catalog.{Attributes, id_of}

-- The way to the values of an attribute: to its home while it is clean, to both sides while it is dirty.
abbrev pub way_by : AttrId → Home → Option ℕ → Way
way_by id home.Reservoir None = way.Extract id
way_by id home.Column None = way.Column id
way_by id home.Reservoir (Some clean_to) = way.Either id
way_by id home.Column (Some clean_to) = way.Either id

-- The way to the attribute with a number, if there is one.
abbrev pub ways_to : Attributes → Option AttrId → List Way
ways_to attributes None = []
ways_to attributes (Some id) = option_map_or (λ a. way_by id a.home a.mark ∷ []) (slice_get attributes id.0) []

-- The path that is lawful for a name, and for one kind where that is wanted.
abbrev pub lawful_path : List ℕ → Option Kind → Attributes → List Way
lawful_path name (Some of) attributes = ways_to attributes (id_of name of attributes)
lawful_path name None attributes =
    ways_to attributes (id_of name kind.Bool attributes)
    ++ (ways_to attributes (id_of name kind.Int attributes)
    ++ (ways_to attributes (id_of name kind.Text attributes) ++ (ways_to attributes (id_of name kind.Array attributes) ++ ways_to attributes (id_of name kind.Object attributes))))

-- A path is lawful now: it is the one of some name, and of one kind or of each.
abbrev pub IsLawful : Attributes → List Way → Type 0
IsLawful attributes path = (name : List ℕ) × (wanted : Option Kind) × (path ≡ lawful_path name wanted attributes)
