-- Which attributes become columns.
use Rattle.std.specs.Prelude.{◌≡◌, ℕ, ◌*◌, Bool, ◌&&◌, nat_lt, nat_le, List, length, Some, slice_get, if◌then◌else◌}
use Rattle.doc_values.specs.Doc.{Fields}
use Rattle.attr_catalog.specs.Attribute.{Attribute}
use Rattle.attr_catalog.specs.Catalog.{number}
use Rattle.attr_catalog.specs.declared.home.Home.{Home}
use Rattle.attr_catalog.specs.declared.home.Home.TheVariants as home
use Rattle.schema_analyser.specs.declared.choice.Choice.{Choice}
use Rattle.schema_analyser.specs.declared.limits.Limits.{Limits}
use Rattle.schema_analyser.specs.Different.{different}
use Rattle.schema_analyser.specs.Different as differing
use Rattle.schema_analyser.specs.Tally.{Tallied}
use Rattle.schema_analyser.specs.Survey.{Surveyed, values_in}

-- The home of an attribute that so many of a number of documents hold, with so many different values: a column where there are documents, enough of 100 hold it, and its different values are more than the limit.
abbrev pub home_by : Limits → ℕ → ℕ → ℕ → Home
home_by limits documents count distinct = if nat_lt 0 documents && (nat_le (limits.density * documents) (count * 100) && nat_lt limits.cardinality distinct) then home.Column else home.Reservoir

-- The home that is chosen for an attribute over documents: by how many hold its name with its kind, and the different values there.
abbrev pub home_over : Limits → List Fields → Attribute → Home
home_over limits documents a = home_by limits (length documents) (length (values_in a.name a.kind documents)) (length (different (values_in a.name a.kind documents)))

-- The choice for the attribute with a number, of whose documents so many have been counted.
abbrev pub choice_by : Limits → ℕ → ℕ → Tallied → Choice
choice_by limits documents id t = record { id = number id; home = home_by limits documents t.count (differing.many t.values) }

-- The choice for the attribute with a number over documents.
abbrev pub choice_over : Limits → List Fields → ℕ → Attribute → Choice
choice_over limits documents id a = record { id = number id; home = home_over limits documents a }

-- Each attribute has the home that is chosen for it over documents, in the order of numbers.
pub record AreChosen (limits : Limits) (attributes : List Attribute) (documents : List Fields) (choices : List Choice) : Type 0 where
  pub many : length choices ≡ length attributes
  pub each : (id : ℕ) (a : Attribute) → slice_get attributes id ≡ Some a → slice_get choices id ≡ Some (choice_over limits documents id a)

-- Each attribute of a survey has the home that its counts give, in the order of numbers.
pub record AreBySurvey (limits : Limits) (s : Surveyed) (choices : List Choice) : Type 0 where
  pub many : length choices ≡ length s.tallies
  pub each : (id : ℕ) (t : Tallied) → slice_get s.tallies id ≡ Some t → slice_get choices id ≡ Some (choice_by limits s.documents id t)
