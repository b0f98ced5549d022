-- What an attribute is, and each change that is made to one.
use Rattle.std.specs.Prelude.{ℕ, ◌+◌, ◌-◌, Bool, true, false, List, Option, Some, None, unwrap_or, option_map, if◌then◌else◌}
use Rattle.doc_values.specs.declared.kind.Kind as kind
use Rattle.attr_catalog.specs.declared.home.Home as home

-- An attribute: a name with a kind, how many documents hold it, its home, and its mark, which is none while it is clean and else the number of versions that are known to be clean.
pub record Attribute : Type 0 where
  pub name : List ℕ
  pub kind : kind.Kind
  pub count : ℕ
  pub home : home.Home
  pub mark : Option ℕ

-- An attribute that no document holds yet.
abbrev pub fresh : List ℕ → kind.Kind → Attribute
fresh named of = record { name = named; kind = of; count = 0; home = home.TheVariants.Reservoir; mark = None }

-- One document more holds it.
abbrev pub raised : Attribute → Attribute
raised a = record a { count = a.count + 1 }

-- One document fewer holds it.
abbrev pub lowered : Attribute → Attribute
lowered a = record a { count = a.count - 1 }

-- Whether two homes are one.
abbrev pub same_home : home.Home → home.Home → Bool
same_home home.TheVariants.Reservoir home.TheVariants.Reservoir = true
same_home home.TheVariants.Column home.TheVariants.Column = true
same_home home.TheVariants.Reservoir home.TheVariants.Column = false
same_home home.TheVariants.Column home.TheVariants.Reservoir = false

-- It has this home: where that is another than before, it is dirty, and no version is known to be clean.
abbrev pub housed : home.Home → Attribute → Attribute
housed to a = if same_home a.home to then a else record a { home = to; mark = Some 0 }

-- It is dirty: the versions below a number are clean, or those that were, where it was dirty before.
abbrev pub dirtied : ℕ → Attribute → Attribute
dirtied from a = record a { mark = Some (unwrap_or a.mark from) }

-- One version more is clean.
abbrev pub advanced : Attribute → Attribute
advanced a = record a { mark = option_map (λ clean_to. clean_to + 1) a.mark }

-- It is clean.
abbrev pub cleared : Attribute → Attribute
cleared a = record a { mark = None }
