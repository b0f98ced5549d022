-- SQL's three truth values: their tables, and how they stand as values.
use Rattle.std.specs.Prelude.{Bool, true, false, List, [], ◌∷◌, Option, Some, None, if◌then◌else◌}
use Rattle.doc_values.specs.declared.value.Value as value
use Rattle.sql_eval.specs.declared.truth_value.Truth.{Truth}
use Rattle.sql_eval.specs.declared.truth_value.Truth.TheVariants.{True, False, Unknown}

-- NOT: what is unknown stays so.
abbrev pub denied : Truth → Truth
denied True = False
denied False = True
denied Unknown = Unknown

-- AND of two: false where one is, else unknown where one is.
abbrev pub both : Truth → Truth → Truth
both False b = False
both True b = b
both Unknown False = False
both Unknown True = Unknown
both Unknown Unknown = Unknown

-- OR of two: true where one is, else unknown where one is.
abbrev pub either : Truth → Truth → Truth
either True b = True
either False b = b
either Unknown True = True
either Unknown False = Unknown
either Unknown Unknown = Unknown

-- AND of a chain.
abbrev pub all_of : List Truth → Truth
all_of [] = True
all_of (t ∷ ts) = both t (all_of ts)

-- OR of a chain.
abbrev pub any_of : List Truth → Truth
any_of [] = False
any_of (t ∷ ts) = either t (any_of ts)

-- A form with NOT is NOT of the form without.
abbrev pub unless : Bool → Truth → Truth
unless negated t = if negated then denied t else t

-- The truth of a test, which is unknown where the test can't be made.
abbrev pub tested : Option Bool → Truth
tested (Some true) = True
tested (Some false) = False
tested None = Unknown

-- A truth value as a value: unknown is NULL.
abbrev pub value_of : Truth → Option value.Value
value_of True = Some (value.TheVariants.Bool true)
value_of False = Some (value.TheVariants.Bool false)
value_of Unknown = None

-- What a value, or NULL, is in a place that wants a truth value; one of another kind is as NULL there.
abbrev pub truth_of : Option value.Value → Truth
truth_of (Some (value.TheVariants.Bool true)) = True
truth_of (Some (value.TheVariants.Bool false)) = False
truth_of _ = Unknown
