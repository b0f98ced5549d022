-- What is counted of an attribute.
use Rattle.std.specs.Prelude.{ℕ, ◌+◌, List, fold}
use Rattle.doc_values.specs.declared.value.Value.{Value}
use Rattle.schema_analyser.specs.Different.{Different, none_met, met}

-- How many documents hold the attribute, and the different values that they have of it.
pub record Tallied : Type 0 where
  pub count : ℕ
  pub values : Different

-- No document holds it.
abbrev pub untallied : Tallied
untallied = record { count = 0; values = none_met }

-- One document more holds it, with this value.
abbrev pub tallied_one : Tallied → Value → Tallied
tallied_one t value = record { count = t.count + 1; values = met t.values value }

-- One document more holds it for each of some values.
abbrev pub tallied : Tallied → List Value → Tallied
tallied t values = fold tallied_one t values
