-- When the parts of a record that is being made are those of its fields.
use Rattle.std.specs.Prelude.{List}
use Rattle.reservoir_record.specs.declared.fields.Field.{Field}
use Rattle.reservoir_record.specs.Spelling.{ArePartsOf}
use Rattle.document_records.specs.declared.parts.Parts.{Parts}

-- The parts are those of fields.
abbrev pub AreIn : List Field → Parts → Type 0
AreIn fields parts = ArePartsOf fields parts.ids.items parts.ends.items parts.values.items
