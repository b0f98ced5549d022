use Rattle.std.proofs.Common.{ℕ, List, length, arith, ap}
use Rattle.reservoir_record.specs.Walking.{fields_in}
use Rattle.document_records.proofs.record.Record.id.Goals as goal

pub field-requires-clause-within : goal.field-requires-clause-within
field-requires-clause-within c = λ fields s.
    let same = c.a_spelling_has_its_fields_in_place.ensures fields c.deref.result.now s in
    omega (arith, ap length same, ap length c.self.view_is, ap (λ (b : List ℕ). length (fields_in b)) c.deref.ensures.value, c.requires)
