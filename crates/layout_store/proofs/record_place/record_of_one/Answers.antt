use Rattle.std.proofs.Common.{[], ◌∷◌, length-append, arith}
use Rattle.doc_values.specs.Lent.{owned}
use Rattle.reservoir_record.specs.declared.fields.Field.{Field}
use Rattle.reservoir_record.specs.Spelling.{AreFields}
use Rattle.document_records.specs.StoredValue.{bytes_of}
use Rattle.layout_store.proofs.record_place.record_of_one.Goals as goal

pub record-requires : goal.record-requires
record-requires c =
    let f : Field = record { id = c.args.id; bytes = bytes_of (owned c.args.value) } in
    let lawful : AreFields (f ∷ []) = record { ascend = (omega arith, c.requires.small, tt); fit = omega (arith, length-append (bytes_of (owned c.args.value)) [], c.requires.fit) } in
    (f ∷ [], (lawful, c.in_ok-push.ensures.ok [] c.new-parts.ensures.exact))

pub returns : goal.returns
returns c =
    let f : Field = record { id = c.args.id; bytes = bytes_of (owned c.args.value) } in
    record { ok = c.record.ensures.ok (f ∷ []) (c.in_ok-push.ensures.ok [] c.new-parts.ensures.exact) }
