use Rattle.std.proofs.Common.{◌≡◌, ◌+◌, length, length-append, arith, ap}
use Rattle.reservoir_record.specs.declared.fields.Field.{Field}
use Rattle.doc_values.specs.Lent.{owned}
use Rattle.document_records.specs.StoredValue.{bytes_of}
use Rattle.document_records.proofs.parts.Parts.push.Goals as goal

pub returns-in-Ok-clause-ok : goal.returns-in-Ok-clause-ok
returns-in-Ok-clause-ok c = λ fields h.
    let f : Field = record { id = c.args.id; bytes = bytes_of (owned c.args.value) } in
    let more = c.parts_of_one_more.ensures fields f c.args.self.now.ids.items c.args.self.now.ends.items c.args.self.now.values.items h in
    let len : c.len-end.result ≡ length c.args.self.now.values.items + length (bytes_of (owned c.args.value)) = omega (arith, ap length c.in_ok-push_value.ensures.ok, length-append c.args.self.now.values.items (bytes_of (owned c.args.value))) in
    rw (c.in-Ok.ensures.ok.0, c.in-Ok.ensures.ok.1, c.in_ok-push_value.ensures.ok, len) more
