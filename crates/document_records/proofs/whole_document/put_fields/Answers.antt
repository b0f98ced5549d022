use Rattle.std.proofs.Common.{[], arith}
use Rattle.document_records.proofs.WholeDocuments.{put_next}
use Rattle.document_records.specs.StoredDocument.{pairs_of}
use Rattle.document_records.proofs.whole_document.put_fields.Goals as goal

pub loop-place-preserved : goal.loop-place-preserved
loop-place-preserved c = put_next (pairs_of c.args.catalog.now) c.args.stored.now c.loop-place.place [] c.loop-place.document c.put_field.new.document (omega (arith, c.loop-place-test.true, c.len-place-end.ensures.exact)) c.in_ok-put_field.ensures.ok c.loop-place.invariant
