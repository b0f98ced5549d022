use Rattle.std.proofs.Common.{◌≡◌, take}
use Rattle.document_records.specs.StoredDocument.{pairs_of, document_with}
use Rattle.layout_store.proofs.whole.put_fields.Given as goal

abbrev pub invariant-loop-place : goal.invariant-loop-place
invariant-loop-place l = l.document ≡ document_with (pairs_of l.catalog) l.fn.document (take l.place l.stored)
