use Rattle.std.proofs.Common.{◌≡◌, [], take}
use Rattle.document_records.specs.StoredDocument.{pairs_of, document_with}
use Rattle.document_records.proofs.whole_document.put_fields.Given as goal

abbrev pub invariant-loop-place : goal.invariant-loop-place
invariant-loop-place l = l.document ≡ document_with (pairs_of l.catalog) [] (take l.place l.stored)
