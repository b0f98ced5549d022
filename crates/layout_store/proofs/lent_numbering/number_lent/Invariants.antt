use Rattle.std.proofs.Common.{◌≡◌, take}
use Rattle.layout_store.specs.Numbering.{with_fields}
use Rattle.document_records.specs.StoredDocument.{pairs_of}
use Rattle.layout_store.specs.Numbering.{HasGrown, HaveEntries}
use Rattle.layout_store.proofs.lent_numbering.number_lent.Given as goal

abbrev pub invariant-loop-place : goal.invariant-loop-place
invariant-loop-place l = record {
  grown : HasGrown l.fn.catalog l.catalog;
  entered : HaveEntries (pairs_of l.catalog) 0 (take l.place l.document) l.entries.items;
  pairs : pairs_of l.catalog ≡ with_fields (pairs_of l.fn.catalog) (take l.place l.document);
}
