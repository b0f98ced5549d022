use Rattle.std.proofs.Common.{◌≡◌, ◌++◌, map, take}
use Rattle.scan_batches.specs.Reading.{document_in}
use Rattle.scan_batches.proofs.read_rows.put_documents.Given as goal

abbrev pub invariant-loop-version : goal.invariant-loop-version
invariant-loop-version l = l.docs.items ≡ l.initial.docs.items ++ map (document_in l.layout) (take l.version-index l.versions)
