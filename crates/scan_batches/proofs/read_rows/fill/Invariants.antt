use Rattle.std.proofs.Common.{◌≡◌, ◌++◌, map, take}
use Rattle.doc_values.specs.declared.col_ref.ColRef.{ColRef}
use Rattle.scan_batches.specs.Reading.{path_for, values_for}
use Rattle.scan_batches.proofs.read_rows.fill.Given as goal

abbrev pub invariant-loop-version : goal.invariant-loop-version
invariant-loop-version l = (c : ColRef) → l.path ≡ path_for l.layout.attributes c → l.column ≡ l.initial.column ++ map (values_for l.layout c) (take l.version-index l.versions)
