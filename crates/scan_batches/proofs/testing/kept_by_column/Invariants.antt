use Rattle.std.proofs.Common.{◌≡◌, Some, filter, take}
use Rattle.doc_values.specs.Lent.{owned}
use Rattle.doc_values.specs.declared.col_ref.ColRef.{ColRef}
use Rattle.sql_eval.specs.Operators.{comparison}
use Rattle.exec_join.specs.Filter.{keeps}
use Rattle.scan_batches.specs.Reading.{path_for, values_for}
use Rattle.scan_batches.proofs.testing.kept_by_column.Given as goal

abbrev pub invariant-loop-version : goal.invariant-loop-version
invariant-loop-version l = (c : ColRef) → l.path ≡ path_for l.layout.attributes c
    → l.kept.items ≡ filter (λ v. keeps (comparison l.test.op (values_for l.layout c v) (Some (owned l.test.literal)))) (take l.version-index l.versions)
