use Rattle.std.proofs.Common.{◌≡◌, ◌≤◌, ◌+◌, ℕ, List, Some, map, take}
use Rattle.doc_values.specs.declared.kind.Kind.{Kind as KindOf}
use Rattle.attr_catalog.specs.Paths.{lawful_path}
use Rattle.layout_store.specs.Documents.{document_at}
use Rattle.schema_analyser.specs.Survey.{values_in}
use Rattle.schema_analyser.specs.Tally.{tallied}
use Rattle.schema_analyser.proofs.taking.take_values.Given as goal

-- the tally has counted the values of the versions so far
abbrev pub invariant-loop-version : goal.invariant-loop-version
invariant-loop-version l = record {
  few : l.tally.count ≤ l.fn.tally.count + l.version-index;
  taken : (name : List ℕ) (of : KindOf) → l.path ≡ lawful_path name (Some of) l.layout.attributes → l.tally ≡ tallied l.fn.tally (values_in name of (map (λ v. document_at l.layout v.0) (take l.version-index l.versions)));
}
