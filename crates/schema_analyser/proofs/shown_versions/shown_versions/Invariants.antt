use Rattle.std.proofs.Common.{◌≡◌, ◌<◌, ◌≤◌, ◌+◌, All, map, length}
use Rattle.layout_store.specs.Documents.{document_at}
use Rattle.schema_analyser.specs.Survey.{documents_between}
use Rattle.schema_analyser.proofs.shown_versions.shown_versions.Given as goal

-- the documents are those of the rows so far, and there is at most one of each
abbrev pub invariant-loop-row : goal.invariant-loop-row
invariant-loop-row l = record {
  documents : map (λ v. document_at l.layout v.0) l.versions.items ≡ documents_between l.layout l.now l.from l.row;
  standing : All (λ v. v.0 < length l.layout.history.versions) l.versions.items;
  few : length l.versions.items + l.from ≤ l.row;
}
