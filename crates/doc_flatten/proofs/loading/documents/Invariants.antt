use Rattle.std.proofs.Common.{◌≡◌, ◌+◌, drop}
use Rattle.serde_json.specs.View.{items_view}
use Rattle.doc_flatten.specs.Documents.{documents_from}
use Rattle.doc_flatten.proofs.Loaded.{after}
use Rattle.doc_flatten.proofs.loading.documents.Given as goal

abbrev pub invariant-loop-before : goal.invariant-loop-before
invariant-loop-before l =
    after l.docs (documents_from (l.before + 1) (items_view (drop l.before l.trees))) ≡ documents_from 1 (items_view l.trees)
