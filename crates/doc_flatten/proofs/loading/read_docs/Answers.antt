use Rattle.std.proofs.Common.{ap, ◌∙◌}
use Rattle.std.proofs.lemmas.Result.{IfOk-weaker}
use Rattle.doc_flatten.specs.Documents.{documents_or_unread, IsWithinLimits}
use Rattle.doc_flatten.proofs.EachDocument.{documents_of-each}
use Rattle.doc_flatten.proofs.Limits.{document_of_members-limits}
use Rattle.doc_flatten.proofs.loading.read_docs.Goals as goal

pub returns-in-Ok-clause-kept : goal.returns-in-Ok-clause-kept
returns-in-Ok-clause-kept c =
    IfOk-weaker c.documents_in.result _ _ (λ docs e. documents_of-each IsWithinLimits document_of_members-limits c.args.text.now docs (ap documents_or_unread c.in-Ok.ensures.ok ∙ e)) c.documents_in.ensures.ok
