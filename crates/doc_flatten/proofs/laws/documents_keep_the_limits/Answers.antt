use Rattle.doc_flatten.specs.Documents.{IsWithinLimits}
use Rattle.doc_flatten.proofs.EachDocument.{documents_of-each}
use Rattle.doc_flatten.proofs.Limits.{document_of_members-limits}
use Rattle.doc_flatten.proofs.laws.documents_keep_the_limits.Goals as goal

pub returns : goal.returns
returns c = documents_of-each IsWithinLimits document_of_members-limits
