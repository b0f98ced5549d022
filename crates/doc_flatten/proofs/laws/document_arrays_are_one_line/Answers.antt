use Rattle.doc_flatten.specs.Lines.{HasOneLineArrays}
use Rattle.doc_flatten.proofs.EachDocument.{documents_of-each}
use Rattle.doc_flatten.proofs.OneLine.{document_of_members-lines}
use Rattle.doc_flatten.proofs.laws.document_arrays_are_one_line.Goals as goal

pub returns : goal.returns
returns c = documents_of-each HasOneLineArrays (λ ms h. document_of_members-lines ms)
