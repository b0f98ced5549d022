use Rattle.commit_core.proofs.WholeLines.{IsLines-told}
use Rattle.commit_core.proofs.laws.every_reply_is_lines.Goals as goal

pub returns : goal.returns
returns c = record { law = λ text texts. IsLines-told c.answers_are_lines.ensures.finished c.meanings_are_on_one_line.ensures.kept c.document_arrays_are_one_line.ensures text texts }
