use Rattle.doc_values.proofs.OneLine.{IsOneLine-printed}
use Rattle.doc_values.proofs.laws.printed_values_are_one_line.Goals as goal

pub returns : goal.returns
returns c = IsOneLine-printed
