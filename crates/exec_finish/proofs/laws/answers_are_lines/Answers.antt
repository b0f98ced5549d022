use Rattle.exec_finish.proofs.WholeLines.{IsLines-answer, IsLines-finished}
use Rattle.exec_finish.proofs.laws.answers_are_lines.Goals as goal

pub returns : goal.returns
returns c = record {
  text = λ star rows h. IsLines-answer c.printed_values_are_one_line.ensures star rows h;
  finished = λ is_distinct descending limit star rows h. IsLines-finished c.printed_values_are_one_line.ensures is_distinct descending limit star rows h;
}
