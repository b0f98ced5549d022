use Rattle.std.proofs.Common.{◌≡◌, List, flat_map, take}
use Rattle.row_columns.specs.Column.{Values}
use Rattle.exec_finish.specs.Answer.{row_line}
use Rattle.exec_finish.specs.Numbered.{rows_at}
use Rattle.exec_finish.proofs.printing.printed.Given as goal

abbrev pub invariant-loop-number : goal.invariant-loop-number
invariant-loop-number l = (columns : List Values) → l.text.items ≡ flat_map (row_line l.star) (rows_at l.plan l.tuples columns (take l.number-index l.numbers))
