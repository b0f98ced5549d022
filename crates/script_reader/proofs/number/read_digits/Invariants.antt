use Rattle.std.proofs.Common.{◌≡◌, ◌≤◌, drop}
use Rattle.script_reader.specs.Pieces.{at_most, number_behind}
use Rattle.script_reader.proofs.number.read_digits.Given as goal

abbrev pub invariant-loop-digit : goal.invariant-loop-digit
invariant-loop-digit l = record {
  small : l.number ≤ l.most;
  rest : at_most l.most (number_behind l.number (drop l.digit-index l.word)) ≡ at_most l.most (number_behind 0 l.word);
}
