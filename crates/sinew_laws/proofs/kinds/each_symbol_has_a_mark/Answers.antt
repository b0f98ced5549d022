use Rattle.sinew_laws.proofs.MarkLemmas.{marks_of_symbols}
use Rattle.sinew_laws.proofs.kinds.each_symbol_has_a_mark.Goals as goal

pub returns : goal.returns
returns c = marks_of_symbols
