use Rattle.script_reader.proofs.Apart.{told_apart}
use Rattle.script_reader.proofs.laws.lines_are_told_apart.Goals as goal

pub returns : goal.returns
returns c = told_apart
