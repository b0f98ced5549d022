use Rattle.script_reader.proofs.Apart.{numbers_small}
use Rattle.script_reader.proofs.laws.numbers_are_small.Goals as goal

pub returns : goal.returns
returns c = numbers_small
