use Rattle.sinew_laws.proofs.KindLemmas.{part_gives}
use Rattle.sinew_laws.proofs.kinds.parts_are_of_the_wanted_kind.Goals as goal

pub returns : goal.returns
returns c = λ scope group t part want k of kept. part_gives scope group want of kept
