use Rattle.sinew_laws.proofs.AcrossKinds.{across_kinds}
use Rattle.sinew_laws.proofs.kinds.comparisons_of_other_kinds_are_unknown.Goals as goal

pub returns : goal.returns
returns c = across_kinds c.values_are_in_total_order.ensures.kinds
