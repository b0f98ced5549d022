use Rattle.std.proofs.Common.{eqb}
use Rattle.std.specs.Ordering.{int_eq}
use Rattle.phys_columns.proofs.Lanes.{lanes_met, signed_eq}
use Rattle.phys_columns.proofs.comparing.equal.Goals as goal

pub returns : goal.returns
returns c = record { exact = λ j under. lanes_met eqb int_eq signed_eq c.args.numbers.now c.args.at c.args.with c.requires.within c.requires.fit c.ranges.with j under }
