use Rattle.std.proofs.Common.{int_lt}
use lib.Signed.{lt_z}
use mir.Syntax.{w64}
use mir.Val.{to_z}
use Rattle.phys_columns.proofs.Lanes.{lanes_met, signed_lt}
use Rattle.phys_columns.proofs.comparing.below.Goals as goal

pub returns : goal.returns
returns c = record { exact = λ j under. lanes_met (λ a b. lt_z (to_z w64 a) (to_z w64 b)) int_lt signed_lt c.args.numbers.now c.args.at c.args.with c.requires.within c.requires.fit c.ranges.with j under }
