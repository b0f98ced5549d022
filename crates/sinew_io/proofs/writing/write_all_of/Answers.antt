use Rattle.std.proofs.Common.{arith}
use Rattle.std.proofs.lemmas.Grind.{common_steps}
use Rattle.sinew_io.proofs.UnderWay.{Took-more}
use Rattle.sinew_io.proofs.writing.write_all_of.Goals as goal

pub loop-count-preserved : goal.loop-count-preserved
loop-count-preserved g c = record {
  within = grind (arith, common_steps, c.in-Bytes.ensures.exact.1);
  took = Took-more _ _ _ _ _ _ c.loop-count.invariant.took c.in-Bytes.ensures.exact.2;
  later = omega (arith, c.in-Bytes.ensures.cause.later);
  unmoved = λ none. absurd (omega (arith, c.in-Bytes.ensures.exact.0));
}
