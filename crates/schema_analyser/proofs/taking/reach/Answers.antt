use Rattle.std.proofs.Common.{◌∙◌, ap, arith, ◌++◌, ◌∷◌, [], length, length-append}
use Rattle.schema_analyser.specs.Survey.{tally_of}
use Rattle.schema_analyser.specs.Tally.{untallied}
use Rattle.schema_analyser.proofs.Taken.{pushed_same}
use Rattle.schema_analyser.proofs.taking.reach.Goals as goal

pub loop-place-preserved : goal.loop-place-preserved
loop-place-preserved c =
    let before = c.loop-place.tallies.items in
    let now = c.in_ok-push.ensures.items ∙ ap (λ t. before ++ t ∷ []) c.new.ensures.exact in
    record {
      many = omega (arith, ap length now, length-append before (untallied ∷ []), c.loop-place.invariant.many);
      most = omega (arith, c.loop-place-test.true);
      kept = λ id. ap (tally_of id) now ∙ pushed_same before id ∙ c.loop-place.invariant.kept id;
    }
