use Rattle.sinew_app.proofs.Texts.{commits_turn}
use Rattle.sinew_app.proofs.printing.print_commits.Goals as goal

pub loop-index-preserved : goal.loop-index-preserved
loop-index-preserved c =
    commits_turn c.args.lines.now c.args.order.now c.loop-index.index c.get.result c.loop-index.out c.in_ok-out.out _
    c.loop-index-test.true c.get.ensures.lookup c.in_ok-out.ensures.ok c.loop-index.invariant
