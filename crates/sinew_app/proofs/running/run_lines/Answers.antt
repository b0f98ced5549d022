use Rattle.sinew_app.proofs.Growth.{turn}
use Rattle.sinew_app.proofs.running.run_lines.Goals as goal

pub loop-position-preserved : goal.loop-position-preserved
loop-position-preserved c =
    turn 0 c.args.script.now c.items-lines.result.now c.loop-position.position c.index-lines-position.result c.text.result.now
    c.loop-position.ran c.add.new.self c.loop-position.store.commits c.answer.new.store.commits c.in_ok-reply.reply
    c.items-lines.ensures.kept c.items-lines.ensures.exact c.loop-position-test.true c.index-lines-position.is c.text.ensures.exact
    c.loop-position.invariant c.in_ok-reply.ensures.ok c.in_ok-add.ensures.ok
