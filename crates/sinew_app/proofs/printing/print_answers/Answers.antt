use Rattle.std.proofs.Common.{length}
use Rattle.std.proofs.lemmas.Slice.Zip.{zip_end}
use Rattle.sinew_app.proofs.Texts.{answers_done}
use Rattle.sinew_app.proofs.printing.print_answers.Goals as goal

pub returns : goal.returns
returns c =
    let lines = c.args.lines.now in
    let replies = c.args.replies.now in
    let yielded = c.loop-line.yielded in
    let n = zip_end lines replies yielded c.into_iter-line-iterator.result c.loop-line.line-iterator c.next.new.self _ (cc) (cc) c.loop-line.yielded_by c.in-None.is c.next.ensures.steps in
    record { ok = answers_done lines replies (length yielded) c.loop-line.out _ n c.loop-line.invariant }
