use Rattle.std.proofs.lemmas.Result.{IfOk-weaker}
use Rattle.sinew_app.proofs.Told.{refused_unchanged, read_unchanged}
use Rattle.sinew_app.proofs.answering.answer.Goals as goal

pub returns-in-Refused-clause-ok : goal.returns-in-Refused-clause-ok
returns-in-Refused-clause-ok c =
    IfOk-weaker _ _ _
    (λ reply. refused_unchanged c.args.caller c.in_ok-prepared.prepared c.args.text.now c.args.store.now.commits reply
    c.in_ok-prepared.ensures.ok c.in-Refused.ensures.exact)
    c.refusal.ensures.ok

pub returns-in-Read-clause-ok : goal.returns-in-Read-clause-ok
returns-in-Read-clause-ok c =
    IfOk-weaker _ _ _
    (λ reply. read_unchanged c.args.caller c.in_ok-prepared.prepared c.args.text.now c.args.store.now.commits reply
    c.in_ok-prepared.ensures.ok c.in-Read.ensures.exact)
    c.answer_query.ensures.ok
