use Rattle.std.proofs.Common.{ap}
use Rattle.std.proofs.lemmas.Result.{IfOk-weaker}
use Rattle.commit_core.specs.Agreement.{ReadingOf}
use Rattle.commit_core.specs.Commits.{texts_of}
use Rattle.sinew_app.proofs.Told.{answered_over_all}
use Rattle.sinew_app.proofs.answering.answer_query.Goals as goal

pub returns : goal.returns
returns c =
    let entries = c.args.store.now.commits in
    record {
      ok = IfOk-weaker _ _ _
          (λ reply answered. answered_over_all c.in_ok-reading.reading c.reread.new.reading c.args.prepared.now entries reply
          (ap (λ (r : ReadingOf). r.text) c.in_ok-reading.ensures.ok)
          (c.in_ok-reread.ensures.exact.0, c.in_ok-reread.ensures.exact.1)
          (answered (texts_of entries) c.in_ok-reread.ensures.ok))
          c.finish.ensures.ok;
    }
