use Rattle.std.proofs.Common.{◌≡◌, ◌∙◌, List, ap, subst}
use Rattle.std.proofs.lemmas.Result.{IfOk-weaker}
use Rattle.row_versions.specs.History.{rows_of}
use Rattle.schema_analyser.specs.Survey.{Surveyed, HasTaken}
use Rattle.schema_analyser.proofs.Counted.{chosen}
use Rattle.schema_analyser.proofs.choosing.choose_now.Goals as goal

pub returns : goal.returns
returns c =
    let s = c.args.layout.now in
    let rows : c.rows.result ≡ rows_of s.history.versions = c.rows.ensures.exact ∙ ap (λ h. rows_of h.versions) c.versions.ensures.exact in
    let taken : HasTaken s c.args.now 0 (rows_of s.history.versions) c.new-survey.result c.take.new.self = rw rows at c.in_ok-take.ensures.ok in
    let all = rw c.new-survey.ensures.exact at taken in
    record { ok = IfOk-weaker c.choose.result _ _ (λ choices by. chosen c.args.limits s c.args.now c.take.new.self choices.items all by) c.choose.ensures.ok }
