use Rattle.std.proofs.Common.{◌∙◌}
use Rattle.std.proofs.lemmas.Result.{on_ok_weaker, on_err_weaker}
use Rattle.commit_core.proofs.Tables.{settled-at, table-loaded, full-stored, before-set}
use Rattle.commit_core.proofs.collections.Collections.load.Goals as goal

pub load-requires-clause-settled : goal.load-requires-clause-settled
load-requires-clause-settled c =
    settled-at c.rows_follow_their_documents.ensures.law c.latest_stays.ensures.law c.args.now c.args.name.now c.self.inside.tables.items c.args.self.now c.in-Some.place c.index_mut-table.result.now c.self.view_is c.requires.settled c.in-Some.ensures.exact
    c.index_mut-table.ensures.value

pub returns-in-Some-clause-ok : goal.returns-in-Some-clause-ok
returns-in-Some-clause-ok c =
    on_ok_weaker
    c.load.result
    (λ changed. table-loaded c.rows_follow_their_documents.ensures.law c.latest_stays.ensures.law c.args.now c.args.name.now c.args.documents.now c.self.inside.tables.items c.args.self.now c.in-Some.place c.index_mut-table.result.now c.load.new.self c.self.view_is c.requires.settled c.in-Some.ensures.exact c.index_mut-table.ensures.value changed)
    c.load.ensures.ok

pub returns-in-Some-clause-within : goal.returns-in-Some-clause-within
returns-in-Some-clause-within c =
    on_ok_weaker
    c.load.result
    (λ fits. full-stored c.rows_follow_their_documents.ensures.law c.latest_stays.ensures.law c.args.now c.args.name.now c.args.documents.now c.self.inside.tables.items c.args.self.now c.in-Some.place c.index_mut-table.result.now c.self.view_is c.in-Some.ensures.exact c.index_mut-table.ensures.value c.self.invariant ∙ fits)
    c.load.ensures.within

pub returns-in-Some-clause-full : goal.returns-in-Some-clause-full
returns-in-Some-clause-full c = λ full.
    full-stored c.rows_follow_their_documents.ensures.law c.latest_stays.ensures.law c.args.now c.args.name.now c.args.documents.now c.self.inside.tables.items c.args.self.now c.in-Some.place c.index_mut-table.result.now c.self.view_is c.in-Some.ensures.exact c.index_mut-table.ensures.value c.self.invariant
    ∙ c.load.ensures.full full

pub returns-in-Some-clause-kept : goal.returns-in-Some-clause-kept
returns-in-Some-clause-kept c =
    on_err_weaker
    c.load.result
    (λ kept. before-set c.args.name.now c.self.inside.tables.items c.args.self.now c.in-Some.place c.index_mut-table.result.now c.load.new.self c.self.view_is c.in-Some.ensures.exact c.index_mut-table.ensures.value kept)
    c.load.ensures.kept
