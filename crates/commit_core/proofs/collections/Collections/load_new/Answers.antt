use Rattle.std.proofs.Common.{◌≡◌, List, Err, rules, arith, ap, sym, subst, length, ◌∙◌}
use Rattle.std.proofs.lemmas.Result.{err_from_is_err_and}
use Rattle.write_plans.specs.Becomes.{IsSettled}
use Rattle.layout_store.specs.declared.grow_fault.GrowFault.TheVariants.{Full}
use Rattle.commit_core.specs.Stored.{Stored, AreAsBefore}
use Rattle.commit_core.proofs.Tables.{nothing-settled, table-new, full-unstored, crowded-stored, on-err, same-err, before-same}
use Rattle.commit_core.proofs.collections.Collections.load_new.Goals as goal

pub load-requires-clause-settled : goal.load-requires-clause-settled
load-requires-clause-settled c =
    subst (λ (t : Stored). IsSettled c.args.now t.storage) (sym c.in_ok-table.ensures.ok) (nothing-settled c.rows_follow_their_documents.ensures.law c.latest_stays.ensures.law c.args.now c.args.name.now)

pub returns-then-len-ge-MOST_COLLECTIONS-clause-full : goal.returns-then-len-ge-MOST_COLLECTIONS-clause-full
returns-then-len-ge-MOST_COLLECTIONS-clause-full c = λ _.
    crowded-stored c.rows_follow_their_documents.ensures.law c.latest_stays.ensures.law c.args.now c.args.name.now c.args.documents.now c.args.self.now c.requires.unknown (omega (arith, ap length c.self.view_is))

pub returns-then-len-ge-MOST_COLLECTIONS-clause-kept : goal.returns-then-len-ge-MOST_COLLECTIONS-clause-kept
returns-then-len-ge-MOST_COLLECTIONS-clause-kept c = before-same c.args.self.now

pub returns-in_err-table-clause-kept : goal.returns-in_err-table-clause-kept
returns-in_err-table-clause-kept c = on-err c.from_residual.result (before-same c.args.self.now)

pub returns-in_err-load-clause-full : goal.returns-in_err-load-clause-full
returns-in_err-load-clause-full c = λ full.
    let returned = err_from_is_err_and c.from_residual-in_err-load.result c.from_residual-in_err-load.ensures.1 in
    let same : returned.0 ≡ Full = same-err c.from_residual-in_err-load.result returned.0 Full returned.1 full in
    full-unstored c.rows_follow_their_documents.ensures.law c.latest_stays.ensures.law c.args.now c.args.name.now c.args.documents.now c.args.self.now c.in_ok-table.table c.requires.unknown c.in_ok-table.ensures.ok (omega (arith, ap length c.self.view_is))
    ∙ c.in_err-load.ensures.full (ap Err (sym returned.2 ∙ same))

pub returns-in_err-load-clause-kept : goal.returns-in_err-load-clause-kept
returns-in_err-load-clause-kept c = on-err c.from_residual-in_err-load.result (before-same c.args.self.now)

pub returns-in_err-push-clause-kept : goal.returns-in_err-push-clause-kept
returns-in_err-push-clause-kept c =
    let same : c.args.self.now ≡ c.push.new.self.items = search rules in
    on-err c.from_residual-in_err-push.result (subst (λ (l : List Stored). AreAsBefore c.args.self.now l) same (before-same c.args.self.now))

pub returns-clause-ok : goal.returns-clause-ok
returns-clause-ok c =
    table-new c.rows_follow_their_documents.ensures.law c.latest_stays.ensures.law c.args.now c.args.name.now c.args.documents.now c.self.inside.tables.items c.args.self.now c.push.new.self.items c.in_ok-table.table c.load.new.self c.self.view_is c.requires.settled
    c.requires.unknown c.in_ok-table.ensures.ok c.in_ok-load.ensures.ok c.in_ok-push.ensures.items

pub returns-clause-within : goal.returns-clause-within
returns-clause-within c =
    full-unstored c.rows_follow_their_documents.ensures.law c.latest_stays.ensures.law c.args.now c.args.name.now c.args.documents.now c.args.self.now c.in_ok-table.table c.requires.unknown c.in_ok-table.ensures.ok (omega (arith, ap length c.self.view_is))
    ∙ c.in_ok-load.ensures.within
