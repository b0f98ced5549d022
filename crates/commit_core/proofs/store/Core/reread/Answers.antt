use Rattle.std.proofs.Common.{List, subst}
use Rattle.doc_values.specs.declared.col_ref.ColRef.{ColRef}
use Rattle.query_meaning.specs.Plans.{rows_under}
use Rattle.query_meaning.specs.Runs.{AreRowsFor}
use Rattle.commit_core.specs.Commits.{texts_of}
use Rattle.commit_core.specs.OneWrite.{state_of}
use Rattle.commit_core.specs.Plan.{plan_of}
use Rattle.commit_core.specs.Query.{documents_asked}
use Rattle.commit_core.proofs.Agreements.{Agrees-all, read_storable, each_table}
use Rattle.commit_core.proofs.store.Core.reread.Goals as goal

pub fill-requires : goal.fill-requires
fill-requires c =
    let asked = c.plan.ensures.exact in
    let entries = c.args.self.now.commits in
    let plan = c.plan.result.now in
    let rows = read_storable c.documents_are_maps.ensures.kept plan.refs asked.question (state_of entries) (each_table plan (plan_of c.args.reading.now.text) asked) (c.states_keep_the_rules.ensures (texts_of entries)) in
    rw (c.in_ok-rows.ensures.ok (plan_of c.args.reading.now.text) asked)
    (subst (λ (references : List (List ColRef)). AreRowsFor references (rows_under plan.refs asked.question (documents_asked asked.question (state_of entries)))) c.plan.ensures.references rows)

pub returns-clause-ok : goal.returns-clause-ok
returns-clause-ok c =
    let asked = c.plan.ensures.exact in
    rw (c.fill.ensures.exact, c.now.ensures.exact)
    (Agrees-all c.plans_keep_meaning.ensures.serve c.args.reading.now.text c.plan.result.now c.args.reading.now.references c.args.self.now.commits c.in_ok-rows.rows asked c.plan.ensures.references
    (c.in_ok-rows.ensures.ok (plan_of c.args.reading.now.text) asked))
