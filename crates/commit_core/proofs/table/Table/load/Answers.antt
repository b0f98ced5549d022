use Rattle.std.proofs.Common.{◌≡◌, ℕ, false, true, List}
use Rattle.std.proofs.lemmas.Result.{on_ok_weaker}
use Rattle.write_plans.specs.Collection.{with_documents, is_beyond}
use Rattle.write_plans.specs.Becomes.{collection_in}
use Rattle.commit_core.proofs.table.Table.load.Goals as goal

pub returns-clause-within : goal.returns-clause-within
returns-clause-within c =
    rw (← c.self.view_is) (on_ok_weaker c.load.result (λ (h : (name : List ℕ) → is_beyond (with_documents c.args.documents.now (collection_in name c.self.inside.layout c.args.now)) ≡ false). h c.self.inside.name) c.load.ensures.within)

pub returns-clause-full : goal.returns-clause-full
returns-clause-full c = λ full. rw (← c.self.view_is) (c.load.ensures.full full c.self.inside.name)
