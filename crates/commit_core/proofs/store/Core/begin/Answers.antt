use Rattle.commit_core.proofs.store.Core.begin.Goals as goal

pub returns-clause-agrees : goal.returns-clause-agrees
returns-clause-agrees c = c.new.ensures.agrees c.args.self.now.commits c.now.ensures.exact
