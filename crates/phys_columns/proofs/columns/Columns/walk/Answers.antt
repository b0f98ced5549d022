use Rattle.std.proofs.Common.{◌∙◌}
use Rattle.phys_columns.proofs.Held.{paged_there, read_some, read_none}
use Rattle.phys_columns.proofs.Walks.{walked, walked_none}
use Rattle.phys_columns.proofs.columns.Columns.walk.Goals as goal

pub returns-in-Some : goal.returns-in-Some
returns-in-Some c = rw (← c.self.view_is) (record {
  exact = c.new.ensures.exact ∙ walked c.in-Some.column.now.pages.items c.args.id.0 c.args.page _ c.page.result (paged_there _ c.deref.result.now c.args.id.0 c.in-Some.column.now c.deref.ensures.value c.self.invariant.paged c.in-Some.ensures.lookup.3.0 c.in-Some.ensures.lookup.1) c.page.ensures.exact (λ v. read_some _ c.deref.result.now c.args.id.0 v c.in-Some.column.now c.deref.ensures.value c.self.invariant.paged c.in-Some.ensures.lookup.3.0 c.in-Some.ensures.lookup.1);
})

pub returns-in-None : goal.returns-in-None
returns-in-None c = rw (← c.self.view_is) (record { exact = c.new-in-None.ensures.exact ∙ walked_none c.args.id.0 c.args.page _ (λ v. read_none _ c.deref.result.now c.args.id.0 v c.deref.ensures.value c.self.invariant.paged c.in-None.ensures.lookup.3) })
