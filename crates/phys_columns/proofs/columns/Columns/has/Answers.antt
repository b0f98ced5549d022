use Rattle.std.proofs.Common.{◌∙◌, ap, sym, is_some}
use Rattle.phys_columns.proofs.Held.{read_some, read_none}
use Rattle.phys_columns.proofs.columns.Columns.has.Goals as goal

pub returns-in-Some : goal.returns-in-Some
returns-in-Some c = rw (← c.self.view_is) (record { exact = c.has.ensures.exact ∙ sym (ap is_some (read_some _ c.deref.result.now c.args.id.0 c.args.version c.in-Some.column.now c.deref.ensures.value c.self.invariant.paged c.in-Some.ensures.lookup.3.0 c.in-Some.ensures.lookup.1)) })

pub returns-in-None : goal.returns-in-None
returns-in-None c = rw (← c.self.view_is) (record { exact = sym (ap is_some (read_none _ c.deref.result.now c.args.id.0 c.args.version c.deref.ensures.value c.self.invariant.paged c.in-None.ensures.lookup.3)) })
