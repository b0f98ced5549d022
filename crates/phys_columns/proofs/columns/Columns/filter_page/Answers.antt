use Rattle.std.proofs.Common.{◌∙◌, ◌+◌, ◌*◌, ap, sym}
use Rattle.phys_columns.specs.Filtered.{is_met}
use Rattle.phys_columns.proofs.Held.{read_some, read_none}
use Rattle.phys_columns.proofs.Bits.{no_bit}
use Rattle.phys_columns.proofs.columns.Columns.filter_page.Goals as goal

pub returns-in-Some : goal.returns-in-Some
returns-in-Some c = rw (← c.self.view_is) (record { exact = λ w j few below. c.filter.ensures.exact w j few below ∙ ap (is_met c.args.test) (sym (read_some _ c.deref.result.now c.args.id.0 (1024 * c.args.page + (64 * w + j)) c.in-Some.column.now c.deref.ensures.value c.self.invariant.paged c.in-Some.ensures.lookup.3.0 c.in-Some.ensures.lookup.1)) })

pub returns-in-None : goal.returns-in-None
returns-in-None c = rw (← c.self.view_is) (record { exact = λ w j few below. no_bit w j few ∙ ap (is_met c.args.test) (sym (read_none _ c.deref.result.now c.args.id.0 (1024 * c.args.page + (64 * w + j)) c.deref.ensures.value c.self.invariant.paged c.in-None.ensures.lookup.3)) })
