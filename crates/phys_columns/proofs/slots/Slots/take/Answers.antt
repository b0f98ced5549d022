use Rattle.std.proofs.Common.{subst}
use Rattle.doc_values.specs.Value.{IsStorable}
use Rattle.phys_columns.specs.Pages.{value_in}
use Rattle.phys_columns.proofs.slots.Slots.take.Goals as goal

pub returns-in-Numbers-clause-storable : goal.returns-in-Numbers-clause-storable
returns-in-Numbers-clause-storable c all k = subst (λ s. IsStorable (value_in s k)) c.in-Numbers.is (all k)
