use Rattle.std.proofs.Common.{subst}
use Rattle.doc_values.specs.Value.{IsStorable}
use Rattle.phys_columns.specs.Pages.{value_in}
use Rattle.phys_columns.proofs.page.Page.filter.Goals as goal

pub filter_numbers-requires-clause-storable : goal.filter_numbers-requires-clause-storable
filter_numbers-requires-clause-storable c k = rw c.deref.ensures.value (subst (λ s. IsStorable (value_in s k)) c.in-Numbers.is (c.requires.page.storable k))
