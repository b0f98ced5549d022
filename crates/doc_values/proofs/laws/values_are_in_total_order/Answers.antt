use Rattle.std.proofs.Common.{Some}
use Rattle.std.proofs.lemmas.Cmp.{on_total}
use Rattle.std.proofs.lemmas.List.Sorted.{ranks_by}
use Rattle.doc_values.proofs.Ordered.{IsTotalOrder-total_order, tells_apart}
use Rattle.doc_values.proofs.laws.values_are_in_total_order.Goals as goal

pub returns-clause-total : goal.returns-clause-total
returns-clause-total c = IsTotalOrder-total_order

pub returns-clause-values : goal.returns-clause-values
returns-clause-values c = on_total Some IsTotalOrder-total_order

pub returns-clause-sorts : goal.returns-clause-sorts
returns-clause-sorts c = ranks_by IsTotalOrder-total_order (λ v. v)

pub returns-clause-apart : goal.returns-clause-apart
returns-clause-apart c = tells_apart
