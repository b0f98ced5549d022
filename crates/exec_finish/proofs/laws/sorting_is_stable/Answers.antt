use Rattle.exec_finish.proofs.Sorting.{IsPermutation-ordered, sorted_ordered, IsStableBy-ordered, only_ordered}
use Rattle.exec_finish.proofs.laws.sorting_is_stable.Goals as goal

pub returns : goal.returns
returns c = record {
  same = λ descending rows. IsPermutation-ordered descending rows;
  rises = λ descending rows. sorted_ordered descending rows;
  stable = λ descending rows. IsStableBy-ordered descending rows;
  only = λ descending rows others up stable. only_ordered descending rows others up stable;
}
