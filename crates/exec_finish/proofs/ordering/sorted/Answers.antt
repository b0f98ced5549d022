use Rattle.std.proofs.Common.{◌<◌, map, rules}
use Rattle.std.proofs.lemmas.List.Sorted.{All-permutation}
use Rattle.exec_finish.proofs.Numbers.{ordered_from_sort_by}
use Rattle.exec_finish.proofs.ordering.sorted.Goals as goal

pub returns : goal.returns
returns c =
    let numbers = c.args.numbers.items in
    let sorted = c.sort_by.new.self.items in
    record {
      ok = λ row keyed.
          ordered_from_sort_by (map (λ key. key.descending) c.args.keys.now) c.args.columns.now row keyed numbers sorted c.in_ok-sort_by.ensures.sorted c.in_ok-sort_by.ensures.stable (λ a r q k. search rules);
      within = λ most. All-permutation (λ n. n < most) numbers sorted c.in_ok-sort_by.ensures.permutation;
    }
