use Rattle.std.proofs.Common.{◌≡◌, ◌<◌, [], length, take}
use Rattle.std.specs.Prelude.{All}
use Rattle.indexmap.specs.IndexSet.{insert_all}
use Rattle.exec_finish.specs.Numbered.{row_at, rows_at}
use Rattle.exec_finish.proofs.Numbers.{are_alike}
use Rattle.exec_finish.proofs.distinct.distinct.Given as goal

-- the set has the rows that are kept, which are the first of those so far that are alike
abbrev pub invariant-loop-number : goal.invariant-loop-number
invariant-loop-number l =
    (l.seen.keys ≡ rows_at l.plan l.tuples [] l.kept.items)
    × (l.kept.items ≡ insert_all (are_alike (row_at l.plan l.tuples [])) [] (take l.number-index l.numbers))
    × All (λ n. n < length l.tuples) l.kept.items
