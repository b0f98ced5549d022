use Rattle.std.proofs.Common.{◌≡◌, map}
use Rattle.std.specs.List.{range_with_len}
use Rattle.row_columns.specs.Placed.{alone_at}
use Rattle.row_columns.proofs.tuples.all_places.Given as goal

abbrev pub invariant-loop-row : goal.invariant-loop-row
invariant-loop-row l = l.places.items ≡ map alone_at (range_with_len 0 l.row)
