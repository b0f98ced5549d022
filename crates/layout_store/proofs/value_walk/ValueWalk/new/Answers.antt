use Rattle.std.proofs.Common.{ap}
use Rattle.std.specs.Prelude.{map}
use Rattle.layout_store.specs.Walked.{value_along}
use Rattle.layout_store.proofs.Dropped.{drop-none}
use Rattle.layout_store.proofs.value_walk.ValueWalk.new.Goals as goal

pub returns : goal.returns
returns c = record { exact = ap (map (value_along c.args.layout.now c.args.ways.now)) (drop-none c.args.versions.now) }
