use Rattle.std.proofs.Common.{ℕ, ◌+◌, ◌-◌, ◌/◌, arith}
use Rattle.reservoir_record.proofs.Probing.{rises, cost_more, left_more, needed_more, needed_all}
use Rattle.reservoir_record.proofs.finding.place.Goals as goal

pub loop-low-preserved-in-Less : goal.loop-low-preserved-in-Less
loop-low-preserved-in-Less g c =
    let i = c.loop-low.invariant in
    let middle : ℕ = c.loop-low.low + (c.loop-low.high - c.loop-low.low) / 2 in
    record {
      order = omega arith;
      within = i.within;
      below = λ k lt. omega (arith, rises c.args.numbers.now.bytes.now c.args.count k (c.loop-low.low + (c.loop-low.high - c.loop-low.low) / 2) c.requires.ascend (omega arith) (omega arith), c.in-Less.ensures.exact);
      above = i.above;
      counted = omega arith;
      cost = cost_more c.args.steps.now c.loop-low.steps c.compare.new.steps (c.loop-low.high - c.loop-low.low) c.args.count i.counted c.compare.ensures.counted (omega arith) i.left;
      left = left_more c.args.steps.now c.loop-low.steps c.compare.new.steps (c.loop-low.high - c.loop-low.low) (c.loop-low.high - (c.loop-low.low + (c.loop-low.high - c.loop-low.low) / 2 + 1)) c.args.count i.counted c.compare.ensures.counted (omega arith) i.left;
      probed = λ _. omega arith;
      needed = needed_more c.args.steps.now c.loop-low.steps c.compare.new.steps (c.loop-low.high - c.loop-low.low) (c.loop-low.high - (c.loop-low.low + (c.loop-low.high - c.loop-low.low) / 2 + 1)) c.args.count i.counted c.compare.ensures.counted (omega arith) i.needed;
    }

pub returns-in-Equal-clause-cost : goal.returns-in-Equal-clause-cost
returns-in-Equal-clause-cost g c =
    let i = c.loop-low.invariant in
    cost_more c.args.steps.now c.loop-low.steps c.compare.new.steps (c.loop-low.high - c.loop-low.low) c.args.count i.counted c.compare.ensures.counted (omega arith) i.left

pub loop-low-preserved : goal.loop-low-preserved
loop-low-preserved g c =
    let i = c.loop-low.invariant in
    record {
      order = omega arith;
      within = omega (arith, i.within);
      below = i.below;
      above = λ k from lt. omega (arith, rises c.args.numbers.now.bytes.now c.args.count (c.loop-low.low + (c.loop-low.high - c.loop-low.low) / 2) k c.requires.ascend from lt, c.in-Greater.ensures.exact);
      counted = omega arith;
      cost = cost_more c.args.steps.now c.loop-low.steps c.compare.new.steps (c.loop-low.high - c.loop-low.low) c.args.count i.counted c.compare.ensures.counted (omega arith) i.left;
      left = left_more c.args.steps.now c.loop-low.steps c.compare.new.steps (c.loop-low.high - c.loop-low.low) (c.loop-low.low + (c.loop-low.high - c.loop-low.low) / 2 - c.loop-low.low) c.args.count i.counted c.compare.ensures.counted (omega arith) i.left;
      probed = λ _. omega arith;
      needed = needed_more c.args.steps.now c.loop-low.steps c.compare.new.steps (c.loop-low.high - c.loop-low.low) (c.loop-low.low + (c.loop-low.high - c.loop-low.low) / 2 - c.loop-low.low) c.args.count i.counted c.compare.ensures.counted (omega arith) i.needed;
    }

pub returns-clause-least : goal.returns-clause-least
returns-clause-least g c = let i = c.loop-low.invariant in needed_all c.loop-low.low c.loop-low.high (c.loop-low.steps - c.args.steps.now) c.args.count (omega arith) i.needed
