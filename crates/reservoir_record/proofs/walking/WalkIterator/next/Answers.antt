use Rattle.std.proofs.Common.{◌+◌, ◌-◌, ◌<◌, length, rules, arith}
use Rattle.reservoir_record.specs.Walking.{fields_from}
use Rattle.reservoir_record.proofs.Made.{many_from}
use Rattle.reservoir_record.proofs.walking.WalkIterator.next.Goals as goal

pub returns-clause-goes : goal.returns-clause-goes
returns-clause-goes c =
    let fewer : length (fields_from c.args.self.now.bytes.now c.args.self.now.count (c.args.self.now.count - (c.args.self.now.place + 1)) (c.args.self.now.place + 1)) < length (fields_from c.args.self.now.bytes.now c.args.self.now.count (c.args.self.now.count - c.args.self.now.place) c.args.self.now.place)
    = omega (arith, many_from c.args.self.now.bytes.now c.args.self.now.count (c.args.self.now.count - (c.args.self.now.place + 1)) (c.args.self.now.place + 1), many_from c.args.self.now.bytes.now c.args.self.now.count (c.args.self.now.count - c.args.self.now.place) c.args.self.now.place) in
    search rules
