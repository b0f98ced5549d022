use Rattle.std.proofs.Common.{arith}
use Rattle.phys_columns.proofs.Marked.{lowest_within, lowest_set, none_lower, none_left}
use Rattle.phys_columns.proofs.marks.first_set.Goals as goal

pub returns-then-rest-eq0 : goal.returns-then-rest-eq0
returns-then-rest-eq0 c = record { none = λ k from below. none_left c.args.word c.args.from c.ranges.word.fits c.if-rest-eq0.true k from; some = tt }

pub returns : goal.returns
returns c = record { none = tt; some = (omega arith, lowest_within c.args.word c.args.from c.ranges.word.fits c.if-rest-eq0.false, lowest_set c.args.word c.args.from c.ranges.word.fits c.if-rest-eq0.false, none_lower c.args.word c.args.from c.ranges.word.fits c.if-rest-eq0.false) }
