use Rattle.std.proofs.Common.{◌-◌, arith}
use Rattle.row_versions.proofs.Walk.{starts-before}
use Rattle.row_versions.proofs.changing.change_at.Goals as goal

pub seen_from-requires-clause-start : goal.seen_from-requires-clause-start
seen_from-requires-clause-start c = (c.args.touch.now.row, starts-before c.args.touch.now.row c.args.touch.now.commit (c.args.touch.now.commit - 1) c.args.touch.now.place c.args.list.now.versions (omega arith) c.requires.start)

pub returns : goal.returns
returns c =
    let earlier = starts-before c.args.touch.now.row c.args.touch.now.commit (c.args.touch.now.commit - 1) c.args.touch.now.place c.args.list.now.versions (omega arith) c.requires.start in
    record {
      exact = λ i. record {
        row = c.args.touch.now.row;
        commit = c.args.touch.now.commit;
        before = c.seen_from.ensures.exact c.args.touch.now.row earlier i;
        after = c.seen_from-2.ensures.exact c.args.touch.now.row c.requires.start i;
      };
    }
