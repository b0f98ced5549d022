use Rattle.std.proofs.Common.{sym}
use Rattle.row_versions.proofs.Walk.{starts-within, is-shown, is-shut, is-first, steps-down}
use Rattle.row_versions.proofs.walking.seen_from.Goals as goal

pub version-version-requires : goal.version-version-requires
version-version-requires c = starts-within c.requires.start.0 c.args.n c.loop-version.place c.args.list.now.versions (c.loop-version.invariant c.requires.start.0 c.requires.start.1)

pub before-requires : goal.before-requires
before-requires c = starts-within c.requires.start.0 c.args.n c.loop-version.place c.args.list.now.versions (c.loop-version.invariant c.requires.start.0 c.requires.start.1)

pub returns-then-is_open : goal.returns-then-is_open
returns-then-is_open c = record {
  exact =
      λ row start. is-shown row c.args.n c.loop-version.place c.args.list.now.versions c.requires.ordered (c.loop-version.invariant row start) c.version-version.result c.version-version.ensures.exact c.if-version-n.true (sym c.if-is_open.ensures.exact);
}

pub returns-else-is_open : goal.returns-else-is_open
returns-else-is_open c = record {
  exact =
      λ row start. is-shut row c.args.n c.loop-version.place c.args.list.now.versions c.requires.ordered (c.loop-version.invariant row start) c.version-version.result c.version-version.ensures.exact c.if-version-n.true (sym c.if-is_open.ensures.exact);
}

pub returns-in-None : goal.returns-in-None
returns-in-None c = record {
  exact =
      λ row start. is-first row c.args.n c.loop-version.place c.args.list.now.versions c.requires.ordered (c.loop-version.invariant row start) c.version-version.result c.version-version.ensures.exact c.if-version-n.false (c.requires.linked.each _ _ _ c.version-version.ensures.exact c.in-None.ensures.exact);
}

pub loop-version-smaller : goal.loop-version-smaller
loop-version-smaller c = (c.requires.linked.each _ _ _ c.version-version.ensures.exact c.in-Some.ensures.exact).within

pub loop-version-preserved : goal.loop-version-preserved
loop-version-preserved c = λ row start. steps-down row c.args.n c.loop-version.place c.args.list.now.versions c.requires.ordered (c.loop-version.invariant row start) c.version-version.result c.version-version.ensures.exact c.if-version-n.false c.in-Some.before (c.requires.linked.each _ _ _ c.version-version.ensures.exact c.in-Some.ensures.exact)
