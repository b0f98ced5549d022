use Rattle.std.proofs.Common.{refl, sym, ◌∙◌}
use Rattle.row_versions.proofs.CutOff.{cut-step, cut-done, cut-empty, shorter}
use Rattle.row_versions.proofs.lasts.cut.Goals as goal

pub loop-last-init : goal.loop-last-init
loop-last-init c = record {
  cutting = record { rise = c.requires.rise; endless = c.requires.endless; kept = refl; ends = λ places a. a };
  linked = c.requires.linked;
  newest = c.requires.newest;
}

pub loop-last-preserved : goal.loop-last-preserved
loop-last-preserved c = record {
  cutting = cut-step c.args.commit c.args.list.now.versions c.loop-last.list c.pop.new.list c.in-Some.last c.pop.ensures.exact c.loop-last.invariant.cutting (sym c.in-Some.ensures.exact) c.if-last-commit.false;
  linked = c.pop.ensures.linked;
  newest = c.pop.ensures.newest;
}

pub loop-last-smaller : goal.loop-last-smaller
loop-last-smaller c = shorter c.loop-last.list c.pop.new.list c.pop.ensures.exact

pub returns-then-last-commit : goal.returns-then-last-commit
returns-then-last-commit c = record {
  exact = cut-done c.args.commit c.args.list.now.versions c.loop-last.list.versions c.in-Some.last c.loop-last.invariant.cutting (sym c.in-Some.ensures.exact) c.if-last-commit.true;
  linked = c.loop-last.invariant.linked;
  newest = c.loop-last.invariant.newest;
  ends = c.loop-last.invariant.cutting.ends;
}

pub returns-in_default : goal.returns-in_default
returns-in_default c = record {
  exact = cut-empty c.args.commit c.args.list.now.versions c.loop-last.list.versions c.loop-last.invariant.cutting (sym c.last.ensures.exact ∙ c.in_default.is);
  linked = c.loop-last.invariant.linked;
  newest = c.loop-last.invariant.newest;
  ends = c.loop-last.invariant.cutting.ends;
}
