use Rattle.std.proofs.Common.{◌≡◌, ◌∙◌, sym, true, false}
use Rattle.phys_columns.proofs.column.Column.clear.Goals as goal

pub returns-then-not-keep : goal.returns-then-not-keep
returns-then-not-keep c = record {
  exact = c.take-taken.ensures.exact;
  pages = c.let_go.ensures.pages;
  here = c.let_go.ensures.kept c.args.version ∙ c.take-taken.ensures.here;
  kept = λ w apart. c.let_go.ensures.kept w ∙ c.take-taken.ensures.kept w apart;
  others = λ n apart. c.let_go.ensures.others n apart ∙ c.take-taken.ensures.others n apart;
  room = λ keep. absurd (let e : true ≡ false = sym keep ∙ c.if-not-keep.true in cc);
  held = λ keep. c.let_go.ensures.held;
}

pub returns-else-not-keep : goal.returns-else-not-keep
returns-else-not-keep c = record {
  exact = c.take-taken.ensures.exact;
  pages = c.take-taken.ensures.pages;
  here = c.take-taken.ensures.here;
  kept = c.take-taken.ensures.kept;
  others = c.take-taken.ensures.others;
  room = λ keep. c.take-taken.ensures.room;
  held = λ keep. absurd (let e : false ≡ true = sym keep ∙ c.if-not-keep.false in cc);
}
