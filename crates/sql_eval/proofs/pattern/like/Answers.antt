use Rattle.std.proofs.Common.{sym, ◌∙◌}
use Rattle.std.specs.Str.{chars}
use Rattle.sql_eval.proofs.Likes.{like_from-whole}
use Rattle.sql_eval.proofs.pattern.like.Goals as goal

pub returns-in-Whole : goal.returns-in-Whole
returns-in-Whole c = record {
  exact = sym (c.loop-text.invariant.same ∙ like_from-whole c.loop-text.anywhere (chars c.loop-text.wanted.now) (chars c.loop-text.left.now) c.in-Whole.ensures.exact);
}
