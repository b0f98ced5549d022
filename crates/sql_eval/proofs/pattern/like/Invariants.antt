use Rattle.std.proofs.Common.{◌≡◌, ◌+◌, length}
use denote.Text.{Utf8}
use denote.Shadow.{shadow}
use Rattle.std.specs.Str.{chars}
use Rattle.sql_eval.specs.Like.{are_like}
use Rattle.sql_eval.specs.Run.{like_from}
use Rattle.sql_eval.proofs.pattern.like.Given as goal

-- what is left decides for the whole
abbrev pub invariant-loop-text : goal.invariant-loop-text
invariant-loop-text l = record {
  left_is_text : shadow (Utf8 l.left);
  wanted_is_text : shadow (Utf8 l.wanted);
  same : are_like (chars l.pattern) (chars l.text) ≡ like_from l.anywhere (chars l.wanted) (chars l.left);
}

abbrev pub decreases-loop-text : goal.decreases-loop-text
decreases-loop-text l = length l.left + length l.wanted
