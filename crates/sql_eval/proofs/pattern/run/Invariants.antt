use Rattle.std.proofs.Common.{◌≡◌, ◌≤◌, true, length}
use denote.Text.{Utf8}
use denote.Shadow.{shadow}
use Rattle.std.specs.Str.{chars}
use Rattle.sql_eval.specs.Like.{are_like}
use Rattle.sql_eval.specs.Run.{some_end}
use Rattle.sql_eval.proofs.pattern.run.Given as goal

-- what is left decides for the whole, and an end that is like the whole pattern has an end that is like what is left of it
abbrev pub invariant-loop-stands : goal.invariant-loop-stands
invariant-loop-stands l = record {
  left_is_text : shadow (Utf8 l.left);
  wanted_is_text : shadow (Utf8 l.wanted);
  same : are_like (chars l.pattern) (chars l.text) ≡ are_like (chars l.wanted) (chars l.left);
  later : some_end (chars l.pattern) (chars l.text) ≡ true → some_end (chars l.wanted) (chars l.left) ≡ true;
  shorter : length l.left ≤ length l.text;
  shorter_wanted : length l.wanted ≤ length l.pattern;
}

abbrev pub decreases-loop-stands : goal.decreases-loop-stands
decreases-loop-stands l = length l.wanted
