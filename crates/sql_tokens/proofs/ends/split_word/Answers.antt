use Rattle.std.proofs.Common.{ap, ◌∙◌}
use Rattle.std.specs.List.{prefix_len}
use Rattle.sql_tokens.specs.Forms.{is_word_byte}
use Rattle.sql_tokens.proofs.EndCuts.{IsCharBoundary-behind_word}
use Rattle.sql_tokens.proofs.ends.split_word.Goals as goal

pub split_at-requires : goal.split_at-requires
split_at-requires c = IsCharBoundary-behind_word c.skip_space-text.result.now c.skip_space-text.utf8 _ (c.word_len.ensures.exact ∙ ap (prefix_len is_word_byte) c.as_bytes.ensures.value)
