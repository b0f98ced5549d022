use Rattle.std.proofs.Common.{arith}
use Rattle.sql_tokens.proofs.Steps.{too_great}
use Rattle.sql_tokens.proofs.lengths.has_small_value.Goals as goal

pub returns-then-value-more : goal.returns-then-value-more
returns-then-value-more c =
    record { exact = too_great c.args.digits.now c.loop-digit.digit-index c.loop-digit.value c.from-more.result c.requires (omega arith) (omega arith) (omega arith) c.loop-digit.invariant.read }
