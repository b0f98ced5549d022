use Rattle.std.proofs.Common.{◌∙◌, arith, sym}
use Rattle.sql_tokens.proofs.Steps.{end-other, end-quotes}
use Rattle.sql_tokens.proofs.lengths.text_len.Goals as goal

pub loop-at-preserved-then-bytes-at-ne39 : goal.loop-at-preserved-then-bytes-at-ne39
loop-at-preserved-then-bytes-at-ne39 c =
    record { inside = omega arith; read = sym (end-other c.args.bytes.now c.loop-at.at c.loop-at-test.true c.if-bytes-at-ne39.true) ∙ c.loop-at.invariant.read }

pub loop-at-preserved : goal.loop-at-preserved
loop-at-preserved c =
    record { inside = omega arith; read = sym (end-quotes c.args.bytes.now c.loop-at.at c.if-at-bytes.true c.if-bytes-at-ne39.false c.if-bytes-at-eq39.true) ∙ c.loop-at.invariant.read }
