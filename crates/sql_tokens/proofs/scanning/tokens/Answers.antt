use Rattle.std.proofs.Common.{◌∙◌, ◌+◌, List, arith, ap, sym}
use Rattle.sql_tokens.proofs.Scans.{each_stands}
use Rattle.sql_tokens.proofs.Steps.{all-read, scan_from, scan-past_space, scan-past_found, token-inside}
use Rattle.sql_tokens.specs.declared.token.Token.{Token}
use Rattle.sql_tokens.proofs.scanning.tokens.Goals as goal

pub loop-at-preserved-then-is_space : goal.loop-at-preserved-then-is_space
loop-at-preserved-then-is_space c =
    record { inside = omega arith; read = sym (scan-past_space c.as_bytes-bytes.result.now c.loop-at.found.items c.loop-at.at c.loop-at-test.true (sym c.is_space.ensures.exact ∙ c.if-is_space.true)) ∙ c.loop-at.invariant.read }

pub overflow_add-at-else-is_space : goal.overflow_add-at-else-is_space
overflow_add-at-else-is_space c =
    let within = token-inside c.as_bytes-bytes.result.now c.loop-at.at c.in-Some.lexeme c.loop-at-test.true c.in-Some.ensures.exact in
    omega arith

pub overflow_cast-at-else-is_space : goal.overflow_cast-at-else-is_space
overflow_cast-at-else-is_space c =
    let within = token-inside c.as_bytes-bytes.result.now c.loop-at.at c.in-Some.lexeme c.loop-at-test.true c.in-Some.ensures.exact in
    omega arith

pub overflow_add-at-else-is_space-2 : goal.overflow_add-at-else-is_space-2
overflow_add-at-else-is_space-2 c =
    let within = token-inside c.as_bytes-bytes.result.now c.loop-at.at c.in-Some.lexeme c.loop-at-test.true c.in-Some.ensures.exact in
    omega arith

pub loop-at-smaller : goal.loop-at-smaller
loop-at-smaller c =
    let within = token-inside c.as_bytes-bytes.result.now c.loop-at.at c.in-Some.lexeme c.loop-at-test.true c.in-Some.ensures.exact in
    omega arith

pub loop-at-preserved : goal.loop-at-preserved
loop-at-preserved c =
    let within = token-inside c.as_bytes-bytes.result.now c.loop-at.at c.in-Some.lexeme c.loop-at-test.true c.in-Some.ensures.exact in
    record {
      inside = omega arith;
      read = ap (λ (found : List Token). scan_from c.as_bytes-bytes.result.now found (c.loop-at.at + c.in-Some.lexeme.len)) c.in_ok-push.ensures.items
          ∙ sym (scan-past_found c.as_bytes-bytes.result.now c.loop-at.found.items c.loop-at.at c.in-Some.lexeme c.loop-at-test.true (sym c.is_space.ensures.exact ∙ c.if-is_space.false) c.in-Some.ensures.exact)
          ∙ c.loop-at.invariant.read;
    }

pub returns-clause-stand : goal.returns-clause-stand
returns-clause-stand c =
    each_stands c.args.text.now c.loop-at.found.items
    (all-read c.args.text.now c.as_bytes-bytes.result.now c.loop-at.found.items c.loop-at.at c.as_bytes-bytes.ensures.value c.if-bytes-gt-MOST_BYTES.false c.loop-at-test.false c.loop-at.invariant.read)
