use Rattle.std.proofs.Common.{rules, ◌≡◌, sym, subst, refl, false, arith}
use Rattle.reservoir_record.specs.Words.{word_at, HasNumbers, HasOffsets, IsWholeTable}
use Rattle.reservoir_record.proofs.Checked.{table_of, too_short, no_room, passes, not_both}
use Rattle.reservoir_record.proofs.checking.check.Goals as goal

pub returns-then-bytes-lt8 : goal.returns-then-bytes-lt8
returns-then-bytes-lt8 c = record { exact = (λ h. absurd (not_both false refl h), λ r. absurd (too_short c.args.bytes.now (omega arith) r)) }

pub returns-then-bytes-count : goal.returns-then-bytes-count
returns-then-bytes-count c = record { exact = (λ h. absurd (not_both false refl h), λ r. absurd (no_room c.args.bytes.now (omega arith) r)) }

pub returns-then-has_numbers : goal.returns-then-has_numbers
returns-then-has_numbers c =
    let same : c.word-count.result ≡ word_at c.args.bytes.now 0 = c.word-count.ensures.exact in
    record {
      exact = (
        λ h. passes c.args.bytes.now (search rules) (omega arith)
            (subst (HasNumbers c.args.bytes.now) same (c.has_numbers.ensures.exact.0 c.if-has_numbers.true))
            (subst (HasOffsets c.args.bytes.now) same (c.has_offsets.ensures.exact.0 h)),
        λ r. let t : IsWholeTable c.args.bytes.now (word_at c.args.bytes.now 0) = table_of c.args.bytes.now r in
            c.has_offsets.ensures.exact.1 (subst (HasOffsets c.args.bytes.now) (sym same) t.placed),
      );
    }

pub returns-else-has_numbers : goal.returns-else-has_numbers
returns-else-has_numbers c =
    let same : c.word-count.result ≡ word_at c.args.bytes.now 0 = c.word-count.ensures.exact in
    record {
      exact = (
        λ h. absurd (not_both c.has_numbers.result c.if-has_numbers.false h),
        λ r. let t : IsWholeTable c.args.bytes.now (word_at c.args.bytes.now 0) = table_of c.args.bytes.now r in
            c.has_numbers.ensures.exact.1 (subst (HasNumbers c.args.bytes.now) (sym same) t.numbered),
      );
    }
