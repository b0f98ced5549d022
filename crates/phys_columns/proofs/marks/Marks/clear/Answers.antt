use Rattle.std.proofs.Common.{◌≡◌, arith, length, ◌/◌, ◌%◌}
use Rattle.std.specs.Int.{w64}
use Rattle.std.proofs.lemmas.Nat.Bits.{bit_at_clear_same, bit_at_clear_other}
use Rattle.phys_columns.proofs.Marked.{here, kept}
use Rattle.phys_columns.proofs.marks.Marks.clear.Goals as goal

pub returns-clause-here : goal.returns-clause-here
returns-clause-here c =
    let many : length c.args.self.now.words ≡ 16 = omega (arith, c.well_formed) in
    here c.args.self.now.words (c.args.place / 64) (c.args.place % 64) _ 0 (omega arith) (bit_at_clear_same w64 _ _ (omega arith))

pub returns-clause-kept : goal.returns-clause-kept
returns-clause-kept c =
    let many : length c.args.self.now.words ≡ 16 = omega (arith, c.well_formed) in
    kept c.args.self.now.words c.args.place _ (omega arith) (λ i below apart. bit_at_clear_other w64 _ _ (omega arith) i below apart)
