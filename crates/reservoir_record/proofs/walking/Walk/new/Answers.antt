use Rattle.std.proofs.Common.{◌≡◌, ◌∙◌, ap, sym, arith, ℕ, ◌-◌, length}
use Rattle.reservoir_record.specs.Walking.{fields_from}
use Rattle.reservoir_record.proofs.Checked.{count_is}
use Rattle.reservoir_record.proofs.Found.{from_here}
use Rattle.reservoir_record.proofs.walking.Walk.new.Goals as goal

pub returns : goal.returns
returns c = record {
  exact = λ fields s.
      let many : c.args.count ≡ length fields = sym c.requires.table.counted ∙ count_is c.args.bytes.now fields s in
      ap (λ (n : ℕ). fields_from c.args.bytes.now n (n - 0) 0) many ∙ ap (λ (m : ℕ). fields_from c.args.bytes.now (length fields) m 0) (omega arith) ∙ from_here fields c.args.bytes.now s (length fields) 0 (omega arith);
}
