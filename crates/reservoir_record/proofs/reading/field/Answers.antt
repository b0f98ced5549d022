use Rattle.std.proofs.Common.{◌∙◌, ap, ℕ}
use Rattle.reservoir_record.specs.Words.{value_at}
use Rattle.reservoir_record.proofs.Found.{field_here}
use Rattle.reservoir_record.proofs.reading.field.Goals as goal

pub returns : goal.returns
returns c = record {
  exact = λ fields s. field_here fields c.args.bytes.now s c.args.place c.word.result c.value.result.now (c.requires.within fields s) c.word.ensures.exact
      (c.value.ensures.exact ∙ ap (λ (n : ℕ). value_at c.args.bytes.now n c.args.place) (c.count-count.ensures.exact fields s));
}
