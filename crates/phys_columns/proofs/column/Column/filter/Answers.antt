use Rattle.std.proofs.Common.{◌∙◌, ◌+◌, ◌*◌, ap, sym, arith, None}
use Rattle.std.specs.Option.{option_map_or}
use Rattle.phys_columns.specs.Filtered.{is_met}
use Rattle.phys_columns.specs.Pages.{value_at}
use Rattle.phys_columns.proofs.Bits.{no_bit}
use Rattle.phys_columns.proofs.Valued.{at_place}
use Rattle.phys_columns.proofs.column.Column.filter.Goals as goal

pub returns-in-Some : goal.returns-in-Some
returns-in-Some c = record {
  exact = λ w j few below. c.filter.ensures.exact w j few below ∙ ap (is_met c.args.test) (ap (λ o. option_map_or (λ p. value_at p (64 * w + j)) o None) c.in-Some.ensures.exact ∙ sym (at_place c.args.self.now.pages.items c.args.number (64 * w + j) (omega arith)));
}

pub returns-in-None : goal.returns-in-None
returns-in-None c = record {
  exact = λ w j few below. no_bit w j few ∙ ap (is_met c.args.test) (ap (λ o. option_map_or (λ p. value_at p (64 * w + j)) o None) c.in-None.ensures.exact ∙ sym (at_place c.args.self.now.pages.items c.args.number (64 * w + j) (omega arith)));
}
