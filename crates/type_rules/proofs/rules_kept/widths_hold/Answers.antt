use Rattle.std.proofs.Common.{ℕ, length, sym, ap, ◌∙◌}
use Rattle.std.specs.List.{list_all}
use Rattle.type_rules.specs.Places.{PlacedTerm, places_of}
use Rattle.type_rules.specs.Widths.{term_width}
use Rattle.type_rules.proofs.rules_kept.widths_hold.Goals as goal

pub returns : goal.returns
returns c = record {
  exact = c.places_narrow.ensures.exact ∙ ap (list_all (λ (p : PlacedTerm). (term_width 1 p.term).narrow)) c.requires.places
      ∙ sym (ap (λ (k : ℕ). list_all (λ (p : PlacedTerm). (term_width k p.term).narrow) (places_of c.args.select.now)) (ap length c.requires.question.tables));
}
