use Rattle.std.specs.Prelude.{◌≡◌, true, map, drop, None}
use Rattle.std.specs.List.{list_all}
use Rattle.type_rules.specs.Written.{is_written}
use Rattle.type_rules.specs.Steps.{has_numerals}
use Rattle.type_rules.proofs.Chains.{Ahead}
use Rattle.type_rules.proofs.planning.resolve_items.Given as goal

abbrev pub invariant-loop-item : goal.invariant-loop-item
invariant-loop-item l = record {
  ahead : Ahead l.fn.columns l.columns (λ p. p.uses None) (λ _. None) (map (λ i. i.expr) l.items) (map (λ i. i.expr) (drop l.item-index l.items)) l.exprs;
  written : list_all (λ p. p) (map is_written (map (λ i. i.expr) (drop l.item-index l.items))) ≡ true;
  numerals : list_all (λ b. b) (map has_numerals l.exprs) ≡ true;
}
