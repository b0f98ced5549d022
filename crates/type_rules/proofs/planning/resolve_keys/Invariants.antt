use Rattle.std.specs.Prelude.{◌≡◌, true, map, drop, take, None}
use Rattle.std.specs.List.{list_all}
use Rattle.type_rules.specs.Places.{key_term}
use Rattle.type_rules.specs.Written.{is_written}
use Rattle.type_rules.specs.Steps.{has_numerals}
use Rattle.type_rules.proofs.Chains.{Ahead}
use Rattle.type_rules.proofs.planning.resolve_keys.Given as goal

abbrev pub invariant-loop-key : goal.invariant-loop-key
invariant-loop-key l = record {
  ahead : Ahead l.fn.columns l.columns (λ p. p.uses None) (λ _. None) (map (key_term l.aliases) l.keys) (map (key_term l.aliases) (drop l.key-index l.keys)) (map (λ k. k.expr) l.plans);
  written : list_all (λ p. p) (map is_written (map (key_term l.aliases) (drop l.key-index l.keys))) ≡ true;
  descending : map (λ k. k.descending) l.plans ≡ map (λ k. k.descending) (take l.key-index l.keys);
  numerals : list_all (λ b. b) (map has_numerals (map (λ k. k.expr) l.plans)) ≡ true;
}
