use Rattle.std.specs.Prelude.{◌≡◌, [], ◌∷◌, map, drop}
use Rattle.std.specs.List.{list_all}
use Rattle.type_rules.specs.Places.{placed}
use Rattle.type_rules.specs.Names.{every_ref, is_bound}
use Rattle.type_rules.proofs.rules.places_bound.Given as goal

abbrev pub invariant-loop-place : goal.invariant-loop-place
invariant-loop-place l = list_all (λ p. every_ref (is_bound (l.alias ∷ [])) p.term) (map (λ p. placed p.term.now p.want) (drop l.place-index l.places)) ≡ list_all (λ p. every_ref (is_bound (l.alias ∷ [])) p.term) (map (λ p. placed p.term.now p.want) l.places)
