use Rattle.std.specs.Prelude.{◌≡◌, ◌++◌, map, take}
use Rattle.type_rules.specs.Places.{placed, free, condition, item_terms, key_term}
use Rattle.type_rules.proofs.place.places.Given as goal

abbrev pub invariant-loop-item : goal.invariant-loop-item
invariant-loop-item l = map (λ p. placed p.term.now p.want) l.places.items ≡ map free (map (λ i. i.expr) (take l.item-index l.select.items))

abbrev pub invariant-loop-key : goal.invariant-loop-key
invariant-loop-key l = map (λ p. placed p.term.now p.want) l.places.items ≡ (map free (item_terms l.select) ++ condition l.select.test) ++ map free (map (key_term l.select.items) (take l.key-index l.select.keys))
