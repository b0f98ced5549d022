use Rattle.std.specs.Prelude.{◌≡◌, [], ◌∷◌, map, drop}
use Rattle.std.specs.List.{list_all}
use Rattle.type_rules.specs.Names.{is_bound, every_ref, every_ref_in}
use Rattle.type_rules.proofs.references.+references.Given as goal

-- the members that are left decide for all
abbrev pub invariant-members_bound-loop-member : goal.invariant-members_bound-loop-member
invariant-members_bound-loop-member l = list_all (λ p. p) (map (every_ref (is_bound (l.alias ∷ []))) (drop l.member-index l.members)) ≡ list_all (λ p. p) (map (every_ref (is_bound (l.alias ∷ []))) l.members)

abbrev pub invariant-addends_bound-loop-member : goal.invariant-addends_bound-loop-member
invariant-addends_bound-loop-member l = list_all (λ p. p) (map (every_ref_in (is_bound (l.alias ∷ []))) (drop l.member-index l.members)) ≡ list_all (λ p. p) (map (every_ref_in (is_bound (l.alias ∷ []))) l.members)
