-- The qualifiers of references.
use Rattle.std.proofs.Common.{◌≡◌, ℕ, true, List, ◌∷◌, length, Option, Some, None, refl, arith}
use Rattle.std.specs.Prelude.{is_some}
use Rattle.std.proofs.lemmas.Bool.{leb-true}
use Rattle.type_rules.specs.Names.{is_in_scope}

-- Where two or more tables are in scope a qualifier is not missing.
pub qualified : (a b : List ℕ) (scope : List (List ℕ)) (qualifier : Option (List ℕ)) → is_in_scope (a ∷ b ∷ scope) qualifier ≡ true → is_some qualifier ≡ true
qualified a b scope None e = absurd (omega (arith, leb-true (length (a ∷ b ∷ scope)) 1 e))
qualified a b scope (Some q) e = refl
