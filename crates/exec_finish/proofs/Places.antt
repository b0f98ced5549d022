-- What stands at a place of a list, and what is left from there on.
use Rattle.std.proofs.Common.{◌≡◌, ℕ, zero, suc, ◌+◌, List, [], ◌∷◌, ◌++◌, drop, Some, is_some, unwrap_or, slice_get, true≢false, sym, ap, ◌∙◌, add-one, append_assoc, codes}

found : {X : Type 0} (xs : List X) (i : ℕ) (x : X) → slice_get xs i ≡ Some x → drop i xs ≡ x ∷ drop (suc i) xs
found [] i x e = absurd (true≢false (sym (ap is_some e)))
found (y ∷ xs) zero x e = ap (λ o. unwrap_or o y ∷ xs) e
found (y ∷ xs) (suc i) x e = found xs i x e

-- the item at a place is the first of what is left there
pub drop_found : {X : Type 0} (xs : List X) (i : ℕ) (x : X) → slice_get xs i ≡ Some x → drop i xs ≡ x ∷ drop (i + 1) xs
drop_found xs i x e = found xs i x e ∙ ap (λ n. x ∷ drop n xs) (sym (add-one i))

-- a comma and one more text
pub append_next : (text one rest : List ℕ) → ((text ++ 44 ∷ []) ++ one) ++ rest ≡ text ++ ((codes "," ++ one) ++ rest)
append_next text one rest = append_assoc (text ++ 44 ∷ []) one rest ∙ append_assoc text (44 ∷ []) (one ++ rest)
