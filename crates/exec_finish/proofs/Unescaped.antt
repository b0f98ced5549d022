-- A text of which each byte stands for itself is printed as it is.
use Rattle.std.proofs.Common.{◌≡◌, ◌∙◌, ℕ, ◌==◌, ◌≤◌, Bool, true, false, cond, not, ◌&&◌, ◌||◌, nat_lt, nat_le, List, [], ◌∷◌, ◌++◌, flat_map, refl, sym, ap, true≢false, append_assoc, arith}
use Rattle.std.specs.List.{list_all}
use Rattle.std.proofs.lemmas.Bool.Decides.{nat_tests}
use Rattle.json.specs.Print.{escape_byte, escape, quoted}
use Rattle.exec_finish.specs.Escapes.{stands_for_itself}

itself : (b : ℕ) → stands_for_itself b ≡ true → escape_byte b ≡ b ∷ []
unfolding escape_byte
itself b h = grind (arith, nat_tests)

first_of : (a b : Bool) → a && b ≡ true → a ≡ true
first_of true b e = refl
first_of false b e = e

rest_of : (a b : Bool) → a && b ≡ true → b ≡ true
rest_of true b e = e
rest_of false b e = absurd (true≢false (sym e))

pub unescaped : (bytes : List ℕ) → list_all stands_for_itself bytes ≡ true → escape bytes ≡ bytes
unescaped [] h = refl
unescaped (b ∷ bs) h =
    let first = itself b (first_of (stands_for_itself b) (list_all stands_for_itself bs) h) in
    let rest = unescaped bs (rest_of (stands_for_itself b) (list_all stands_for_itself bs) h) in
    λ i. first i ++ rest i

-- such a text in quotes
pub put_plain : (t s : List ℕ) → list_all stands_for_itself s ≡ true → ((t ++ 34 ∷ []) ++ s) ++ 34 ∷ [] ≡ t ++ quoted s
put_plain t s h =
    append_assoc (t ++ 34 ∷ []) s (34 ∷ []) ∙ append_assoc t (34 ∷ []) (s ++ 34 ∷ []) ∙ ap (λ (e : List ℕ). t ++ (34 ∷ (e ++ 34 ∷ []))) (sym (unescaped s h))
