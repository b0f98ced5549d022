-- Marks that are taken away where they are not below a number of versions.
use Rattle.std.proofs.Common.{◌≡◌, ℕ, zero, suc, ◌<◌, ◌≤◌, nat_lt, Bool, true, false, cond, List, [], ◌∷◌, set, Option, Some, None, unwrap_or, slice_get, refl, sym, ap, ◌∙◌, arith}
use Rattle.std.proofs.lemmas.Bool.Decides.{nat_tests}
use Rattle.doc_values.specs.declared.attr_id.AttrId.{AttrId}
use Rattle.attr_catalog.specs.Attribute.{Attribute, cleared}
use Rattle.attr_catalog.specs.Catalog.{changed}
use Rattle.layout_store.specs.RolledBack.{mark_below, settled}
use Rattle.layout_store.proofs.Attributes.{changed-some}

mark_gone : (n : ℕ) (o : Option ℕ) → n ≤ unwrap_or o 0 → mark_below n o ≡ None
mark_gone n None le = refl
mark_gone n (Some c) le = let e : nat_lt c n ≡ false = grind (arith, nat_tests) in ap (λ (t : Bool). cond t (Some c) None) e

mark_stays : (n : ℕ) (o : Option ℕ) → unwrap_or o 0 < n → mark_below n o ≡ o
mark_stays n None lt = refl
mark_stays n (Some c) lt = let e : nat_lt c n ≡ true = grind (arith, nat_tests) in ap (λ (t : Bool). cond t (Some c) None) e

set_itself : {X : Type 0} (xs : List X) (k : ℕ) (x : X) → slice_get xs k ≡ Some x → set xs k x ≡ xs
set_itself [] k x at = absurd (cc)
set_itself (y ∷ xs) zero x at = let same : y ≡ x = cc in ap (λ z. z ∷ xs) (sym same)
set_itself (y ∷ xs) (suc k) x at = ap (λ zs. y ∷ zs) (set_itself xs k x at)

pub settles-gone : (n : ℕ) (id : AttrId) (list : List Attribute) (a : Attribute) → slice_get list id.0 ≡ Some a → n ≤ unwrap_or a.mark 0 → changed cleared id list ≡ changed (settled n) id list
settles-gone n id list a at le = changed-some cleared id list a at ∙ ap (λ (o : Option ℕ). set list id.0 (record a { mark = o })) (sym (mark_gone n a.mark le)) ∙ sym (changed-some (settled n) id list a at)

pub settles-stays : (n : ℕ) (id : AttrId) (list : List Attribute) (a : Attribute) → slice_get list id.0 ≡ Some a → unwrap_or a.mark 0 < n → list ≡ changed (settled n) id list
settles-stays n id list a at lt =
    sym (set_itself list id.0 a at) ∙ ap (λ (o : Option ℕ). set list id.0 (record a { mark = o })) (sym (mark_stays n a.mark lt)) ∙ sym (changed-some (settled n) id list a at)
