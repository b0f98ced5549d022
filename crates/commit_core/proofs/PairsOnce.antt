-- Pairs of name and kind that stand once each.
use Rattle.std.proofs.Common.{◌≡◌, ◌≢◌, ◌∙◌, ◌⊎◌, inl, inr, ℕ, zero, suc, Bool, true, false, List, [], ◌∷◌, ◌++◌, length, map, fold, Some, slice_get, refl, sym, ap, arith}
use Rattle.std.specs.List.{list_any}
use Rattle.std.proofs.lemmas.Bool.{and_from, false≢true, or_parts}
use Rattle.std.proofs.lemmas.Slice.Eq.{bytes_eq-Decides}
use Rattle.doc_values.specs.Doc.{Fields}
use Rattle.doc_values.specs.Value.{kind_of}
use Rattle.doc_values.specs.declared.kind.Kind.{Kind}
use Rattle.doc_values.specs.declared.kind.Kind.TheVariants as kind
use Rattle.doc_values.specs.Order.{same_kind}
use Rattle.commit_core.specs.Write.{same_pair, pairs_with, with_fields}

abbrev Pairs : Type 0
Pairs = List (List ℕ × Kind)

-- No pair stands twice.
abbrev pub AreOnce : Pairs → Type 0
AreOnce pairs = (i j : ℕ) (a b : List ℕ × Kind) → slice_get pairs i ≡ Some a → slice_get pairs j ≡ Some b → a ≡ b → i ≡ j

same_kind-self : (of : Kind) → same_kind of of ≡ true
same_kind-self kind.Bool = refl
same_kind-self kind.Int = refl
same_kind-self kind.Text = refl
same_kind-self kind.Array = refl
same_kind-self kind.Object = refl

pub same_pair-self : (pair : List ℕ × Kind) → same_pair pair pair ≡ true
same_pair-self pair = and_from _ _ ((bytes_eq-Decides pair.0 pair.0).1 refl) (same_kind-self pair.1)

-- A pair that is among none is told apart from each.
apart_by : (p : List ℕ × Kind) (pairs : Pairs) (pair : List ℕ × Kind) → ((i : ℕ) (a : List ℕ × Kind) → list_any (same_pair pair) pairs ≡ false → slice_get pairs i ≡ Some a → a ≢ pair)
    → (same_pair pair p ≡ false) × (list_any (same_pair pair) pairs ≡ false) → (i : ℕ) (a : List ℕ × Kind) → slice_get (p ∷ pairs) i ≡ Some a → a ≢ pair
apart_by p pairs pair more none zero a e same = let first : p ≡ a = cc in false≢true (sym none.0 ∙ ap (same_pair pair) (first ∙ same) ∙ same_pair-self pair)
apart_by p pairs pair more none (suc i) a e same = more i a none.1 e same

apart : (pairs : Pairs) (pair : List ℕ × Kind) → list_any (same_pair pair) pairs ≡ false → (i : ℕ) (a : List ℕ × Kind) → slice_get pairs i ≡ Some a → a ≢ pair
apart [] pair none i a e same = absurd (cc)
apart (p ∷ pairs) pair none i a e same =
    apart_by p pairs pair (λ k b n f. apart pairs pair n k b f) (or_parts (same_pair pair p) (list_any (same_pair pair) pairs) none) i a e same

place : (pairs : Pairs) (pair : List ℕ × Kind) (i : ℕ) (a : List ℕ × Kind) → slice_get (pairs ++ pair ∷ []) i ≡ Some a → (slice_get pairs i ≡ Some a) ⊎ ((i ≡ length pairs) × (a ≡ pair))
place [] pair zero a e = inr (refl, cc)
place [] pair (suc i) a e = absurd (cc)
place (p ∷ pairs) pair zero a e = inl e
place (p ∷ pairs) pair (suc i) a e = elim (place pairs pair i a e) [ inl x ↦ inl x | inr y ↦ inr (omega (arith, y.0), y.1) ]

once-push : (pairs : Pairs) (pair : List ℕ × Kind) → AreOnce pairs → list_any (same_pair pair) pairs ≡ false → AreOnce (pairs ++ pair ∷ [])
once-push pairs pair once none i j a b e f same = by (place pairs pair i a e) (place pairs pair j b f)
  where
    by : (slice_get pairs i ≡ Some a) ⊎ ((i ≡ length pairs) × (a ≡ pair)) → (slice_get pairs j ≡ Some b) ⊎ ((j ≡ length pairs) × (b ≡ pair)) → i ≡ j
    by (inl x) (inl y) = once i j a b x y same
    by (inl x) (inr y) = absurd (apart pairs pair none i a x (same ∙ y.1))
    by (inr x) (inl y) = absurd (apart pairs pair none j b y (sym same ∙ x.1))
    by (inr x) (inr y) = x.0 ∙ sym y.0

once-pair : (pairs : Pairs) (pair : List ℕ × Kind) → AreOnce pairs → AreOnce (pairs_with pairs pair)
once-pair pairs pair once = by (list_any (same_pair pair) pairs) refl
  where
    by : (t : Bool) → list_any (same_pair pair) pairs ≡ t → AreOnce (pairs_with pairs pair)
    by true is = simp is once
    by false is = simp is (once-push pairs pair once is)

once-pairs : (more pairs : Pairs) → AreOnce pairs → AreOnce (fold pairs_with pairs more)
once-pairs [] pairs once = once
once-pairs (pair ∷ more) pairs once = once-pairs more (pairs_with pairs pair) (once-pair pairs pair once)

-- The pairs with those of documents stand once each.
pub AreOnce-documents : (documents : List Fields) (pairs : Pairs) → AreOnce pairs → AreOnce (fold with_fields pairs documents)
AreOnce-documents [] pairs once = once
AreOnce-documents (d ∷ ds) pairs once = AreOnce-documents ds (with_fields pairs d) (once-pairs (map (λ field. (field.0, kind_of field.1)) d) pairs once)
