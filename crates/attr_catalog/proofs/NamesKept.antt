-- Names in a map, seen as a list.
use Rattle.std.proofs.Common.{◌≡◌, ℕ, zero, suc, false, true≢false, List, [], ◌∷◌, ◌++◌, map, Some, None, option_map, slice_get, set, position, if◌then◌else◌, refl, sym, ap, ◌∙◌, string_bytes}
use Rattle.std.specs.List.{IsDistinct, AllByRecursion}
use Rattle.std.specs.Map.{keys_of, values_of}
use Rattle.std.specs.Str.{bytes_eq}
use Rattle.std.specs.String.{string_eq}
use Rattle.std.specs.declared.string.String.{String}
use Rattle.std.proofs.lemmas.Slice.Eq.{bytes_eq-Decides}
use Rattle.std.proofs.lemmas.Map.Keys.{IsDistinct-head, IsDistinct-tail}
use Rattle.indexmap.specs.IndexMap.{insert_entry, set_value_at}
use Rattle.attr_catalog.specs.Inside.{AreApart, name_at}
use Rattle.attr_catalog.specs.declared.kinds.Kinds.{Kinds}
use Rattle.attr_catalog.proofs.Positions.{position-first, first-map, first-none}

module _ {Y : Type 0} where
  abbrev pub seen : String Y × Kinds → List ℕ × Kinds
  seen e = (string_bytes e.0, e.1)

  apart_head : (k : String Y) (es : List (String Y × Kinds)) → AllByRecursion (λ y. string_eq k y ≡ false) (keys_of es) → (j : ℕ) (b : List ℕ × Kinds) → slice_get (map seen es) j ≡ Some b → string_bytes k ≡ b.0 → ⊥
  apart_head k [] h j b at e = cc
  apart_head k (x ∷ es) h zero b at e =
      let same : b ≡ seen x = cc in
      true≢false (sym ((bytes_eq-Decides (string_bytes k) (string_bytes x.0)).1 (e ∙ ap (λ n. n.0) same)) ∙ h.0)
  apart_head k (x ∷ es) h (suc j) b at e = apart_head k es h.1 j b at e

  -- names of a map stand once each
  pub apart-seen : (es : List (String Y × Kinds)) → IsDistinct string_eq (keys_of es) → AreApart (map seen es)
  apart-seen [] h i j a b p q e = absurd (cc)
  apart-seen (x ∷ es) h zero zero a b p q e = refl
  apart-seen (x ∷ es) h zero (suc j) a b p q e = absurd (let s : seen x ≡ a = cc in apart_head x.0 es (IsDistinct-head string_eq x.0 (keys_of es) h) j b q (ap (λ n. n.0) s ∙ e))
  apart-seen (x ∷ es) h (suc i) zero a b p q e = absurd (let s : seen x ≡ b = cc in apart_head x.0 es (IsDistinct-head string_eq x.0 (keys_of es) h) i a p (ap (λ n. n.0) s ∙ sym e))
  apart-seen (x ∷ es) h (suc i) (suc j) a b p q e = ap suc (apart-seen es (IsDistinct-tail string_eq x.0 (keys_of es) h) i j a b p q e)

  -- a name is at the place of its key
  pub position-seen : (t : List ℕ) (es : List (String Y × Kinds)) → position (λ n. bytes_eq t n.0) (map seen es) ≡ position (λ k. bytes_eq t (string_bytes k)) (keys_of es)
  position-seen t es =
      position-first (λ n. bytes_eq t n.0) (map seen es) ∙ first-map (λ n. bytes_eq t n.0) seen es ∙ sym (first-map (λ k. bytes_eq t (string_bytes k)) (λ e. e.0) es) ∙ sym (position-first (λ k. bytes_eq t (string_bytes k)) (keys_of es))

  pub values-seen : (es : List (String Y × Kinds)) (i : ℕ) → option_map (λ n. n.1) (slice_get (map seen es) i) ≡ slice_get (values_of es) i
  values-seen [] i = refl
  values-seen (x ∷ es) zero = refl
  values-seen (x ∷ es) (suc i) = values-seen es i

  inserted : (es : List (String Y × Kinds)) (k : String Y) (v : Kinds) (t : List ℕ) → string_bytes k ≡ t → ((i : ℕ) (n : List ℕ × Kinds) → slice_get (map seen es) i ≡ Some n → bytes_eq t n.0 ≡ false)
      → map seen (insert_entry string_eq es k v) ≡ map seen es ++ (t, v) ∷ []
  inserted [] k v t e h = ap (λ b. (b, v) ∷ []) e
  inserted (x ∷ es) k v t e h =
      ap (λ b. map seen (if b then (x.0, v) ∷ es else x ∷ insert_entry string_eq es k v)) (ap (λ b. bytes_eq b (string_bytes x.0)) e ∙ h 0 (seen x) refl)
      ∙ ap (λ l. seen x ∷ l) (inserted es k v t e (λ i n at. h (suc i) n at))

  -- a name that is not there goes last
  pub inserted-seen : (es : List (String Y × Kinds)) (k : String Y) (v : Kinds) (t : List ℕ) → string_bytes k ≡ t → position (λ n. bytes_eq t n.0) (map seen es) ≡ None → map seen (insert_entry string_eq es k v) ≡ map seen es ++ (t, v) ∷ []
  inserted-seen es k v t e h = inserted es k v t e (first-none (λ n. bytes_eq t n.0) (map seen es) (sym (position-first (λ n. bytes_eq t n.0) (map seen es)) ∙ h))

  -- a write by place leaves the name
  pub set-seen : (es : List (String Y × Kinds)) (i : ℕ) (v : Kinds) → map seen (set_value_at es i v) ≡ set (map seen es) i (name_at (map seen es) i, v)
  set-seen [] i v = refl
  set-seen (x ∷ es) zero v = refl
  set-seen (x ∷ es) (suc i) v = ap (λ l. seen x ∷ l) (set-seen es i v)
