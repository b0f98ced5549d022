-- A catalog stays one: what each change of the inside does to the attributes that are shown.
use Rattle.std.proofs.Common.{◌≡◌, ◌≢◌, ℕ, zero, suc, ◌<◌, inl, inr, Bool, true, false, ◌&&◌, nat_eq, true≢false, List, [], ◌∷◌, length, map, set, Option, Some, None, option_map, slice_get, position, refl, sym, ap, subst, ◌∙◌, arith, length-set, get_or}
use Rattle.std.specs.Option.{option_map_or}
use Rattle.std.specs.Str.{bytes_eq}
use Rattle.std.proofs.lemmas.Bool.{false_from_ne_true}
use Rattle.std.proofs.lemmas.List.{map-set, length-map}
use Rattle.std.proofs.lemmas.Option.{slice_get-map, slice_get_read}
use Rattle.std.proofs.lemmas.Slice.Eq.{bytes_eq-Decides}
use Rattle.doc_values.specs.declared.kind.Kind as kind
use Rattle.doc_values.specs.Order.{rank}
use Rattle.attr_catalog.specs.declared.kinds.Kinds.{Kinds}
use Rattle.attr_catalog.specs.declared.stored.Stored.{Stored}
use Rattle.attr_catalog.specs.Attribute.{Attribute}
use Rattle.attr_catalog.specs.Catalog.{Attributes, is_of, number, id_of, kinds_of, IsOnce, changed}
use Rattle.attr_catalog.specs.Inside.{Named, name_at, shown, all_shown, ShowsAs, no_kinds, BelongTogether}
use Rattle.attr_catalog.proofs.Positions.{first, position-first, first-map, first-none, none-first, first-some, get-set, get-within}
use Rattle.attr_catalog.proofs.Used.{used-changed}

-- ---- names

pub name-at : (names : Named) (place : ℕ) (n : List ℕ × Kinds) → slice_get names place ≡ Some n → name_at names place ≡ n.0
name-at names place n at = ap (λ o. option_map_or (λ (m : List ℕ × Kinds). m.0) o []) at

pub is_of-same : (name : List ℕ) (of : kind.Kind) (a : Attribute) → is_of name of a ≡ true → name ≡ a.name
is_of-same name of a h = (bytes_eq-Decides name a.name).0 (left (bytes_eq name a.name) (nat_eq (rank of) (rank a.kind)) h)
  where
    left : (x y : Bool) → x && y ≡ true → x ≡ true
    left true y h = refl
    left false y h = h

-- ---- look-ups

none_of : (name : List ℕ) (of : kind.Kind) (list : Attributes) → ((i : ℕ) (a : Attribute) → slice_get list i ≡ Some a → name ≢ a.name) → id_of name of list ≡ None
none_of name of list h =
    ap (option_map number) (position-first (is_of name of) list ∙ none-first (is_of name of) list (λ i a at. false_from_ne_true (is_of name of a) (λ t. h i a at (is_of-same name of a t))))

-- where no attribute has the name none of its kinds has a number
pub no_kinds-absent : (name : List ℕ) (list : Attributes) → ((i : ℕ) (a : Attribute) → slice_get list i ≡ Some a → name ≢ a.name) → no_kinds ≡ kinds_of name list
no_kinds-absent name list h =
    sym (λ i. record {
      bool_id = none_of name kind.TheVariants.Bool list h i;
      int_id = none_of name kind.TheVariants.Int list h i;
      text_id = none_of name kind.TheVariants.Text list h i;
      array_id = none_of name kind.TheVariants.Array list h i;
      object_id = none_of name kind.TheVariants.Object list h i;
    })

module _ (names : Named) (stored : List Stored) (together : BelongTogether names stored) where
  -- an attribute that is shown has its name among the names
  pub shown-named : (i : ℕ) (a : Attribute) → slice_get (all_shown names stored) i ≡ Some a → (s : Stored) × (n : List ℕ × Kinds) × (slice_get stored i ≡ Some s) × (slice_get names s.name ≡ Some n) × (a ≡ shown names s) × (a.name ≡ n.0)
  shown-named i a at = by (slice_get stored i) refl (sym (slice_get-map (shown names) stored i) ∙ at)
    where
      by : (o : Option Stored) → slice_get stored i ≡ o → option_map (shown names) o ≡ Some a → (s : Stored) × (n : List ℕ × Kinds) × (slice_get stored i ≡ Some s) × (slice_get names s.name ≡ Some n) × (a ≡ shown names s) × (a.name ≡ n.0)
      by None e h = absurd (cc)
      by (Some s) e h =
          let n = get-within names s.name (together.named i s e) in
          let is : a ≡ shown names s = cc in
          (s, n.0, e, n.1, is, ap (λ b. b.name) is ∙ name-at names s.name n.0 n.1)

  -- a name that is not among the names has no number
  pub kinds-absent : (name : List ℕ) → position (λ n. bytes_eq name n.0) names ≡ None → no_kinds ≡ kinds_of name (all_shown names stored)
  kinds-absent name h = no_kinds-absent name (all_shown names stored) other
    where
      other : (i : ℕ) (a : Attribute) → slice_get (all_shown names stored) i ≡ Some a → name ≢ a.name
      other i a at e =
          let s = shown-named i a at in
          true≢false (sym ((bytes_eq-Decides name s.1.0).1 (e ∙ s.5)) ∙ first-none (λ n. bytes_eq name n.0) names (sym (position-first (λ n. bytes_eq name n.0) names) ∙ h) s.0.name s.1 s.3)

  -- a name that is among the names has the numbers there
  pub kinds-present : (name : List ℕ) (place : ℕ) (kinds : Kinds) → position (λ n. bytes_eq name n.0) names ≡ Some place → option_map (λ n. n.1) (slice_get names place) ≡ Some kinds → kinds ≡ kinds_of name (all_shown names stored)
  kinds-present name place kinds h at =
      let f = first-some (λ n. bytes_eq name n.0) names place (sym (position-first (λ n. bytes_eq name n.0) names) ∙ h) in
      let is : kinds ≡ f.0.1 = some_same (ap (option_map (λ n. n.1)) f.1) at in
      is ∙ together.kinds place f.0 f.1 ∙ ap (λ t. kinds_of t (all_shown names stored)) (sym ((bytes_eq-Decides name f.0.0).0 f.2))
    where
      some_same : {o : Option Kinds} {x y : Kinds} → o ≡ Some x → o ≡ Some y → y ≡ x
      some_same p q = cc

-- ---- one attribute changed

-- the pair of an attribute, which no change touches
abbrev pub pair : Attribute → List ℕ × kind.Kind
pair a = (a.name, a.kind)

-- what is found hangs on the pairs alone
pub id_of-pairs : (name : List ℕ) (of : kind.Kind) (before after : Attributes) → map pair after ≡ map pair before → id_of name of after ≡ id_of name of before
id_of-pairs name of before after h =
    let p : List ℕ × kind.Kind → Bool = λ q. bytes_eq name q.0 && nat_eq (rank of) (rank q.1) in
    let along : (list : Attributes) → position (is_of name of) list ≡ first p (map pair list) = λ list. position-first (is_of name of) list ∙ sym (first-map p pair list) in
    ap (option_map number) (along after ∙ ap (first p) h ∙ sym (along before))

pub kinds_of-pairs : (name : List ℕ) (before after : Attributes) → map pair after ≡ map pair before → kinds_of name after ≡ kinds_of name before
kinds_of-pairs name before after h = λ i. record {
  bool_id = id_of-pairs name kind.TheVariants.Bool before after h i;
  int_id = id_of-pairs name kind.TheVariants.Int before after h i;
  text_id = id_of-pairs name kind.TheVariants.Text before after h i;
  array_id = id_of-pairs name kind.TheVariants.Array before after h i;
  object_id = id_of-pairs name kind.TheVariants.Object before after h i;
}

pub IsOnce-pairs : (before after : Attributes) → map pair after ≡ map pair before → IsOnce before → IsOnce after
IsOnce-pairs before after h once i a at = by (slice_get before i) refl
  where
    same : (o : Option Attribute) → slice_get before i ≡ o → option_map pair o ≡ Some (pair a)
    same o e = ap (option_map pair) (sym e) ∙ sym (slice_get-map pair before i) ∙ ap (λ l. slice_get l i) (sym h) ∙ slice_get-map pair after i ∙ ap (option_map pair) at

    by : (o : Option Attribute) → slice_get before i ≡ o → id_of a.name a.kind after ≡ Some (number i)
    by None e = absurd (let n = same None e in cc)
    by (Some b) e =
        let n : pair b ≡ pair a = cc (same (Some b) e) in
        id_of-pairs a.name a.kind before after h ∙ sym (ap (λ q. id_of q.0 q.1 before) n) ∙ once i b e

-- what is read at the place of an attribute stands there
pub standing : (names : Named) (stored : List Stored) (value : Attributes) (i : ℕ) (s : Stored) → all_shown names stored ≡ value → i < length value → s ≡ get_or stored i s → slice_get stored i ≡ Some s
standing names stored value i s e h is = slice_get_read stored (length stored) i s refl (omega (arith, length-map stored (shown names), ap length e)) is

set_same : {X Y : Type 0} (f : X → Y) (xs : List X) (i : ℕ) (x y : X) → slice_get xs i ≡ Some x → f y ≡ f x → map f (set xs i y) ≡ map f xs
set_same f [] i x y at e = absurd (cc)
set_same f (z ∷ xs) zero x y at e = let s : z ≡ x = cc in ap (λ w. w ∷ map f xs) (e ∙ ap f (sym s))
set_same f (z ∷ xs) (suc i) x y at e = ap (λ l. f z ∷ l) (set_same f xs i x y at e)

map-map : {X Y Z : Type 0} (f : X → Y) (g : Y → Z) (xs : List X) → map g (map f xs) ≡ map (λ x. g (f x)) xs
map-map f g [] = refl
map-map f g (x ∷ xs) = ap (λ l. g (f x) ∷ l) (map-map f g xs)

module _ (names : Named) (stored : List Stored) (together : BelongTogether names stored) (i : ℕ) (s t : Stored) (change : Attribute → Attribute) (at : slice_get stored i ≡ Some s) (as_shown : ShowsAs change s t) where
  -- the attribute that is shown is the one that changes
  pub changed-shown : all_shown names (set stored i t) ≡ changed change (number i) (all_shown names stored)
  changed-shown =
      map-set (shown names) stored i t ∙ ap (set (all_shown names stored) i) (as_shown.0 names)
      ∙ sym (ap (λ o. option_map_or (λ a. set (all_shown names stored) i (change a)) o (all_shown names stored)) (slice_get-map (shown names) stored i ∙ ap (option_map (shown names)) at))

  pairs_stay : map pair (all_shown names (set stored i t)) ≡ map pair (all_shown names stored)
  pairs_stay =
      map-map (shown names) pair (set stored i t) ∙ set_same (λ x. pair (shown names x)) stored i s t at (λ j. (name_at names (as_shown.1 j), as_shown.2 j)) ∙ sym (map-map (shown names) pair stored)

  pub together-changed : BelongTogether names (set stored i t)
  together-changed = record {
    named = λ k x h. elim (get-set stored i t k x h) [ inl a ↦ let e : x.name ≡ s.name = ap (λ y. y.name) a.1 ∙ as_shown.1 in subst (λ n. n < length names) (sym e) (together.named i s at) | inr b ↦ together.named k x b.1 ];
    kinds = λ k n h. together.kinds k n h ∙ sym (kinds_of-pairs n.0 (all_shown names stored) (all_shown names (set stored i t)) pairs_stay);
    used = λ p h. used-changed stored i s t at as_shown.1 p (together.used p h);
    apart = together.apart;
    once = IsOnce-pairs (all_shown names stored) (all_shown names (set stored i t)) pairs_stay together.once;
    few = rw length-set together.few;
  }
