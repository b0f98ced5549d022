-- A catalog without its last attribute is a catalog.
use Rattle.std.proofs.Common.{◌≡◌, ◌≢◌, ℕ, ◌+◌, ◌-◌, ◌<◌, ◌≤◌, ◌⊎◌, inl, inr, Bool, true, false, cond, List, [], ◌∷◌, ◌++◌, length, set, Option, Some, None, option_map, slice_get, refl, sym, ap, subst, ◌∙◌, arith, length-append, length-set}
use Rattle.std.proofs.lemmas.Bool.{cases_lt}
use Rattle.std.proofs.lemmas.List.{map-append, length-map}
use Rattle.std.proofs.lemmas.Option.{slice_get_within, slice_get-map}
use Rattle.std.proofs.lemmas.Slice.Eq.{bytes_eq-Decides}
use Rattle.doc_values.specs.declared.attr_id.AttrId.{AttrId}
use Rattle.doc_values.specs.declared.kind.Kind as kind
use Rattle.attr_catalog.specs.declared.kinds.Kinds.{Kinds}
use Rattle.attr_catalog.specs.declared.stored.Stored.{Stored}
use Rattle.attr_catalog.specs.Attribute.{Attribute}
use Rattle.attr_catalog.specs.Catalog.{Attributes, is_of, number, id_of, kinds_of, IsOnce, most_attributes, id_at}
use Rattle.attr_catalog.specs.Inside.{Named, name_at, shown, all_shown, with_id, no_kinds, Forgets, IsUsed, BelongTogether}
use Rattle.attr_catalog.proofs.Positions.{first, position-first, first-some, first-push, or_else, get-front, get-last, get-push, get-set, get-within}
use Rattle.attr_catalog.proofs.Kept.{name-at, no_kinds-absent, shown-named}
use Rattle.attr_catalog.proofs.OneMore.{kinds-push, kinds-other}
use Rattle.attr_catalog.proofs.Used.{IsNewest, used-front}
use Rattle.attr_catalog.proofs.Appended.{map-same, name_at-set, apart-set}

-- ---- what is found in front of the last

shrunk_by : (o : Option ℕ) (b : Bool) (n i : ℕ) → i < n → option_map number (or_else o (cond b (Some n) None)) ≡ Some (number i) → option_map number o ≡ Some (number i)
shrunk_by None true n i h e = absurd (let f : AttrId → ℕ = λ a. a.0 in let g : Some n ≡ Some i = ap (option_map f) e in let k : n ≡ i = cc in omega arith)
shrunk_by None false n i h e = absurd (cc)
shrunk_by (Some j) b n i h e = e

gone_by : (o : Option ℕ) (b : Bool) (n : ℕ) → ((j : ℕ) → o ≡ Some j → j < n) → option_map number (or_else o (cond b (Some n) None)) ≡ Some (number n) → option_map number o ≡ None
gone_by None b n h e = refl
gone_by (Some j) b n h e = absurd (let f : AttrId → ℕ = λ a. a.0 in let g : Some j ≡ Some n = ap (option_map f) e in let k : j ≡ n = cc in let m : j < n = h j refl in omega arith)

along : (name : List ℕ) (of : kind.Kind) (list : Attributes) (a : Attribute) → id_of name of (list ++ a ∷ []) ≡ option_map number (or_else (first (is_of name of) list) (cond (is_of name of a) (Some (length list)) None))
along name of list a = ap (option_map number) (position-first (is_of name of) (list ++ a ∷ []) ∙ first-push (is_of name of) list a)

here : (name : List ℕ) (of : kind.Kind) (list : Attributes) → option_map number (first (is_of name of) list) ≡ id_of name of list
here name of list = ap (option_map number) (sym (position-first (is_of name of) list))

module _ (list : Attributes) (a : Attribute) (once : IsOnce (list ++ a ∷ [])) where
  -- each pair stands once in front of the last
  pub IsOnce-front : IsOnce list
  IsOnce-front i x at =
      sym (here x.name x.kind list)
      ∙ shrunk_by (first (is_of x.name x.kind) list) (is_of x.name x.kind a) (length list) i (slice_get_within list i x at) (sym (along x.name x.kind list a) ∙ once i x (get-front list a i x at))

  -- the last pair does not stand in front of itself
  pub gone : id_of a.name a.kind list ≡ None
  gone =
      sym (here a.name a.kind list)
      ∙ gone_by (first (is_of a.name a.kind) list) (is_of a.name a.kind a) (length list) (λ j h. let f = first-some (is_of a.name a.kind) list j h in slice_get_within list j f.0 f.1)
      (sym (along a.name a.kind list a) ∙ once (length list) a (get-last list a))

-- ---- the numbers of one name

written_over : (of : kind.Kind) (x : Option AttrId) (k : Kinds) → with_id of None (with_id of x k) ≡ with_id of None k
written_over kind.TheVariants.Bool x k = refl
written_over kind.TheVariants.Int x k = refl
written_over kind.TheVariants.Text x k = refl
written_over kind.TheVariants.Array x k = refl
written_over kind.TheVariants.Object x k = refl

pub id_at-kinds_of : (of : kind.Kind) (name : List ℕ) (list : Attributes) → id_at of (kinds_of name list) ≡ id_of name of list
id_at-kinds_of kind.TheVariants.Bool name list = refl
id_at-kinds_of kind.TheVariants.Int name list = refl
id_at-kinds_of kind.TheVariants.Text name list = refl
id_at-kinds_of kind.TheVariants.Array name list = refl
id_at-kinds_of kind.TheVariants.Object name list = refl

id_at-none : (of : kind.Kind) → id_at of no_kinds ≡ None
id_at-none kind.TheVariants.Bool = refl
id_at-none kind.TheVariants.Int = refl
id_at-none kind.TheVariants.Text = refl
id_at-none kind.TheVariants.Array = refl
id_at-none kind.TheVariants.Object = refl

none_already : (of : kind.Kind) (k : Kinds) → id_at of k ≡ None → with_id of None k ≡ k
none_already kind.TheVariants.Bool k e = λ i. record k { bool_id = sym e i }
none_already kind.TheVariants.Int k e = λ i. record k { int_id = sym e i }
none_already kind.TheVariants.Text k e = λ i. record k { text_id = sym e i }
none_already kind.TheVariants.Array k e = λ i. record k { array_id = sym e i }
none_already kind.TheVariants.Object k e = λ i. record k { object_id = sym e i }

module _ (names : Named) (front : List Stored) (s : Stored) (together : BelongTogether names (front ++ s ∷ [])) (n : List ℕ × Kinds) (at : slice_get names s.name ≡ Some n) where
  abbrev list : Attributes
  list = all_shown names front

  abbrev last : Attribute
  last = shown names s

  whole : all_shown names (front ++ s ∷ []) ≡ list ++ last ∷ []
  whole = map-append (shown names) front (s ∷ [])

  once_whole : IsOnce (list ++ last ∷ [])
  once_whole = subst IsOnce whole together.once

  last_name : last.name ≡ n.0
  last_name = name-at names s.name n at

  -- what is left of the numbers of its name
  left_over : with_id s.kind None n.1 ≡ kinds_of n.0 list
  left_over =
      let none : id_of n.0 s.kind list ≡ None = ap (λ t. id_of t s.kind list) (sym last_name) ∙ gone list last once_whole in
      ap (with_id s.kind None) (together.kinds s.name n at ∙ ap (kinds_of n.0) whole ∙ kinds-push n.0 list last s.kind refl ((bytes_eq-Decides n.0 last.name).1 (sym last_name)) none)
      ∙ written_over s.kind (Some (number (length list))) (kinds_of n.0 list) ∙ none_already s.kind (kinds_of n.0 list) (id_at-kinds_of s.kind n.0 list ∙ none)

  others : (p : ℕ) (m : List ℕ × Kinds) → slice_get names p ≡ Some m → (p ≡ s.name → ⊥) → m.1 ≡ kinds_of m.0 list
  others p m h apart = together.kinds p m h ∙ ap (kinds_of m.0) whole ∙ kinds-other m.0 list last (λ e. apart (together.apart p s.name m n h at (e ∙ last_name)))

  named_front : (i : ℕ) (x : Stored) → slice_get front i ≡ Some x → x.name < length names
  named_front i x h = together.named i x (get-front front s i x h)

  few_front : length front ≤ most_attributes
  few_front = let e : length (front ++ s ∷ []) ≤ most_attributes = together.few in omega (arith, length-append front (s ∷ []))

  -- where no number is left of a name, no attribute in front has it
  not_last : with_id s.kind None n.1 ≡ no_kinds → (i : ℕ) (x : Stored) → slice_get front i ≡ Some x → x.name ≡ s.name → ⊥
  not_last empty i x h e =
      let b : Attribute = shown names x in
      let found : id_of b.name x.kind list ≡ Some (number i) = IsOnce-front list last once_whole i b (slice_get-map (shown names) front i ∙ ap (option_map (shown names)) h) in
      let same : b.name ≡ n.0 = ap (name_at names) e ∙ last_name in
      let none : id_of n.0 x.kind list ≡ None = sym (id_at-kinds_of x.kind n.0 list) ∙ ap (id_at x.kind) (sym left_over ∙ empty) ∙ id_at-none x.kind in
      let both : Some (number i) ≡ None = sym found ∙ ap (λ t. id_of t x.kind list) same ∙ none in
      cc

  named_within : s.name < length names
  named_within = slice_get_within names s.name n at

  -- and it is the last name
  last_by : with_id s.kind None n.1 ≡ no_kinds → (place : ℕ) → s.name < place → IsUsed front place ⊎ IsNewest front s place → IsUsed front s.name ⊎ IsNewest front s s.name → ⊥
  last_by empty place more (inr x) v = omega (arith, x.named)
  last_by empty place more (inl u) (inl v) = not_last empty v.first v.attribute v.there v.named
  last_by empty place more (inl u) (inr x) = let below : u.attribute.name < s.name = x.below u.first u.attribute u.there in omega (arith, u.named)

  pub is_last : with_id s.kind None n.1 ≡ no_kinds → s.name + 1 ≡ length names
  is_last empty = by (cases_lt (s.name + 1) (length names))
    where
      by : (s.name + 1 < length names) ⊎ (length names ≤ s.name + 1) → s.name + 1 ≡ length names
      by (inl l) =
          absurd (last_by empty (length names - 1) (omega arith) (used-front front s (length names - 1) (together.used (length names - 1) (omega arith))) (used-front front s s.name (together.used s.name named_within)))
      by (inr g) = let within : s.name < length names = named_within in omega arith

  -- where only earlier names stand in front, no number is left of the name
  none_left : ((i : ℕ) (t : Stored) → slice_get front i ≡ Some t → t.name < s.name) → no_kinds ≡ kinds_of n.0 list
  none_left below = no_kinds-absent n.0 list other
    where
      other : (i : ℕ) (a : Attribute) → slice_get list i ≡ Some a → n.0 ≢ a.name
      other i a h e =
          let x = shown-named names (front ++ s ∷ []) together i a (ap (λ l. slice_get l i) whole ∙ get-front list last i a h) in
          let same : x.0.name ≡ s.name = together.apart x.0.name s.name x.1 n x.3 at (sym x.5 ∙ sym e) in
          let within : i < length list = slice_get_within list i a h in
          elim (get-push front s i x.0 x.2) [
            | inl f ↦ let earlier : x.0.name < s.name = below i x.0 f in omega arith
            | inr g ↦ omega (arith, g.0, length-map front (shown names))
          ]

  -- where the name stays
  abbrev less : Kinds
  less = with_id s.kind None n.1

  abbrev kept : Named
  kept = set names s.name (name_at names s.name, less)

  kept-shown : all_shown kept front ≡ list
  kept-shown = map-same (shown kept) (shown names) front (λ k x h j. record { name = name_at-set names s.name less x.name j; kind = x.kind; count = x.count; home = x.home; mark = x.mark })

  kept_by : (p : ℕ) (m : List ℕ × Kinds) → ((p ≡ s.name) × (m ≡ (name_at names s.name, less))) ⊎ ((p ≡ s.name → ⊥) × (slice_get names p ≡ Some m)) → m.1 ≡ kinds_of m.0 list
  kept_by p m (inl a) = ap (λ k. k.1) a.1 ∙ left_over ∙ ap (λ t. kinds_of t list) (sym last_name ∙ sym (ap (λ k. k.0) a.1))
  kept_by p m (inr b) = others p m b.1 b.0

  used_by : less ≢ no_kinds → (p : ℕ) → IsUsed front p ⊎ IsNewest front s p → IsUsed front p
  used_by some p (inl u) = u
  used_by some p (inr x) = absurd (some (left_over ∙ sym (none_left (λ i t h. let below : t.name < p = x.below i t h in omega (arith, x.named)))))

  used_kept : less ≢ no_kinds → (p : ℕ) → p < length kept → IsUsed front p
  used_kept some p h =
      let e : length kept ≡ length names = length-set names s.name (name_at names s.name, less) in
      used_by some p (used-front front s p (together.used p (omega arith)))

  kept-together : less ≢ no_kinds → BelongTogether kept front
  kept-together some = record {
    named = λ i x h. let e : length kept ≡ length names = length-set names s.name (name_at names s.name, less) in let f : x.name < length names = named_front i x h in omega arith;
    kinds = λ p m h. kept_by p m (get-set names s.name (name_at names s.name, less) p m h) ∙ ap (kinds_of m.0) (sym kept-shown);
    used = used_kept some;
    apart = apart-set names s.name less together.apart;
    once = subst IsOnce (sym kept-shown) (IsOnce-front list last once_whole);
    few = few_front;
  }

  -- where the name goes
  module _ (fewer : Named) (is : names ≡ fewer ++ n ∷ []) (empty : with_id s.kind None n.1 ≡ no_kinds) where
    at_end : s.name ≡ length fewer
    at_end = together.apart s.name (length fewer) n n at (ap (λ l. slice_get l (length fewer)) is ∙ get-last fewer n) refl

    in_front : (p : ℕ) (m : List ℕ × Kinds) → slice_get fewer p ≡ Some m → slice_get names p ≡ Some m
    in_front p m h = ap (λ l. slice_get l p) is ∙ get-front fewer n p m h

    named_fewer : (i : ℕ) (x : Stored) → slice_get front i ≡ Some x → x.name < length fewer
    named_fewer i x h =
        let a : x.name < length names = named_front i x h in
        let b : x.name ≢ length fewer = λ e. not_last empty i x h (e ∙ sym at_end) in
        omega (arith, ap length is, length-append fewer (n ∷ []))

    fewer-shown : all_shown fewer front ≡ list
    fewer-shown = map-same (shown fewer) (shown names) front same
      where
        same : (i : ℕ) (x : Stored) → slice_get front i ≡ Some x → shown fewer x ≡ shown names x
        same i x h =
            let m = get-within fewer x.name (named_fewer i x h) in
            let e : name_at fewer x.name ≡ name_at names x.name = name-at fewer x.name m.0 m.1 ∙ sym (name-at names x.name m.0 (in_front x.name m.0 m.1)) in
            λ j. record { name = e j; kind = x.kind; count = x.count; home = x.home; mark = x.mark }

    used_fewer_by : (p : ℕ) → p < length fewer → IsUsed front p ⊎ IsNewest front s p → IsUsed front p
    used_fewer_by p h (inl u) = u
    used_fewer_by p h (inr x) = absurd (omega (arith, x.named, at_end))

    used_fewer : (p : ℕ) → p < length fewer → IsUsed front p
    used_fewer p h = used_fewer_by p h (used-front front s p (together.used p (omega (arith, ap length is, length-append fewer (n ∷ [])))))

    fewer-together : BelongTogether fewer front
    fewer-together = record {
      named = named_fewer;
      kinds = λ p m h. others p m (in_front p m h) (λ e. let w : p < length fewer = slice_get_within fewer p m h in let f : p ≡ length fewer = e ∙ at_end in omega arith) ∙ ap (kinds_of m.0) (sym fewer-shown);
      used = used_fewer;
      apart = λ i j a b p q e. together.apart i j a b (in_front i a p) (in_front j b q) e;
      once = subst IsOnce (sym fewer-shown) (IsOnce-front list last once_whole);
      few = few_front;
    }

-- what a call is left with
pub cut-ends : (names names' : Named) (stored front : List Stored) (s : Stored) → BelongTogether names stored → stored ≡ front ++ s ∷ [] → Forgets s.name s.kind names names' → BelongTogether names' front × (all_shown names stored ≡ all_shown names' front ++ shown names s ∷ [])
cut-ends names names' stored front s together is forgets = by forgets.2
  where
    t : BelongTogether names (front ++ s ∷ [])
    t = subst (BelongTogether names) is together

    seen : all_shown names stored ≡ all_shown names front ++ shown names s ∷ []
    seen = ap (all_shown names) is ∙ map-append (shown names) front (s ∷ [])

    by : ((with_id s.kind None forgets.0.1 ≢ no_kinds) × (names' ≡ set names s.name (name_at names s.name, with_id s.kind None forgets.0.1))) ⊎ ((with_id s.kind None forgets.0.1 ≡ no_kinds) × (names ≡ names' ++ forgets.0 ∷ [])) → BelongTogether names' front × (all_shown names stored ≡ all_shown names' front ++ shown names s ∷ [])
    by (inl a) =
        (subst (λ l. BelongTogether l front) (sym a.1) (kept-together names front s t forgets.0 forgets.1 a.0), seen ∙ ap (λ l. l ++ shown names s ∷ []) (sym (ap (λ l. all_shown l front) a.1 ∙ kept-shown names front s t forgets.0 forgets.1)))
    by (inr b) =
        (fewer-together names front s t forgets.0 forgets.1 names' b.1 b.0, seen ∙ ap (λ l. l ++ shown names s ∷ []) (sym (fewer-shown names front s t forgets.0 forgets.1 names' b.1 b.0)))

-- a name of which no number is left stands last
pub cut-last : (names : Named) (stored front : List Stored) (s : Stored) → BelongTogether names stored → stored ≡ front ++ s ∷ [] → (n : List ℕ × Kinds) → slice_get names s.name ≡ Some n → with_id s.kind None n.1 ≡ no_kinds → s.name + 1 ≡ length names
cut-last names stored front s together is n at empty = is_last names front s (subst (BelongTogether names) is together) n at empty
