-- A catalog with one attribute more is a catalog.
use Rattle.std.proofs.Common.{◌≡◌, ◌≢◌, ℕ, zero, suc, ◌<◌, ◌≤◌, ◌⊎◌, inl, inr, false, true≢false, List, [], ◌∷◌, ◌++◌, length, map, set, Option, Some, None, option_map, slice_get, position, refl, sym, ap, subst, ◌∙◌, arith, length-append, length-set, Result, Ok, Err, OnOk}
use Rattle.std.specs.Result.{is_err}
use Rattle.std.specs.Str.{bytes_eq}
use Rattle.std.proofs.lemmas.Bool.{cases_lt}
use Rattle.std.proofs.lemmas.List.{map-append, length-map}
use Rattle.std.proofs.lemmas.Option.{slice_get_within}
use Rattle.std.proofs.lemmas.Slice.Eq.{bytes_eq-Decides}
use Rattle.doc_values.specs.declared.attr_id.AttrId.{AttrId}
use Rattle.doc_values.specs.declared.kind.Kind as kind
use Rattle.attr_catalog.specs.declared.kinds.Kinds.{Kinds}
use Rattle.attr_catalog.specs.declared.stored.Stored.{Stored}
use Rattle.attr_catalog.specs.Attribute.{fresh}
use Rattle.attr_catalog.specs.Catalog.{Attributes, number, id_of, kinds_of, IsOnce, most_attributes}
use Rattle.attr_catalog.specs.Inside.{Named, AreApart, name_at, shown, all_shown, fresh_at, with_id, no_kinds, IsUsed, BelongTogether}
use Rattle.attr_catalog.proofs.Positions.{position-first, first-none, first-some, get-front, get-last, get-push, get-set, get-within}
use Rattle.attr_catalog.proofs.Kept.{name-at, kinds-absent}
use Rattle.attr_catalog.proofs.OneMore.{kinds-push, kinds-other, IsOnce-push}
use Rattle.attr_catalog.proofs.Used.{used-push, used-new}

pub map-same : {X Y : Type 0} (f g : X → Y) (xs : List X) → ((i : ℕ) (x : X) → slice_get xs i ≡ Some x → f x ≡ g x) → map f xs ≡ map g xs
map-same f g [] h = refl
map-same f g (x ∷ xs) h = λ i. h 0 x refl i ∷ map-same f g xs (λ k y at. h (suc k) y at) i

-- ---- names with other numbers at one place

pub name_at-set : (names : Named) (place : ℕ) (kinds : Kinds) (q : ℕ) → name_at (set names place (name_at names place, kinds)) q ≡ name_at names q
name_at-set [] place kinds q = refl
name_at-set (n ∷ names) zero kinds zero = refl
name_at-set (n ∷ names) zero kinds (suc q) = refl
name_at-set (n ∷ names) (suc place) kinds zero = refl
name_at-set (n ∷ names) (suc place) kinds (suc q) = name_at-set names place kinds q

-- each item behind the write has its name before it
pub named-before : (names : Named) (place : ℕ) (kinds : Kinds) (i : ℕ) (m : List ℕ × Kinds) → slice_get (set names place (name_at names place, kinds)) i ≡ Some m → (n : List ℕ × Kinds) × (slice_get names i ≡ Some n) × (n.0 ≡ m.0)
named-before names place kinds i m at =
    let h : i < length names = subst (λ k. i < k) (length-set names place (name_at names place, kinds)) (slice_get_within (set names place (name_at names place, kinds)) i m at) in
    let n = get-within names i h in
    (n.0, n.1, sym (name-at names i n.0 n.1) ∙ sym (name_at-set names place kinds i) ∙ name-at (set names place (name_at names place, kinds)) i m at)

pub apart-set : (names : Named) (place : ℕ) (kinds : Kinds) → AreApart names → AreApart (set names place (name_at names place, kinds))
apart-set names place kinds apart i j a b p q e =
    let m = named-before names place kinds i a p in
    let n = named-before names place kinds j b q in
    apart i j m.0 n.0 m.1 n.1 (m.2 ∙ e ∙ sym n.2)

-- ---- names with one more

absent : (names : Named) (name : List ℕ) → position (λ n. bytes_eq name n.0) names ≡ None → (i : ℕ) (n : List ℕ × Kinds) → slice_get names i ≡ Some n → name ≢ n.0
absent names name h i n at e =
    true≢false (sym ((bytes_eq-Decides name n.0).1 e) ∙ first-none (λ n. bytes_eq name n.0) names (sym (position-first (λ n. bytes_eq name n.0) names) ∙ h) i n at)

apart-push : (names : Named) (name : List ℕ) (kinds : Kinds) → AreApart names → ((i : ℕ) (n : List ℕ × Kinds) → slice_get names i ≡ Some n → name ≢ n.0) → AreApart (names ++ (name, kinds) ∷ [])
apart-push names name kinds apart new i j a b p q e = by (get-push names (name, kinds) i a p) (get-push names (name, kinds) j b q)
  where
    by : (slice_get names i ≡ Some a) ⊎ ((i ≡ length names) × (a ≡ (name, kinds))) → (slice_get names j ≡ Some b) ⊎ ((j ≡ length names) × (b ≡ (name, kinds))) → i ≡ j
    by (inl x) (inl y) = apart i j a b x y e
    by (inl x) (inr y) = absurd (new i a x (sym (ap (λ n. n.0) y.1) ∙ sym e))
    by (inr x) (inl y) = absurd (new j b y (sym (ap (λ n. n.0) x.1) ∙ e))
    by (inr x) (inr y) = x.0 ∙ sym y.0

module _ (names : Named) (stored : List Stored) (together : BelongTogether names stored) (name : List ℕ) (of : kind.Kind)
    (new : id_of name of (all_shown names stored) ≡ None) (room : length stored < most_attributes) where
  abbrev after : Attributes
  after = all_shown names stored ++ fresh name of ∷ []

  module _ (grown : Named) (place : ℕ) (stays : (q : ℕ) → q < length names → name_at grown q ≡ name_at names q) (there : name_at grown place ≡ name) where
    -- what is shown is one more
    pub grown-shown : all_shown grown (stored ++ fresh_at place of ∷ []) ≡ after
    grown-shown =
        map-append (shown grown) stored (fresh_at place of ∷ [])
        ∙ (λ i. map-same (shown grown) (shown names) stored (λ k s at j. record { name = stays s.name (together.named k s at) j; kind = s.kind; count = s.count; home = s.home; mark = s.mark }) i ++ fresh (there i) of ∷ [])

    pub grown-together : length names ≤ length grown → place < length grown → ((p : ℕ) (n : List ℕ × Kinds) → slice_get grown p ≡ Some n → n.1 ≡ kinds_of n.0 after) → AreApart grown
        → ((p : ℕ) → p < length grown → IsUsed (stored ++ fresh_at place of ∷ []) p) → BelongTogether grown (stored ++ fresh_at place of ∷ [])
    grown-together more within kinds apart used = record {
      named = λ k s at. elim (get-push stored (fresh_at place of) k s at) [ inl a ↦ let h : s.name < length names = together.named k s a in omega arith | inr b ↦ let e : s.name ≡ place = ap (λ x. x.name) b.1 in omega arith ];
      kinds = λ p n at. kinds p n at ∙ ap (kinds_of n.0) (sym grown-shown);
      used = used;
      apart = apart;
      once = subst IsOnce (sym grown-shown) (IsOnce-push (all_shown names stored) (fresh name of) together.once new);
      few = omega (arith, length-append stored (fresh_at place of ∷ []));
    }

  -- at a name that is there
  module _ (place : ℕ) (known : Kinds) (found : position (λ n. bytes_eq name n.0) names ≡ Some place) (there : option_map (λ n. n.1) (slice_get names place) ≡ Some known) where
    at_name : (n : List ℕ × Kinds) × (slice_get names place ≡ Some n) × (name ≡ n.0) × (n.1 ≡ known)
    at_name =
        let f = first-some (λ n. bytes_eq name n.0) names place (sym (position-first (λ n. bytes_eq name n.0) names) ∙ found) in
        (f.0, f.1, (bytes_eq-Decides name f.0.0).0 f.2, same (ap (option_map (λ n. n.1)) f.1) there)
      where
        same : {o : Option Kinds} {x y : Kinds} → o ≡ Some x → o ≡ Some y → x ≡ y
        same p q = cc

    abbrev more : Kinds
    more = with_id of (Some (number (length stored))) known

    abbrev known_names : Named
    known_names = set names place (name_at names place, more)

    named_there : name_at names place ≡ name
    named_there = name-at names place at_name.0 at_name.1 ∙ sym at_name.2

    more_is : more ≡ kinds_of name after
    more_is =
        ap (λ k. with_id of (Some (number k)) known) (sym (length-map stored (shown names))) ∙ ap (with_id of (Some (number (length (all_shown names stored))))) (sym at_name.3 ∙ together.kinds place at_name.0 at_name.1 ∙ ap (λ t. kinds_of t (all_shown names stored)) (sym at_name.2))
        ∙ sym (kinds-push name (all_shown names stored) (fresh name of) of refl ((bytes_eq-Decides name name).1 refl) new)

    kinds_by : (p : ℕ) (n : List ℕ × Kinds) → ((p ≡ place) × (n ≡ (name_at names place, more))) ⊎ ((p ≡ place → ⊥) × (slice_get names p ≡ Some n)) → n.1 ≡ kinds_of n.0 after
    kinds_by p n (inl a) = ap (λ m. m.1) a.1 ∙ more_is ∙ ap (λ t. kinds_of t after) (sym named_there ∙ sym (ap (λ m. m.0) a.1))
    kinds_by p n (inr b) =
        together.kinds p n b.1 ∙ sym (kinds-other n.0 (all_shown names stored) (fresh name of) (λ e. b.0 (together.apart p place n at_name.0 b.1 at_name.1 (e ∙ at_name.2))))

    pub known-shown : all_shown known_names (stored ++ fresh_at place of ∷ []) ≡ after
    known-shown = grown-shown known_names place (λ q h. name_at-set names place more q) (name_at-set names place more place ∙ named_there)

    pub known-together : BelongTogether known_names (stored ++ fresh_at place of ∷ [])
    known-together =
        grown-together known_names place (λ q h. name_at-set names place more q) (name_at-set names place more place ∙ named_there) (let e : length known_names ≡ length names = length-set names place (name_at names place, more) in omega arith)
        (let e : length known_names ≡ length names = length-set names place (name_at names place, more) in let h : place < length names = slice_get_within names place at_name.0 at_name.1 in omega arith)
        (λ p n at. kinds_by p n (get-set names place (name_at names place, more) p n at)) (apart-set names place more together.apart)
        (λ p h. let e : length known_names ≡ length names = length-set names place (name_at names place, more) in used-push stored (fresh_at place of) p (together.used p (omega arith)))

  -- at a new name
  module _ (missing : position (λ n. bytes_eq name n.0) names ≡ None) where
    abbrev alone : Kinds
    alone = with_id of (Some (number (length stored))) no_kinds

    abbrev more_names : Named
    more_names = names ++ (name, alone) ∷ []

    alone_is : alone ≡ kinds_of name after
    alone_is =
        ap (λ k. with_id of (Some (number k)) no_kinds) (sym (length-map stored (shown names))) ∙ ap (with_id of (Some (number (length (all_shown names stored))))) (kinds-absent names stored together name missing)
        ∙ sym (kinds-push name (all_shown names stored) (fresh name of) of refl ((bytes_eq-Decides name name).1 refl) new)

    stays_more : (q : ℕ) → q < length names → name_at more_names q ≡ name_at names q
    stays_more q h =
        let n = get-within names q h in
        name-at more_names q n.0 (get-front names (name, alone) q n.0 n.1) ∙ sym (name-at names q n.0 n.1)

    last_is : name_at more_names (length names) ≡ name
    last_is = name-at more_names (length names) (name, alone) (get-last names (name, alone))

    kinds_more : (p : ℕ) (n : List ℕ × Kinds) → (slice_get names p ≡ Some n) ⊎ ((p ≡ length names) × (n ≡ (name, alone))) → n.1 ≡ kinds_of n.0 after
    kinds_more p n (inl a) = together.kinds p n a ∙ sym (kinds-other n.0 (all_shown names stored) (fresh name of) (λ e. absent names name missing p n a (sym e)))
    kinds_more p n (inr b) = ap (λ m. m.1) b.1 ∙ alone_is ∙ ap (λ t. kinds_of t after) (sym (ap (λ m. m.0) b.1))

    used_by : (p : ℕ) → p < length more_names → (p < length names) ⊎ (length names ≤ p) → IsUsed (stored ++ fresh_at (length names) of ∷ []) p
    used_by p h (inl l) = used-push stored (fresh_at (length names) of) p (together.used p l)
    used_by p h (inr g) =
        let last : length names ≡ p = omega (arith, length-append names ((name, alone) ∷ [])) in
        subst (IsUsed (stored ++ fresh_at (length names) of ∷ [])) last (used-new stored (fresh_at (length names) of) together.named)

    used_more : (p : ℕ) → p < length more_names → IsUsed (stored ++ fresh_at (length names) of ∷ []) p
    used_more p h = used_by p h (cases_lt p (length names))

    pub new-shown : all_shown more_names (stored ++ fresh_at (length names) of ∷ []) ≡ after
    new-shown = grown-shown more_names (length names) stays_more last_is

    pub new-together : BelongTogether more_names (stored ++ fresh_at (length names) of ∷ [])
    new-together =
        grown-together more_names (length names) stays_more last_is (omega (arith, length-append names ((name, alone) ∷ []))) (omega (arith, length-append names ((name, alone) ∷ [])))
        (λ p n at. kinds_more p n (get-push names (name, alone) p n at)) (apart-push names name alone together.apart (absent names name missing))
        used_more

-- ---- what a call is left with

pub no_error : {A E : Type 0} {P : Type 0} (r : Result A E) → is_err r ≡ false → OnOk r P → P
no_error (Ok x) h p = p
no_error (Err x) h p = absurd (true≢false h)

pub on_ok : {A E : Type 0} {P : Type 0} (r : Result A E) → P → OnOk r P
on_ok (Ok x) p = p
on_ok (Err x) p = tt

module _ (names : Named) (stored : List Stored) (together : BelongTogether names stored) (value : Attributes) (seen : all_shown names stored ≡ value) (name : List ℕ) (of : kind.Kind) (id : AttrId)
    (new : id_of name of value ≡ None) (next : id.0 ≡ length value) (room : length value < most_attributes) (kinds : Kinds) (s : Stored) (names' : Named) (stored' : List Stored) (pushed : stored' ≡ stored ++ s ∷ []) where
  is_new : id_of name of (all_shown names stored) ≡ None
  is_new = ap (id_of name of) seen ∙ new

  has_room : length stored < most_attributes
  has_room = omega (arith, ap length seen, length-map stored (shown names))

  is_next : id ≡ number (length stored)
  is_next = ap number (next ∙ sym (ap length seen) ∙ length-map stored (shown names))

  pub known-ends : (place : ℕ) (known : Kinds) → position (λ n. bytes_eq name n.0) names ≡ Some place → option_map (λ n. n.1) (slice_get names place) ≡ Some known → kinds ≡ with_id of (Some id) known → s ≡ fresh_at place of
      → names' ≡ set names place (name_at names place, kinds) → BelongTogether names' stored' × (all_shown names' stored' ≡ value ++ fresh name of ∷ [])
  known-ends place known found there more fresh_is wrote =
      let n : names' ≡ set names place (name_at names place, with_id of (Some (number (length stored))) known) = wrote ∙ ap (λ k. set names place (name_at names place, k)) (more ∙ ap (λ i. with_id of (Some i) known) is_next) in
      let t : stored' ≡ stored ++ fresh_at place of ∷ [] = pushed ∙ ap (λ x. stored ++ x ∷ []) fresh_is in
      (subst (λ l. BelongTogether l stored') (sym n) (subst (λ l. BelongTogether (set names place (name_at names place, with_id of (Some (number (length stored))) known)) l) (sym t) (known-together names stored together name of is_new has_room place known found there)), (λ i. all_shown (n i) (t i)) ∙ known-shown names stored together name of is_new has_room place known found there ∙ ap (λ v. v ++ fresh name of ∷ []) seen)

  pub new-ends : (last : ℕ) → position (λ n. bytes_eq name n.0) names ≡ None → kinds ≡ with_id of (Some id) no_kinds → last ≡ length names → s ≡ fresh_at last of
      → names' ≡ names ++ (name, kinds) ∷ [] → BelongTogether names' stored' × (all_shown names' stored' ≡ value ++ fresh name of ∷ [])
  new-ends last missing more last_place fresh_is wrote =
      let n : names' ≡ names ++ (name, with_id of (Some (number (length stored))) no_kinds) ∷ [] = wrote ∙ ap (λ k. names ++ (name, k) ∷ []) (more ∙ ap (λ i. with_id of (Some i) no_kinds) is_next) in
      let t : stored' ≡ stored ++ fresh_at (length names) of ∷ [] = pushed ∙ ap (λ x. stored ++ x ∷ []) (fresh_is ∙ ap (λ k. fresh_at k of) last_place) in
      (subst (λ l. BelongTogether l stored') (sym n) (subst (λ l. BelongTogether (names ++ (name, with_id of (Some (number (length stored))) no_kinds) ∷ []) l) (sym t) (new-together names stored together name of is_new has_room missing)), (λ i. all_shown (n i) (t i)) ∙ new-shown names stored together name of is_new has_room missing ∙ ap (λ v. v ++ fresh name of ∷ []) seen)
