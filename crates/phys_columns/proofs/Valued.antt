-- The values of a column, as its pages change.
use Rattle.std.proofs.Common.{◌≡◌, ◌≢◌, ◌<◌, ◌≤◌, ◌∙◌, ap, sym, refl, subst, arith, ℕ, ◌+◌, ◌*◌, ◌/◌, ◌%◌, List, length, true, false, Option, Some, None, IfSome, slice_get, slice_set, inl, inr, if◌then◌else◌, slice_index_or}
use Rattle.std.specs.List.{insert, remove}
use Rattle.std.specs.Option.{option_map_or}
use Rattle.std.proofs.lemmas.Option.{slice_get_read, slice_get_cases}
use Rattle.std.proofs.lemmas.Bool.Decides.{eqb_tells}
use Rattle.doc_values.specs.declared.kind.Kind as kind
use Rattle.doc_values.specs.declared.value.Value.{Value}
use Rattle.doc_values.specs.Value.{kind_of}
use Rattle.phys_columns.specs.declared.page.Page.{Page}
use Rattle.phys_columns.specs.declared.slots.Slots as slots
use Rattle.phys_columns.specs.Pages.{IsPage, is_marked, kind_in, value_in, value_at, Holds}
use Rattle.phys_columns.specs.Inside.{ArePages, FitsAt, IsOfKind, page_at, column_value, most_pages}
use Rattle.phys_columns.proofs.Paged.{page_is, set_pages, set_other, set_here, insert_pages, insert_other, insert_here, remove_pages, remove_other, remove_here}

abbrev pub value_on : Option Page → ℕ → Option Value
value_on page version = option_map_or (λ p. value_at p (version % 1024)) page None

-- A page stands at a place of the pages, and has the number.
pub record StandsAt (pages : List Page) (n i : ℕ) (p : Page) : Type 0 where
  pub are : ArePages 0 pages
  pub there : slice_get pages i ≡ Some p
  pub number : p.number ≡ n
  pub low : p.number < most_pages
  pub page : IsPage p
  pub at : page_at n pages ≡ Some p

-- What the search for a number has found.
pub stands : (pages seen : List Page) (n i : ℕ) (p : Page) → seen ≡ pages → ArePages 0 pages → (i < length seen) × (slice_get seen i ≡ page_at n seen) → p ≡ slice_index_or pages i p → StandsAt pages n i p
stands pages seen n i p same are place is =
    let within : i < length pages = subst (λ xs. i < length xs) same place.0 in
    let found_at : slice_get pages i ≡ page_at n pages = subst (λ xs. slice_get xs i ≡ page_at n xs) same place.1 in
    let there = slice_get_read pages (length pages) i p refl within is in
    let facts = page_is n 0 pages are p (sym found_at ∙ there) in
    record { are = are; there = there; number = facts.0; low = subst (λ m. m < most_pages) (sym facts.0) facts.1; page = facts.2; at = sym found_at ∙ there }

-- What the search for a number has not found.
pub fits_there : (pages seen : List Page) (n i : ℕ) → seen ≡ pages → (i ≤ length seen) × (page_at n seen ≡ None) × FitsAt n i seen → (i ≤ length pages) × (page_at n pages ≡ None) × FitsAt n i pages
fits_there pages seen n i same place = subst (λ xs. (i ≤ length xs) × (page_at n xs ≡ None) × FitsAt n i xs) same place

module _ (pages : List Page) (version i : ℕ) (p q : Page) (s : StandsAt pages (version / 1024) i p) (same : q.number ≡ p.number) (page : IsPage q) where
  -- The page at a place is changed.
  pub changed_pages : ArePages 0 (slice_set pages i q)
  changed_pages = set_pages 0 pages s.are i p q s.there same page

  new_at : page_at (version / 1024) (slice_set pages i q) ≡ Some q
  new_at = subst (λ n. page_at n (slice_set pages i q) ≡ Some q) s.number (set_here 0 pages s.are i p q s.there same page)

  pub other_at : (n : ℕ) → n ≢ version / 1024 → page_at n (slice_set pages i q) ≡ page_at n pages
  other_at n apart = set_other pages i p q s.there same n (λ e. apart (e ∙ s.number))

  pub changed_here : column_value (slice_set pages i q) version ≡ value_at q (version % 1024)
  changed_here = ap (λ r. value_on r version) new_at

  pub changed_kept : ((k : ℕ) → k ≢ version % 1024 → value_at q k ≡ value_at p k) → (w : ℕ) → w ≢ version → column_value (slice_set pages i q) w ≡ column_value pages w
  changed_kept kept w apart = elim (eqb_tells (w / 1024) (version / 1024)) [
    | inl here ↦ ap (λ n. value_on (page_at n (slice_set pages i q)) w) here.1 ∙ ap (λ r. value_on r w) new_at ∙ kept (w % 1024) (λ e. apart (omega (arith, e, here.1))) ∙ sym (ap (λ n. value_on (page_at n pages) w) here.1 ∙ ap (λ r. value_on r w) s.at)
    | inr differs ↦ ap (λ r. value_on r w) (other_at (w / 1024) differs.1)
  ]

  pub changed_room : (k : kind.Kind) → kind_in q.slots ≡ k → IsOfKind k (page_at (version / 1024) (slice_set pages i q))
  changed_room k is = subst (λ r. IsOfKind k r) (sym new_at) is

  pub changed_rooms : kind_in q.slots ≡ kind_in p.slots → (k : kind.Kind) → IsOfKind k (page_at (version / 1024) pages) → IsOfKind k (page_at (version / 1024) (slice_set pages i q))
  changed_rooms alike k is = changed_room k (alike ∙ subst (IsOfKind k) s.at is)

  pub changed_held : Holds q → IfSome (page_at (version / 1024) (slice_set pages i q)) Holds
  changed_held held = subst (λ o. IfSome o Holds) (sym new_at) held

-- What a page holds is of its kind.
pub kind_is : (p : Page) (k : ℕ) (v : Value) → value_at p k ≡ Some v → kind_of v ≡ kind_in p.slots
kind_is p k v is = elim (is_marked p.marks k) as (λ b. (if b then Some (value_in p.slots k) else None) ≡ Some v → kind_of v ≡ kind_in p.slots) [
  | true ↦ λ e. ap kind_of (let same : v ≡ value_in p.slots k = (cc) in same) ∙ kind_in_value p.slots k
  | false ↦ λ e. cc
] is
  where
    kind_in_value : (s : slots.Slots) (k : ℕ) → kind_of (value_in s k) ≡ kind_in s
    kind_in_value (slots.TheVariants.Truths t) k = refl
    kind_in_value (slots.TheVariants.Numbers t) k = refl
    kind_in_value (slots.TheVariants.Texts t) k = refl
    kind_in_value (slots.TheVariants.Arrays t) k = refl
    kind_in_value slots.TheVariants.Objects k = refl

-- A version by its page and its place there.
pub at_place : (pages : List Page) (number k : ℕ) → k < 1024 → column_value pages (1024 * number + k) ≡ option_map_or (λ p. value_at p k) (page_at number pages) None
at_place pages number k below =
    let page : (1024 * number + k) / 1024 ≡ number = omega arith in
    let place : (1024 * number + k) % 1024 ≡ k = omega arith in
    ap (λ (n : ℕ). option_map_or (λ p. value_at p ((1024 * number + k) % 1024)) (page_at n pages) None) page ∙ ap (λ (m : ℕ). option_map_or (λ p. value_at p m) (page_at number pages) None) place

-- Where all values of a column are of a kind, so is each page that holds a value.
held_kind : (pages : List Page) (n : ℕ) (p : Page) → page_at n pages ≡ Some p → Holds p → (of : kind.Kind) → ((w : ℕ) (v : Value) → column_value pages w ≡ Some v → kind_of v ≡ of) → kind_in p.slots ≡ of
held_kind pages n p at held of alike =
    let here : value_at p held.0 ≡ Some (value_in p.slots held.0) = ap (λ b. if b then Some (value_in p.slots held.0) else None) held.2 in
    sym (kind_is p held.0 (value_in p.slots held.0) here) ∙ alike (1024 * n + held.0) (value_in p.slots held.0) (at_place pages n held.0 held.1 ∙ ap (λ o. option_map_or (λ q. value_at q held.0) o None) at ∙ here)

-- The page that a search has found is of the kind.
pub found_kind : (pages seen : List Page) (n i : ℕ) → seen ≡ pages → (i < length seen) × (slice_get seen i ≡ page_at n seen) → ((m : ℕ) → IfSome (page_at m pages) Holds) → (of : kind.Kind) → ((w : ℕ) (v : Value) → column_value pages w ≡ Some v → kind_of v ≡ of) → IsOfKind of (page_at n pages)
found_kind pages seen n i same place held of alike =
    let within : i < length pages = subst (λ xs. i < length xs) same place.0 in
    let found_at : slice_get pages i ≡ page_at n pages = subst (λ xs. slice_get xs i ≡ page_at n xs) same place.1 in
    elim (slice_get_cases pages i).1 [
      | inl there ↦
          let at : page_at n pages ≡ Some there.0 = sym found_at ∙ there.2 in
          subst (IsOfKind of) (sym at) (held_kind pages n there.0 at (subst (λ o. IfSome o Holds) at (held n)) of alike)
      | inr past ↦ absurd (omega (arith, past.0))
    ]

module _ (pages : List Page) (version i : ℕ) (q : Page) (are : ArePages 0 pages) (place : (i ≤ length pages) × (page_at (version / 1024) pages ≡ None) × FitsAt (version / 1024) i pages) (number : q.number ≡ version / 1024) (few : version < 4294967296) (page : IsPage q) where
  fits : FitsAt q.number i pages
  fits = subst (λ n. FitsAt n i pages) (sym number) place.2

  low : q.number < most_pages
  low = omega (arith, number, few)

  -- A page is put in where it belongs.
  pub inserted_pages : ArePages 0 (insert pages i q)
  inserted_pages = insert_pages 0 pages are i q fits (omega arith) low page

  inserted_at : page_at (version / 1024) (insert pages i q) ≡ Some q
  inserted_at = subst (λ n. page_at n (insert pages i q) ≡ Some q) number (insert_here 0 pages are i q place.0 fits (omega arith) low page)

  pub inserted_room : (k : kind.Kind) → kind_in q.slots ≡ k → IsOfKind k (page_at (version / 1024) (insert pages i q))
  inserted_room k is = subst (λ r. IsOfKind k r) (sym inserted_at) is

  pub inserted_others : (n : ℕ) → n ≢ version / 1024 → page_at n (insert pages i q) ≡ page_at n pages
  inserted_others n apart = insert_other pages i q n (λ e. apart (e ∙ number))

  pub inserted_kept : ((k : ℕ) → value_at q k ≡ None) → (w : ℕ) → column_value (insert pages i q) w ≡ column_value pages w
  inserted_kept empty w = elim (eqb_tells (w / 1024) (version / 1024)) [
    | inl here ↦ ap (λ n. value_on (page_at n (insert pages i q)) w) here.1 ∙ ap (λ r. value_on r w) inserted_at ∙ empty (w % 1024) ∙ sym (ap (λ n. value_on (page_at n pages) w) here.1 ∙ ap (λ r. value_on r w) place.1)
    | inr differs ↦ ap (λ r. value_on r w) (insert_other pages i q (w / 1024) (λ e. differs.1 (e ∙ number)))
  ]

module _ (pages : List Page) (version i : ℕ) (p : Page) (s : StandsAt pages (version / 1024) i p) where
  -- A page without values is let go.
  pub removed_pages : ArePages 0 (remove pages i)
  removed_pages = remove_pages 0 pages s.are i

  pub removed_others : (n : ℕ) → n ≢ version / 1024 → page_at n (remove pages i) ≡ page_at n pages
  removed_others n apart = remove_other pages i p s.there n (λ e. apart (e ∙ s.number))

  removed_at : page_at (version / 1024) (remove pages i) ≡ None
  removed_at = subst (λ n. page_at n (remove pages i) ≡ None) s.number (remove_here 0 pages s.are i p s.there)

  pub removed_held : IfSome (page_at (version / 1024) (remove pages i)) Holds
  removed_held = subst (λ o. IfSome o Holds) (sym removed_at) tt

  pub removed_kept : ((k : ℕ) → k < 1024 → value_at p k ≡ None) → (w : ℕ) → column_value (remove pages i) w ≡ column_value pages w
  removed_kept empty w = elim (eqb_tells (w / 1024) (version / 1024)) [
    | inl here ↦ ap (λ n. value_on (page_at n (remove pages i)) w) here.1 ∙ ap (λ r. value_on r w) removed_at ∙ sym (ap (λ n. value_on (page_at n pages) w) here.1 ∙ ap (λ r. value_on r w) s.at ∙ empty (w % 1024) (omega arith))
    | inr differs ↦ ap (λ r. value_on r w) (removed_others (w / 1024) differs.1)
  ]
