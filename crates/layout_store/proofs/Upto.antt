-- Attributes that are changed one after another: those of the fields before a place, and those of the cells below a number.
use Rattle.std.proofs.Common.{◌≡◌, ℕ, zero, suc, ◌+◌, ◌<◌, ◌≤◌, ◌==◌, ◌&&◌, nat_lt, Bool, true, false, cond, List, [], ◌∷◌, length, take, get_or, Option, Some, None, IfSome, is_some, option_map, slice_get, refl, sym, ap, subst, ◌∙◌, arith}
use Rattle.std.specs.Option.{option_or}
use Rattle.std.proofs.lemmas.Bool.Decides.{nat_tests}
use Rattle.std.proofs.lemmas.Option.{same_Some, none-some, slice_get_within}
use Rattle.doc_values.specs.declared.value.Value.{Value}
use Rattle.reservoir_record.specs.declared.fields.Field.{Field}
use Rattle.reservoir_record.specs.Finding.{value_of}
use Rattle.reservoir_record.specs.Spelling.{Ascends, AreFields}
use Rattle.attr_catalog.specs.Attribute.{Attribute}
use Rattle.attr_catalog.specs.Catalog.{changed, number}
use Rattle.phys_columns.specs.Cells.{Cells, cell_at}
use Rattle.row_versions.proofs.Places.{get-within}
use Rattle.layout_store.specs.Listed.{Rises, AreListedAt}
use Rattle.layout_store.specs.Storage.{either_side}
use Rattle.layout_store.specs.Changes.{AreChanged}
use Rattle.layout_store.proofs.Ascending.{among, among-start, among-here, among-other, among-once, among-all}
use Rattle.layout_store.proofs.Attributes.{at_one, one-changed, changed-twice, changed-alike, changed-none, changed-back, equal_or_not, test_same, test_other}
use Rattle.layout_store.proofs.Entries.{take_plus, take_all_of}
use Rattle.layout_store.proofs.Fields.{value-here, value-later, value-append}

-- Attributes of which a test holds are changed.
abbrev pub where_so : (Attribute → Attribute) → (ℕ → Bool) → ℕ → Attribute → Attribute
where_so change test i a = cond (test i) (change a) a

-- Of the fields before a place one has a number.
abbrev pub before : List Field → ℕ → ℕ → Bool
before fs k i = is_some (value_of i (take k fs))

-- A number is listed before a place, and has a cell.
abbrev pub listed : List ℕ → Cells → ℕ → ℕ → ℕ → Bool
listed ids cells version k i = among ids k i && is_some (cell_at i version cells)

-- ---- one more

one-more : (change : Attribute → Attribute) (test more : ℕ → Bool) (first cur : List Attribute) (id : ℕ) → AreChanged (where_so change test) first cur → id < length cur → test id ≡ false → more id ≡ true → ((i : ℕ) → (i ≡ id → ⊥) → more i ≡ test i)
    → AreChanged (where_so change more) first (changed change (number id) cur)
one-more change test more first cur id h lt no_yet sure same =
    changed-alike (λ i a. at_one change id i (where_so change test i a)) (where_so change more) first (changed change (number id) cur)
    (changed-twice (where_so change test) (at_one change id) first cur (changed change (number id) cur) h (one-changed change (number id) cur lt))
    (λ i a at. equal_or_not i id (at_one change id i (where_so change test i a) ≡ where_so change more i a)
    (λ e.
    let now : test i ≡ false = ap test e ∙ no_yet in
    let then_is : more i ≡ true = ap more e ∙ sure in
    let here : i == id ≡ true = ap (λ (n : ℕ). n == id) e ∙ test_same id in
    ap (λ (t : Bool). cond t (change (where_so change test i a)) (where_so change test i a)) here ∙ ap (λ (t : Bool). change (cond t (change a) a)) now ∙ ap (λ (t : Bool). cond t (change a) a) (sym then_is))
    (λ ne.
    ap (λ (t : Bool). cond t (change (where_so change test i a)) (where_so change test i a)) (test_other i id ne) ∙ ap (λ (t : Bool). cond t (change a) a) (sym (same i ne))))

-- what was not changed yet
not-yet : (change : Attribute → Attribute) (test : ℕ → Bool) (first cur : List Attribute) (id : ℕ) (a : Attribute) → AreChanged (where_so change test) first cur → test id ≡ false → slice_get first id ≡ Some a → slice_get cur id ≡ Some a
not-yet change test first cur id a h no_yet at = h.each id a at ∙ ap (λ (t : Bool). Some (cond t (change a) a)) no_yet

if_at : (o : Option Attribute) (P : Attribute → Type 0) (a : Attribute) → o ≡ Some a → P a → IfSome o P
if_at None P a e p = absurd (none-some a e)
if_at (Some b) P a e p = subst P (sym (same_Some b a e)) p

-- ---- fields

taken_low : (fs : List Field) (least k : ℕ) (f : Field) → Ascends least fs → slice_get fs k ≡ Some f → (value_of f.id (take k fs) ≡ None) × (least ≤ f.id)
taken_low [] least k f h at = absurd (none-some f at)
taken_low (g ∷ fs) least zero f h at = let same : g ≡ f = same_Some g f at in (refl, subst (λ (x : Field). least ≤ x.id) same h.0)
taken_low (g ∷ fs) least (suc k) f h at =
    let rest = taken_low fs (g.id + 1) k f h.2 at in
    (value-later f.id g (take k fs) (λ e. absurd (omega (arith, rest.1))) ∙ rest.0, omega (arith, rest.1, h.0))

-- The number at a place of a record.
pub record IsAt (fs : List Field) (k id : ℕ) : Type 0 where
  pub field : Field
  pub there : slice_get fs k ≡ Some field
  pub numbered : field.id ≡ id

pub at-place : (fs : List Field) (k id : ℕ) → option_map (λ (f : Field). f.id) (slice_get fs k) ≡ Some id → IsAt fs k id
at-place fs k id e = by (slice_get fs k) refl e
  where
    by : (o : Option Field) → slice_get fs k ≡ o → option_map (λ (f : Field). f.id) o ≡ Some id → IsAt fs k id
    by None at h = absurd (none-some id h)
    by (Some f) at h = record { field = f; there = at; numbered = same_Some f.id id h }

module _ (fs : List Field) (lawful : AreFields fs) (k id : ℕ) (at : option_map (λ (f : Field). f.id) (slice_get fs k) ≡ Some id) where
  here : IsAt fs k id
  here = at-place fs k id at

  no_yet : before fs k id ≡ false
  no_yet = ap (λ (n : ℕ). is_some (value_of n (take k fs))) (sym here.numbered) ∙ ap (λ (o : Option (List ℕ)). is_some o) (taken_low fs 0 k here.field lawful.ascend here.there).0

  more_by : (i : ℕ) (o : Option (List ℕ)) → (i ≡ id → ⊥) → is_some (option_or o (value_of i (here.field ∷ []))) ≡ is_some o
  more_by i None ne = ap (λ (o : Option (List ℕ)). is_some o) (value-later i here.field [] (λ e. ne (sym e ∙ here.numbered)))
  more_by i (Some b) ne = refl

  next : (i : ℕ) → before fs (k + 1) i ≡ is_some (option_or (value_of i (take k fs)) (value_of i (here.field ∷ [])))
  next i = ap (λ (xs : List Field). is_some (value_of i xs)) (take_plus fs k here.field here.there) ∙ ap (λ (o : Option (List ℕ)). is_some o) (value-append i (take k fs) (here.field ∷ []))

  yes_by : (o : Option (List ℕ)) → is_some (option_or o (value_of id (here.field ∷ []))) ≡ true
  yes_by None = ap (λ (o : Option (List ℕ)). is_some o) (value-here id here.field [] here.numbered)
  yes_by (Some b) = refl

  -- the field at the place has its number among all
  pub found : (bytes : List ℕ) × (value_of id fs ≡ Some bytes)
  found = (here.field.bytes, get_value fs 0 k lawful.ascend here.there)
    where
      get_value : (xs : List Field) (least k : ℕ) → Ascends least xs → slice_get xs k ≡ Some here.field → value_of id xs ≡ Some here.field.bytes
      get_value [] least k h e = absurd (none-some here.field e)
      get_value (g ∷ xs) least zero h e = let same : g ≡ here.field = same_Some g here.field e in value-here id g xs (ap (λ (x : Field). x.id) same ∙ here.numbered) ∙ ap (λ (x : Field). Some x.bytes) same
      get_value (g ∷ xs) least (suc k) h e =
          let rest = taken_low xs (g.id + 1) k here.field h.2 e in
          value-later id g xs (λ same. absurd (omega (arith, rest.1, here.numbered))) ∙ get_value xs (g.id + 1) k h.2 e

  module _ (change : Attribute → Attribute) (first cur : List Attribute) (h : AreChanged (where_so change (before fs k)) first cur) (known : (i : ℕ) (bytes : List ℕ) → value_of i fs ≡ Some bytes → i < length first) where
    pub standing : id < length cur
    standing = omega (arith, h.many, known id found.0 found.1)

    pub field-next : AreChanged (where_so change (before fs (k + 1))) first (changed change (number id) cur)
    field-next = one-more change (before fs k) (before fs (k + 1)) first cur id h standing no_yet (next id ∙ yes_by (value_of id (take k fs))) (λ i ne. next i ∙ more_by i (value_of i (take k fs)) ne)

    pub field-now : (P : Attribute → Type 0) → ((i : ℕ) (a : Attribute) → slice_get first i ≡ Some a → is_some (value_of i fs) ≡ true → P a) → IfSome (slice_get cur id) P
    field-now P so =
        let a = get-within first id (known id found.0 found.1) in
        if_at (slice_get cur id) P a.0 (not-yet change (before fs k) first cur id a.0 h no_yet a.1) (so id a.0 a.1 (ap (λ (o : Option (List ℕ)). is_some o) found.1))

pub take_none : (fs : List Field) → take 0 fs ≡ []
take_none [] = refl
take_none (f ∷ fs) = refl

pub fields-none : (change : Attribute → Attribute) (fs : List Field) (first : List Attribute) → AreChanged (where_so change (before fs 0)) first first
fields-none change fs first = changed-none (where_so change (before fs 0)) first (λ i a. ap (λ (xs : List Field). cond (is_some (value_of i xs)) (change a) a) (take_none fs))

pub fields-all : (change : Attribute → Attribute) (fs : List Field) (first last : List Attribute) → AreChanged (where_so change (before fs (length fs))) first last → AreChanged (where_so change (λ i. is_some (value_of i fs))) first last
fields-all change fs first last h = changed-alike (where_so change (before fs (length fs))) (where_so change (λ i. is_some (value_of i fs))) first last h (λ i a at. ap (λ (xs : List Field). cond (is_some (value_of i xs)) (change a) a) (take_all_of fs))

-- ---- cells

module _ (k : ℕ) where
  same_below : (i : ℕ) → (i ≡ k → ⊥) → nat_lt i (k + 1) ≡ nat_lt i k
  same_below i ne = by (nat_lt i k) refl
    where
      by : (t : Bool) → nat_lt i k ≡ t → nat_lt i (k + 1) ≡ t
      by true e = let lt : i < k = grind (arith, nat_tests) in let less : i < k + 1 = omega arith in grind (arith, nat_tests)
      by false e = let ge : k ≤ i = grind (arith, nat_tests) in let above : k + 1 ≤ i = omega_ne ge in grind (arith, nat_tests)
        where
          omega_ne : k ≤ i → k + 1 ≤ i
          omega_ne ge = lt_by (nat_lt k i) refl
            where
              lt_by : (t : Bool) → nat_lt k i ≡ t → k + 1 ≤ i
              lt_by true e = let lt : k < i = grind (arith, nat_tests) in omega arith
              lt_by false e = let le : i ≤ k = grind (arith, nat_tests) in absurd (ne (omega arith))

  not_itself : nat_lt k k ≡ false
  not_itself = grind (arith, nat_tests)

  below_more : nat_lt k (k + 1) ≡ true
  below_more = let lt : k < k + 1 = omega arith in grind (arith, nat_tests)

-- ---- cells

some_of : {X : Type 0} (o : Option X) → is_some o ≡ true → (x : X) × (o ≡ Some x)
some_of None e = absurd (cc)
some_of (Some x) e = (x, refl)

module _ (ids : List ℕ) (rises : Rises ids) (cells : Cells) (version k x : ℕ) (lt : k < length ids) (is : x ≡ get_or ids k 0) where
  none_yet : listed ids cells version k x ≡ false
  none_yet = ap (λ (t : Bool). t && is_some (cell_at x version cells)) (ap (among ids k) is ∙ among-once ids k rises lt)

  now : among ids (k + 1) x ≡ true
  now = ap (among ids (k + 1)) is ∙ among-here ids k lt

  other : (i : ℕ) → (i ≡ x → ⊥) → listed ids cells version (k + 1) i ≡ listed ids cells version k i
  other i ne = ap (λ (t : Bool). t && is_some (cell_at i version cells)) (among-other ids k i lt (λ e. ne (e ∙ sym is)))

  pub cell-standing : (n : ℕ) → ((id : ℕ) (value : Value) → cell_at id version cells ≡ Some value → id < n) → is_some (cell_at x version cells) ≡ true → x < n
  cell-standing n celled has = let v = some_of (cell_at x version cells) has in celled x v.0 v.1

  module _ (change : Attribute → Attribute) (first cur : List Attribute) (h : AreChanged (where_so change (listed ids cells version k)) first cur) where
    cell_next : x < length first → is_some (cell_at x version cells) ≡ true → AreChanged (where_so change (listed ids cells version (k + 1))) first (changed change (number x) cur)
    cell_next less has =
        one-more change (listed ids cells version k) (listed ids cells version (k + 1)) first cur x h (omega (arith, h.many, less)) none_yet (ap (λ (t : Bool). t && is_some (cell_at x version cells)) now ∙ has) other

    cell_past : is_some (cell_at x version cells) ≡ false → AreChanged (where_so change (listed ids cells version (k + 1))) first cur
    cell_past lacks =
        changed-alike (where_so change (listed ids cells version k)) (where_so change (listed ids cells version (k + 1))) first cur h
        (λ i a at. ap (λ (t : Bool). cond t (change a) a) (equal_or_not i x (listed ids cells version k i ≡ listed ids cells version (k + 1) i)
        (λ e. ap (listed ids cells version k) e ∙ none_yet ∙ sym (ap (listed ids cells version (k + 1)) e ∙ ap (λ (t : Bool). t && is_some (cell_at x version cells)) now ∙ lacks))
        (λ ne. sym (other i ne))))

    pub cell-now : (P : Attribute → Type 0) → ((id : ℕ) (value : Value) → cell_at id version cells ≡ Some value → id < length first) → is_some (cell_at x version cells) ≡ true
        → ((i : ℕ) (a : Attribute) → slice_get first i ≡ Some a → is_some (cell_at i version cells) ≡ true → P a) → IfSome (slice_get cur x) P
    cell-now P celled has so =
        let a = get-within first x (cell-standing (length first) celled has) in
        if_at (slice_get cur x) P a.0 (not-yet change (listed ids cells version k) first cur x a.0 h none_yet a.1) (so x a.0 a.1 has)

    -- one number more, whether or not it has a cell
    pub cell-step : (new : List Attribute) → ((id : ℕ) (value : Value) → cell_at id version cells ≡ Some value → id < length first) → new ≡ cond (is_some (cell_at x version cells)) (changed change (number x) cur) cur
        → AreChanged (where_so change (listed ids cells version (k + 1))) first new
    cell-step new celled put = by (is_some (cell_at x version cells)) refl put
      where
        by : (t : Bool) → is_some (cell_at x version cells) ≡ t → new ≡ cond t (changed change (number x) cur) cur → AreChanged (where_so change (listed ids cells version (k + 1))) first new
        by true e put = subst (λ (xs : List Attribute). AreChanged (where_so change (listed ids cells version (k + 1))) first xs) (sym put) (cell_next (cell-standing (length first) celled e) e)
        by false e put = subst (λ (xs : List Attribute). AreChanged (where_so change (listed ids cells version (k + 1))) first xs) (sym put) (cell_past e)

pub cells-none : (change : Attribute → Attribute) (ids : List ℕ) (cells : Cells) (version : ℕ) (first : List Attribute) → AreChanged (where_so change (listed ids cells version 0)) first first
cells-none change ids cells version first = changed-none (where_so change (listed ids cells version 0)) first (λ i a. ap (λ (t : Bool). cond (t && is_some (cell_at i version cells)) (change a) a) (among-start ids i))

pub cells-all : (change : Attribute → Attribute) (ids : List ℕ) (cells : Cells) (version n : ℕ) (first last : List Attribute) → length ids ≤ n → AreListedAt version ids cells → AreChanged (where_so change (listed ids cells version n)) first last → AreChanged (where_so change (λ i. is_some (cell_at i version cells))) first last
cells-all change ids cells version n first last le all h =
    changed-alike (where_so change (listed ids cells version n)) (where_so change (λ i. is_some (cell_at i version cells))) first last h
    (λ i a at. ap (λ (t : Bool). cond t (change a) a) (by i (cell_at i version cells) refl))
  where
    by : (i : ℕ) (o : Option Value) → cell_at i version cells ≡ o → among ids n i && is_some o ≡ is_some o
    by i None e = none_of (among ids n i)
      where
        none_of : (b : Bool) → b && false ≡ false
        none_of true = refl
        none_of false = refl
    by i (Some value) e = ap (λ (t : Bool). t && true) (among-all ids n i le (all i value e))

-- ---- numbers alone

pub numbers-none : (change : Attribute → Attribute) (first : List Attribute) → AreChanged (where_so change (λ i. nat_lt i 0)) first first
numbers-none change first = changed-none (where_so change (λ i. nat_lt i 0)) first (λ i a. let e : nat_lt i 0 ≡ false = grind (arith, nat_tests) in ap (λ (t : Bool). cond t (change a) a) e)

pub number-next : (change : Attribute → Attribute) (k : ℕ) (first cur : List Attribute) → AreChanged (where_so change (λ i. nat_lt i k)) first cur → k < length first → AreChanged (where_so change (λ i. nat_lt i (k + 1))) first (changed change (number k) cur)
number-next change k first cur h lt = one-more change (λ i. nat_lt i k) (λ i. nat_lt i (k + 1)) first cur k h (omega (arith, h.many)) (not_itself k) (below_more k) (λ i ne. same_below k i ne)

pub numbers-all : (change : Attribute → Attribute) (n : ℕ) (first last : List Attribute) → length first ≤ n → AreChanged (where_so change (λ i. nat_lt i n)) first last → AreChanged (λ i. change) first last
numbers-all change n first last le h =
    changed-alike (where_so change (λ i. nat_lt i n)) (λ i. change) first last h
    (λ i a at. let lt = slice_get_within first i a at in let less : i < n = omega (arith, lt) in let e : nat_lt i n ≡ true = grind (arith, nat_tests) in ap (λ (t : Bool). cond t (change a) a) e)

-- ---- both sides

pub both-changed : (change : Attribute → Attribute) (fs : List Field) (cells : Cells) (version : ℕ) (first middle last : List Attribute) → ((i : ℕ) (bytes : List ℕ) → value_of i fs ≡ Some bytes → cell_at i version cells ≡ None)
    → AreChanged (where_so change (λ i. is_some (value_of i fs))) first middle → AreChanged (where_so change (λ i. is_some (cell_at i version cells))) middle last → AreChanged (where_so change (λ i. is_some (either_side (value_of i fs) (cell_at i version cells)))) first last
both-changed change fs cells version first middle last apart h k =
    changed-alike (λ i a. where_so change (λ j. is_some (cell_at j version cells)) i (where_so change (λ j. is_some (value_of j fs)) i a)) (where_so change (λ i. is_some (either_side (value_of i fs) (cell_at i version cells)))) first last
    (changed-twice (where_so change (λ i. is_some (value_of i fs))) (where_so change (λ i. is_some (cell_at i version cells))) first middle last h k)
    (λ i a at. by i a (value_of i fs) refl (cell_at i version cells) refl)
  where
    by : (i : ℕ) (a : Attribute) (r : Option (List ℕ)) → value_of i fs ≡ r → (c : Option Value) → cell_at i version cells ≡ c → cond (is_some c) (change (cond (is_some r) (change a) a)) (cond (is_some r) (change a) a) ≡ cond (is_some (either_side r c)) (change a) a
    by i a None e None f = refl
    by i a None e (Some v) f = refl
    by i a (Some b) e None f = refl
    by i a (Some b) e (Some v) f = absurd (none-some v (sym (apart i b e) ∙ f))

-- what is changed by its cell was not changed by its record
pub still-so : (change : Attribute → Attribute) (P : Attribute → Type 0) (fs : List Field) (cells : Cells) (version : ℕ) (first middle : List Attribute) → ((i : ℕ) (bytes : List ℕ) → value_of i fs ≡ Some bytes → cell_at i version cells ≡ None) → AreChanged (where_so change (λ i. is_some (value_of i fs))) first middle
    → ((i : ℕ) (a : Attribute) → slice_get first i ≡ Some a → is_some (either_side (value_of i fs) (cell_at i version cells)) ≡ true → P a) → (i : ℕ) (a : Attribute) → slice_get middle i ≡ Some a → is_some (cell_at i version cells) ≡ true → P a
still-so change P fs cells version first middle apart h so i a at has =
    let b = changed-back (where_so change (λ j. is_some (value_of j fs))) first middle h i a at in
    by b.0 b.1 b.2 (value_of i fs) refl (cell_at i version cells) refl has
  where
    by : (b : Attribute) → slice_get first i ≡ Some b → a ≡ where_so change (λ j. is_some (value_of j fs)) i b → (r : Option (List ℕ)) → value_of i fs ≡ r → (c : Option Value) → cell_at i version cells ≡ c → is_some c ≡ true → P a
    by b there is r e None f sure = absurd (let both : false ≡ true = sure in cc)
    by b there is None e (Some v) f sure =
        let same : a ≡ b = is ∙ ap (λ (o : Option (List ℕ)). cond (is_some o) (change b) b) e in
        let test : is_some (either_side (value_of i fs) (cell_at i version cells)) ≡ true = (λ k. is_some (either_side (e k) (f k))) in
        subst P (sym same) (so i b there test)
    by b there is (Some bytes) e (Some v) f sure = absurd (none-some v (sym (apart i bytes e) ∙ f))
