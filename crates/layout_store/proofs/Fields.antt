-- The fields of what is held under the numbers below a bound.
use Rattle.std.proofs.Common.{◌≡◌, ℕ, zero, suc, ◌+◌, ◌<◌, ◌≤◌, ◌==◌, nat_lt, Bool, true, false, cond, List, [], ◌∷◌, ◌++◌, length, Option, Some, None, refl, sym, ap, subst, ◌∙◌, arith, length-append}
use Rattle.std.specs.Option.{option_or}
use Rattle.std.proofs.lemmas.Bool.Decides.{nat_tests}
use Rattle.reservoir_record.specs.declared.fields.Field.{Field}
use Rattle.reservoir_record.specs.Finding.{value_of}
use Rattle.reservoir_record.specs.Editing.{with_field, without_field}
use Rattle.reservoir_record.specs.Spelling.{Ascends, values}
use Rattle.layout_store.specs.Documents.{field_if, fields_below}
use Rattle.layout_store.proofs.Attributes.{equal_or_not, test_same, test_other}

-- ---- what stands under a number

here_by : (id : ℕ) (f : Field) (fs : List Field) (t : Bool) → f.id == id ≡ t → t ≡ true → value_of id (f ∷ fs) ≡ Some f.bytes
here_by id f fs true e h = rw e refl
here_by id f fs false e h = absurd (cc)

pub value-here : (id : ℕ) (f : Field) (fs : List Field) → f.id ≡ id → value_of id (f ∷ fs) ≡ Some f.bytes
value-here id f fs same = here_by id f fs (f.id == id) refl (ap (λ (n : ℕ). n == id) same ∙ test_same id)

pub value-later : (id : ℕ) (f : Field) (fs : List Field) → (f.id ≡ id → ⊥) → value_of id (f ∷ fs) ≡ value_of id fs
value-later id f fs ne = let e : f.id == id ≡ false = test_other f.id id ne in rw e refl

append_by : (id : ℕ) (f : Field) (xs ys : List Field) (t : Bool) → f.id == id ≡ t → value_of id (xs ++ ys) ≡ option_or (value_of id xs) (value_of id ys) → value_of id (f ∷ (xs ++ ys)) ≡ option_or (value_of id (f ∷ xs)) (value_of id ys)
append_by id f xs ys true e h = rw e refl
append_by id f xs ys false e h = rw e h

pub value-append : (id : ℕ) (xs ys : List Field) → value_of id (xs ++ ys) ≡ option_or (value_of id xs) (value_of id ys)
value-append id [] ys = refl
value-append id (f ∷ xs) ys = append_by id f xs ys (f.id == id) refl (value-append id xs ys)

one_here : (id : ℕ) (o : Option (List ℕ)) → value_of id (field_if id o) ≡ o
one_here id None = refl
one_here id (Some bytes) = value-here id (record { id = id; bytes = bytes }) [] refl

one_other : (id m : ℕ) (o : Option (List ℕ)) → (m ≡ id → ⊥) → value_of id (field_if m o) ≡ None
one_other id m None ne = refl
one_other id m (Some bytes) ne = value-later id (record { id = m; bytes = bytes }) [] ne

or_none : (o : Option (List ℕ)) → option_or o None ≡ o
or_none None = refl
or_none (Some x) = refl

pub value-past : (under : ℕ → Option (List ℕ)) (n id : ℕ) → n ≤ id → value_of id (fields_below under n) ≡ None
value-past under zero id le = refl
value-past under (suc n) id le =
    value-append id (fields_below under n) (field_if n (under n))
    ∙ ap (λ (o : Option (List ℕ)). option_or o (value_of id (field_if n (under n)))) (value-past under n id (omega arith))
    ∙ one_other id n (under n) (λ e. omega arith)

-- what stands under a number among them is what is held there
pub value-below : (under : ℕ → Option (List ℕ)) (n id : ℕ) → id < n → value_of id (fields_below under n) ≡ under id
value-below under zero id lt = absurd (omega arith)
value-below under (suc n) id lt =
    value-append id (fields_below under n) (field_if n (under n))
    ∙ equal_or_not n id (option_or (value_of id (fields_below under n)) (value_of id (field_if n (under n))) ≡ under id)
    (λ same.
    ap (λ (o : Option (List ℕ)). option_or o (value_of id (field_if n (under n)))) (value-past under n id (omega arith))
    ∙ ap (λ (m : ℕ). value_of id (field_if m (under m))) same ∙ one_here id (under id))
    (λ ne.
    ap (λ (o : Option (List ℕ)). option_or (value_of id (fields_below under n)) o) (one_other id n (under n) ne)
    ∙ or_none (value_of id (fields_below under n)) ∙ value-below under n id (omega (arith, ne_lt n id lt ne)))
  where
    ne_lt : (n id : ℕ) → id < suc n → (n ≡ id → ⊥) → id < n
    ne_lt n id lt ne = lt_by (nat_lt id n) refl
      where
        lt_by : (t : Bool) → nat_lt id n ≡ t → id < n
        lt_by true e = grind (arith, nat_tests)
        lt_by false e = let ge : n ≤ id = grind (arith, nat_tests) in absurd (ne (omega arith))

-- numbers from a bound on that hold nothing add no field
pub fields-longer : (under : ℕ → Option (List ℕ)) (n more : ℕ) → ((id : ℕ) → n ≤ id → under id ≡ None) → fields_below under (n + more) ≡ fields_below under n
fields-longer under n zero none = let e : n + zero ≡ n = omega arith in ap (fields_below under) e
fields-longer under n (suc more) none =
    let e : n + suc more ≡ suc (n + more) = omega arith in
    ap (fields_below under) e ∙ ap (λ (o : Option (List ℕ)). fields_below under (n + more) ++ field_if (n + more) o) (none (n + more) (omega arith))
    ∙ append_none (fields_below under (n + more)) ∙ fields-longer under n more none
  where
    append_none : (xs : List Field) → xs ++ [] ≡ xs
    append_none [] = refl
    append_none (x ∷ xs) = ap (λ ys. x ∷ ys) (append_none xs)

-- ---- a field put in, and one taken out

without_by : (id i : ℕ) (f : Field) (fs : List Field) (t : Bool) → f.id == id ≡ t → (i ≡ id → ⊥) → value_of i (without_field id fs) ≡ value_of i fs → value_of i (without_field id (f ∷ fs)) ≡ value_of i (f ∷ fs)
without_by id i f fs true e ne h =
    let same : f.id ≡ id = grind (arith, nat_tests) in
    rw e (h ∙ sym (value-later i f fs (λ at. ne (sym at ∙ same))))
without_by id i f fs false e ne h = rw e (ap (λ (o : Option (List ℕ)). cond (f.id == i) (Some f.bytes) o) h)

pub without-other : (id i : ℕ) (fs : List Field) → (i ≡ id → ⊥) → value_of i (without_field id fs) ≡ value_of i fs
without-other id i [] ne = refl
without-other id i (f ∷ fs) ne = without_by id i f fs (f.id == id) refl ne (without-other id i fs ne)

gone_by : (id : ℕ) (f : Field) (fs : List Field) (t : Bool) → f.id == id ≡ t → value_of id (without_field id fs) ≡ None → value_of id (without_field id (f ∷ fs)) ≡ None
gone_by id f fs true e h = rw e h
gone_by id f fs false e h = rw (e, e) h

pub without-here : (id : ℕ) (fs : List Field) → value_of id (without_field id fs) ≡ None
without-here id [] = refl
without-here id (f ∷ fs) = gone_by id f fs (f.id == id) refl (without-here id fs)

with_by : (id : ℕ) (bytes : List ℕ) (f : Field) (fs : List Field) (t : Bool) → nat_lt id f.id ≡ t → (f.id ≡ id → ⊥) → value_of id (with_field id bytes fs) ≡ Some bytes → value_of id (with_field id bytes (f ∷ fs)) ≡ Some bytes
with_by id bytes f fs true e ne h = rw e (value-here id (record { id = id; bytes = bytes }) (f ∷ fs) refl)
with_by id bytes f fs false e ne h = rw e (value-later id f (with_field id bytes fs) ne ∙ h)

absent : (id : ℕ) (f : Field) (fs : List Field) → value_of id (f ∷ fs) ≡ None → (f.id ≡ id → ⊥)
absent id f fs none same = let both : None ≡ Some f.bytes = sym none ∙ value-here id f fs same in absurd (cc)

pub with-here : (id : ℕ) (bytes : List ℕ) (fs : List Field) → value_of id fs ≡ None → value_of id (with_field id bytes fs) ≡ Some bytes
with-here id bytes [] none = value-here id (record { id = id; bytes = bytes }) [] refl
with-here id bytes (f ∷ fs) none =
    let ne = absent id f fs none in
    with_by id bytes f fs (nat_lt id f.id) refl ne (with-here id bytes fs (sym (value-later id f fs ne) ∙ none))

other_by : (id i : ℕ) (bytes : List ℕ) (f : Field) (fs : List Field) (t : Bool) → nat_lt id f.id ≡ t → (i ≡ id → ⊥) → value_of i (with_field id bytes fs) ≡ value_of i fs → value_of i (with_field id bytes (f ∷ fs)) ≡ value_of i (f ∷ fs)
other_by id i bytes f fs true e ne h = rw e (value-later i (record { id = id; bytes = bytes }) (f ∷ fs) (λ same. ne (sym same)))
other_by id i bytes f fs false e ne h = rw e (ap (λ (o : Option (List ℕ)). cond (f.id == i) (Some f.bytes) o) h)

pub with-other : (id i : ℕ) (bytes : List ℕ) (fs : List Field) → (i ≡ id → ⊥) → value_of i (with_field id bytes fs) ≡ value_of i fs
with-other id i bytes [] ne = value-later i (record { id = id; bytes = bytes }) [] (λ same. ne (sym same))
with-other id i bytes (f ∷ fs) ne = other_by id i bytes f fs (nat_lt id f.id) refl ne (with-other id i bytes fs ne)

-- ---- fields whose numbers ascend are those of what stands under each

pub value-low : (fs : List Field) (least n : ℕ) → Ascends least fs → n < least → value_of n fs ≡ None
value-low [] least n h lt = refl
value-low (f ∷ fs) least n h lt = value-later n f fs (λ e. omega (arith, h.0)) ∙ value-low fs (f.id + 1) n h.2 (omega (arith, h.0))

abbrev below : ℕ → List Field → List Field
below n [] = []
below n (f ∷ fs) = cond (nat_lt f.id n) (f ∷ below n fs) (below n fs)

below_none : (fs : List Field) (least n : ℕ) → Ascends least fs → n ≤ least → below n fs ≡ []
below_none [] least n h le = refl
below_none (f ∷ fs) least n h le = let e : nat_lt f.id n ≡ false = let ge : n ≤ f.id = omega (arith, h.0) in grind (arith, nat_tests) in rw e (below_none fs (f.id + 1) n h.2 (omega (arith, h.0)))

one_more : (fs : List Field) (least n : ℕ) → Ascends least fs → below (suc n) fs ≡ below n fs ++ field_if n (value_of n fs)
one_more [] least n h = refl
one_more (f ∷ fs) least n h = by (one_more fs (f.id + 1) n h.2) (nat_lt f.id n) (nat_lt f.id (suc n)) refl refl
  where
    by : below (suc n) fs ≡ below n fs ++ field_if n (value_of n fs) → (s t : Bool) → nat_lt f.id n ≡ s → nat_lt f.id (suc n) ≡ t → below (suc n) (f ∷ fs) ≡ below n (f ∷ fs) ++ field_if n (value_of n (f ∷ fs))
    by rest true true e d =
        let lt : f.id < n = grind (arith, nat_tests) in
        rw (e, d, value-later n f fs (λ same. omega arith)) (ap (λ xs. f ∷ xs) rest)
    by rest true false e d = absurd (let lt : f.id < n = grind (arith, nat_tests) in let ge : suc n ≤ f.id = grind (arith, nat_tests) in omega arith)
    by rest false true e d =
        let ge : n ≤ f.id = grind (arith, nat_tests) in
        let le : f.id < suc n = grind (arith, nat_tests) in
        let same : f.id ≡ n = omega arith in
        rw (e, d, value-here n f fs same, below_none fs (f.id + 1) (suc n) h.2 (omega arith), below_none fs (f.id + 1) n h.2 (omega arith)) (λ i. record { id = same i; bytes = f.bytes } ∷ [])
    by rest false false e d =
        let ge : suc n ≤ f.id = grind (arith, nat_tests) in
        rw (e, d, value-later n f fs (λ same. omega arith), value-low fs (f.id + 1) n h.2 (omega arith), below_none fs (f.id + 1) (suc n) h.2 (omega arith), below_none fs (f.id + 1) n h.2 (omega arith)) refl

below_zero : (fs : List Field) → below zero fs ≡ []
below_zero [] = refl
below_zero (f ∷ fs) = let e : nat_lt f.id zero ≡ false = grind (arith, nat_tests) in rw e (below_zero fs)

below_is : (fs : List Field) → Ascends 0 fs → (n : ℕ) → fields_below (λ id. value_of id fs) n ≡ below n fs
below_is fs h zero = sym (below_zero fs)
below_is fs h (suc n) = ap (λ xs. xs ++ field_if n (value_of n fs)) (below_is fs h n) ∙ sym (one_more fs 0 n h)

all_below : (fs : List Field) (n : ℕ) → ((id : ℕ) (bytes : List ℕ) → value_of id fs ≡ Some bytes → id < n) → (least : ℕ) → Ascends least fs → below n fs ≡ fs
all_below [] n known least h = refl
all_below (f ∷ fs) n known least h =
    let lt = known f.id f.bytes (value-here f.id f fs refl) in
    let e : nat_lt f.id n ≡ true = grind (arith, nat_tests) in
    rw e (ap (λ xs. f ∷ xs) (all_below fs n (λ id bytes at. known id bytes (value-later id f fs (λ same. later_ne id bytes at same) ∙ at)) (f.id + 1) h.2))
  where
    later_ne : (id : ℕ) (bytes : List ℕ) → value_of id fs ≡ Some bytes → f.id ≡ id → ⊥
    later_ne id bytes at same = let none = value-low fs (f.id + 1) id h.2 (omega arith) in let both : None ≡ Some bytes = sym none ∙ at in absurd (cc)

-- a record within a bound is its own fields
pub whole : (fs : List Field) (n : ℕ) → Ascends 0 fs → ((id : ℕ) (bytes : List ℕ) → value_of id fs ≡ Some bytes → id < n) → fields_below (λ id. value_of id fs) n ≡ fs
whole fs n h known = below_is fs h n ∙ all_below fs n known 0 h

-- ---- weights

abbrev size : Option (List ℕ) → ℕ
size None = 0
size (Some bytes) = length bytes

abbrev total : (ℕ → Option (List ℕ)) → ℕ → ℕ
total under zero = 0
total under (suc n) = total under n + size (under n)

one_weighs : (id : ℕ) (o : Option (List ℕ)) → length (values (field_if id o)) ≡ size o
one_weighs id None = refl
one_weighs id (Some bytes) = omega (arith, length-append bytes [])

values-append : (xs ys : List Field) → values (xs ++ ys) ≡ values xs ++ values ys
values-append [] ys = refl
values-append (x ∷ xs) ys = ap (λ zs. x.bytes ++ zs) (values-append xs ys) ∙ sym (assoc x.bytes (values xs) (values ys))
  where
    assoc : (a b c : List ℕ) → (a ++ b) ++ c ≡ a ++ (b ++ c)
    assoc [] b c = refl
    assoc (n ∷ a) b c = ap (λ zs. n ∷ zs) (assoc a b c)

weighs : (under : ℕ → Option (List ℕ)) (n : ℕ) → length (values (fields_below under n)) ≡ total under n
weighs under zero = refl
weighs under (suc n) =
    ap length (values-append (fields_below under n) (field_if n (under n))) ∙ length-append (values (fields_below under n)) (values (field_if n (under n)))
    ∙ ap (λ (k : ℕ). k + length (values (field_if n (under n)))) (weighs under n) ∙ ap (λ (k : ℕ). total under n + k) (one_weighs n (under n))

total_less : (f g : ℕ → Option (List ℕ)) (n : ℕ) → ((i : ℕ) → size (f i) ≤ size (g i)) → total f n ≤ total g n
total_less f g zero le = omega arith
total_less f g (suc n) le = omega (arith, total_less f g n le, le n)

total_room : (f g : ℕ → Option (List ℕ)) (n id m : ℕ) → id < n → ((i : ℕ) → size (f i) ≤ size (g i)) → size (f id) + m ≤ size (g id) → total f n + m ≤ total g n
total_room f g zero id m lt le here = absurd (omega arith)
total_room f g (suc n) id m lt le here =
    equal_or_not n id (total f (suc n) + m ≤ total g (suc n))
    (λ same. let there : size (f n) + m ≤ size (g n) = subst (λ (k : ℕ). size (f k) + m ≤ size (g k)) (sym same) here in omega (arith, total_less f g n le, there))
    (λ ne. omega (arith, total_room f g n id m (lt_of ne) le here, le n))
  where
    lt_of : (n ≡ id → ⊥) → id < n
    lt_of ne = by (nat_lt id n) refl
      where
        by : (t : Bool) → nat_lt id n ≡ t → id < n
        by true e = grind (arith, nat_tests)
        by false e = let ge : n ≤ id = grind (arith, nat_tests) in absurd (ne (omega arith))

-- A record and one value that it lacks weigh no more than all that is held.
pub room-for : (fs : List Field) (under : ℕ → Option (List ℕ)) (n id : ℕ) (bytes : List ℕ) → Ascends 0 fs → ((i : ℕ) (b : List ℕ) → value_of i fs ≡ Some b → (i < n) × (under i ≡ Some b)) → id < n → value_of id fs ≡ None → under id ≡ Some bytes
    → length (values fs) + length bytes ≤ length (values (fields_below under n))
room-for fs under n id bytes h among lt none there =
    let own : length (values fs) ≡ total (λ i. value_of i fs) n = ap (λ xs. length (values xs)) (sym (whole fs n h (λ i b at. (among i b at).0))) ∙ weighs (λ i. value_of i fs) n in
    let all = weighs under n in
    let less : (i : ℕ) → size (value_of i fs) ≤ size (under i) = λ i. less_by i (value_of i fs) refl in
    let here : size (value_of id fs) + length bytes ≤ size (under id) = rw (none, there) (omega arith) in
    omega (arith, own, all, total_room (λ i. value_of i fs) under n id (length bytes) lt less here)
  where
    less_by : (i : ℕ) (o : Option (List ℕ)) → value_of i fs ≡ o → size o ≤ size (under i)
    less_by i None e = omega arith
    less_by i (Some b) e = let same = (among i b e).1 in rw same (omega arith)
