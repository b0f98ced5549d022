-- The list of the rows below a bound, by what each shows.
use Rattle.std.proofs.Common.{◌≡◌, ℕ, zero, suc, ◌+◌, ◌<◌, ◌≤◌, ◌⊎◌, inl, inr, nat_lt, Bool, cond, List, [], ◌∷◌, ◌++◌, length, filter, Option, Some, None, slice_get, refl, sym, ap, ◌∙◌, arith, append-nil, append_assoc, add-zero}
use Rattle.std.proofs.lemmas.Bool.{cases_lt, lt-ltb, le-ltb}
use Rattle.std.proofs.lemmas.List.Elements.{filter-append}
use Rattle.std.proofs.lemmas.Option.{slice_get_within}
use Rattle.row_versions.proofs.Places.{get-front, get-last, get-push}
use Rattle.doc_values.specs.Doc.{Fields}
use Rattle.shown_rows.specs.Rows.{Row, row_if, rows_below, rows_from, made_of, change_rows}
use Rattle.shown_rows.specs.Follow.{AreShown}

-- A document in the row of a number.
abbrev row : ℕ → Fields → Row
row number document = record { number = number; document = document }

-- ---- which rows stand there

shorter : (rows : List Row) (place : ℕ) (r : Row) → slice_get (rows ++ []) place ≡ Some r → slice_get rows place ≡ Some r
shorter rows place r at = ap (λ (rs : List Row). slice_get rs place) (sym (append-nil rows)) ∙ at

each_more : (show : ℕ → Option Fields) (k place : ℕ) (r : Row) (rows : List Row) (o : Option Fields) → show k ≡ o
    → ((p : ℕ) (x : Row) → slice_get rows p ≡ Some x → (x.number < k) × (show x.number ≡ Some x.document))
    → slice_get (rows ++ row_if k o) place ≡ Some r → (r.number < suc k) × (show r.number ≡ Some r.document)
each_more show k place r rows None e h at = let p = h place r (shorter rows place r at) in (omega (arith, p.0), p.1)
each_more show k place r rows (Some d) e h at = by (get-push rows (row k d) place r at)
  where
    by : (slice_get rows place ≡ Some r) ⊎ ((place ≡ length rows) × (r ≡ row k d)) → (r.number < suc k) × (show r.number ≡ Some r.document)
    by (inl old) = let p = h place r old in (omega (arith, p.0), p.1)
    by (inr new) =
        let number : r.number ≡ k = ap (λ (x : Row). x.number) new.1 in
        let document : r.document ≡ d = ap (λ (x : Row). x.document) new.1 in
        (omega (arith, number), ap show number ∙ e ∙ ap (λ (x : Fields). Some x) (sym document))

pub each : (show : ℕ → Option Fields) (bound place : ℕ) (r : Row) → slice_get (rows_below show bound) place ≡ Some r → (r.number < bound) × (show r.number ≡ Some r.document)
each show zero place r at = absurd (cc)
each show (suc k) place r at = each_more show k place r (rows_below show k) (show k) refl (λ p x there. each show k p x there) at

rise_more : (k : ℕ) (rows : List Row) (o : Option Fields) → ((p : ℕ) (x : Row) → slice_get rows p ≡ Some x → x.number < k)
    → ((i j : ℕ) (a b : Row) → i < j → slice_get rows i ≡ Some a → slice_get rows j ≡ Some b → a.number < b.number)
    → (i j : ℕ) (a b : Row) → i < j → slice_get (rows ++ row_if k o) i ≡ Some a → slice_get (rows ++ row_if k o) j ≡ Some b → a.number < b.number
rise_more k rows None low up i j a b lt at_a at_b = up i j a b lt (shorter rows i a at_a) (shorter rows j b at_b)
rise_more k rows (Some d) low up i j a b lt at_a at_b = by (get-push rows (row k d) i a at_a) (get-push rows (row k d) j b at_b)
  where
    by : (slice_get rows i ≡ Some a) ⊎ ((i ≡ length rows) × (a ≡ row k d)) → (slice_get rows j ≡ Some b) ⊎ ((j ≡ length rows) × (b ≡ row k d)) → a.number < b.number
    by (inl x) (inl y) = up i j a b lt x y
    by (inl x) (inr y) = let number : b.number ≡ k = ap (λ (r : Row). r.number) y.1 in omega (arith, low i a x, number)
    by (inr x) (inl y) = absurd (omega (arith, x.0, slice_get_within rows j b y))
    by (inr x) (inr y) = absurd (omega (arith, x.0, y.0))

rise : (show : ℕ → Option Fields) (bound i j : ℕ) (a b : Row) → i < j → slice_get (rows_below show bound) i ≡ Some a → slice_get (rows_below show bound) j ≡ Some b → a.number < b.number
rise show zero i j a b lt at_a at_b = absurd (cc)
rise show (suc k) i j a b lt at_a at_b =
    rise_more k (rows_below show k) (show k) (λ p x there. (each show k p x there).0) (λ u v x y less there after. rise show k u v x y less there after) i j a b lt at_a at_b

-- A row that a list holds.
abbrev Holds : List Row → Row → Type 0
Holds rows r = (place : ℕ) × (slice_get rows place ≡ Some r)

all_more : (show : ℕ → Option Fields) (k number : ℕ) (d : Fields) (rows : List Row) (o : Option Fields) → show k ≡ o → number < suc k → show number ≡ Some d
    → (number < k → Holds rows (row number d)) → Holds (rows ++ row_if k o) (row number d)
all_more show k number d rows o e lt is h = by (cases_lt number k) o e
  where
    here : number ≡ k → (o : Option Fields) → show k ≡ o → Holds (rows ++ row_if k o) (row number d)
    here same None e = let bad : None ≡ Some d = sym e ∙ ap show (sym same) ∙ is in absurd (cc)
    here same (Some x) e =
        let document : Some x ≡ Some d = sym e ∙ ap show (sym same) ∙ is in
        let equal : x ≡ d = cc in
        (length rows, get-last rows (row k x) ∙ ap (λ (n : ℕ). Some (row n x)) (sym same) ∙ ap (λ (y : Fields). Some (row number y)) equal)

    behind : (o : Option Fields) → Holds rows (row number d) → Holds (rows ++ row_if k o) (row number d)
    behind None p = (p.0, ap (λ (rs : List Row). slice_get rs p.0) (append-nil rows) ∙ p.1)
    behind (Some x) p = (p.0, get-front rows (row k x) p.0 (row number d) p.1)

    by : (number < k) ⊎ (k ≤ number) → (o : Option Fields) → show k ≡ o → Holds (rows ++ row_if k o) (row number d)
    by (inl less) o e = behind o (h less)
    by (inr more) o e = here (omega (arith, lt, more)) o e

all : (show : ℕ → Option Fields) (bound number : ℕ) (d : Fields) → number < bound → show number ≡ Some d → Holds (rows_below show bound) (row number d)
all show zero number d lt is = absurd (omega (arith, lt))
all show (suc k) number d lt is = all_more show k number d (rows_below show k) (show k) refl lt is (λ less. all show k number d less is)

pub are-shown : (show : ℕ → Option Fields) (bound : ℕ) → AreShown show bound (rows_below show bound)
are-shown show bound = record {
  each = λ place r at. each show bound place r at;
  rise = λ i j a b lt at_a at_b. rise show bound i j a b lt at_a at_b;
  all = λ number d lt is. all show bound number d lt is;
}

-- ---- equal lists

pub alike : (show other : ℕ → Option Fields) (bound : ℕ) → ((number : ℕ) → number < bound → show number ≡ other number) → rows_below show bound ≡ rows_below other bound
alike show other zero h = refl
alike show other (suc k) h =
    ap (λ (rows : List Row). rows ++ row_if k (show k)) (alike show other k (λ n lt. h n (omega (arith, lt))))
    ∙ ap (λ (o : Option Fields). rows_below other k ++ row_if k o) (h k (omega arith))

empty_more : (show : ℕ → Option Fields) (bound k : ℕ) → bound ≤ suc k → ((number : ℕ) → bound ≤ number → show number ≡ None) → (bound ≤ k → rows_below show k ≡ rows_below show bound) → rows_below show (suc k) ≡ rows_below show bound
empty_more show bound k le h below = by (cases_lt bound (suc k))
  where
    by : (bound < suc k) ⊎ (suc k ≤ bound) → rows_below show (suc k) ≡ rows_below show bound
    by (inl lt) = ap (λ (o : Option Fields). rows_below show k ++ row_if k o) (h k (omega (arith, lt))) ∙ append-nil (rows_below show k) ∙ below (omega (arith, lt))
    by (inr ge) = let e : suc k ≡ bound = omega (arith, le, ge) in ap (rows_below show) e

pub empty : (show : ℕ → Option Fields) (bound more : ℕ) → bound ≤ more → ((number : ℕ) → bound ≤ number → show number ≡ None) → rows_below show more ≡ rows_below show bound
empty show bound zero le h = let e : 0 ≡ bound = omega (arith, le) in ap (rows_below show) e
empty show bound (suc k) le h = empty_more show bound k le h (λ less. empty show bound k less h)

-- ---- the front

-- Whether the number of a row is below a bound.
abbrev is_below : ℕ → Row → Bool
is_below bound r = nat_lt r.number bound

all_below : (bound : ℕ) (rows : List Row) → ((p : ℕ) (x : Row) → slice_get rows p ≡ Some x → x.number < bound) → filter (is_below bound) rows ≡ rows
all_below bound [] h = refl
all_below bound (r ∷ rows) h =
    ap (λ (b : Bool). cond b (r ∷ filter (is_below bound) rows) (filter (is_below bound) rows)) (lt-ltb r.number bound (h 0 r refl))
    ∙ ap (λ (rs : List Row). r ∷ rs) (all_below bound rows (λ p x at. h (suc p) x at))

beyond : (bound k : ℕ) (o : Option Fields) → bound ≤ k → filter (is_below bound) (row_if k o) ≡ []
beyond bound k None le = refl
beyond bound k (Some d) le = ap (λ (b : Bool). cond b (row k d ∷ []) []) (le-ltb k bound le)

front_more : (show : ℕ → Option Fields) (bound k : ℕ) → bound ≤ suc k → (bound ≤ k → rows_below show bound ≡ filter (is_below bound) (rows_below show k)) → rows_below show bound ≡ filter (is_below bound) (rows_below show (suc k))
front_more show bound k le below = by (cases_lt bound (suc k))
  where
    by : (bound < suc k) ⊎ (suc k ≤ bound) → rows_below show bound ≡ filter (is_below bound) (rows_below show (suc k))
    by (inl lt) =
        let less : bound ≤ k = omega (arith, lt) in
        below less
        ∙ sym (append-nil (filter (is_below bound) (rows_below show k)))
        ∙ ap (λ (rs : List Row). filter (is_below bound) (rows_below show k) ++ rs) (sym (beyond bound k (show k) less))
        ∙ sym (filter-append (is_below bound) (rows_below show k) (row_if k (show k)))
    by (inr ge) =
        let e : bound ≡ suc k = omega (arith, le, ge) in
        ap (rows_below show) e ∙ sym (all_below bound (rows_below show (suc k)) (λ p x at. let lt = (each show (suc k) p x at).0 in omega (arith, lt, e)))

pub front : (show : ℕ → Option Fields) (bound more : ℕ) → bound ≤ more → rows_below show bound ≡ filter (is_below bound) (rows_below show more)
front show bound zero le = let e : bound ≡ 0 = omega (arith, le) in ap (rows_below show) e
front show bound (suc k) le = front_more show bound k le (λ less. front show bound k less)

-- ---- changes and loads

change-append : (change : Fields → Option Fields) (xs ys : List Row) → change_rows change (xs ++ ys) ≡ change_rows change xs ++ change_rows change ys
change-append change [] ys = refl
change-append change (x ∷ xs) ys =
    ap (λ (rs : List Row). row_if x.number (change x.document) ++ rs) (change-append change xs ys)
    ∙ sym (append_assoc (row_if x.number (change x.document)) (change_rows change xs) (change_rows change ys))

one_changed : (change : Fields → Option Fields) (k : ℕ) (o : Option Fields) → row_if k (made_of change o) ≡ change_rows change (row_if k o)
one_changed change k None = refl
one_changed change k (Some d) = sym (append-nil (row_if k (change d)))

pub changed : (change : Fields → Option Fields) (show : ℕ → Option Fields) (bound : ℕ) → rows_below (λ number. made_of change (show number)) bound ≡ change_rows change (rows_below show bound)
changed change show zero = refl
changed change show (suc k) =
    ap (λ (rows : List Row). rows ++ row_if k (made_of change (show k))) (changed change show k)
    ∙ ap (λ (rs : List Row). change_rows change (rows_below show k) ++ rs) (one_changed change k (show k))
    ∙ sym (change-append change (rows_below show k) (row_if k (show k)))

pub loaded : (show : ℕ → Option Fields) (bound : ℕ) (documents : List Fields) → ((i : ℕ) (document : Fields) → slice_get documents i ≡ Some document → show (bound + i) ≡ Some document)
    → rows_below show (bound + length documents) ≡ rows_below show bound ++ rows_from bound documents
loaded show bound [] h = ap (rows_below show) (add-zero bound) ∙ sym (append-nil (rows_below show bound))
loaded show bound (d ∷ ds) h =
    let e : bound + suc (length ds) ≡ (bound + 1) + length ds = omega arith in
    let here : show bound ≡ Some d = ap show (sym (add-zero bound)) ∙ h 0 d refl in
    let next : bound + 1 ≡ suc bound = omega arith in
    ap (rows_below show) e
    ∙ loaded show (bound + 1) ds (λ i x at. let there : (bound + 1) + i ≡ bound + suc i = omega arith in ap show there ∙ h (suc i) x at)
    ∙ ap (λ (rows : List Row). rows ++ rows_from (bound + 1) ds) (ap (rows_below show) next ∙ ap (λ (o : Option Fields). rows_below show bound ++ row_if bound o) here)
    ∙ append_assoc (rows_below show bound) (row bound d ∷ []) (rows_from (bound + 1) ds)
