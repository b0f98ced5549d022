-- The pages of a column: which page a number has, and how that changes as a page is put in, changed or taken out.
use Rattle.std.proofs.Common.{◌≡◌, ◌≢◌, ◌<◌, ◌≤◌, ◌∙◌, ap, sym, refl, subst, arith, ℕ, zero, suc, ◌+◌, List, [], ◌∷◌, length, Some, None, slice_get, slice_set, inl, inr, if◌then◌else◌, ◌==◌}
use Rattle.std.specs.List.{insert, remove}
use Rattle.std.proofs.lemmas.Bool.Decides.{eqb_tells, leb_tells}
use Rattle.phys_columns.specs.declared.page.Page.{Page}
use Rattle.phys_columns.specs.Pages.{IsPage}
use Rattle.phys_columns.specs.Inside.{ArePages, FitsAt, page_at, most_pages}

-- What one page says of the numbers behind it.
passed : (n : ℕ) (x : Page) (xs : List Page) → x.number ≢ n → page_at n (x ∷ xs) ≡ page_at n xs
passed n x xs apart = elim (eqb_tells x.number n) [
  | inl same ↦ absurd (apart same.1)
  | inr differs ↦ ap (λ b. if b then Some x else page_at n xs) differs.0
]

met : (n : ℕ) (x : Page) (xs : List Page) → x.number ≡ n → page_at n (x ∷ xs) ≡ Some x
met n x xs is = elim (eqb_tells x.number n) [
  | inl same ↦ ap (λ b. if b then Some x else page_at n xs) same.0
  | inr differs ↦ absurd (differs.1 is)
]

pub lower : (a b : ℕ) (pages : List Page) → b ≤ a → ArePages a pages → ArePages b pages
lower a b [] less are = tt
lower a b (x ∷ xs) less are = (omega (arith, are.0), are.1, are.2, are.3)

-- Each page is at least as high as its place behind the least number.
pub from_least : (least : ℕ) (pages : List Page) → ArePages least pages → (k : ℕ) (p : Page) → slice_get pages k ≡ Some p → least ≤ p.number
from_least least [] are k p is = cc
from_least least (x ∷ xs) are zero p is =
    let same : x ≡ p = (cc) in
    let n : x.number ≡ p.number = ap (λ y. y.number) same in
    omega (arith, are.0, n)
from_least least (x ∷ xs) are (suc k) p is = omega (arith, are.0, from_least (x.number + 1) xs are.3 k p is)

-- The numbers rise.
pub rises : (least : ℕ) (pages : List Page) → ArePages least pages → (i j : ℕ) (p q : Page) → i < j → slice_get pages i ≡ Some p → slice_get pages j ≡ Some q → p.number < q.number
rises least [] are i j p q before at to = cc
rises least (x ∷ xs) are zero zero p q before at to = absurd (omega arith)
rises least (x ∷ xs) are zero (suc j) p q before at to =
    let same : x ≡ p = (cc) in
    let n : x.number ≡ p.number = ap (λ y. y.number) same in
    omega (arith, n, from_least (x.number + 1) xs are.3 j q to)
rises least (x ∷ xs) are (suc i) zero p q before at to = absurd (omega arith)
rises least (x ∷ xs) are (suc i) (suc j) p q before at to = rises (x.number + 1) xs are.3 i j p q (omega arith) at to

-- The page at a place is the one with its number.
pub found : (least : ℕ) (pages : List Page) → ArePages least pages → (i : ℕ) (p : Page) → slice_get pages i ≡ Some p → page_at p.number pages ≡ Some p
found least [] are i p is = cc
found least (x ∷ xs) are zero p is =
    let same : x ≡ p = (cc) in
    met p.number x xs (ap (λ y. y.number) same) ∙ ap Some same
found least (x ∷ xs) are (suc i) p is = passed p.number x xs (λ e. absurd (omega (arith, e, from_least (x.number + 1) xs are.3 i p is))) ∙ found (x.number + 1) xs are.3 i p is

-- A number that no page has is not found.
pub missing : (n : ℕ) (pages : List Page) → ((k : ℕ) (p : Page) → slice_get pages k ≡ Some p → p.number ≢ n) → page_at n pages ≡ None
missing n [] apart = refl
missing n (x ∷ xs) apart = passed n x xs (apart 0 x refl) ∙ missing n xs (λ k p is. apart (suc k) p is)

pub fits_none : (n place : ℕ) (pages : List Page) → FitsAt n place pages → page_at n pages ≡ None
fits_none n place pages fits = missing n pages (λ k p is e. elim (leb_tells (suc k) place) [
  | inl before ↦ absurd (omega (arith, e, fits.below k p (omega (arith, before.1)) is))
  | inr behind ↦ absurd (omega (arith, e, fits.above k p (omega (arith, behind.1)) is))
])

-- What is found is a page, with that number.
pub page_is : (n least : ℕ) (pages : List Page) → ArePages least pages → (p : Page) → page_at n pages ≡ Some p → (p.number ≡ n) × (n < most_pages) × IsPage p
page_is n least [] are p is = cc
page_is n least (x ∷ xs) are p is = elim (eqb_tells x.number n) [
  | inl same ↦
      let one : x ≡ p = (let e : Some x ≡ Some p = sym (met n x xs same.1) ∙ is in cc) in
      subst (λ y. (y.number ≡ n) × (n < most_pages) × IsPage y) one (same.1, subst (λ m. m < most_pages) same.1 are.1, are.2)
  | inr differs ↦ page_is n (x.number + 1) xs are.3 p (sym (passed n x xs differs.1) ∙ is)
]

-- A page is changed, and keeps its number.
pub set_pages : (least : ℕ) (pages : List Page) → ArePages least pages → (i : ℕ) (p q : Page) → slice_get pages i ≡ Some p → q.number ≡ p.number → IsPage q → ArePages least (slice_set pages i q)
set_pages least [] are i p q is same page = tt
set_pages least (x ∷ xs) are zero p q is same page =
    let n : q.number ≡ x.number = same ∙ ap (λ (y : Page). y.number) (let e : p ≡ x = (cc) in e) in
    (subst (λ m. least ≤ m) (sym n) are.0, subst (λ m. m < most_pages) (sym n) are.1, page, subst (λ m. ArePages (m + 1) xs) (sym n) are.3)
set_pages least (x ∷ xs) are (suc i) p q is same page = (are.0, are.1, are.2, set_pages (x.number + 1) xs are.3 i p q is same page)

pub set_at : {X : Type 0} (xs : List X) (i : ℕ) (p q : X) → slice_get xs i ≡ Some p → slice_get (slice_set xs i q) i ≡ Some q
set_at [] i p q is = cc
set_at (x ∷ xs) zero p q is = refl
set_at (x ∷ xs) (suc i) p q is = set_at xs i p q is

pub set_apart : {X : Type 0} (xs : List X) (i k : ℕ) (q : X) → k ≢ i → slice_get (slice_set xs i q) k ≡ slice_get xs k
set_apart [] i k q apart = refl
set_apart (x ∷ xs) zero zero q apart = absurd (apart refl)
set_apart (x ∷ xs) zero (suc k) q apart = refl
set_apart (x ∷ xs) (suc i) zero q apart = refl
set_apart (x ∷ xs) (suc i) (suc k) q apart = set_apart xs i k q (λ e. apart (ap suc e))

pub set_other : (pages : List Page) (i : ℕ) (p q : Page) → slice_get pages i ≡ Some p → q.number ≡ p.number → (m : ℕ) → m ≢ p.number → page_at m (slice_set pages i q) ≡ page_at m pages
set_other [] i p q is same m apart = refl
set_other (x ∷ xs) zero p q is same m apart =
    let e : x ≡ p = (cc) in
    passed m q xs (λ h. apart (sym h ∙ same)) ∙ sym (passed m x xs (λ h. apart (sym h ∙ ap (λ (y : Page). y.number) e)))
set_other (x ∷ xs) (suc i) p q is same m apart = ap (λ r. if x.number == m then Some x else r) (set_other xs i p q is same m apart)

pub set_here : (least : ℕ) (pages : List Page) → ArePages least pages → (i : ℕ) (p q : Page) → slice_get pages i ≡ Some p → q.number ≡ p.number → IsPage q → page_at p.number (slice_set pages i q) ≡ Some q
set_here least pages are i p q is same page = subst (λ m. page_at m (slice_set pages i q) ≡ Some q) same (found least (slice_set pages i q) (set_pages least pages are i p q is same page) i q (set_at pages i p q is))

-- A page is put in where its number belongs.
fits_later : (n i : ℕ) (x : Page) (xs : List Page) → FitsAt n (suc i) (x ∷ xs) → FitsAt n i xs
fits_later n i x xs fits = record { below = λ k p before is. fits.below (suc k) p (omega arith) is; above = λ k p behind is. fits.above (suc k) p (omega arith) is }

pub insert_pages : (least : ℕ) (pages : List Page) → ArePages least pages → (i : ℕ) (q : Page) → FitsAt q.number i pages → least ≤ q.number → q.number < most_pages → IsPage q → ArePages least (insert pages i q)
insert_pages least [] are zero q fits from few page = (from, few, page, tt)
insert_pages least [] are (suc i) q fits from few page = (from, few, page, tt)
insert_pages least (x ∷ xs) are zero q fits from few page = (from, few, page, (omega (arith, fits.above 0 x (omega arith) refl), are.1, are.2, are.3))
insert_pages least (x ∷ xs) are (suc i) q fits from few page = (are.0, are.1, are.2, insert_pages (x.number + 1) xs are.3 i q (fits_later q.number i x xs fits) (omega (arith, fits.below 0 x (omega arith) refl)) few page)

pub insert_other : (pages : List Page) (i : ℕ) (q : Page) (m : ℕ) → m ≢ q.number → page_at m (insert pages i q) ≡ page_at m pages
insert_other [] zero q m apart = passed m q [] (λ e. apart (sym e))
insert_other [] (suc i) q m apart = passed m q [] (λ e. apart (sym e))
insert_other (x ∷ xs) zero q m apart = passed m q (x ∷ xs) (λ e. apart (sym e))
insert_other (x ∷ xs) (suc i) q m apart = ap (λ r. if x.number == m then Some x else r) (insert_other xs i q m apart)

insert_at : (pages : List Page) (i : ℕ) (q : Page) → i ≤ length pages → slice_get (insert pages i q) i ≡ Some q
insert_at [] zero q within = refl
insert_at [] (suc i) q within = absurd (omega arith)
insert_at (x ∷ xs) zero q within = refl
insert_at (x ∷ xs) (suc i) q within = insert_at xs i q (omega arith)

pub insert_here : (least : ℕ) (pages : List Page) → ArePages least pages → (i : ℕ) (q : Page) → i ≤ length pages → FitsAt q.number i pages → least ≤ q.number → q.number < most_pages → IsPage q → page_at q.number (insert pages i q) ≡ Some q
insert_here least pages are i q within fits from few page = found least (insert pages i q) (insert_pages least pages are i q fits from few page) i q (insert_at pages i q within)

-- A page is taken out.
pub remove_pages : (least : ℕ) (pages : List Page) → ArePages least pages → (i : ℕ) → ArePages least (remove pages i)
remove_pages least [] are zero = tt
remove_pages least [] are (suc i) = tt
remove_pages least (x ∷ xs) are zero = lower (x.number + 1) least xs (omega (arith, are.0)) are.3
remove_pages least (x ∷ xs) are (suc i) = (are.0, are.1, are.2, remove_pages (x.number + 1) xs are.3 i)

pub remove_other : (pages : List Page) (i : ℕ) (p : Page) → slice_get pages i ≡ Some p → (m : ℕ) → m ≢ p.number → page_at m (remove pages i) ≡ page_at m pages
remove_other [] i p is m apart = cc
remove_other (x ∷ xs) zero p is m apart =
    let e : x ≡ p = (cc) in
    sym (passed m x xs (λ h. apart (sym h ∙ ap (λ (y : Page). y.number) e)))
remove_other (x ∷ xs) (suc i) p is m apart = ap (λ r. if x.number == m then Some x else r) (remove_other xs i p is m apart)

pub remove_here : (least : ℕ) (pages : List Page) → ArePages least pages → (i : ℕ) (p : Page) → slice_get pages i ≡ Some p → page_at p.number (remove pages i) ≡ None
remove_here least [] are i p is = cc
remove_here least (x ∷ xs) are zero p is =
    let n : x.number ≡ p.number = ap (λ (y : Page). y.number) (let e : x ≡ p = (cc) in e) in
    missing p.number xs (λ k q at e. absurd (omega (arith, n, e, from_least (x.number + 1) xs are.3 k q at)))
remove_here least (x ∷ xs) are (suc i) p is = passed p.number x (remove xs i) (λ e. absurd (omega (arith, e, from_least (x.number + 1) xs are.3 i p is))) ∙ remove_here (x.number + 1) xs are.3 i p is
