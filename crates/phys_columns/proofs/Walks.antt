-- What a walk has left, as it goes on from place to place.
use Rattle.std.proofs.Common.{◌≡◌, ◌<◌, ◌≤◌, ◌∙◌, ap, sym, refl, arith, ℕ, zero, suc, ◌+◌, ◌-◌, ◌*◌, List, [], ◌∷◌, true, false, Option, Some, None, Bor, if◌then◌else◌, inl, inr}
use Rattle.std.specs.Option.{option_map_or, option_map}
use Rattle.std.proofs.lemmas.Bool.Decides.{eqb_tells}
use Rattle.doc_values.specs.declared.value.Value.{Value}
use Rattle.phys_columns.specs.declared.page.Page.{Page}
use Rattle.phys_columns.specs.Pages.{is_marked, value_in, value_at}
use Rattle.phys_columns.specs.Walked.{values_in, all_of}
use Rattle.phys_columns.specs.Cells.{Cells, cell_at, values_from}
use Rattle.phys_columns.specs.Inside.{ArePages, page_at, column_value}
use Rattle.phys_columns.proofs.Paged.{page_is}
use Rattle.phys_columns.proofs.Valued.{at_place}

abbrev left : Option (Bor Page) → ℕ → List (ℕ × Value)
left page place = option_map_or (λ p. values_in p.now place (1024 - place)) page []

passed : (page : Page) (place n : ℕ) → is_marked page.marks place ≡ false → values_in page place (suc n) ≡ values_in page (place + 1) n
unfolding values_in
passed page place n is = ap (λ b. option_map_or (λ value. (1024 * page.number + place, value) ∷ values_in page (place + 1) n) (if b then Some (value_in page.slots place) else None) (values_in page (place + 1) n)) is

-- Places without a mark give nothing.
skipped : (page : Page) (place n r : ℕ) → place ≤ r → r ≤ place + n → ((k : ℕ) → place ≤ k → k < r → is_marked page.marks k ≡ false) → values_in page place n ≡ values_in page r (place + n - r)
skipped page place zero r from upto none =
    let same : place ≡ r = omega arith in
    ap (λ (k : ℕ). values_in page k 0) same ∙ ap (values_in page r) (omega arith)
skipped page place (suc n) r from upto none = elim (eqb_tells place r) [
  | inl same ↦ ap (λ (k : ℕ). values_in page k (suc n)) same.1 ∙ ap (values_in page r) (omega (arith, same.1))
  | inr differs ↦ passed page place n (none place (omega arith) (omega (arith, differs.1))) ∙ skipped page (place + 1) n r (omega (arith, differs.1)) (omega arith) (λ k low high. none k (omega arith) high) ∙ ap (values_in page r) (omega arith)
]

given : (page : Page) (place n : ℕ) → is_marked page.marks place ≡ true → values_in page place (suc n) ≡ (1024 * page.number + place, value_in page.slots place) ∷ values_in page (place + 1) n
unfolding values_in
given page place n is = ap (λ b. option_map_or (λ value. (1024 * page.number + place, value) ∷ values_in page (place + 1) n) (if b then Some (value_in page.slots place) else None) (values_in page (place + 1) n)) is

nothing : (page : Page) (place : ℕ) → values_in page place 0 ≡ []
unfolding values_in
nothing page place = refl

-- No mark is left.
pub left_none : (page : Option (Bor Page)) (p : Bor Page) (place : ℕ) → page ≡ Some p → place ≤ 1024 → ((k : ℕ) → place ≤ k → k < 1024 → is_marked p.now.marks k ≡ false) → left page place ≡ []
left_none page p place is within none =
    ap (λ o. left o place) is ∙ skipped p.now place (1024 - place) 1024 within (omega arith) none ∙ ap (values_in p.now 1024) (omega arith) ∙ nothing p.now 1024

-- Behind the last place nothing is left.
pub left_end : (page : Option (Bor Page)) → left page 1024 ≡ []
left_end None = refl
left_end (Some p) = nothing p.now 1024

-- The next mark gives the next value.
pub left_next : (page : Option (Bor Page)) (p : Bor Page) (place r : ℕ) (value : Value) → page ≡ Some p → place ≤ r → r < 1024 → ((k : ℕ) → place ≤ k → k < r → is_marked p.now.marks k ≡ false) → is_marked p.now.marks r ≡ true → value ≡ value_in p.now.slots r → left page place ≡ (1024 * p.now.number + r, value) ∷ left page (r + 1)
left_next page p place r value is from low none here same =
    ap (λ o. left o place) is
    ∙ skipped p.now place (1024 - place) r from (omega arith) none
    ∙ ap (values_in p.now r) (omega arith)
    ∙ given p.now r (1023 - r) here
    ∙ ap (λ v. (1024 * p.now.number + r, v) ∷ values_in p.now (r + 1) (1023 - r)) (sym same)
    ∙ ap (λ m. (1024 * p.now.number + r, value) ∷ values_in p.now (r + 1) m) (omega arith)
    ∙ ap (λ o. (1024 * p.now.number + r, value) ∷ left o (r + 1)) (sym is)

-- The values of a page are those of its cells.
walk_page : (p : Page) (id : ℕ) (cells : Cells) → ((k : ℕ) → k < 1024 → cell_at id (1024 * p.number + k) cells ≡ value_at p k) → (place n : ℕ) → place + n ≤ 1024 → values_in p place n ≡ values_from id (1024 * p.number + place) n cells
unfolding values_in values_from
walk_page p id cells same place zero within = refl
walk_page p id cells same place (suc n) within =
    let rest : values_in p (place + 1) n ≡ values_from id ((1024 * p.number + place) + 1) n cells = walk_page p id cells same (place + 1) n (omega arith) ∙ ap (λ v. values_from id v n cells) (omega arith) in
    ap (λ vs. option_map_or (λ value. (1024 * p.number + place, value) ∷ vs) (value_at p place) vs) rest
    ∙ ap (λ o. option_map_or (λ value. (1024 * p.number + place, value) ∷ values_from id ((1024 * p.number + place) + 1) n cells) o (values_from id ((1024 * p.number + place) + 1) n cells)) (sym (same place (omega arith)))

walk_none : (id : ℕ) (cells : Cells) (from n : ℕ) → ((k : ℕ) → k < n → cell_at id (from + k) cells ≡ None) → values_from id from n cells ≡ []
unfolding values_from
walk_none id cells from zero none = refl
walk_none id cells from (suc n) none =
    let here : cell_at id from cells ≡ None = ap (λ v. cell_at id v cells) (omega arith) ∙ none 0 (omega arith) in
    ap (λ o. option_map_or (λ value. (from, value) ∷ values_from id (from + 1) n cells) o (values_from id (from + 1) n cells)) here
    ∙ walk_none id cells (from + 1) n (λ k below. ap (λ v. cell_at id v cells) (omega arith) ∙ none (k + 1) (omega arith))

-- What a walk gives of a column.
pub walked : (pages : List Page) (id number : ℕ) (cells : Cells) (page : Option (Bor Page)) → ArePages 0 pages → option_map (λ p. p.now) page ≡ page_at number pages → ((v : ℕ) → cell_at id v cells ≡ column_value pages v) → all_of page ≡ values_from id (1024 * number) 1024 cells
walked pages id number cells None are at same = sym (walk_none id cells (1024 * number) 1024 (λ k below. same (1024 * number + k) ∙ at_place pages number k below ∙ ap (λ o. option_map_or (λ p. value_at p k) o None) (sym at)))
walked pages id number cells (Some p) are at same =
    let is : p.now.number ≡ number = (page_is number 0 pages are p.now (sym at)).0 in
    walk_page p.now id cells (λ k below. ap (λ (m : ℕ). cell_at id (1024 * m + k) cells) is ∙ same (1024 * number + k) ∙ at_place pages number k below ∙ ap (λ o. option_map_or (λ q. value_at q k) o None) (sym at)) 0 1024 (omega arith)
    ∙ ap (λ (v : ℕ). values_from id v 1024 cells) (let e : 1024 * p.now.number + 0 ≡ 1024 * number = omega (arith, is) in e)

-- A column that is not there gives nothing.
pub walked_none : (id number : ℕ) (cells : Cells) → ((v : ℕ) → cell_at id v cells ≡ None) → [] ≡ values_from id (1024 * number) 1024 cells
walked_none id number cells none = sym (walk_none id cells (1024 * number) 1024 (λ k below. none (1024 * number + k)))
