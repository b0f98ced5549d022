-- Rows by their numbers, and tuples by the numbers of their rows.
use Rattle.std.proofs.Common.{◌≡◌, ◌∙◌, ℕ, zero, suc, ◌+◌, ◌≤◌, ◌<◌, List, [], ◌∷◌, map, length, get_or, take, Option, Some, None, option_map, option_and_then, slice_get, refl, sym, ap, arith, add-one, zero-add}
use Rattle.std.specs.List.{range_with_len}
use Rattle.std.proofs.lemmas.List.FromFn.{length-map-range_with_len, get_or-map-range_with_len}
use Rattle.std.proofs.lemmas.Option.{slice_get-get_or, slice_get_past, slice_get-map}
use Rattle.doc_values.specs.Doc.{Fields}
use Rattle.doc_values.specs.declared.value.Value.{Value}
use Rattle.row_columns.specs.Contents.{Cells}
use Rattle.row_columns.specs.Sides.{side_at}
use Rattle.row_columns.specs.Column.{Values}
use Rattle.row_columns.specs.Placed.{value_in, row_at, rows_of, cell_of, sides, cell_on, alone_at, tuple_at}

-- what stands under a number among so many
pub within : {X : Type 0} (f : ℕ → X) (n k : ℕ) → k < n → slice_get (map f (range_with_len 0 n)) k ≡ Some (f k)
within f n k lt =
    let longer : k < length (map f (range_with_len 0 n)) = omega (arith, length-map-range_with_len f 0 n) in
    let same : 0 + k ≡ k = omega arith in
    slice_get-get_or (map f (range_with_len 0 n)) k (f k) longer ∙ ap Some (get_or-map-range_with_len f 0 n k k (f k) lt same)

-- and beyond them nothing
pub beyond : {X : Type 0} (f : ℕ → X) (n k : ℕ) → n ≤ k → slice_get (map f (range_with_len 0 n)) k ≡ None
beyond f n k le = slice_get_past (map f (range_with_len 0 n)) k (omega (arith, length-map-range_with_len f 0 n))

-- the value of a column in a row
pub cell_within : (n : ℕ) (columns : List Values) (docs : List Fields) (k j : ℕ) → k < n → cell_of (rows_of n columns docs) k j ≡ option_and_then (value_in k) (slice_get columns j)
cell_within n columns docs k j lt =
    ap (option_and_then (λ (r : Cells). option_and_then (λ cell. cell) (slice_get r.cells j))) (within (row_at columns docs) n k lt)
    ∙ ap (option_and_then (λ cell. cell)) (slice_get-map (value_in k) columns j)
    ∙ joined (slice_get columns j)
  where
    joined : (o : Option Values) → option_and_then (λ cell. cell) (option_map (value_in k) o) ≡ option_and_then (value_in k) o
    joined None = refl
    joined (Some column) = refl

pub cell_beyond : (n : ℕ) (columns : List Values) (docs : List Fields) (k j : ℕ) → n ≤ k → cell_of (rows_of n columns docs) k j ≡ None
cell_beyond n columns docs k j le = ap (option_and_then (λ (r : Cells). option_and_then (λ cell. cell) (slice_get r.cells j))) (beyond (row_at columns docs) n k le)

-- the document of a row
pub doc_within : (n : ℕ) (columns : List Values) (docs : List Fields) (k : ℕ) → k < n → option_and_then (λ (r : Cells). r.doc) (slice_get (rows_of n columns docs) k) ≡ slice_get docs k
doc_within n columns docs k lt = ap (option_and_then (λ (r : Cells). r.doc)) (within (row_at columns docs) n k lt)

pub doc_beyond : (n : ℕ) (columns : List Values) (docs : List Fields) (k : ℕ) → n ≤ k → option_and_then (λ (r : Cells). r.doc) (slice_get (rows_of n columns docs) k) ≡ None
doc_beyond n columns docs k le = ap (option_and_then (λ (r : Cells). r.doc)) (beyond (row_at columns docs) n k le)

-- ---- tuples

-- what stands on a side
abbrev row_on : List (List Cells) → List ℕ → ℕ → Option Cells
row_on tables rows k = option_and_then (λ table. option_and_then (slice_get table) (slice_get rows k)) (slice_get tables k)

pub side_of : (tables : List (List Cells)) (rows : List ℕ) (k : ℕ) → side_at (sides tables rows) k ≡ option_and_then (λ (table : List Cells). option_and_then (slice_get table) (slice_get rows k)) (slice_get tables k)
side_of [] rows k = refl
side_of (t ∷ ts) [] zero = refl
side_of (t ∷ ts) [] (suc k) = side_of ts [] k
side_of (t ∷ ts) (n ∷ ns) zero = refl
side_of (t ∷ ts) (n ∷ ns) (suc k) = side_of ts ns k

abbrev cell_in_row : ℕ → Cells → Option Value
cell_in_row j r = option_and_then (λ cell. cell) (slice_get r.cells j)

-- no number of a row, no value
pub no_number : (tables : List (List Cells)) (rows : List ℕ) (k j : ℕ) → slice_get rows k ≡ None → cell_on (sides tables rows) k j ≡ None
no_number tables rows k j e =
    ap (option_and_then (cell_in_row j)) (side_of tables rows k ∙ ap (λ (o : Option ℕ). option_and_then (λ (table : List Cells). option_and_then (slice_get table) o) (slice_get tables k)) e) ∙ by (slice_get tables k)
  where
    by : (o : Option (List Cells)) → option_and_then (cell_in_row j) (option_and_then (λ (table : List Cells). option_and_then (slice_get table) None) o) ≡ None
    by None = refl
    by (Some table) = refl

-- no table, no value
pub no_table : (tables : List (List Cells)) (rows : List ℕ) (k j : ℕ) → slice_get tables k ≡ None → cell_on (sides tables rows) k j ≡ None
no_table tables rows k j e =
    ap (option_and_then (cell_in_row j)) (side_of tables rows k ∙ ap (option_and_then (λ (table : List Cells). option_and_then (slice_get table) (slice_get rows k))) e)

-- the value of a column on a side
pub cell_there : (tables : List (List Cells)) (rows : List ℕ) (k j n : ℕ) (table : List Cells) → slice_get rows k ≡ Some n → slice_get tables k ≡ Some table → cell_on (sides tables rows) k j ≡ cell_of table n j
cell_there tables rows k j n table number there =
    ap (option_and_then (cell_in_row j))
    (side_of tables rows k ∙ ap (option_and_then (λ (t : List Cells). option_and_then (slice_get t) (slice_get rows k))) there ∙ ap (option_and_then (slice_get table)) number)

-- ---- the tuples of one table

alone_from : (table more : List Cells) (a n : ℕ) → ((k : ℕ) → slice_get table (a + k) ≡ slice_get more k) → n ≡ length more → map (tuple_at (table ∷ [])) (map alone_at (range_with_len a n)) ≡ map (λ row. Some row ∷ []) more
alone_from table [] a zero same e = refl
alone_from table [] a (suc n) same e = absurd (omega arith)
alone_from table (r ∷ rs) a zero same e = absurd (omega arith)
alone_from table (r ∷ rs) a (suc n) same e =
    let first : slice_get table a ≡ Some r = ap (slice_get table) (sym plain) ∙ same 0 in
    let rest = alone_from table rs (a + 1) n (λ k. ap (slice_get table) (moved k) ∙ same (suc k)) (omega arith) in
    λ i. (first i ∷ []) ∷ rest i
  where
    plain : a + 0 ≡ a
    plain = omega arith

    moved : (k : ℕ) → (a + 1) + k ≡ a + suc k
    moved k = omega arith

-- a place for each row
pub all_alone : (table : List Cells) (n : ℕ) → n ≡ length table → map (tuple_at (table ∷ [])) (map alone_at (range_with_len 0 n)) ≡ map (λ row. Some row ∷ []) table
all_alone table n e = alone_from table table 0 n (λ k. ap (slice_get table) (zero-add k)) e
