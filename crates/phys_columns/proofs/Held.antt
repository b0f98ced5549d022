-- The map that columns are seen as, as one of them changes.
use Rattle.std.proofs.Common.{◌≡◌, ◌≢◌, ◌<◌, ◌≤◌, ◌∙◌, ap, sym, refl, subst, arith, ℕ, ◌/◌, List, [], length, Bool, true, false, Option, Some, None, IfSome, Result, Ok, Err, OnErr, slice_get, slice_set, slice_index_or, ◌⊎◌, inl, inr}
use Rattle.std.specs.Option.{option_map_or}
use Rattle.std.specs.FinMap as map
use Rattle.std.proofs.lemmas.Option.{slice_get_read, slice_get_past, slice_get_within}
use Rattle.std.proofs.lemmas.Bool.Decides.{eqb_tells}
use Rattle.doc_values.specs.declared.kind.Kind as kind
use Rattle.doc_values.specs.declared.value.Value.{Value}
use Rattle.phys_columns.specs.declared.column.Column.{Column}
use Rattle.phys_columns.specs.declared.page.Page.{Page}
use Rattle.phys_columns.specs.declared.spare.Spare.{Spare}
use Rattle.phys_columns.specs.Cells.{cell_at, with_cell, without_cell}
use Rattle.phys_columns.specs.Pages.{Holds}
use Rattle.phys_columns.specs.Seen.{cells_of, IsWithin}
use Rattle.phys_columns.specs.Inside.{ArePages, HasRoom, IsOfKind, page_at, pages_of, IsRoom, column_value, value_of, cells_in, all_versions}
use Rattle.phys_columns.proofs.Paged.{page_is, set_at, set_apart}
use Rattle.phys_columns.proofs.Valued.{value_on}
use Rattle.phys_columns.proofs.Mapped.{get_cell, same_cells, put_cells, take_cells}

abbrev pub ArePaged : List Column → Type 0
ArePaged columns = (id : ℕ) → ArePages 0 (pages_of id columns)

-- Values stand in the columns that there are, and in versions below the bound.
pub within : (columns : List Column) → ArePaged columns → IsWithin (value_of columns) (length columns) all_versions
within columns paged id version value is = (
  elim (slice_get columns id) as (λ o. slice_get columns id ≡ o → column_value (option_map_or (λ column. column.pages.items) o []) version ≡ Some value → id < length columns) [
    | None ↦ λ e h. cc
    | Some column ↦ λ e h. slice_get_within columns id column e
  ] refl is,
  elim (page_at (version / 1024) (pages_of id columns)) as (λ o. page_at (version / 1024) (pages_of id columns) ≡ o → value_on o version ≡ Some value → version < all_versions) [
    | None ↦ λ e h. cc
    | Some page ↦ λ e h. let facts = page_is (version / 1024) 0 (pages_of id columns) (paged id) page e in omega (arith, facts.1)
  ] refl is,
)

-- What stands in a cell.
pub cell_is : (columns : List Column) → ArePaged columns → (id version : ℕ) → cell_at id version (cells_in columns) ≡ value_of columns id version
unfolding cells_in
cell_is columns paged id version = get_cell (value_of columns) (length columns) all_versions (within columns paged) id version

-- Columns with the same values in all cells are seen as the same map.
pub same_values : (before after : List Column) → ArePaged before → ArePaged after → ((id version : ℕ) → value_of after id version ≡ value_of before id version) → cells_in after ≡ cells_in before
unfolding cells_in
same_values before after paged now same = same_cells (value_of before) (value_of after) (length before) (length after) all_versions (within before paged) (within after now) same

pub pages_same : (columns after : List Column) → ((id : ℕ) → pages_of id after ≡ pages_of id columns) → ArePaged columns → ArePaged after
pages_same columns after same paged id = subst (ArePages 0) (sym (same id)) (paged id)

-- Columns without pages are an empty map.
pub no_cells : cells_in [] ≡ map.empty
unfolding cells_in cells_of Rattle.phys_columns.specs.Seen.entries_below
no_cells = refl

-- What is read of a column that there is, and of one that there is not.
pub read_some : (columns seen : List Column) (id version : ℕ) (column : Column) → seen ≡ columns → ArePaged columns → id < length seen → column ≡ slice_index_or seen id column → cell_at id version (cells_in columns) ≡ column_value column.pages.items version
read_some columns seen id version column same paged inside is =
    let there : slice_get columns id ≡ Some column = subst (λ xs. slice_get xs id ≡ Some column) same (slice_get_read seen (length seen) id column refl inside is) in
    cell_is columns paged id version ∙ ap (λ o. column_value (option_map_or (λ (c : Column). c.pages.items) o []) version) there

pub read_none : (columns seen : List Column) (id version : ℕ) → seen ≡ columns → ArePaged columns → length seen ≤ id → cell_at id version (cells_in columns) ≡ None
read_none columns seen id version same paged past =
    let gone : slice_get columns id ≡ None = subst (λ xs. slice_get xs id ≡ None) same (slice_get_past seen id past) in
    cell_is columns paged id version ∙ ap (λ o. column_value (option_map_or (λ (c : Column). c.pages.items) o []) version) gone

pub paged_there : (columns seen : List Column) (id : ℕ) (column : Column) → seen ≡ columns → ArePaged columns → id < length seen → column ≡ slice_index_or seen id column → ArePages 0 column.pages.items
paged_there columns seen id column same paged inside is =
    let there : slice_get columns id ≡ Some column = subst (λ xs. slice_get xs id ≡ Some column) same (slice_get_read seen (length seen) id column refl inside is) in
    subst (ArePages 0) (ap (λ o. option_map_or (λ (c : Column). c.pages.items) o []) there) (paged id)

-- A cell without a value is taken out, and nothing changes.
pub nothing_taken : (columns : List Column) (id version : ℕ) → ArePaged columns → length columns ≤ id → cells_in columns ≡ without_cell id version (cells_in columns)
unfolding cells_in
nothing_taken columns id version paged past = take_cells (value_of columns) (value_of columns) (length columns) (length columns) all_versions id version (within columns paged) (within columns paged) (ap (λ o. column_value (option_map_or (λ (c : Column). c.pages.items) o []) version) (slice_get_past columns id past)) (λ i w apart. refl)

pub column_before : (columns : List Column) (id : ℕ) (old : Column) → id < length columns → old ≡ slice_index_or columns id old → pages_of id columns ≡ old.pages.items
column_before columns id old inside is = ap (λ o. option_map_or (λ (column : Column). column.pages.items) o []) (slice_get_read columns (length columns) id old refl inside is)

column_after : (columns : List Column) (id : ℕ) (old new : Column) → id < length columns → old ≡ slice_index_or columns id old → pages_of id (slice_set columns id new) ≡ new.pages.items
column_after columns id old new inside is = ap (λ o. option_map_or (λ (column : Column). column.pages.items) o []) (set_at columns id old new (slice_get_read columns (length columns) id old refl inside is))

column_apart : (columns : List Column) (id : ℕ) (new : Column) (i : ℕ) → i ≢ id → pages_of i (slice_set columns id new) ≡ pages_of i columns
column_apart columns id new i apart = ap (λ o. option_map_or (λ (column : Column). column.pages.items) o []) (set_apart columns id i new apart)

module _ (columns : List Column) (id : ℕ) (old new : Column) (inside : id < length columns) (is : old ≡ slice_index_or columns id old) (paged : ArePaged columns) (pages : ArePages 0 new.pages.items) where
  pages_before : pages_of id columns ≡ old.pages.items
  pages_before = column_before columns id old inside is

  pages_after : pages_of id (slice_set columns id new) ≡ new.pages.items
  pages_after = column_after columns id old new inside is

  pages_apart : (i : ℕ) → i ≢ id → pages_of i (slice_set columns id new) ≡ pages_of i columns
  pages_apart i apart = column_apart columns id new i apart

  -- One of the columns is changed.
  pub set_paged : ArePaged (slice_set columns id new)
  set_paged i = elim (eqb_tells i id) [
    | inl same ↦ subst (λ k. ArePages 0 (pages_of k (slice_set columns id new))) (sym same.1) (subst (ArePages 0) (sym pages_after) pages)
    | inr differs ↦ subst (ArePages 0) (sym (pages_apart i differs.1)) (paged i)
  ]

  value_here : (w : ℕ) → value_of (slice_set columns id new) id w ≡ column_value new.pages.items w
  value_here w = ap (λ xs. column_value xs w) pages_after

  value_before : (w : ℕ) → value_of columns id w ≡ column_value old.pages.items w
  value_before w = ap (λ xs. column_value xs w) pages_before

  value_apart : (i w : ℕ) → i ≢ id → value_of (slice_set columns id new) i w ≡ value_of columns i w
  value_apart i w apart = ap (λ xs. column_value xs w) (pages_apart i apart)

  kept_here : (i w : ℕ) → i ≡ id → column_value new.pages.items w ≡ column_value old.pages.items w → value_of (slice_set columns id new) i w ≡ value_of columns i w
  kept_here i w same kept = ap (λ k. value_of (slice_set columns id new) k w) same ∙ value_here w ∙ kept ∙ sym (ap (λ k. value_of columns k w) same ∙ value_before w)

  pub set_same : ((w : ℕ) → column_value new.pages.items w ≡ column_value old.pages.items w) → cells_in (slice_set columns id new) ≡ cells_in columns
  set_same kept = same_values columns (slice_set columns id new) paged set_paged (λ i w. elim (eqb_tells i id) [
    | inl same ↦ kept_here i w same.1 (kept w)
    | inr differs ↦ value_apart i w differs.1
  ])

  others : (version : ℕ) → ((w : ℕ) → w ≢ version → column_value new.pages.items w ≡ column_value old.pages.items w) → (i w : ℕ) → (i ≡ id → w ≡ version → ⊥) → value_of (slice_set columns id new) i w ≡ value_of columns i w
  others version kept i w apart = elim (eqb_tells i id) [
    | inl same ↦ kept_here i w same.1 (kept w (apart same.1))
    | inr differs ↦ value_apart i w differs.1
  ]

  pub set_put : (version : ℕ) (value : Value) → column_value new.pages.items version ≡ Some value → ((w : ℕ) → w ≢ version → column_value new.pages.items w ≡ column_value old.pages.items w) → cells_in (slice_set columns id new) ≡ with_cell id version value (cells_in columns)
  unfolding cells_in
  set_put version value here kept = put_cells (value_of columns) (value_of (slice_set columns id new)) (length columns) (length (slice_set columns id new)) all_versions id version value (within columns paged) (within (slice_set columns id new) set_paged) (value_here version ∙ here) (others version kept)

  pub set_taken : (version : ℕ) → column_value new.pages.items version ≡ None → ((w : ℕ) → w ≢ version → column_value new.pages.items w ≡ column_value old.pages.items w) → cells_in (slice_set columns id new) ≡ without_cell id version (cells_in columns)
  unfolding cells_in
  set_taken version here kept = take_cells (value_of columns) (value_of (slice_set columns id new)) (length columns) (length (slice_set columns id new)) all_versions id version (within columns paged) (within (slice_set columns id new) set_paged) (value_here version ∙ here) (others version kept)

  pub set_room : (spare : Option Spare) → IfSome spare (λ s. s.id.0 ≡ id → IsOfKind s.kind (page_at (s.version / 1024) old.pages.items) → IsOfKind s.kind (page_at (s.version / 1024) new.pages.items)) → HasRoom columns spare → HasRoom (slice_set columns id new) spare
  set_room None kept room = tt
  set_room (Some s) kept room = elim (eqb_tells s.id.0 id) [
    | inl same ↦ subst (λ k. IsOfKind s.kind (page_at (s.version / 1024) (pages_of k (slice_set columns id new)))) (sym same.1) (subst (λ xs. IsOfKind s.kind (page_at (s.version / 1024) xs)) (sym pages_after) (kept same.1 (subst (λ xs. IsOfKind s.kind (page_at (s.version / 1024) xs)) (ap (λ k. pages_of k columns) same.1 ∙ pages_before) room)))
    | inr differs ↦ subst (λ xs. IsOfKind s.kind (page_at (s.version / 1024) xs)) (sym (pages_apart s.id.0 differs.1)) room
  ]

  -- A cell of a column that has the room.
  pub new_room : (s : Spare) → s.id.0 ≡ id → IsOfKind s.kind (page_at (s.version / 1024) new.pages.items) → HasRoom (slice_set columns id new) (Some s)
  new_room s same room = subst (λ k. IsOfKind s.kind (page_at (s.version / 1024) (pages_of k (slice_set columns id new)))) (sym same) (subst (λ xs. IsOfKind s.kind (page_at (s.version / 1024) xs)) (sym pages_after) room)

-- The room stays where a cell is cleared, since its page is kept.
pub clear_room : (old new : List Page) (id version : ℕ) (keep : Bool) (spare : Option Spare) → (keep ≡ true → (k : kind.Kind) → IsOfKind k (page_at (version / 1024) old) → IsOfKind k (page_at (version / 1024) new)) → ((n : ℕ) → n ≢ version / 1024 → page_at n new ≡ page_at n old) → (keep ≡ false → IfSome spare (λ s. s.id.0 ≡ id → s.version / 1024 ≢ version / 1024)) → IfSome spare (λ s. s.id.0 ≡ id → IsOfKind s.kind (page_at (s.version / 1024) old) → IsOfKind s.kind (page_at (s.version / 1024) new))
clear_room old new id version keep None rooms others free = tt
clear_room old new id version true (Some s) rooms others free = λ same room. elim (eqb_tells (s.version / 1024) (version / 1024)) [
  | inl here ↦ subst (λ n. IsOfKind s.kind (page_at n new)) (sym here.1) (rooms refl s.kind (subst (λ n. IsOfKind s.kind (page_at n old)) here.1 room))
  | inr differs ↦ subst (IsOfKind s.kind) (sym (others (s.version / 1024) differs.1)) room
]
clear_room old new id version false (Some s) rooms others free = λ same room. subst (IsOfKind s.kind) (sym (others (s.version / 1024) (free refl same))) room

-- Every page holds a value, or has the room.
abbrev pub AreHeld : List Column → Option Spare → Type 0
AreHeld columns spare = (id number : ℕ) → IfSome (page_at number (pages_of id columns)) (λ page. Holds page ⊎ IsRoom id number spare)

pub weaker : (o : Option Page) (R S : Type 0) → (R → S) → IfSome o (λ page. Holds page ⊎ R) → IfSome o (λ page. Holds page ⊎ S)
weaker None R S f h = tt
weaker (Some p) R S f (inl h) = inl h
weaker (Some p) R S f (inr r) = inr (f r)

pub by_value : (o : Option Page) (R : Type 0) → IfSome o Holds → IfSome o (λ page. Holds page ⊎ R)
by_value None R h = tt
by_value (Some p) R h = inl h

pub by_room : (o : Option Page) (R : Type 0) → R → IfSome o (λ page. Holds page ⊎ R)
by_room None R r = tt
by_room (Some p) R r = inr r

pub value_alone : (o : Option Page) (R : Type 0) → (R → ⊥) → IfSome o (λ page. Holds page ⊎ R) → IfSome o Holds
value_alone None R never h = tt
value_alone (Some p) R never (inl h) = h
value_alone (Some p) R never (inr r) = absurd (never r)

pub no_room : (spare : Option Spare) → spare ≡ None → (id n : ℕ) → IsRoom id n spare → ⊥
no_room spare is id n room = subst (IsRoom id n) is room

pub other_room : (spare : Option Spare) (s : Spare) → spare ≡ Some s → (i n : ℕ) → (i ≡ s.id.0 → n ≡ s.version / 1024 → ⊥) → IsRoom i n spare → ⊥
other_room spare s is i n apart room =
    let mine : IsRoom i n (Some s) = subst (IsRoom i n) is room in
    apart (sym mine.0) (sym mine.1)

pub held_same : (columns after : List Column) (spare : Option Spare) → ((id : ℕ) → pages_of id after ≡ pages_of id columns) → AreHeld columns spare → AreHeld after spare
held_same columns after spare same held id n = subst (λ xs. IfSome (page_at n xs) (λ page. Holds page ⊎ IsRoom id n spare)) (sym (same id)) (held id n)

-- One page of one column is changed.
pub set_held : (columns : List Column) (id : ℕ) (old new : Column) (before after : Option Spare) (n0 : ℕ) → id < length columns → old ≡ slice_index_or columns id old → AreHeld columns before → ((n : ℕ) → n ≢ n0 → page_at n new.pages.items ≡ page_at n old.pages.items) → IfSome (page_at n0 new.pages.items) (λ page. Holds page ⊎ IsRoom id n0 after) → ((i n : ℕ) → (i ≡ id → n ≡ n0 → ⊥) → IsRoom i n before → IsRoom i n after) → AreHeld (slice_set columns id new) after
set_held columns id old new before after n0 inside is held others own moved i n = elim (eqb_tells i id) [
  | inl same ↦ elim (eqb_tells n n0) [
    | inl here ↦ subst (λ k. IfSome (page_at n (pages_of k (slice_set columns id new))) (λ page. Holds page ⊎ IsRoom k n after)) (sym same.1) (subst (λ m. IfSome (page_at m (pages_of id (slice_set columns id new))) (λ page. Holds page ⊎ IsRoom id m after)) (sym here.1) (subst (λ xs. IfSome (page_at n0 xs) (λ page. Holds page ⊎ IsRoom id n0 after)) (sym (column_after columns id old new inside is)) own))
    | inr differs ↦
        let kept : IfSome (page_at n new.pages.items) (λ page. Holds page ⊎ IsRoom id n before) = subst (λ o. IfSome o (λ page. Holds page ⊎ IsRoom id n before)) (sym (others n differs.1)) (subst (λ xs. IfSome (page_at n xs) (λ page. Holds page ⊎ IsRoom id n before)) (column_before columns id old inside is) (held id n)) in
        subst (λ k. IfSome (page_at n (pages_of k (slice_set columns id new))) (λ page. Holds page ⊎ IsRoom k n after)) (sym same.1) (subst (λ xs. IfSome (page_at n xs) (λ page. Holds page ⊎ IsRoom id n after)) (sym (column_after columns id old new inside is)) (weaker (page_at n new.pages.items) _ _ (moved id n (λ e h. differs.1 h)) kept))
  ]
  | inr differs ↦ subst (λ xs. IfSome (page_at n xs) (λ page. Holds page ⊎ IsRoom i n after)) (sym (column_apart columns id new i differs.1)) (weaker (page_at n (pages_of i columns)) _ _ (moved i n (λ e h. differs.1 e)) (held i n))
]

-- The cell that has room reserved is in a column that there is, and its page is there.
pub room_within : (columns : List Column) (spare : Option Spare) (s : Spare) → spare ≡ Some s → HasRoom columns spare → s.id.0 < length columns
room_within columns spare s is room =
    let mine : HasRoom columns (Some s) = subst (HasRoom columns) is room in
    elim (slice_get columns s.id.0) as (λ o. slice_get columns s.id.0 ≡ o → IsOfKind s.kind (page_at (s.version / 1024) (option_map_or (λ column. column.pages.items) o [])) → s.id.0 < length columns) [
      | None ↦ λ e h. absurd h
      | Some column ↦ λ e h. slice_get_within columns s.id.0 column e
    ] refl mine

pub room_there : (columns : List Column) (spare : Option Spare) (s : Spare) (column : Column) → spare ≡ Some s → column ≡ slice_index_or columns s.id.0 column → HasRoom columns spare → IsOfKind s.kind (page_at (s.version / 1024) column.pages.items)
room_there columns spare s column is at room =
    let there : slice_get columns s.id.0 ≡ Some column = slice_get_read columns (length columns) s.id.0 column refl (room_within columns spare s is room) at in
    let mine : HasRoom columns (Some s) = subst (HasRoom columns) is room in
    subst (λ o. IsOfKind s.kind (page_at (s.version / 1024) (option_map_or (λ (c : Column). c.pages.items) o []))) there mine

-- Columns with the same pages have the same cells.
pub same_pages : (columns after : List Column) → ArePaged columns → ((id : ℕ) → pages_of id after ≡ pages_of id columns) → cells_in after ≡ cells_in columns
same_pages columns after paged same = same_values columns after paged (pages_same columns after same paged) (λ id version. ap (λ xs. column_value xs version) (same id))

-- What holds anyway holds after an error.
pub on_err : {T E : Type 0} {P : Type 0} (r : Result T E) → P → OnErr r P
on_err (Ok x) p = tt
on_err (Err e) p = p

-- The page of a cell that was cleared holds a value, or has the room.
pub clear_held : (o : Option Page) (R : Type 0) (keep : Bool) → (keep ≡ false → IfSome o Holds) → (keep ≡ true → R) → IfSome o (λ page. Holds page ⊎ R)
clear_held o R true held room = by_room o R (room refl)
clear_held o R false held room = by_value o R (held refl)
