-- Fields in one body: they stay where texts come behind, and a field is put in its place.
use Rattle.std.proofs.Common.{◌≡◌, ◌∙◌, ℕ, zero, suc, ◌-◌, ◌<◌, ◌≤◌, List, [], ◌∷◌, ◌++◌, map, length, take, drop, get_or, set, true, is_lt, Result, Ok, Err, MatchResult, Ordering, Equal, nat_cmp, refl, sym, ap, subst, arith}
use Rattle.std.specs.Prelude.{All}
use Rattle.std.specs.Ordering.{ordering_index}
use Rattle.std.specs.Cmp.Lexicographic.{slice_cmp}
use Rattle.std.specs.List.{insert}
use Rattle.std.specs.List.Sorted.{IsBinarySearchResult, IsSearchInRange}
use Rattle.std.proofs.lemmas.List.{get_or_default, length-map, map-set}
use Rattle.std.proofs.lemmas.List.Elements.{All-weaker, All-head, All-tail, All-set, All-cons, All-append, All-take, All-drop}
use Rattle.doc_values.specs.declared.value.Value.{Value}
use Rattle.doc_values.specs.declared.value.Value.TheVariants as value
use Rattle.doc_values.specs.declared.cell.Cell.{Cell}
use Rattle.doc_values.specs.declared.cell.Cell.TheVariants as cell
use Rattle.doc_values.specs.declared.field_cell.FieldCell.{FieldCell}
use Rattle.doc_values.specs.Value.{IsStorable}
use Rattle.doc_values.specs.Doc.{Fields, with_field, IsDocument}
use Rattle.doc_values.specs.Place.{StandsAt, FitsAt}
use Rattle.doc_values.specs.Spans.{text_at, KeepsSpans}
use Rattle.doc_values.specs.Packed.{cell_in, IsCellIn, field_in, IsFieldIn, fields_in, IsPacked, put_at}
use Rattle.doc_values.proofs.Places.{same_name, with_field-fits, IsDocument-with_field, names_rise, StandsAt-found, FitsAt-parted, FitsAt-last}

-- ---- where texts come behind

module _ (old new : List ℕ) (keeps : KeepsSpans old new) where
  cell_kept : (c : Cell) → IsCellIn old c → IsCellIn new c × (cell_in new c ≡ cell_in old c)
  cell_kept (cell.Bool b) h = (tt, refl)
  cell_kept (cell.Number n) h = (tt, refl)
  cell_kept (cell.Text s) h = ((keeps s h).0, ap value.Text (keeps s h).1)
  cell_kept (cell.Array s) h = ((keeps s h).0, ap value.Array (keeps s h).1)
  cell_kept cell.Object h = (tt, refl)

  field_kept : (f : FieldCell) → IsFieldIn old f → IsFieldIn new f × (field_in new f ≡ field_in old f)
  field_kept f h =
      let n = keeps f.name h.0 in
      let v = cell_kept f.value h.1 in
      ((n.0, v.0), λ i. (n.1 i, v.1 i))

  pub fields_kept : (cells : List FieldCell) → All (IsFieldIn old) cells → fields_in new cells ≡ fields_in old cells
  fields_kept [] h = refl
  fields_kept (c ∷ cs) h =
      let first = (field_kept c (All-head (IsFieldIn old) c cs h)).1 in
      let rest = fields_kept cs (All-tail (IsFieldIn old) c cs h) in
      λ i. first i ∷ rest i

  placed_kept : (cells : List FieldCell) → All (IsFieldIn old) cells → All (IsFieldIn new) cells
  placed_kept cells h = All-weaker (IsFieldIn old) (IsFieldIn new) (λ (f : FieldCell) k. (field_kept f k).0) cells h

  pub packed_kept : (cells : List FieldCell) → IsPacked old cells → IsPacked new cells
  packed_kept cells h = record { placed = placed_kept cells h.placed; ordered = subst IsDocument (sym (fields_kept cells h.placed)) h.ordered }

-- ---- a field put in its place

all_put : {X : Type 0} (P : X → Type 0) (xs : List X) (place : Result ℕ ℕ) (x : X) → All P xs → P x → All P (put_at xs place x)
all_put P xs (Ok i) x h p = All-set P xs i x p h
all_put P xs (Err i) x h p = All-append P (take i xs) (x ∷ drop i xs) (All-take P i xs h) (All-cons P x (drop i xs) p (All-drop P i xs h))

map_insert : {X Y : Type 0} (f : X → Y) (xs : List X) (i : ℕ) (x : X) → map f (insert xs i x) ≡ insert (map f xs) i (f x)
map_insert f [] zero x = refl
map_insert f [] (suc i) x = refl
map_insert f (y ∷ xs) zero x = refl
map_insert f (y ∷ xs) (suc i) x = ap (λ l. f y ∷ l) (map_insert f xs i x)

map_put : {X Y : Type 0} (f : X → Y) (xs : List X) (place : Result ℕ ℕ) (x : X) → map f (put_at xs place x) ≡ put_at (map f xs) place (f x)
map_put f xs (Ok i) x = map-set f xs i x
map_put f xs (Err i) x = map_insert f xs i x

set_named : (name : List ℕ) (fs : Fields) (i : ℕ) (v : Value) → StandsAt name fs i → set fs i (name, v) ≡ with_field fs name v
set_named name [] i v h = absurd h
set_named name (f ∷ fs) zero v h = rw h (ap (λ n. (n, v) ∷ fs) (same_name name f.0 h))
set_named name (f ∷ fs) (suc i) v h = rw h.0 (ap (λ l. f ∷ l) (set_named name fs i v h.1))

put_named : (name : List ℕ) (fs : Fields) (place : Result ℕ ℕ) (v : Value) → MatchResult place (StandsAt name fs) (FitsAt name fs) → put_at fs place (name, v) ≡ with_field fs name v
put_named name fs (Ok i) v h = set_named name fs i v h
put_named name fs (Err i) v h = with_field-fits name fs i v h

module _ (old new : List ℕ) (cells : List FieldCell) (keeps : KeepsSpans old new) (packed : IsPacked old cells) (f : FieldCell) (name : List ℕ) (v : Value) (here : IsFieldIn new f) (is : field_in new f ≡ (name, v))
    (place : Result ℕ ℕ) (found : MatchResult place (StandsAt name (fields_in old cells)) (FitsAt name (fields_in old cells))) where
  pub put_is : fields_in new (put_at cells place f) ≡ with_field (fields_in old cells) name v
  put_is =
      let same = fields_kept old new keeps cells packed.placed in
      map_put (field_in new) cells place f ∙ (λ i. put_at (same i) place (is i)) ∙ put_named name (fields_in old cells) place v found

  pub put_packed : IsStorable v → IsPacked new (put_at cells place f)
  put_packed k = record {
    placed = all_put (IsFieldIn new) cells place f (placed_kept old new keeps cells packed.placed) here;
    ordered = subst IsDocument (sym put_is) (IsDocument-with_field (fields_in old cells) name v packed.ordered k);
  }

-- ---- where a search ends

get_mapped : {X Y : Type 0} (g : X → Y) (xs : List X) (i : ℕ) (d : X) → get_or (map g xs) i (g d) ≡ g (get_or xs i d)
get_mapped g [] i d = refl
get_mapped g (x ∷ xs) zero d = refl
get_mapped g (x ∷ xs) (suc i) d = get_mapped g xs i d

module _ (texts name : List ℕ) (cells : List FieldCell) (packed : IsPacked texts cells) where
  length_fields : length (fields_in texts cells) ≡ length cells
  length_fields = length-map cells (field_in texts)

  blank : FieldCell
  blank = record { name = record { start = 0; end = 0 }; value = cell.Object }

  at_place : (i : ℕ) (d : List ℕ × Value) → i < length cells → get_or (fields_in texts cells) i d ≡ field_in texts (get_or cells i blank)
  at_place i d lt = get_or_default (fields_in texts cells) i d (field_in texts blank) (omega (arith, length_fields)) ∙ get_mapped (field_in texts) cells i blank

  pub found_in : (r : Result ℕ ℕ) → IsSearchInRange r (length cells) → IsBinarySearchResult (λ f. slice_cmp nat_cmp (text_at texts f.name) name) cells r → MatchResult r (StandsAt name (fields_in texts cells)) (FitsAt name (fields_in texts cells))
  found_in (Ok i) within at =
      StandsAt-found name (fields_in texts cells) i packed.ordered (omega (arith, length_fields)) (λ d. subst (λ (f : List ℕ × Value). slice_cmp nat_cmp f.0 name ≡ Equal) (sym (at_place i d within)) (at blank))
  found_in (Err i) within at =
      let rise = names_rise name (fields_in texts cells) packed.ordered in
      let parted = at (λ a b d le lt. subst (λ (f : List ℕ × Value). ordering_index (slice_cmp nat_cmp f.0 name) ≤ ordering_index (slice_cmp nat_cmp (text_at texts (get_or cells b d).name) name)) (get_mapped (field_in texts) cells a d)
      (subst (λ (f : List ℕ × Value). ordering_index (slice_cmp nat_cmp (get_or (fields_in texts cells) a (field_in texts d)).0 name) ≤ ordering_index (slice_cmp nat_cmp f.0 name)) (get_mapped (field_in texts) cells b d) (rise a b (field_in texts d) le (omega (arith, length_fields))))) in
      FitsAt-parted name (fields_in texts cells) i (omega (arith, length_fields)) (
        λ k d low lt. rw (at_place k d (omega arith)) (parted.0 k blank low lt),
        λ k d le lt. rw (at_place k d (omega (arith, length_fields))) (parted.1 k blank le (omega (arith, length_fields))),
      )

  -- a name after the last one comes at the end
  pub last_fits : (last : FieldCell) → 0 < length cells → last ≡ get_or cells (length cells - 1) last → true ≡ is_lt (slice_cmp nat_cmp (text_at texts last.name) name) → FitsAt name (fields_in texts cells) (length cells)
  last_fits last some e above =
      let there : field_in texts last ≡ get_or (fields_in texts cells) (length (fields_in texts cells) - 1) (field_in texts last) =
      ap (field_in texts) e ∙ sym (get_mapped (field_in texts) cells (length cells - 1) last) ∙ ap (λ (n : ℕ). get_or (fields_in texts cells) (n - 1) (field_in texts last)) (sym length_fields) in
      subst (FitsAt name (fields_in texts cells)) length_fields (FitsAt-last name (fields_in texts cells) (field_in texts last) packed.ordered (omega (arith, length_fields)) there above)
