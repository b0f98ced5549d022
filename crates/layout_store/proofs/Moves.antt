-- One move: the value stands on the other side, everything is held as before, and a mark at the version goes on.
use Rattle.std.proofs.Common.{◌≡◌, ℕ, zero, suc, ◌+◌, ◌<◌, ◌≤◌, ◌==◌, nat_lt, Bool, true, false, cond, List, [], ◌∷◌, length, set, Option, Some, None, IfSome, IsSome, option_map, unwrap_or, slice_get, refl, sym, ap, subst, ◌∙◌, arith, length-set, true≢false}
use Rattle.std.specs.Option.{option_map_or}
use Rattle.std.proofs.lemmas.Bool.Decides.{nat_tests}
use Rattle.std.proofs.lemmas.Option.{same_Some, none-some, slice_get_within}
use Rattle.doc_values.specs.Value.{IsStorable}
use Rattle.doc_values.specs.declared.attr_id.AttrId.{AttrId}
use Rattle.doc_values.specs.declared.kind.Kind.{Kind}
use Rattle.doc_values.specs.declared.value.Value.{Value}
use Rattle.reservoir_record.specs.declared.fields.Field.{Field}
use Rattle.reservoir_record.specs.Finding.{value_of}
use Rattle.reservoir_record.specs.Spelling.{values, AreFields}
use Rattle.attr_catalog.specs.Attribute.{Attribute, advanced}
use Rattle.attr_catalog.specs.Catalog.{changed}
use Rattle.attr_catalog.specs.declared.home.Home.{Home}
use Rattle.attr_catalog.specs.declared.home.Home.TheVariants as home
use Rattle.phys_columns.specs.Cells.{Cells, cell_at, AreOfKind}
use Rattle.phys_columns.specs.Laws.{PutsAlone, TakesAlone}
use Rattle.document_records.specs.StoredValue.{bytes_of, value_in}
use Rattle.document_records.specs.StoredDocument.{pairs_of}
use Rattle.document_records.proofs.CatalogNumbers.{pair_at}
use Rattle.document_records.proofs.StoredFields.{kind_in}
use Rattle.layout_store.specs.Storage.{Storage, record_at, either_side, in_record, in_cell, held}
use Rattle.layout_store.specs.Placed.{IsHome, IsCelled, ArePlaced, IsLayout}
use Rattle.layout_store.specs.Shows.{ShowsTheSame, HoldsTheSame}
use Rattle.layout_store.specs.Changes.{AreChanged, stepped, HasStepped}
use Rattle.layout_store.specs.Moved.{HasMovedOut, HasMovedIn, HasMovedTo}
use Rattle.layout_store.proofs.Attributes.{at_one, one-changed, changed-some, pairs-kept, counts-kept, equal_or_not, test_same, test_other}
use Rattle.layout_store.proofs.Fields.{without-here, without-other, with-here, with-other, room-for}
use Rattle.layout_store.proofs.Lists.{some-if}
use Rattle.layout_store.proofs.Same.{documents-same, shows-same}
use Rattle.layout_store.proofs.Sides.{HasMoved, placed-moved, StaysAtHome, stays-itself, placed-changed, record-here, record-other, record-there}
use Rattle.layout_store.proofs.Stored.{stored-at}

-- ---- one value moved

module _ (s : Storage) (h : IsLayout s) (id version : ℕ) (a : Attribute) (at : slice_get s.attributes id ≡ Some a) (fields : List Field) (there : slice_get s.records version ≡ Some fields) where
  abbrev pub moved : List Field → Cells → Storage
  moved new left = record { attributes = s.attributes; history = s.history; records = set s.records version new; cells = left }

  record_now : (new : List Field) (left : Cells) → in_record (moved new left) version id ≡ value_of id new
  record_now new left = ap (value_of id) (record-here s.records version fields new there)

  record_was : in_record s version id ≡ value_of id fields
  record_was = ap (value_of id) (record-there s.records version fields there)

  records_else : (new : List Field) (left : Cells) → ((i : ℕ) → (i ≡ id → ⊥) → value_of i new ≡ value_of i fields) → (v i : ℕ) → (v ≡ version → i ≡ id → ⊥) → in_record (moved new left) v i ≡ in_record s v i
  records_else new left same v i ne =
      equal_or_not v version (in_record (moved new left) v i ≡ in_record s v i)
      (λ e.
      ap (λ (w : ℕ). value_of i (record_at w (set s.records version new))) e ∙ ap (value_of i) (record-here s.records version fields new there) ∙ same i (ne e)
      ∙ ap (value_of i) (sym (record-there s.records version fields there)) ∙ ap (λ (w : ℕ). value_of i (record_at w s.records)) (sym e))
      (λ other. ap (value_of i) (record-other s.records version v new other))

  -- everything is held as before where this value is
  held_all : (new : List Field) (left : Cells) → ((v i : ℕ) → (v ≡ version → i ≡ id → ⊥) → in_record (moved new left) v i ≡ in_record s v i) → ((v i : ℕ) → (v ≡ version → i ≡ id → ⊥) → in_cell (moved new left) v i ≡ in_cell s v i)
      → held (moved new left) version id ≡ held s version id → (v i : ℕ) → held (moved new left) v i ≡ held s v i
  held_all new left records cells here v i =
      equal_or_not v version (held (moved new left) v i ≡ held s v i)
      (λ e. equal_or_not i id (held (moved new left) v i ≡ held s v i)
      (λ f. ap (λ (w : ℕ). held (moved new left) w i) e ∙ ap (λ (j : ℕ). held (moved new left) version j) f ∙ here ∙ ap (λ (j : ℕ). held s version j) (sym f) ∙ ap (λ (w : ℕ). held s w i) (sym e))
      (λ ne. let apart : v ≡ version → i ≡ id → ⊥ = λ _ f. ne f in λ k. either_side (records v i apart k) (cells v i apart k)))
      (λ ne. let apart : v ≡ version → i ≡ id → ⊥ = λ f _. ne f in λ k. either_side (records v i apart k) (cells v i apart k))

  -- What a move leaves.
  pub record Leaves (to : Home) (new : List Field) (left : Cells) : Type 0 where
    pub sides : HasMoved to id version s (moved new left)
    pub held : (v i : ℕ) → held (moved new left) v i ≡ held s v i

  nothing : (to : Home) (new : List Field) (left : Cells) → new ≡ fields → left ≡ s.cells → IsHome to s version id → Leaves to new left
  nothing to new left same cells at_home =
      let records : (v i : ℕ) → (v ≡ version → i ≡ id → ⊥) → in_record (moved new left) v i ≡ in_record s v i = records_else new left (λ i ne. ap (value_of i) same) in
      let here : in_record (moved new left) version id ≡ in_record s version id = record_now new left ∙ ap (value_of id) same ∙ sym record_was in
      let celled : (v i : ℕ) → in_cell (moved new left) v i ≡ in_cell s v i = λ v i. ap (cell_at i v) cells in
      record {
        sides = record {
          attributes = refl;
          history = refl;
          many = length-set s.records version new;
          records = records;
          cells = λ v i ne. celled v i;
          there = home_by to here (celled version id) at_home;
          apart = λ bytes e. celled version id ∙ h.placed.apart version id bytes (sym here ∙ e);
          celled = λ value e. h.placed.celled version id value (sym (celled version id) ∙ e);
        };
        held = held_all new left records (λ v i ne. celled v i) (λ k. either_side (here k) (celled version id k));
      }
    where
      home_by : (to : Home) → in_record (moved new left) version id ≡ in_record s version id → in_cell (moved new left) version id ≡ in_cell s version id → IsHome to s version id → IsHome to (moved new left) version id
      home_by home.Reservoir r c e = c ∙ e
      home_by home.Column r c e = r ∙ e

  out_by : PutsAlone → (new : List Field) (left : Cells) (o : Option (List ℕ)) → value_of id fields ≡ o → HasMovedOut a.kind id version o fields new s.cells left → Leaves home.Column new left
  out_by puts new left None e m = nothing home.Column new left m.0 m.1 (record_was ∙ e)
  out_by puts new left (Some bytes) e m =
      let value : Value = value_in a.kind bytes in
      let was : in_record s version id ≡ Some bytes = record_was ∙ e in
      let none : in_cell s version id ≡ None = h.placed.apart version id bytes was in
      let law = puts s.cells id version value in
      let gone : in_record (moved new left) version id ≡ None = record_now new left ∙ ap (value_of id) m.0 ∙ without-here id fields in
      let put : in_cell (moved new left) version id ≡ Some value = ap (cell_at id version) m.1 ∙ law.0 in
      let was_held : held s version id ≡ Some bytes = (λ k. either_side (was k) (in_cell s version id)) in
      let stored = stored-at (pairs_of s.attributes) (held s version) (h.documents.kept version) id bytes (a.name, a.kind) (pair_at s.attributes id a at) was_held in
      let records : (v i : ℕ) → (v ≡ version → i ≡ id → ⊥) → in_record (moved new left) v i ≡ in_record s v i = records_else new left (λ i ne. ap (value_of i) m.0 ∙ without-other id i fields ne) in
      let cells : (v i : ℕ) → (v ≡ version → i ≡ id → ⊥) → in_cell (moved new left) v i ≡ in_cell s v i = λ v i ne. ap (cell_at i v) m.1 ∙ law.1 i v (λ f g. ne g f) in
      record {
        sides = record {
          attributes = refl;
          history = refl;
          many = length-set s.records version new;
          records = records;
          cells = cells;
          there = gone;
          apart = λ b f. absurd (none-some b (sym gone ∙ f));
          celled = λ v f.
              let same : value ≡ v = same_Some value v (sym put ∙ f) in
              subst (λ (x : Value). IsCelled s.attributes id x) same (record { storable = m.2; attribute = a; there = at; alike = kind_in a.kind bytes });
        };
        held = held_all new left records cells ((λ k. either_side (gone k) (put k)) ∙ ap (λ (b : List ℕ). Some b) (sym stored.written) ∙ sym was_held);
      }

  pub out : PutsAlone → (new : List Field) (left : Cells) → HasMovedOut a.kind id version (value_of id fields) fields new s.cells left → Leaves home.Column new left
  out puts new left m = out_by puts new left (value_of id fields) refl m

  lacks_by : (v : Value) → in_cell s version id ≡ Some v → (o : Option (List ℕ)) → in_record s version id ≡ o → o ≡ None
  lacks_by v e None f = refl
  lacks_by v e (Some b) f = absurd (none-some v (sym (h.placed.apart version id b f) ∙ e))

  -- a record lacks what stands in a cell
  pub lacks : (v : Value) → in_cell s version id ≡ Some v → in_record s version id ≡ None
  lacks v e = lacks_by v e (in_record s version id) refl

  in_by : TakesAlone → (new : List Field) (left : Cells) (o : Option Value) → in_cell s version id ≡ o → HasMovedIn id version o fields new s.cells left → Leaves home.Reservoir new left
  in_by takes new left None e m = nothing home.Reservoir new left m.0 m.1 e
  in_by takes new left (Some v) e m =
      let none : in_record s version id ≡ None = lacks v e in
      let law = takes s.cells id version in
      let put : in_record (moved new left) version id ≡ Some (bytes_of v) = record_now new left ∙ ap (value_of id) m.0 ∙ with-here id (bytes_of v) fields (sym record_was ∙ none) in
      let gone : in_cell (moved new left) version id ≡ None = ap (cell_at id version) m.1 ∙ law.0 in
      let records : (w i : ℕ) → (w ≡ version → i ≡ id → ⊥) → in_record (moved new left) w i ≡ in_record s w i = records_else new left (λ i ne. ap (value_of i) m.0 ∙ with-other id i (bytes_of v) fields ne) in
      let cells : (w i : ℕ) → (w ≡ version → i ≡ id → ⊥) → in_cell (moved new left) w i ≡ in_cell s w i = λ w i ne. ap (cell_at i w) m.1 ∙ law.1 i w (λ f g. ne g f) in
      record {
        sides = record {
          attributes = refl;
          history = refl;
          many = length-set s.records version new;
          records = records;
          cells = cells;
          there = gone;
          apart = λ b f. gone;
          celled = λ w f. absurd (none-some w (sym gone ∙ f));
        };
        held = held_all new left records cells ((λ k. either_side (put k) (gone k)) ∙ sym (λ k. either_side (none k) (e k)));
      }

  pub back_in : TakesAlone → (new : List Field) (left : Cells) → HasMovedIn id version (in_cell s version id) fields new s.cells left → Leaves home.Reservoir new left
  back_in takes new left m = in_by takes new left (in_cell s version id) refl m

  -- whichever the home is
  pub moved_home : PutsAlone → TakesAlone → (to : Home) → (new : List Field) (left : Cells) → HasMovedTo to a.kind id version fields new s.cells left → Leaves to new left
  moved_home puts takes home.Column new left m = out puts new left m
  moved_home puts takes home.Reservoir new left m = back_in takes new left m

  -- ---- what a move may ask for

  pub cell_storable : IfSome (in_cell s version id) IsStorable
  cell_storable = some-if (in_cell s version id) IsStorable (λ v e. (h.placed.celled version id v e).storable)

  pub cell_absent : IfSome (in_cell s version id) (λ v. value_of id fields ≡ None)
  cell_absent = some-if (in_cell s version id) (λ v. value_of id fields ≡ None) (λ v e. sym record_was ∙ lacks v e)

  pub cell_alike : AreOfKind id a.kind s.cells
  cell_alike w v e = let c = h.placed.celled w id v e in c.alike ∙ ap (λ (x : Attribute). x.kind) (same_Some c.attribute a (sym c.there ∙ at))

  among_held : (i : ℕ) (b : List ℕ) → value_of i fields ≡ Some b → (i < length (pairs_of s.attributes)) × (held s version i ≡ Some b)
  among_held i b e =
      let is : held s version i ≡ Some b = (λ k. either_side ((ap (value_of i) (record-there s.records version fields there) ∙ e) k) (in_cell s version i)) in
      ((h.documents.known version i b is).1, is)

  pub cell_fits : AreFields fields → IfSome (in_cell s version id) (λ v. length (values fields) + length (bytes_of v) ≤ 16777216)
  cell_fits lawful = some-if (in_cell s version id) (λ v. length (values fields) + length (bytes_of v) ≤ 16777216)
      (λ v e.
      let is : held s version id ≡ Some (bytes_of v) = (λ k. either_side (lacks v e k) (e k)) in
      let below = (h.documents.known version id (bytes_of v) is).1 in
      omega (arith, h.documents.light version, room-for fields (held s version) (length (pairs_of s.attributes)) id (bytes_of v) lawful.ascend among_held below (sym record_was ∙ lacks v e) is))

-- ---- the mark

abbrev pub with_attributes : Storage → List Attribute → Storage
with_attributes s attributes = record { attributes = attributes; history = s.history; records = s.records; cells = s.cells }

stepped_name : (version : ℕ) (a : Attribute) (o : Option ℕ) → let b : Attribute = option_map_or (λ clean_to. cond (clean_to == version) (advanced a) a) o a in let p : List ℕ × Kind = (b.name, b.kind) in p ≡ (a.name, a.kind)
stepped_name version a None = refl
stepped_name version a (Some c) = by (c == version)
  where
    by : (t : Bool) → let b : Attribute = cond t (advanced a) a in let p : List ℕ × Kind = (b.name, b.kind) in p ≡ (a.name, a.kind)
    by true = refl
    by false = refl

stepped_count : (version : ℕ) (a : Attribute) (o : Option ℕ) → (option_map_or (λ clean_to. cond (clean_to == version) (advanced a) a) o a).count ≡ a.count
stepped_count version a None = refl
stepped_count version a (Some c) = by (c == version)
  where
    by : (t : Bool) → (cond t (advanced a) a).count ≡ a.count
    by true = refl
    by false = refl

one_pair : (version id i : ℕ) (a : Attribute) → let b : Attribute = at_one (stepped version) id i a in let p : List ℕ × Kind = (b.name, b.kind) in p ≡ (a.name, a.kind)
one_pair version id i a = by (i == id)
  where
    by : (t : Bool) → let b : Attribute = cond t (stepped version a) a in let p : List ℕ × Kind = (b.name, b.kind) in p ≡ (a.name, a.kind)
    by true = stepped_name version a a.mark
    by false = refl

one_count : (version id i : ℕ) (a : Attribute) → (at_one (stepped version) id i a).count ≡ a.count
one_count version id i a = by (i == id)
  where
    by : (t : Bool) → (cond t (stepped version a) a).count ≡ a.count
    by true = stepped_count version a a.mark
    by false = refl

-- below one more stands what stood below, or at it
one_below : (v c : ℕ) (P : Type 0) → v < c + 1 → (v < c → P) → (v ≡ c → P) → P
one_below v c P lt low same = by (nat_lt v c) refl
  where
    by : (t : Bool) → nat_lt v c ≡ t → P
    by true e = low (grind (arith, nat_tests))
    by false e = let ge : c ≤ v = grind (arith, nat_tests) in same (omega arith)

step_stays : (m : Storage) (id version : ℕ) (a : Attribute) → ArePlaced m → slice_get m.attributes id ≡ Some a → version < length m.history.versions → IsHome a.home m version id → (o : Option ℕ) → a.mark ≡ o
    → StaysAtHome m id a (option_map_or (λ clean_to. cond (clean_to == version) (advanced a) a) o a)
step_stays m id version a h at lt there None e = stays-itself m h id a at
step_stays m id version a h at lt there (Some c) e = by (c == version) refl
  where
    by : (t : Bool) → c == version ≡ t → StaysAtHome m id a (cond t (advanced a) a)
    by true test =
        let same : c ≡ version = grind (arith, nat_tests) in
        let mark : (advanced a).mark ≡ Some (c + 1) = ap (option_map (λ (n : ℕ). n + 1)) e in
        record {
          kind = refl;
          home = λ v less.
              let below : v < c + 1 = subst (λ (x : Option ℕ). v < unwrap_or x (length m.history.versions)) mark less in
              one_below v c (IsHome a.home m v id) below
              (λ low. h.home v id a at (subst (λ (x : Option ℕ). v < unwrap_or x (length m.history.versions)) (sym e) low))
              (λ is. subst (λ (w : ℕ). IsHome a.home m w id) (sym (is ∙ same)) there);
          mark = subst (λ (x : Option ℕ). IfSome x (λ n. n ≤ length m.history.versions)) (sym mark) (omega arith);
        }
    by false test = stays-itself m h id a at

-- ---- all of a move

module _ (s : Storage) (h : IsLayout s) (id : AttrId) (version : ℕ) (a : Attribute) (at : slice_get s.attributes id.0 ≡ Some a) (m : Storage)
    (sides : HasMoved a.home id.0 version s m) (same : (v i : ℕ) → held m v i ≡ held s v i) (lt : version < length s.history.versions) where
  abbrev pub now : List Attribute
  now = changed (stepped version) id s.attributes

  changed_now : AreChanged (at_one (stepped version) id.0) s.attributes now
  changed_now = one-changed (stepped version) id s.attributes (slice_get_within s.attributes id.0 a at)

  holds : HoldsTheSame s (with_attributes m now)
  holds = record {
    pairs = pairs-kept (at_one (stepped version) id.0) s.attributes now changed_now (one_pair version id.0);
    counts = counts-kept (at_one (stepped version) id.0) s.attributes now changed_now (one_count version id.0);
    history = sides.history;
    held = same;
  }

  placed : ArePlaced m
  placed = placed-moved a.home id.0 version s m a at refl sides h.placed

  at_now : slice_get m.attributes id.0 ≡ Some a
  at_now = ap (λ (xs : List Attribute). slice_get xs id.0) sides.attributes ∙ at

  stays : (i : ℕ) (b : Attribute) → slice_get m.attributes i ≡ Some b → StaysAtHome m i b (at_one (stepped version) id.0 i b)
  stays i b there = by (i == id.0) refl
    where
      by : (t : Bool) → i == id.0 ≡ t → StaysAtHome m i b (cond t (stepped version b) b)
      by true e =
          let is : i ≡ id.0 = grind (arith, nat_tests) in
          let b_is : b ≡ a = same_Some b a (sym there ∙ ap (slice_get m.attributes) is ∙ at_now) in
          subst (λ (j : ℕ). StaysAtHome m j b (stepped version b)) (sym is)
          (subst (λ (x : Attribute). StaysAtHome m id.0 x (stepped version x)) (sym b_is)
          (step_stays m id.0 version a placed at_now (subst (λ (k : ℕ). version < k) (sym (ap (λ k. length k.versions) sides.history)) lt) sides.there a.mark refl))
      by false e = stays-itself m placed i b there

  pub moved-layout : IsLayout (with_attributes m now)
  moved-layout = record {
    placed = placed-changed m now (at_one (stepped version) id.0) (subst (λ (xs : List Attribute). AreChanged (at_one (stepped version) id.0) xs now) (sym sides.attributes) changed_now) placed stays;
    documents = documents-same s (with_attributes m now) holds h.documents;
  }

  pub moved-shows : ShowsTheSame s (with_attributes m now)
  moved-shows = shows-same s (with_attributes m now) holds

  pub moved-steps : HasStepped id version s (with_attributes m now)
  moved-steps = record {
    attributes = refl;
    history = sides.history;
    held = same;
    there = subst (λ (o : Option Attribute). IfSome o (λ b. IsHome b.home (with_attributes m now) version id.0)) (sym at) sides.there;
    records = sides.records;
    cells = sides.cells;
  }

-- ---- which attributes stand then

pub set_itself : {X : Type 0} (xs : List X) (k : ℕ) (x : X) → slice_get xs k ≡ Some x → set xs k x ≡ xs
set_itself [] k x e = refl
set_itself (y ∷ ys) zero x e = ap (λ z. z ∷ ys) (sym (same_Some y x e))
set_itself (y ∷ ys) (suc k) x e = ap (λ zs. y ∷ zs) (set_itself ys k x e)

-- the mark stood at the version, and went on
pub advanced-now : (attributes : List Attribute) (id : AttrId) (version : ℕ) (a : Attribute) → slice_get attributes id.0 ≡ Some a → IsSome a.mark → unwrap_or a.mark 0 ≡ version → changed advanced id attributes ≡ changed (stepped version) id attributes
advanced-now attributes id version a at dirty is =
    changed-some advanced id attributes a at ∙ ap (set attributes id.0) (by a.mark refl dirty is) ∙ sym (changed-some (stepped version) id attributes a at)
  where
    by : (o : Option ℕ) → a.mark ≡ o → IsSome o → unwrap_or o 0 ≡ version → advanced a ≡ stepped version a
    by None e some is = absurd (true≢false (sym some))
    by (Some c) e some is = sym (ap (λ (x : Option ℕ). option_map_or (λ clean_to. cond (clean_to == version) (advanced a) a) x a) e ∙ ap (λ (t : Bool). cond t (advanced a) a) (ap (λ (n : ℕ). n == version) is ∙ test_same version))

-- the mark stood elsewhere, and stays
pub kept-now : (attributes : List Attribute) (id : AttrId) (version : ℕ) (a : Attribute) → slice_get attributes id.0 ≡ Some a → IsSome a.mark → (unwrap_or a.mark 0 ≡ version → ⊥) → attributes ≡ changed (stepped version) id attributes
kept-now attributes id version a at dirty ne =
    sym (changed-some (stepped version) id attributes a at ∙ ap (set attributes id.0) (by a.mark refl dirty ne) ∙ set_itself attributes id.0 a at)
  where
    by : (o : Option ℕ) → a.mark ≡ o → IsSome o → (unwrap_or o 0 ≡ version → ⊥) → stepped version a ≡ a
    by None e some other = absurd (true≢false (sym some))
    by (Some c) e some other = ap (λ (x : Option ℕ). option_map_or (λ clean_to. cond (clean_to == version) (advanced a) a) x a) e ∙ ap (λ (t : Bool). cond t (advanced a) a) (test_other c version other)

-- ---- what the code knows of a move

-- All that is promised of a move.
pub record IsMoved (s : Storage) (id : AttrId) (version : ℕ) (after : Storage) : Type 0 where
  pub layout : IsLayout after
  pub shows : ShowsTheSame s after
  pub steps : HasStepped id version s after

module _ (s : Storage) (h : IsLayout s) (id : AttrId) (version : ℕ) (a : Attribute) (at : slice_get s.attributes id.0 ≡ Some a) (fields : List Field) (there : slice_get s.records version ≡ Some fields) (lt : version < length s.history.versions) where
  -- as the move left it
  abbrev pub left_as : List Field → Cells → Storage
  left_as new left = with_attributes (moved s h id.0 version a at fields there new left) (changed (stepped version) id s.attributes)

  pub one-move : PutsAlone → TakesAlone → (to : Home) (of : Kind) → a.home ≡ to → a.kind ≡ of → (new : List Field) (left : Cells) → HasMovedTo to of id.0 version fields new s.cells left → IsMoved s id version (left_as new left)
  one-move puts takes to of homed kinded new left m =
      let mine : HasMovedTo a.home a.kind id.0 version fields new s.cells left = subst (λ (t : Home). HasMovedTo t a.kind id.0 version fields new s.cells left) (sym homed) (subst (λ (k : Kind). HasMovedTo to k id.0 version fields new s.cells left) (sym kinded) m) in
      let l = moved_home s h id.0 version a at fields there puts takes a.home new left mine in
      let after = moved s h id.0 version a at fields there new left in
      record {
        layout = moved-layout s h id version a at after l.sides l.held lt;
        shows = moved-shows s h id version a at after l.sides l.held lt;
        steps = moved-steps s h id version a at after l.sides l.held lt;
      }
