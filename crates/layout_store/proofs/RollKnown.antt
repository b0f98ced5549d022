-- What is known at each call of a roll back, of what was lent.
use Rattle.std.proofs.Common.{◌≡◌, ℕ, ◌+◌, ◌<◌, ◌≤◌, ◌&&◌, nat_le, List, length, take, Some, None, IfSome, is_some, slice_get, sym, ap, subst, ◌∙◌, arith}
use Rattle.std.proofs.lemmas.List.{length-map}
use Rattle.doc_values.specs.declared.kind.Kind.{Kind}
use Rattle.reservoir_record.specs.declared.fields.Field.{Field}
use Rattle.reservoir_record.specs.Finding.{value_of}
use Rattle.attr_catalog.specs.Attribute.{Attribute}
use Rattle.phys_columns.specs.Cells.{Cells, cell_at}
use Rattle.row_versions.specs.History.{History, rolled_back}
use Rattle.row_versions.specs.Order.{KeepsOrder}
use Rattle.row_versions.specs.Shows.{ShowsBefore}
use Rattle.layout_store.specs.Storage.{Storage, record_at, held}
use Rattle.layout_store.specs.Documents.{count_below, holders}
use Rattle.layout_store.specs.Placed.{IsLayout}
use Rattle.layout_store.specs.Changes.{AreChanged}
use Rattle.layout_store.specs.RolledBack.{settled, counted, raised_by, lowered_by, HasRolledBack, ShowsAsBefore, held_in, is_reopened}
use Rattle.layout_store.proofs.RollBack.{fewer, back, back-room, gone-counted, recounted, settled-all, rolled-layout, rolled-all, rolled-shows}

module _ (s : Storage) (h : IsLayout s) (k : KeepsOrder s.history) (commit left : ℕ)
    (unheld : (version id : ℕ) → left ≤ id → IfSome (slice_get s.history.versions version) (λ v. v.begin < commit → held s version id ≡ None)) where
  module _ (rs : List (List Field)) (e : rs ≡ s.records) where
    pub both-known : (v id : ℕ) (bytes : List ℕ) → held_in rs s.cells v id ≡ Some bytes → (v < length rs) × (id < length s.attributes)
    both-known = subst (λ (xs : List (List Field)). (v id : ℕ) (bytes : List ℕ) → held_in xs s.cells v id ≡ Some bytes → (v < length xs) × (id < length s.attributes)) (sym e)
        (λ v id bytes f. let w = h.documents.known v id bytes f in (omega (arith, w.0, h.placed.recorded), omega (arith, w.1, length-map s.attributes (λ (a : Attribute). let pair : List ℕ × Kind = (a.name, a.kind) in pair))))

    pub both-apart : (v id : ℕ) (bytes : List ℕ) → value_of id (record_at v rs) ≡ Some bytes → cell_at id v s.cells ≡ None
    both-apart = subst (λ (xs : List (List Field)). (v id : ℕ) (bytes : List ℕ) → value_of id (record_at v xs) ≡ Some bytes → cell_at id v s.cells ≡ None) (sym e) h.placed.apart

    pub raise-many : length rs ≡ length s.history.versions
    raise-many = ap length e ∙ h.placed.recorded

    pub raise-fits : (id : ℕ) (a : Attribute) → slice_get s.attributes id ≡ Some a → a.count + count_below (λ v. is_reopened commit s.history.versions v && is_some (held_in rs s.cells v id)) (length rs) ≤ 2097152
    raise-fits = subst (λ (xs : List (List Field)). (id : ℕ) (a : Attribute) → slice_get s.attributes id ≡ Some a → a.count + count_below (λ v. is_reopened commit s.history.versions v && is_some (held_in xs s.cells v id)) (length xs) ≤ 2097152) (sym e)
        (back-room s h k commit left unheld)

    pub raise-up : (c1 : List Attribute) → AreChanged (λ id. raised_by (count_below (λ v. is_reopened commit s.history.versions v && is_some (held_in rs s.cells v id)) (length rs))) s.attributes c1 → AreChanged (λ id. raised_by (back s h k commit left unheld id)) s.attributes c1
    raise-up c1 = subst (λ (xs : List (List Field)). AreChanged (λ id. raised_by (count_below (λ v. is_reopened commit s.history.versions v && is_some (held_in xs s.cells v id)) (length xs))) s.attributes c1 → AreChanged (λ id. raised_by (back s h k commit left unheld id)) s.attributes c1) (sym e)
        (λ up. up)

    module _ (m : ℕ) (is : m ≡ length (rolled_back commit s.history.versions)) where
      pub take-within : m ≤ length rs
      take-within = omega (arith, is, fewer s h k commit left unheld, ap length e)

      pub take-few : length rs ≤ 2097152
      take-few = omega (arith, raise-many, k.few)

      pub take-held : (c1 : List Attribute) → AreChanged (λ id. raised_by (back s h k commit left unheld id)) s.attributes c1 → (id : ℕ) (a : Attribute) → slice_get c1 id ≡ Some a → count_below (λ v. nat_le m v && is_some (held_in rs s.cells v id)) (length rs) ≤ a.count
      take-held c1 up = subst (λ (j : ℕ). (id : ℕ) (a : Attribute) → slice_get c1 id ≡ Some a → count_below (λ v. nat_le j v && is_some (held_in rs s.cells v id)) (length rs) ≤ a.count) (sym is)
          (subst (λ (xs : List (List Field)). (id : ℕ) (a : Attribute) → slice_get c1 id ≡ Some a → count_below (λ v. nat_le (length (rolled_back commit s.history.versions)) v && is_some (held_in xs s.cells v id)) (length xs) ≤ a.count) (sym e)
          (gone-counted s h k commit left unheld c1 up))

      pub take-down : (c1 c2 : List Attribute) → AreChanged (λ id. raised_by (back s h k commit left unheld id)) s.attributes c1 → AreChanged (λ id. lowered_by (count_below (λ v. nat_le m v && is_some (held_in rs s.cells v id)) (length rs))) c1 c2
          → AreChanged (λ id. counted (holders (rolled_back commit s.history.versions) (held s) id)) s.attributes c2
      take-down c1 c2 up down =
          recounted s h k commit left unheld c1 c2 up
          (subst (λ (xs : List (List Field)). AreChanged (λ id. lowered_by (count_below (λ v. nat_le (length (rolled_back commit s.history.versions)) v && is_some (held_in xs s.cells v id)) (length xs))) c1 c2) e
          (subst (λ (j : ℕ). AreChanged (λ id. lowered_by (count_below (λ v. nat_le j v && is_some (held_in rs s.cells v id)) (length rs))) c1 c2) is down))

  -- ---- all of it

  module _ (within : left ≤ length s.attributes) (pos : 0 < commit) (m : ℕ) (is : m ≡ length (rolled_back commit s.history.versions)) (c2 c3 c4 : List Attribute)
      (ch : AreChanged (λ id. counted (holders (rolled_back commit s.history.versions) (held s) id)) s.attributes c2) (cut : c3 ≡ take left c2) (marks : AreChanged (λ id. settled m) c3 c4)
      (cells : Cells) (gone : (version id : ℕ) → m ≤ version → cell_at id version cells ≡ None) (low : (version id : ℕ) → version < m → cell_at id version cells ≡ cell_at id version s.cells)
      (history : History) (rolls : history ≡ record { versions = rolled_back commit s.history.versions; horizon = s.history.horizon }) (records : List (List Field)) (shorter : records ≡ take m s.records) where
    abbrev pub after : Storage
    after = record { attributes = c4; history = history; records = records; cells = cells }

    attrs : AreChanged (λ id a. settled (length (rolled_back commit s.history.versions)) (counted (holders (rolled_back commit s.history.versions) (held s) id) a)) (take left s.attributes) c4
    attrs = settled-all s h k commit left unheld c2 c4 ch (subst (λ (j : ℕ). AreChanged (λ id. settled j) (take left c2) c4) is (subst (λ (xs : List Attribute). AreChanged (λ id. settled m) xs c4) cut marks))

    gone_now : (version id : ℕ) → length (rolled_back commit s.history.versions) ≤ version → cell_at id version cells ≡ None
    gone_now = subst (λ (j : ℕ). (version id : ℕ) → j ≤ version → cell_at id version cells ≡ None) is gone

    low_now : (version id : ℕ) → version < length (rolled_back commit s.history.versions) → cell_at id version cells ≡ cell_at id version s.cells
    low_now = subst (λ (j : ℕ). (version id : ℕ) → version < j → cell_at id version cells ≡ cell_at id version s.cells) is low

    abbrev expected : Storage
    expected = record { attributes = c4; history = record { versions = rolled_back commit s.history.versions; horizon = s.history.horizon }; records = take (length (rolled_back commit s.history.versions)) s.records; cells = cells }

    records_are : records ≡ take (length (rolled_back commit s.history.versions)) s.records
    records_are = shorter ∙ ap (λ (j : ℕ). take j s.records) is

    so : (P : Storage → Type 0) → P expected → P after
    so P p = subst P (λ i. let x : Storage = record { attributes = c4; history = sym rolls i; records = sym records_are i; cells = cells } in x) p

    pub layout-now : IsLayout after
    layout-now = so IsLayout (rolled-layout s h k commit left unheld within c4 cells attrs gone_now low_now)

    pub all-now : HasRolledBack commit left s after
    all-now = so (HasRolledBack commit left s) (rolled-all s h k commit left unheld within c4 cells attrs gone_now low_now)

    pub shows-now : ShowsBefore commit s.history.versions (rolled_back commit s.history.versions) → ShowsAsBefore commit s after
    shows-now law = so (ShowsAsBefore commit s) (rolled-shows s h k commit left unheld within c4 cells attrs gone_now low_now pos law)
