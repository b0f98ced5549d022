-- The versions from a bound on are counted less one after the other, and their cells cleared.
use Rattle.std.proofs.Common.{◌≡◌, ℕ, ◌<◌, ◌≤◌, ◌+◌, ◌&&◌, nat_le, Bool, true, false, List, Option, Some, None, is_some, slice_get, refl, ap, ◌∙◌, arith}
use Rattle.std.proofs.lemmas.Bool.Decides.{nat_tests}
use Rattle.doc_values.specs.declared.value.Value.{Value}
use Rattle.reservoir_record.specs.declared.fields.Field.{Field}
use Rattle.reservoir_record.specs.Finding.{value_of}
use Rattle.document_records.specs.StoredValue.{bytes_of}
use Rattle.phys_columns.specs.Cells.{Cells, cell_at}
use Rattle.layout_store.specs.Storage.{record_at, either_side}
use Rattle.layout_store.specs.RolledBack.{held_in}
use Rattle.layout_store.proofs.Attributes.{equal_or_not}
use Rattle.layout_store.proofs.Sides.{record-there}

-- So far the versions from a bound up to a number have no cells, and all others have theirs.
pub record AreCleared (from upto : ℕ) (before now : Cells) : Type 0 where
  pub gone : (v id : ℕ) → from ≤ v → v < upto → cell_at id v now ≡ None
  pub low : (v id : ℕ) → v < from → cell_at id v now ≡ cell_at id v before
  pub high : (v id : ℕ) → upto ≤ v → cell_at id v now ≡ cell_at id v before

pub cleared-none : (from : ℕ) (cells : Cells) → AreCleared from from cells cells
cleared-none from cells = record { gone = λ v id le lt. absurd (omega arith); low = λ v id lt. refl; high = λ v id le. refl }

pub cleared-next : (from k : ℕ) (before now after : Cells) → from ≤ k → AreCleared from k before now → ((id : ℕ) → cell_at id k after ≡ None) → ((w id : ℕ) → (w ≡ k → ⊥) → cell_at id w after ≡ cell_at id w now) → AreCleared from (k + 1) before after
cleared-next from k before now after le h here other = record {
  gone = λ v id ge lt. equal_or_not v k (cell_at id v after ≡ None) (λ e. ap (λ (w : ℕ). cell_at id w after) e ∙ here id) (λ ne. other v id ne ∙ h.gone v id ge (below_of v lt ne));
  low = λ v id lt. other v id (λ e. absurd (omega arith)) ∙ h.low v id lt;
  high = λ v id ge. other v id (λ e. absurd (omega arith)) ∙ h.high v id (omega arith);
}
  where
    below_of : (v : ℕ) → v < k + 1 → (v ≡ k → ⊥) → v < k
    below_of v lt ne = by (nat_le k v) refl
      where
        by : (t : Bool) → nat_le k v ≡ t → v < k
        by true e = let ge : k ≤ v = grind (arith, nat_tests) in absurd (ne (omega arith))
        by false e = grind (arith, nat_tests)

-- what stands in a cell is held
pub cell-held : (records : List (List Field)) (cells : Cells) (v id : ℕ) (value : Value) → cell_at id v cells ≡ Some value → (bytes : List ℕ) × (held_in records cells v id ≡ Some bytes)
cell-held records cells v id value e = by (value_of id (record_at v records)) refl
  where
    by : (o : Option (List ℕ)) → value_of id (record_at v records) ≡ o → (bytes : List ℕ) × (held_in records cells v id ≡ Some bytes)
    by None f = (bytes_of value, (λ k. either_side (f k) (e k)))
    by (Some b) f = (b, (λ k. either_side (f k) (cell_at id v cells)))

pub no-cell : (records : List (List Field)) (cells : Cells) (v id : ℕ) → ((bytes : List ℕ) → held_in records cells v id ≡ Some bytes → ⊥) → cell_at id v cells ≡ None
no-cell records cells v id none = by (cell_at id v cells) refl
  where
    by : (o : Option Value) → cell_at id v cells ≡ o → o ≡ None
    by None e = refl
    by (Some value) e = let b = cell-held records cells v id value e in absurd (none b.0 b.1)

pub cleared-all : (records : List (List Field)) (before now : Cells) (from upto : ℕ) → AreCleared from upto before now → ((v id : ℕ) (bytes : List ℕ) → held_in records before v id ≡ Some bytes → v < upto) → (v id : ℕ) → from ≤ v → cell_at id v now ≡ None
cleared-all records before now from upto h known v id le = by (nat_le upto v) refl
  where
    by : (t : Bool) → nat_le upto v ≡ t → cell_at id v now ≡ None
    by true e = let ge : upto ≤ v = grind (arith, nat_tests) in h.high v id ge ∙ no-cell records before v id (λ bytes f. let lt = known v id bytes f in absurd (omega arith))
    by false e = let lt : v < upto = grind (arith, nat_tests) in h.gone v id le lt

-- ---- a version whose record is read

module _ (records : List (List Field)) (cells : Cells) (k : ℕ) (stored : List Field) (there : slice_get records k ≡ Some stored) where
  pub held-here : (id : ℕ) → held_in records cells k id ≡ either_side (value_of id stored) (cell_at id k cells)
  held-here id = λ i. either_side (value_of id (record-there records k stored there i)) (cell_at id k cells)

  pub stored-known : (n : ℕ) → ((id : ℕ) (bytes : List ℕ) → held_in records cells k id ≡ Some bytes → id < n) → (id : ℕ) (bytes : List ℕ) → value_of id stored ≡ Some bytes → id < n
  stored-known n known id bytes e = known id bytes (held-here id ∙ (λ i. either_side (e i) (cell_at id k cells)))

  pub stored-apart : ((id : ℕ) (bytes : List ℕ) → value_of id (record_at k records) ≡ Some bytes → cell_at id k cells ≡ None) → (id : ℕ) (bytes : List ℕ) → value_of id stored ≡ Some bytes → cell_at id k cells ≡ None
  stored-apart apart id bytes e = apart id bytes (ap (value_of id) (record-there records k stored there) ∙ e)

  pub test-here : (t : Bool) (id : ℕ) → t && is_some (held_in records cells k id) ≡ t && is_some (either_side (value_of id stored) (cell_at id k cells))
  test-here t id = ap (λ (o : Option (List ℕ)). t && is_some o) (held-here id)
