-- A layout of nothing.
use Rattle.std.proofs.Common.{◌≡◌, ℕ, List, [], None, refl, sym, subst, ◌∙◌, arith}
use Rattle.std.specs.Cmp.Lexicographic.{slice_cmp}
use Rattle.std.specs.FinMap as map
use Rattle.std.specs.Ordering.{nat_cmp}
use Rattle.std.proofs.lemmas.List.Elements.{All-nil}
use Rattle.std.proofs.lemmas.Option.{none-some}
use Rattle.reservoir_record.specs.declared.fields.Field.{Field}
use Rattle.attr_catalog.specs.Attribute.{Attribute}
use Rattle.row_versions.specs.History.{History}
use Rattle.phys_columns.specs.Cells.{Cells, cell_at, key_of}
use Rattle.document_records.specs.StoredDocument.{document_stored, IsHeld}
use Rattle.layout_store.specs.Listed.{AreListed}
use Rattle.layout_store.specs.Placed.{IsLayout}
use Rattle.layout_store.specs.Storage.{Storage, either_side}

no_cell : (id version : ℕ) → cell_at id version map.empty ≡ None
no_cell id version = map.get-empty (slice_cmp nat_cmp) (key_of id version)

nothing : IsLayout (record { attributes = []; history = record { versions = []; horizon = 0 }; records = []; cells = map.empty })
nothing = record {
  placed = record {
    recorded = refl;
    apart = λ v id bytes e. no_cell id v;
    home = λ v id a at lt. absurd (none-some a at);
    marks = λ id a at. absurd (none-some a at);
    celled = λ v id value e. absurd (none-some value (sym (no_cell id v) ∙ e));
  };
  documents = record {
    known = λ v id bytes e. absurd (none-some bytes (sym (λ k. either_side None (no_cell id v k)) ∙ e));
    kept = λ v. All-nil (IsHeld [] (document_stored [] []));
    documents = λ v. tt;
    few = λ v. omega arith;
    light = λ v. omega arith;
    emptied = λ v x at. absurd (none-some x at);
    counted = λ id count at. absurd (none-some count at);
  };
}

pub empty-layout : (attributes : List Attribute) (h : History) (records : List (List Field)) (cells : Cells) → attributes ≡ [] → h ≡ record { versions = []; horizon = 0 } → records ≡ [] → cells ≡ map.empty
    → IsLayout (record { attributes = attributes; history = h; records = records; cells = cells })
empty-layout attributes h records cells a b c d =
    let first : Storage = record { attributes = []; history = record { versions = []; horizon = 0 }; records = []; cells = map.empty } in
    let last : Storage = record { attributes = attributes; history = h; records = records; cells = cells } in
    let same : first ≡ last = (λ i. let s : Storage = record { attributes = sym a i; history = sym b i; records = sym c i; cells = sym d i } in s) in
    subst IsLayout same nothing

pub listed-none : (ids : List ℕ) (cells : Cells) → cells ≡ map.empty → AreListed ids cells
listed-none ids cells e = subst (λ (x : Cells). AreListed ids x) (sym e) (λ version id value at. absurd (none-some value (sym (no_cell id version) ∙ at)))
