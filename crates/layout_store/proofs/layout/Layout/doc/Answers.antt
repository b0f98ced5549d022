use Rattle.std.proofs.Common.{◌≡◌, ℕ, ◌<◌, ◌++◌, ◌∙◌, List, [], Option, Some, None, IfSome, option_map, length, refl, ap, sym, subst, arith}
use Rattle.std.proofs.lemmas.List.{length-map}
use Rattle.std.proofs.lemmas.Option.{none-some}
use Rattle.doc_values.specs.Doc.{IsDocument}
use Rattle.doc_values.specs.declared.kind.Kind.{Kind}
use Rattle.doc_values.specs.declared.value.Value.{Value}
use Rattle.reservoir_record.specs.declared.fields.Field.{Field}
use Rattle.reservoir_record.specs.Finding.{value_of}
use Rattle.reservoir_record.specs.Spelling.{AreFields}
use Rattle.attr_catalog.specs.Attribute.{Attribute}
use Rattle.phys_columns.specs.Cells.{cell_at}
use Rattle.document_records.specs.StoredValue.{AreReadable, bytes_of}
use Rattle.document_records.specs.StoredDocument.{pairs_of, document_with}
use Rattle.layout_store.specs.Listed.{IsListed, fields_listed}
use Rattle.layout_store.specs.Storage.{Storage, record_at, either_side, in_cell}
use Rattle.layout_store.proofs.ByFields.{whole-is}
use Rattle.layout_store.proofs.Lists.{item-read}
use Rattle.layout_store.proofs.Read.{can-read}
use Rattle.layout_store.proofs.Sides.{record-there}
use Rattle.layout_store.proofs.layout.Layout.doc.Goals as goal

pub whole-requires-clause-known : goal.whole-requires-clause-known
whole-requires-clause-known c id bytes e =
    let s : Storage = record { attributes = c.self.inside.catalog; history = c.self.inside.versions; records = c.self.inside.records.items; cells = c.self.inside.columns.cells } in
    let lt : c.args.version.0 < length s.history.versions = omega (arith, c.requires.standing, ap (λ (x : Storage). length x.history.versions) c.self.view_is) in
    let there = item-read s.records s.records c.args.version.0 c.index-stored.result.now refl (omega (arith, lt, c.self.invariant.0.placed.recorded)) c.index-stored.ensures in
    let same = record-there s.records c.args.version.0 c.index-stored.result.now there in
    let held = c.self.invariant.0.documents.known c.args.version.0 id bytes (λ k. either_side ((ap (value_of id) same ∙ e) k) (in_cell s c.args.version.0 id)) in
    omega (arith, held.1, length-map s.attributes (λ (a : Attribute). let pair : List ℕ × Kind = (a.name, a.kind) in pair))

pub whole-requires-clause-readable : goal.whole-requires-clause-readable
whole-requires-clause-readable c id a at =
    let s : Storage = record { attributes = c.self.inside.catalog; history = c.self.inside.versions; records = c.self.inside.records.items; cells = c.self.inside.columns.cells } in
    let lt : c.args.version.0 < length s.history.versions = omega (arith, c.requires.standing, ap (λ (x : Storage). length x.history.versions) c.self.view_is) in
    let there = item-read s.records s.records c.args.version.0 c.index-stored.result.now refl (omega (arith, lt, c.self.invariant.0.placed.recorded)) c.index-stored.ensures in
    let same = record-there s.records c.args.version.0 c.index-stored.result.now there in
    subst (λ (fs : List Field). IfSome (value_of id fs) (AreReadable a.kind)) same (can-read s c.self.invariant.0 c.args.version.0 id a at)

pub whole-requires-clause-celled : goal.whole-requires-clause-celled
whole-requires-clause-celled c id value e = c.self.invariant.0.placed.celled c.args.version.0 id value e

pub returns : goal.returns
returns c =
    let s : Storage = record { attributes = c.self.inside.catalog; history = c.self.inside.versions; records = c.self.inside.records.items; cells = c.self.inside.columns.cells } in
    let lt : c.args.version.0 < length s.history.versions = omega (arith, c.requires.standing, ap (λ (x : Storage). length x.history.versions) c.self.view_is) in
    let there = item-read s.records s.records c.args.version.0 c.index-stored.result.now refl (omega (arith, lt, c.self.invariant.0.placed.recorded)) c.index-stored.ensures in
    let same = record-there s.records c.args.version.0 c.index-stored.result.now there in
    let stored = record_at c.args.version.0 s.records in
    let ids = c.self.inside.cell_ids in
    let lawful : AreFields stored = subst AreFields (sym same) c.len-lawful.ensures.kept in
    let put : c.in_ok-document.document ≡ document_with (pairs_of s.attributes) [] (stored ++ fields_listed ids (λ (id : ℕ). option_map bytes_of (cell_at id c.args.version.0 s.cells)) (length ids)) =
    c.in_ok-document.ensures.ok ∙ ap (λ (fs : List Field). document_with (pairs_of s.attributes) [] (fs ++ fields_listed ids (λ (id : ℕ). option_map bytes_of (cell_at id c.args.version.0 s.cells)) (length ids))) (sym same) in
    let listed : (id : ℕ) (b : List ℕ) → option_map bytes_of (cell_at id c.args.version.0 s.cells) ≡ Some b → IsListed id ids =
    λ id b e. by_cell id b (cell_at id c.args.version.0 s.cells) ids (λ value f. c.self.invariant.1 c.args.version.0 id value f) e in
    rw (← c.self.view_is) (record {
      ok = put ∙ whole-is (pairs_of s.attributes) stored (λ (id : ℕ). option_map bytes_of (cell_at id c.args.version.0 s.cells)) ids lawful.ascend
          (λ id b e. (c.self.invariant.0.documents.known c.args.version.0 id b e).1)
          (λ id b e. ap (option_map bytes_of) (c.self.invariant.0.placed.apart c.args.version.0 id b e))
          listed c.documents_are_maps.ensures.puts c.documents_are_maps.ensures.same (c.self.invariant.0.documents.kept c.args.version.0) (c.self.invariant.0.documents.documents c.args.version.0)
          (subst IsDocument put c.len-kept.ensures.kept);
    })
  where
    by_cell : (id : ℕ) (b : List ℕ) (o : Option Value) (ids : List ℕ) → ((value : Value) → o ≡ Some value → IsListed id ids) → option_map bytes_of o ≡ Some b → IsListed id ids
    by_cell id b None ids so e = absurd (none-some b e)
    by_cell id b (Some value) ids so e = so value refl
