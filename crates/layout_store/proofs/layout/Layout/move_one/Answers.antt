use Rattle.std.proofs.Common.{◌≡◌, ◌<◌, List, IfSome, length, refl, ap, subst, arith}
use Rattle.doc_values.specs.declared.kind.Kind.{Kind}
use Rattle.reservoir_record.specs.declared.fields.Field.{Field}
use Rattle.reservoir_record.specs.Finding.{value_of}
use Rattle.attr_catalog.specs.Attribute.{Attribute}
use Rattle.phys_columns.specs.Cells.{AreOfKind}
use Rattle.row_versions.proofs.Places.{get-within}
use Rattle.document_records.specs.StoredValue.{AreReadable}
use Rattle.layout_store.specs.Storage.{Storage}
use Rattle.layout_store.proofs.Cleared.{listed-more}
use Rattle.layout_store.proofs.Lists.{item-read, seen-of}
use Rattle.layout_store.proofs.Moves.{cell_storable, cell_absent, cell_alike, cell_fits, one-move}
use Rattle.layout_store.proofs.Read.{can-read}
use Rattle.layout_store.proofs.Sides.{record-there}
use Rattle.layout_store.proofs.layout.Layout.move_one.Goals as goal

pub move_home-requires-clause-readable : goal.move_home-requires-clause-readable
move_home-requires-clause-readable c =
    let s : Storage = record { attributes = c.self.inside.catalog; history = c.self.inside.versions; records = c.self.inside.records.items; cells = c.self.inside.columns.cells } in
    let lt : c.args.version.0 < length s.history.versions = omega (arith, c.requires.standing, ap (λ (x : Storage). length x.history.versions) c.self.view_is) in
    let there = item-read s.records s.records c.args.version.0 c.index_mut-stored.result.now refl (omega (arith, lt, c.self.invariant.0.placed.recorded)) c.index_mut-stored.ensures.value in
    let a = get-within s.attributes c.args.id.0 (omega (arith, c.requires.attribute, ap (λ (x : Storage). length x.attributes) c.self.view_is)) in
    let kinded : a.0.kind ≡ c.kind-kind.result = seen-of (λ (x : Attribute). x.kind) s.attributes c.args.id.0 a.0 c.kind-kind.result a.1 c.kind-kind.ensures.exact in
    let homed : a.0.home ≡ c.home-home.result = seen-of (λ (x : Attribute). x.home) s.attributes c.args.id.0 a.0 c.home-home.result a.1 c.home-home.ensures.exact in
    subst (λ (k : Kind). IfSome (value_of c.args.id.0 c.index_mut-stored.result.now) (AreReadable k)) kinded (subst (λ (fs : List Field). IfSome (value_of c.args.id.0 fs) (AreReadable a.0.kind)) (record-there s.records c.args.version.0 c.index_mut-stored.result.now there) (can-read s c.self.invariant.0 c.args.version.0 c.args.id.0 a.0 a.1))

pub move_home-requires-clause-alike : goal.move_home-requires-clause-alike
move_home-requires-clause-alike c =
    let s : Storage = record { attributes = c.self.inside.catalog; history = c.self.inside.versions; records = c.self.inside.records.items; cells = c.self.inside.columns.cells } in
    let lt : c.args.version.0 < length s.history.versions = omega (arith, c.requires.standing, ap (λ (x : Storage). length x.history.versions) c.self.view_is) in
    let there = item-read s.records s.records c.args.version.0 c.index_mut-stored.result.now refl (omega (arith, lt, c.self.invariant.0.placed.recorded)) c.index_mut-stored.ensures.value in
    let a = get-within s.attributes c.args.id.0 (omega (arith, c.requires.attribute, ap (λ (x : Storage). length x.attributes) c.self.view_is)) in
    let kinded : a.0.kind ≡ c.kind-kind.result = seen-of (λ (x : Attribute). x.kind) s.attributes c.args.id.0 a.0 c.kind-kind.result a.1 c.kind-kind.ensures.exact in
    let homed : a.0.home ≡ c.home-home.result = seen-of (λ (x : Attribute). x.home) s.attributes c.args.id.0 a.0 c.home-home.result a.1 c.home-home.ensures.exact in
    subst (λ (k : Kind). AreOfKind c.args.id.0 k s.cells) kinded (cell_alike s c.self.invariant.0 c.args.id.0 c.args.version.0 a.0 a.1 c.index_mut-stored.result.now there)

pub move_home-requires-clause-storable : goal.move_home-requires-clause-storable
move_home-requires-clause-storable c =
    let s : Storage = record { attributes = c.self.inside.catalog; history = c.self.inside.versions; records = c.self.inside.records.items; cells = c.self.inside.columns.cells } in
    let lt : c.args.version.0 < length s.history.versions = omega (arith, c.requires.standing, ap (λ (x : Storage). length x.history.versions) c.self.view_is) in
    let there = item-read s.records s.records c.args.version.0 c.index_mut-stored.result.now refl (omega (arith, lt, c.self.invariant.0.placed.recorded)) c.index_mut-stored.ensures.value in
    let a = get-within s.attributes c.args.id.0 (omega (arith, c.requires.attribute, ap (λ (x : Storage). length x.attributes) c.self.view_is)) in
    let kinded : a.0.kind ≡ c.kind-kind.result = seen-of (λ (x : Attribute). x.kind) s.attributes c.args.id.0 a.0 c.kind-kind.result a.1 c.kind-kind.ensures.exact in
    let homed : a.0.home ≡ c.home-home.result = seen-of (λ (x : Attribute). x.home) s.attributes c.args.id.0 a.0 c.home-home.result a.1 c.home-home.ensures.exact in
    cell_storable s c.self.invariant.0 c.args.id.0 c.args.version.0 a.0 a.1 c.index_mut-stored.result.now there

pub move_home-requires-clause-absent : goal.move_home-requires-clause-absent
move_home-requires-clause-absent c =
    let s : Storage = record { attributes = c.self.inside.catalog; history = c.self.inside.versions; records = c.self.inside.records.items; cells = c.self.inside.columns.cells } in
    let lt : c.args.version.0 < length s.history.versions = omega (arith, c.requires.standing, ap (λ (x : Storage). length x.history.versions) c.self.view_is) in
    let there = item-read s.records s.records c.args.version.0 c.index_mut-stored.result.now refl (omega (arith, lt, c.self.invariant.0.placed.recorded)) c.index_mut-stored.ensures.value in
    let a = get-within s.attributes c.args.id.0 (omega (arith, c.requires.attribute, ap (λ (x : Storage). length x.attributes) c.self.view_is)) in
    let kinded : a.0.kind ≡ c.kind-kind.result = seen-of (λ (x : Attribute). x.kind) s.attributes c.args.id.0 a.0 c.kind-kind.result a.1 c.kind-kind.ensures.exact in
    let homed : a.0.home ≡ c.home-home.result = seen-of (λ (x : Attribute). x.home) s.attributes c.args.id.0 a.0 c.home-home.result a.1 c.home-home.ensures.exact in
    cell_absent s c.self.invariant.0 c.args.id.0 c.args.version.0 a.0 a.1 c.index_mut-stored.result.now there

pub move_home-requires-clause-fit : goal.move_home-requires-clause-fit
move_home-requires-clause-fit c = λ lawful.
    let s : Storage = record { attributes = c.self.inside.catalog; history = c.self.inside.versions; records = c.self.inside.records.items; cells = c.self.inside.columns.cells } in
    let lt : c.args.version.0 < length s.history.versions = omega (arith, c.requires.standing, ap (λ (x : Storage). length x.history.versions) c.self.view_is) in
    let there = item-read s.records s.records c.args.version.0 c.index_mut-stored.result.now refl (omega (arith, lt, c.self.invariant.0.placed.recorded)) c.index_mut-stored.ensures.value in
    let a = get-within s.attributes c.args.id.0 (omega (arith, c.requires.attribute, ap (λ (x : Storage). length x.attributes) c.self.view_is)) in
    let kinded : a.0.kind ≡ c.kind-kind.result = seen-of (λ (x : Attribute). x.kind) s.attributes c.args.id.0 a.0 c.kind-kind.result a.1 c.kind-kind.ensures.exact in
    let homed : a.0.home ≡ c.home-home.result = seen-of (λ (x : Attribute). x.home) s.attributes c.args.id.0 a.0 c.home-home.result a.1 c.home-home.ensures.exact in
    cell_fits s c.self.invariant.0 c.args.id.0 c.args.version.0 a.0 a.1 c.index_mut-stored.result.now there lawful

pub step_mark-requires-clause-room : goal.step_mark-requires-clause-room
step_mark-requires-clause-room c = omega (arith, c.requires.standing, c.keeps_order.ensures.law.few, ap (λ (x : Storage). length x.history.versions) c.self.view_is)

pub invariant_of-self-2 : goal.invariant_of-self-2
invariant_of-self-2 c =
    let s : Storage = record { attributes = c.self.inside.catalog; history = c.self.inside.versions; records = c.self.inside.records.items; cells = c.self.inside.columns.cells } in
    let lt : c.args.version.0 < length s.history.versions = omega (arith, c.requires.standing, ap (λ (x : Storage). length x.history.versions) c.self.view_is) in
    let there = item-read s.records s.records c.args.version.0 c.index_mut-stored.result.now refl (omega (arith, lt, c.self.invariant.0.placed.recorded)) c.index_mut-stored.ensures.value in
    let a = get-within s.attributes c.args.id.0 (omega (arith, c.requires.attribute, ap (λ (x : Storage). length x.attributes) c.self.view_is)) in
    let kinded : a.0.kind ≡ c.kind-kind.result = seen-of (λ (x : Attribute). x.kind) s.attributes c.args.id.0 a.0 c.kind-kind.result a.1 c.kind-kind.ensures.exact in
    let homed : a.0.home ≡ c.home-home.result = seen-of (λ (x : Attribute). x.home) s.attributes c.args.id.0 a.0 c.home-home.result a.1 c.home-home.ensures.exact in
    let moves = one-move s c.self.invariant.0 c.args.id c.args.version.0 a.0 a.1 c.index_mut-stored.result.now there lt c.cells_are_a_map.ensures.put c.cells_are_a_map.ensures.taken c.home-home.result c.kind-kind.result homed kinded c.move_home.new.stored c.move_home.new.columns.cells c.in_ok-move_home.ensures.ok in
    rw c.step_mark.ensures.exact (moves.layout, listed-more c.args.id.0 c.args.version.0 c.self.inside.cell_ids c.add.new.self c.self.inside.columns.cells c.move_home.new.columns.cells c.self.invariant.1 c.add.ensures.kept c.in_ok-add.ensures.ok (λ i w ne. moves.steps.cells w i (λ e f. ne f e)))

pub returns-clause-ok : goal.returns-clause-ok
returns-clause-ok c =
    let s : Storage = record { attributes = c.self.inside.catalog; history = c.self.inside.versions; records = c.self.inside.records.items; cells = c.self.inside.columns.cells } in
    let lt : c.args.version.0 < length s.history.versions = omega (arith, c.requires.standing, ap (λ (x : Storage). length x.history.versions) c.self.view_is) in
    let there = item-read s.records s.records c.args.version.0 c.index_mut-stored.result.now refl (omega (arith, lt, c.self.invariant.0.placed.recorded)) c.index_mut-stored.ensures.value in
    let a = get-within s.attributes c.args.id.0 (omega (arith, c.requires.attribute, ap (λ (x : Storage). length x.attributes) c.self.view_is)) in
    let kinded : a.0.kind ≡ c.kind-kind.result = seen-of (λ (x : Attribute). x.kind) s.attributes c.args.id.0 a.0 c.kind-kind.result a.1 c.kind-kind.ensures.exact in
    let homed : a.0.home ≡ c.home-home.result = seen-of (λ (x : Attribute). x.home) s.attributes c.args.id.0 a.0 c.home-home.result a.1 c.home-home.ensures.exact in
    rw (c.step_mark.ensures.exact, ← c.self.view_is) (one-move s c.self.invariant.0 c.args.id c.args.version.0 a.0 a.1 c.index_mut-stored.result.now there lt c.cells_are_a_map.ensures.put c.cells_are_a_map.ensures.taken c.home-home.result c.kind-kind.result homed kinded c.move_home.new.stored c.move_home.new.columns.cells c.in_ok-move_home.ensures.ok).steps

pub returns-clause-shows : goal.returns-clause-shows
returns-clause-shows c =
    let s : Storage = record { attributes = c.self.inside.catalog; history = c.self.inside.versions; records = c.self.inside.records.items; cells = c.self.inside.columns.cells } in
    let lt : c.args.version.0 < length s.history.versions = omega (arith, c.requires.standing, ap (λ (x : Storage). length x.history.versions) c.self.view_is) in
    let there = item-read s.records s.records c.args.version.0 c.index_mut-stored.result.now refl (omega (arith, lt, c.self.invariant.0.placed.recorded)) c.index_mut-stored.ensures.value in
    let a = get-within s.attributes c.args.id.0 (omega (arith, c.requires.attribute, ap (λ (x : Storage). length x.attributes) c.self.view_is)) in
    let kinded : a.0.kind ≡ c.kind-kind.result = seen-of (λ (x : Attribute). x.kind) s.attributes c.args.id.0 a.0 c.kind-kind.result a.1 c.kind-kind.ensures.exact in
    let homed : a.0.home ≡ c.home-home.result = seen-of (λ (x : Attribute). x.home) s.attributes c.args.id.0 a.0 c.home-home.result a.1 c.home-home.ensures.exact in
    rw (c.step_mark.ensures.exact, ← c.self.view_is) (one-move s c.self.invariant.0 c.args.id c.args.version.0 a.0 a.1 c.index_mut-stored.result.now there lt c.cells_are_a_map.ensures.put c.cells_are_a_map.ensures.taken c.home-home.result c.kind-kind.result homed kinded c.move_home.new.stored c.move_home.new.columns.cells c.in_ok-move_home.ensures.ok).shows
