use Rattle.std.proofs.Common.{◌<◌, ◌∙◌, List, IfSome, length, refl, ap, sym, subst, arith}
use Rattle.std.specs.Prelude.{All}
use Rattle.reservoir_record.specs.declared.fields.Field.{Field}
use Rattle.reservoir_record.specs.Finding.{value_of}
use Rattle.attr_catalog.specs.declared.way.Way.{Way}
use Rattle.document_records.specs.StoredValue.{AreReadable}
use Rattle.layout_store.specs.Along.{value_by, first_of}
use Rattle.layout_store.specs.Storage.{Storage}
use Rattle.layout_store.specs.Values.{number_of}
use Rattle.layout_store.proofs.Lists.{item-read}
use Rattle.layout_store.proofs.Read.{can-read}
use Rattle.layout_store.proofs.Sides.{record-there}
use Rattle.layout_store.proofs.layout.Layout.along.Goals as goal

pub read_path-requires-clause-lead : goal.read_path-requires-clause-lead
read_path-requires-clause-lead c = subst (λ (x : Storage). All (λ (way : Way). number_of way < length x.attributes) c.args.ways.now) (sym c.self.view_is) c.requires.lead

pub read_path-requires-clause-readable : goal.read_path-requires-clause-readable
read_path-requires-clause-readable c id a at =
    let s : Storage = record { attributes = c.self.inside.catalog; history = c.self.inside.versions; records = c.self.inside.records.items; cells = c.self.inside.columns.cells } in
    let lt : c.args.version.0 < length s.history.versions = omega (arith, c.requires.standing, ap (λ (x : Storage). length x.history.versions) c.self.view_is) in
    let there = item-read s.records s.records c.args.version.0 c.index-stored.result.now refl (omega (arith, lt, c.self.invariant.0.placed.recorded)) c.index-stored.ensures in
    subst (λ (fs : List Field). IfSome (value_of id fs) (AreReadable a.kind)) (record-there s.records c.args.version.0 c.index-stored.result.now there) (can-read s c.self.invariant.0 c.args.version.0 id a at)

pub returns : goal.returns
returns c =
    let s : Storage = record { attributes = c.self.inside.catalog; history = c.self.inside.versions; records = c.self.inside.records.items; cells = c.self.inside.columns.cells } in
    let lt : c.args.version.0 < length s.history.versions = omega (arith, c.requires.standing, ap (λ (x : Storage). length x.history.versions) c.self.view_is) in
    let there = item-read s.records s.records c.args.version.0 c.index-stored.result.now refl (omega (arith, lt, c.self.invariant.0.placed.recorded)) c.index-stored.ensures in
    let same = record-there s.records c.args.version.0 c.index-stored.result.now there in
    rw (← c.self.view_is) (record { exact = c.read_path.ensures.exact ∙ ap (λ (fs : List Field). first_of (value_by s.attributes fs s.cells c.args.version.0) c.args.ways.now) (sym same) })
