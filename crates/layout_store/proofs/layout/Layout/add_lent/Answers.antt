use Rattle.std.proofs.Common.{◌≡◌, ◌<◌, ℕ, List, Some, length, is_some, refl, ap, sym, subst, ◌∙◌}
use Rattle.reservoir_record.specs.declared.fields.Field.{Field}
use Rattle.reservoir_record.specs.Finding.{value_of}
use Rattle.row_versions.specs.declared.version_id.VersionId.{VersionId}
use Rattle.row_versions.specs.History.{newest}
use Rattle.row_versions.specs.Order.{IsLatest}
use Rattle.layout_store.specs.Changes.{AreChanged, written_if}
use Rattle.layout_store.specs.Storage.{Storage}
use Rattle.layout_store.proofs.Appended.{append-known, append-room, appended-layout, appended-shows, appended-has}
use Rattle.layout_store.proofs.Lists.{pushed-item}
use Rattle.layout_store.proofs.layout.Layout.add_lent.Goals as goal

pub write_all-requires-clause-known : goal.write_all-requires-clause-known
write_all-requires-clause-known c =
    let s : Storage = record { attributes = c.self.inside.catalog; history = c.self.inside.versions; records = c.self.inside.records.items; cells = c.self.inside.columns.cells } in
    let grown = c.record_of_lent.new.catalog in
    let fields = c.in-Ok.record in
    let versions = ap (λ (x : Storage). x.history.versions) c.self.view_is in
    let here : fields ≡ c.index.result.now = pushed-item s.records fields c.push.new.records.items c.push.new.records.items c.in-Ok-push.version.0 c.index.result.now c.in-Ok-push.ensures.records (ap (λ (x : VersionId). x.0) c.in-Ok-push.ensures.number ∙ sym c.self.invariant.0.placed.recorded) refl c.index.ensures in
    subst (λ (fs : List Field). (id : ℕ) (bytes : List ℕ) → value_of id fs ≡ Some bytes → id < length grown) here (append-known grown c.args.document.now fields c.in-Ok.ensures.ok)

pub write_all-requires-clause-room : goal.write_all-requires-clause-room
write_all-requires-clause-room c =
    let s : Storage = record { attributes = c.self.inside.catalog; history = c.self.inside.versions; records = c.self.inside.records.items; cells = c.self.inside.columns.cells } in
    let grown = c.record_of_lent.new.catalog in
    let fields = c.in-Ok.record in
    let versions = ap (λ (x : Storage). x.history.versions) c.self.view_is in
    let here : fields ≡ c.index.result.now = pushed-item s.records fields c.push.new.records.items c.push.new.records.items c.in-Ok-push.version.0 c.index.result.now c.in-Ok-push.ensures.records (ap (λ (x : VersionId). x.0) c.in-Ok-push.ensures.number ∙ sym c.self.invariant.0.placed.recorded) refl c.index.ensures in
    append-room s c.self.invariant.0 grown c.record_of_lent.ensures.grown c.in-Ok-push.ensures.within

pub invariant_of-self : goal.invariant_of-self
invariant_of-self c =
    let s : Storage = record { attributes = c.self.inside.catalog; history = c.self.inside.versions; records = c.self.inside.records.items; cells = c.self.inside.columns.cells } in
    let grown = c.record_of_lent.new.catalog in
    let fields = c.in-Ok.record in
    let versions = ap (λ (x : Storage). x.history.versions) c.self.view_is in
    let here : fields ≡ c.index.result.now = pushed-item s.records fields c.push.new.records.items c.push.new.records.items c.in-Ok-push.version.0 c.index.result.now c.in-Ok-push.ensures.records (ap (λ (x : VersionId). x.0) c.in-Ok-push.ensures.number ∙ sym c.self.invariant.0.placed.recorded) refl c.index.ensures in
    let bs = c.write_all.new.catalog in
    let number = ap (λ (x : VersionId). x.0) c.in-Ok-push.ensures.number in
    let ch : AreChanged (λ id. written_if (length s.history.versions) (is_some (value_of id fields))) grown bs = subst (λ (k : ℕ). AreChanged (λ id. written_if k (is_some (value_of id fields))) grown bs) number (subst (λ (fs : List Field). AreChanged (λ id. written_if c.in-Ok-push.version.0 (is_some (value_of id fs))) grown bs) (sym here) c.write_all.ensures.exact) in
    (rw (c.in-Ok-push.ensures.versions, c.in-Ok-push.ensures.records) (appended-layout s c.self.invariant.0 grown c.record_of_lent.ensures.grown c.args.document.now fields c.in-Ok.ensures.ok c.len-kept.ensures.kept c.requires.few c.args.row c.args.commit bs ch), c.self.invariant.1)

pub returns-in-Ok-push-clause-ok : goal.returns-in-Ok-push-clause-ok
returns-in-Ok-push-clause-ok c =
    let s : Storage = record { attributes = c.self.inside.catalog; history = c.self.inside.versions; records = c.self.inside.records.items; cells = c.self.inside.columns.cells } in
    let grown = c.record_of_lent.new.catalog in
    let fields = c.in-Ok.record in
    let versions = ap (λ (x : Storage). x.history.versions) c.self.view_is in
    let here : fields ≡ c.index.result.now = pushed-item s.records fields c.push.new.records.items c.push.new.records.items c.in-Ok-push.version.0 c.index.result.now c.in-Ok-push.ensures.records (ap (λ (x : VersionId). x.0) c.in-Ok-push.ensures.number ∙ sym c.self.invariant.0.placed.recorded) refl c.index.ensures in
    let bs = c.write_all.new.catalog in
    let number = ap (λ (x : VersionId). x.0) c.in-Ok-push.ensures.number in
    let ch : AreChanged (λ id. written_if (length s.history.versions) (is_some (value_of id fields))) grown bs = subst (λ (k : ℕ). AreChanged (λ id. written_if k (is_some (value_of id fields))) grown bs) number (subst (λ (fs : List Field). AreChanged (λ id. written_if c.in-Ok-push.version.0 (is_some (value_of id fs))) grown bs) (sym here) c.write_all.ensures.exact) in
    rw (c.in-Ok-push.ensures.versions, c.in-Ok-push.ensures.records, ← c.self.view_is) (appended-has s c.self.invariant.0 grown c.record_of_lent.ensures.grown c.args.document.now fields c.in-Ok.ensures.ok c.len-kept.ensures.kept c.requires.few c.args.row c.args.commit bs ch c.in-Ok.ensures.pairs)

pub returns-in-Ok-push-clause-shows : goal.returns-in-Ok-push-clause-shows
returns-in-Ok-push-clause-shows c =
    let s : Storage = record { attributes = c.self.inside.catalog; history = c.self.inside.versions; records = c.self.inside.records.items; cells = c.self.inside.columns.cells } in
    let grown = c.record_of_lent.new.catalog in
    let fields = c.in-Ok.record in
    let versions = ap (λ (x : Storage). x.history.versions) c.self.view_is in
    let here : fields ≡ c.index.result.now = pushed-item s.records fields c.push.new.records.items c.push.new.records.items c.in-Ok-push.version.0 c.index.result.now c.in-Ok-push.ensures.records (ap (λ (x : VersionId). x.0) c.in-Ok-push.ensures.number ∙ sym c.self.invariant.0.placed.recorded) refl c.index.ensures in
    let bs = c.write_all.new.catalog in
    let number = ap (λ (x : VersionId). x.0) c.in-Ok-push.ensures.number in
    let ch : AreChanged (λ id. written_if (length s.history.versions) (is_some (value_of id fields))) grown bs = subst (λ (k : ℕ). AreChanged (λ id. written_if k (is_some (value_of id fields))) grown bs) number (subst (λ (fs : List Field). AreChanged (λ id. written_if c.in-Ok-push.version.0 (is_some (value_of id fs))) grown bs) (sym here) c.write_all.ensures.exact) in
    let from = c.appends_show.ensures.law c.args.row c.args.commit s.history.versions c.keeps_order.ensures.law.ordered (subst (IsLatest c.args.commit) (sym versions) c.requires.latest) (ap (newest c.args.row) versions ∙ c.requires.ended) in
    rw (c.in-Ok-push.ensures.versions, c.in-Ok-push.ensures.records, ← c.self.view_is) (appended-shows s c.self.invariant.0 grown c.record_of_lent.ensures.grown c.args.document.now fields c.in-Ok.ensures.ok c.len-kept.ensures.kept c.requires.few c.args.row c.args.commit bs ch from)
