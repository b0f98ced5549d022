use Rattle.std.proofs.Common.{◌≡◌, ◌<◌, ◌∙◌, List, map, length, ap, sym, subst}
use Rattle.std.specs.Prelude.{All}
use Rattle.std.proofs.lemmas.List.Elements.{All-weaker}
use Rattle.attr_catalog.specs.declared.way.Way.{Way}
use Rattle.row_versions.specs.declared.version_id.VersionId.{VersionId}
use Rattle.layout_store.specs.Documents.{document_at}
use Rattle.layout_store.specs.Storage.{Storage}
use Rattle.layout_store.specs.Values.{value_wanted}
use Rattle.layout_store.specs.Walked.{left_of, value_along}
use Rattle.layout_store.proofs.Dropped.{map-same}
use Rattle.layout_store.proofs.Read.{all-below, path-value}
use Rattle.layout_store.proofs.layout.Layout.walk.Goals as goal

pub new-requires-clause-lead : goal.new-requires-clause-lead
new-requires-clause-lead c = rw c.ways.ensures.exact (all-below c.args.self.now.attributes c.args.path.now c.requires.lawful)

pub returns : goal.returns
returns c =
    let s : Storage = record { attributes = c.self.inside.catalog; history = c.self.inside.versions; records = c.self.inside.records.items; cells = c.self.inside.columns.cells } in
    let standing : All (λ (v : VersionId). v.0 < length s.history.versions) c.args.versions.now = subst (λ (x : Storage). All (λ (v : VersionId). v.0 < length x.history.versions) c.args.versions.now) (sym c.self.view_is) c.requires.standing in
    let read : left_of c.new.result ≡ map (value_along s c.ways.result.now) c.args.versions.now = c.new.ensures.exact ∙ ap (λ (x : Storage). map (value_along x c.ways.result.now) c.args.versions.now) (sym c.self.view_is) in
    rw (← c.self.view_is) (record {
      exact = λ name wanted is.
          read ∙ ap (λ (ways : List Way). map (value_along s ways) c.args.versions.now) (c.ways.ensures.exact ∙ is)
          ∙ map-same (value_along s _) (λ (v : VersionId). value_wanted name wanted (document_at s v.0)) c.args.versions.now
          (All-weaker (λ (v : VersionId). v.0 < length s.history.versions) (λ (v : VersionId). value_along s _ v ≡ value_wanted name wanted (document_at s v.0))
          (λ (v : VersionId) lt. path-value s c.self.invariant.0 c.stored_values_are_told_apart.ensures.back v.0 lt c.keeps_the_rules.ensures.once c.records_are_their_documents.ensures.law name wanted) c.args.versions.now standing);
    })
