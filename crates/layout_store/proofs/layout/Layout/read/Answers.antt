use Rattle.std.proofs.Common.{◌≡◌, ◌<◌, ◌∙◌, List, option_map, length, ap, sym, arith}
use Rattle.doc_values.specs.Lent.{owned}
use Rattle.attr_catalog.specs.declared.way.Way.{Way}
use Rattle.layout_store.specs.Storage.{Storage}
use Rattle.layout_store.specs.Walked.{value_along}
use Rattle.layout_store.proofs.Read.{all-below, path-value}
use Rattle.layout_store.proofs.layout.Layout.read.Goals as goal

pub along-requires-clause-lead : goal.along-requires-clause-lead
along-requires-clause-lead c = rw c.ways.ensures.exact (all-below c.args.self.now.attributes c.args.path.now c.requires.lawful)

pub returns : goal.returns
returns c =
    let s : Storage = record { attributes = c.self.inside.catalog; history = c.self.inside.versions; records = c.self.inside.records.items; cells = c.self.inside.columns.cells } in
    let lt : c.args.version.0 < length s.history.versions = omega (arith, c.requires.standing, ap (λ (x : Storage). length x.history.versions) c.self.view_is) in
    let read : option_map owned c.along.result ≡ value_along s c.ways.result.now c.args.version = c.along.ensures.exact ∙ ap (λ (x : Storage). value_along x c.ways.result.now c.args.version) (sym c.self.view_is) in
    rw (← c.self.view_is) (record {
      exact = λ name wanted is.
          read ∙ ap (λ (ways : List Way). value_along s ways c.args.version) (c.ways.ensures.exact ∙ is)
          ∙ path-value s c.self.invariant.0 c.stored_values_are_told_apart.ensures.back c.args.version.0 lt c.keeps_the_rules.ensures.once c.records_are_their_documents.ensures.law name wanted;
    })
