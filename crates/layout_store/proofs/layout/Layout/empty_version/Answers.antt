use Rattle.std.proofs.Common.{◌≡◌, ◌∙◌, Some, length, option_and_then, ap, sym, arith}
use Rattle.row_versions.specs.declared.version.Version.{Version}
use Rattle.row_versions.proofs.Places.{get-within}
use Rattle.layout_store.specs.Storage.{Storage}
use Rattle.layout_store.proofs.Cleared.{listed-cleared}
use Rattle.layout_store.proofs.Emptied.{emptied-layout, emptied-shows}
use Rattle.layout_store.proofs.layout.Layout.empty_version.Goals as goal

pub clear_cells-requires : goal.clear_cells-requires
clear_cells-requires c = record { listed = c.self.invariant.1 c.args.version.0 }

pub invariant_of-self : goal.invariant_of-self
invariant_of-self c =
    let s : Storage = record { attributes = c.self.inside.catalog; history = c.self.inside.versions; records = c.self.inside.records.items; cells = c.self.inside.columns.cells } in
    let v = get-within s.history.versions c.args.version.0 (omega (arith, c.requires.within, ap (λ (x : Storage). length x.history.versions) c.self.view_is)) in
    let ended : v.0.end ≡ Some c.in-Some.end = sym (ap (option_and_then (λ (x : Version). x.end)) v.1) ∙ sym c.end_of.ensures.exact ∙ c.in-Some.is in
    (rw (c.clear.ensures.exact, c.empty_old.ensures.exact) (emptied-layout s c.self.invariant.0 c.args.version.0 c.in-Some.end v.0 v.1 ended c.clear_cells.new.columns.cells c.clear_cells.ensures.gone c.clear_cells.ensures.kept), listed-cleared c.args.version.0 c.self.inside.cell_ids c.self.inside.columns.cells c.clear_cells.new.columns.cells c.self.invariant.1 c.clear_cells.ensures.gone c.clear_cells.ensures.kept)

pub returns-clause-shows : goal.returns-clause-shows
returns-clause-shows c =
    let s : Storage = record { attributes = c.self.inside.catalog; history = c.self.inside.versions; records = c.self.inside.records.items; cells = c.self.inside.columns.cells } in
    let v = get-within s.history.versions c.args.version.0 (omega (arith, c.requires.within, ap (λ (x : Storage). length x.history.versions) c.self.view_is)) in
    let ended : v.0.end ≡ Some c.in-Some.end = sym (ap (option_and_then (λ (x : Version). x.end)) v.1) ∙ sym c.end_of.ensures.exact ∙ c.in-Some.is in
    rw (c.clear.ensures.exact, c.empty_old.ensures.exact, ← c.self.view_is) (emptied-shows s c.self.invariant.0 c.args.version.0 c.in-Some.end v.0 v.1 ended c.clear_cells.new.columns.cells c.clear_cells.ensures.gone c.clear_cells.ensures.kept c.empties_show.ensures.law)
