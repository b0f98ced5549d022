use Rattle.std.proofs.Common.{◌<◌, ap, ◌∙◌, arith}
use Rattle.row_versions.specs.History.{History, rows_of, visible}
use Rattle.row_versions.proofs.Rows.{rows-are, last-read}
use Rattle.row_versions.proofs.Walk.{last-starts}
use Rattle.row_versions.proofs.versions.Versions.visible.Goals as goal

pub index-requires : goal.index-requires
index-requires c = let h = c.requires in omega (arith, rows-are c.self.inside.list.versions c.self.inside.lasts.items c.self.invariant.newest, c.self.inside.lasts.ok.0, ap (λ (h : History). rows_of h.versions) c.self.view_is)

pub seen_from-requires-clause-start : goal.seen_from-requires-clause-start
seen_from-requires-clause-start c =
    let lt : c.args.row < rows_of c.self.inside.list.versions = omega (arith, c.requires, ap (λ (h : History). rows_of h.versions) c.self.view_is) in
    (c.args.row, last-starts c.args.row c.args.n c.index.result.now c.self.inside.list.versions (last-read c.self.inside.list.versions c.self.inside.lasts.items c.args.row c.index.result.now c.self.invariant.newest lt c.index.ensures))

pub returns : goal.returns
returns c =
    let lt : c.args.row < rows_of c.self.inside.list.versions = omega (arith, c.requires, ap (λ (h : History). rows_of h.versions) c.self.view_is) in
    record {
      exact =
          c.seen_from.ensures.exact c.args.row (last-starts c.args.row c.args.n c.index.result.now c.self.inside.list.versions (last-read c.self.inside.list.versions c.self.inside.lasts.items c.args.row c.index.result.now c.self.invariant.newest lt c.index.ensures))
          ∙ ap (λ (h : History). visible c.args.row c.args.n h.versions) c.self.view_is;
    }
