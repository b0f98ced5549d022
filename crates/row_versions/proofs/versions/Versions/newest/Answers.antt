use Rattle.std.proofs.Common.{◌<◌, ap, ◌∙◌, arith}
use Rattle.row_versions.specs.History.{History, rows_of, newest}
use Rattle.row_versions.proofs.Rows.{rows-are, last-read, newest-some, newest-none}
use Rattle.row_versions.proofs.versions.Versions.newest.Goals as goal

pub index-last-requires : goal.index-last-requires
index-last-requires c = let h = c.requires in omega (arith, rows-are c.self.inside.list.versions c.self.inside.lasts.items c.self.invariant.newest, c.self.inside.lasts.ok.0, ap (λ (h : History). rows_of h.versions) c.self.view_is)

pub version-requires : goal.version-requires
version-requires c =
    let lt : c.args.row < rows_of c.self.inside.list.versions = omega (arith, c.requires, ap (λ (h : History). rows_of h.versions) c.self.view_is) in
    (last-read c.self.inside.list.versions c.self.inside.lasts.items c.args.row c.index-last.result.now c.self.invariant.newest lt c.index-last.ensures).within

pub returns-in-None : goal.returns-in-None
returns-in-None c =
    let lt : c.args.row < rows_of c.self.inside.list.versions = omega (arith, c.requires, ap (λ (h : History). rows_of h.versions) c.self.view_is) in
    record {
      exact =
          newest-some c.args.row c.index-last.result.now c.self.inside.list.versions c.version.result c.self.invariant.kept.ordered
          (last-read c.self.inside.list.versions c.self.inside.lasts.items c.args.row c.index-last.result.now c.self.invariant.newest lt c.index-last.ensures) c.version.ensures.exact c.in-None.is
          ∙ ap (λ (h : History). newest c.args.row h.versions) c.self.view_is;
    }

pub returns-in-Some : goal.returns-in-Some
returns-in-Some c =
    let lt : c.args.row < rows_of c.self.inside.list.versions = omega (arith, c.requires, ap (λ (h : History). rows_of h.versions) c.self.view_is) in
    record {
      exact =
          newest-none c.args.row c.index-last.result.now c.self.inside.list.versions c.version.result c.self.invariant.kept.ordered
          (last-read c.self.inside.list.versions c.self.inside.lasts.items c.args.row c.index-last.result.now c.self.invariant.newest lt c.index-last.ensures) c.version.ensures.exact c.in-Some.field-0 c.in-Some.is
          ∙ ap (λ (h : History). newest c.args.row h.versions) c.self.view_is;
    }
