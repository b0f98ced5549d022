use Rattle.std.proofs.Common.{◌≡◌, Some, slice_get, sym, ap, ◌∙◌}
use Rattle.row_versions.specs.History.{History}
use Rattle.row_versions.proofs.Rows.{if-some}
use Rattle.row_versions.proofs.Together.{emptied-together}
use Rattle.row_versions.proofs.versions.Versions.empty_old.Goals as goal

pub invariant_of-self : goal.invariant_of-self
invariant_of-self c =
    let at : slice_get c.args.self.now.versions c.args.version.0 ≡ Some c.version.result = ap (λ (h : History). slice_get h.versions c.args.version.0) (sym c.self.view_is) ∙ c.version.ensures.exact in
    emptied-together c.self.inside.list c.set.new.self c.self.inside.lasts.items c.self.inside.ended.items c.self.inside.horizon _ c.args.version.0 c.args.horizon c.max-self-inside.result c.version.result c.given_up-given_up.result c.self.invariant c.version.ensures.exact (if-some _ _ c.version.result at c.requires.ended)
    c.set.ensures.exact c.given_up-given_up.ensures.exact c.max-self-inside.ensures
