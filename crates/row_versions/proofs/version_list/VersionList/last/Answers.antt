use Rattle.std.proofs.Common.{◌≡◌, ◌-◌, length, slice_get, sym, ap, ◌∙◌, arith}
use Rattle.row_versions.proofs.Shown.{within-shown}
use Rattle.row_versions.proofs.version_list.VersionList.last.Goals as goal

pub version-requires : goal.version-requires
version-requires c = omega (arith, within-shown c.args.self.now c.self.inside.stored.items c.self.inside.marks.items c.self.invariant c.self.view_is, c.len-count.ensures, c.self.inside.stored.ok.0, c.if-count-eq0.false)

pub returns-else-count-eq0 : goal.returns-else-count-eq0
returns-else-count-eq0 c =
    let same : length c.args.self.now.versions ≡ c.len-count.result = omega (arith, within-shown c.args.self.now c.self.inside.stored.items c.self.inside.marks.items c.self.invariant c.self.view_is, c.len-count.ensures, c.self.inside.stored.ok.0) in
    record { exact = sym (ap (λ n. slice_get c.args.self.now.versions (n - 1)) same ∙ c.version.ensures.exact) }
