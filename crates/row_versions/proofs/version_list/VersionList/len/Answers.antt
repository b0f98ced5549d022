use Rattle.std.proofs.Common.{arith}
use Rattle.row_versions.proofs.Shown.{within-shown, links-many}
use Rattle.row_versions.proofs.version_list.VersionList.len.Goals as goal

pub returns-clause-exact : goal.returns-clause-exact
returns-clause-exact c = omega (arith, within-shown c.args.self.now c.self.inside.stored.items c.self.inside.marks.items c.self.invariant c.self.view_is, c.len.ensures, c.self.inside.stored.ok.0)

pub returns-clause-many : goal.returns-clause-many
returns-clause-many c = links-many c.args.self.now c.self.inside.stored.items c.self.inside.marks.items c.self.invariant c.self.view_is
