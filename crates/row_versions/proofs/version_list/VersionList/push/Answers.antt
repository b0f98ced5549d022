use Rattle.row_versions.proofs.Shown.{pushed-shown}
use Rattle.row_versions.proofs.version_list.VersionList.push.Goals as goal

pub returns-clause-ok : goal.returns-clause-ok
returns-clause-ok c =
    pushed-shown c.args.self.now c.self.inside.stored.items c.push.new.self.items c.self.inside.marks.items c.reserve.new.self.items c.push_reserved.new.self.items c.args.version c.args.before c.of.result c.of-2.result c.self.invariant c.in_ok-push.ensures.items c.in_ok-reserve.ensures.items c.push_reserved.ensures.items c.of.ensures.exact c.of-2.ensures.exact c.requires.near c.self.view_is
