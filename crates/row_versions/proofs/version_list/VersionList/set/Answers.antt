use Rattle.std.proofs.Common.{◌<◌, length, refl, arith}
use Rattle.std.proofs.lemmas.Option.{slice_get_read}
use Rattle.row_versions.proofs.Shown.{within-shown, put-shown}
use Rattle.row_versions.proofs.version_list.VersionList.set.Goals as goal

pub index-requires : goal.index-requires
index-requires c = omega (arith, c.requires, within-shown c.args.self.now c.self.inside.stored.items c.self.inside.marks.items c.self.invariant c.self.view_is, c.self.invariant, c.self.inside.stored.ok.0, c.self.inside.marks.ok.0)

pub index_mut-requires : goal.index_mut-requires
index_mut-requires c = omega (arith, c.requires, within-shown c.args.self.now c.self.inside.stored.items c.self.inside.marks.items c.self.invariant c.self.view_is, c.self.invariant, c.self.inside.stored.ok.0, c.self.inside.marks.ok.0)

pub index_mut-requires-2 : goal.index_mut-requires-2
index_mut-requires-2 c = omega (arith, c.requires, within-shown c.args.self.now c.self.inside.stored.items c.self.inside.marks.items c.self.invariant c.self.view_is, c.self.invariant, c.self.inside.stored.ok.0, c.self.inside.marks.ok.0)

pub returns : goal.returns
returns c =
    let lt : c.args.place < length c.self.inside.stored.items = omega (arith, c.requires, within-shown c.args.self.now c.self.inside.stored.items c.self.inside.marks.items c.self.invariant c.self.view_is) in
    record {
      exact =
          put-shown c.args.self.now c.self.inside.stored.items c.self.inside.marks.items c.args.place c.index.result.now c.of-stored.result c.args.version c.of.result c.self.invariant (slice_get_read c.self.inside.stored.items (length c.self.inside.stored.items) c.args.place c.index.result.now refl lt c.index.ensures) c.of-stored.ensures.exact c.of.ensures.exact c.self.view_is;
    }
