use Rattle.std.proofs.Common.{◌<◌, true, false, length, refl, arith}
use Rattle.std.proofs.lemmas.Option.{slice_get_read}
use Rattle.row_versions.proofs.Shown.{within-shown, read-shown}
use Rattle.row_versions.proofs.version_list.VersionList.version.Goals as goal

pub index-stored-requires : goal.index-stored-requires
index-stored-requires c = omega (arith, c.requires, within-shown c.args.self.now c.self.inside.stored.items c.self.inside.marks.items c.self.invariant c.self.view_is, c.self.invariant, c.self.inside.stored.ok.0, c.self.inside.marks.ok.0)

pub index-marks-requires : goal.index-marks-requires
index-marks-requires c = omega (arith, c.requires, within-shown c.args.self.now c.self.inside.stored.items c.self.inside.marks.items c.self.invariant c.self.view_is, c.self.invariant, c.self.inside.stored.ok.0, c.self.inside.marks.ok.0)

pub returns-then-marks : goal.returns-then-marks
returns-then-marks c =
    let lt : c.args.place < length c.self.inside.stored.items = omega (arith, c.requires, within-shown c.args.self.now c.self.inside.stored.items c.self.inside.marks.items c.self.invariant c.self.view_is) in
    record {
      exact =
          read-shown c.args.self.now c.self.inside.stored.items c.self.inside.marks.items c.args.place c.index-stored.result.now c.index-marks.result.now true (slice_get_read c.self.inside.stored.items (length c.self.inside.stored.items) c.args.place c.index-stored.result.now refl lt c.index-stored.ensures)
          (slice_get_read c.self.inside.marks.items (length c.self.inside.marks.items) c.args.place c.index-marks.result.now refl (omega (arith, c.self.invariant)) c.index-marks.ensures) c.if-marks.true c.self.view_is;
    }

pub returns-else-marks : goal.returns-else-marks
returns-else-marks c =
    let lt : c.args.place < length c.self.inside.stored.items = omega (arith, c.requires, within-shown c.args.self.now c.self.inside.stored.items c.self.inside.marks.items c.self.invariant c.self.view_is) in
    record {
      exact =
          read-shown c.args.self.now c.self.inside.stored.items c.self.inside.marks.items c.args.place c.index-stored.result.now c.index-marks.result.now false (slice_get_read c.self.inside.stored.items (length c.self.inside.stored.items) c.args.place c.index-stored.result.now refl lt c.index-stored.ensures)
          (slice_get_read c.self.inside.marks.items (length c.self.inside.marks.items) c.args.place c.index-marks.result.now refl (omega (arith, c.self.invariant)) c.index-marks.ensures) c.if-marks.false c.self.view_is;
    }
