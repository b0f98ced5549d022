use Rattle.std.proofs.Common.{◌∷◌, [], length, refl, ap, arith, length-append}
use Rattle.row_versions.proofs.Shown.{pop-shown}
use Rattle.row_versions.proofs.version_list.VersionList.pop.Goals as goal

pub returns : goal.returns
returns c = record {
  exact =
      pop-shown c.args.self.now _ c.self.inside.stored.items c.take_last-stored.new.self.items c.self.inside.marks.items c.take_last-marks.new.self.items c.take_last-stored.result c.take_last-marks.result c.self.invariant c.take_last-stored.ensures.items c.take_last-marks.ensures.items
      (omega (arith, c.self.invariant, ap length c.take_last-stored.ensures.items, ap length c.take_last-marks.ensures.items, length-append c.take_last-stored.new.self.items (c.take_last-stored.result ∷ []), length-append c.take_last-marks.new.self.items (c.take_last-marks.result ∷ []))) c.self.view_is refl;
}
