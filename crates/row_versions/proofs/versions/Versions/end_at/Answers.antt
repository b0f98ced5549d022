use Rattle.std.proofs.Common.{◌≡◌, Some, slice_get, sym, ap, subst, ◌∙◌, arith}
use Rattle.row_versions.specs.History.{History}
use Rattle.row_versions.specs.Inside.{SplitsEnds}
use Rattle.row_versions.proofs.Rows.{if-some}
use Rattle.row_versions.proofs.Together.{ended-together, end-fits}
use Rattle.row_versions.proofs.versions.Versions.end_at.Goals as goal

pub insert_place-requires-clause-room : goal.insert_place-requires-clause-room
insert_place-requires-clause-room c =
    let at : slice_get c.args.self.now.versions c.args.version.0 ≡ Some c.version.result = ap (λ (h : History). slice_get h.versions c.args.version.0) (sym c.self.view_is) ∙ c.version.ensures.exact in
    let h = if-some _ _ c.version.result at c.requires.endless in
    omega (arith, c.self.inside.ended.ok.0, end-fits c.self.inside.list.versions c.self.inside.list.links c.self.inside.lasts.items c.self.inside.ended.items c.self.inside.horizon _ c.args.version.0 c.version.result c.self.invariant c.version.ensures.exact h.0)

pub invariant_of-self : goal.invariant_of-self
invariant_of-self c =
    let at : slice_get c.args.self.now.versions c.args.version.0 ≡ Some c.version.result = ap (λ (h : History). slice_get h.versions c.args.version.0) (sym c.self.view_is) ∙ c.version.ensures.exact in
    let h = if-some _ _ c.version.result at c.requires.endless in
    ended-together c.self.inside.list c.set.new.self c.self.inside.lasts.items c.self.inside.ended.items c.insert_place.new.places.items c.self.inside.horizon _ _ c.args.version.0 c.args.commit c.ended_by-at.result c.version.result c.ending-ending.result c.self.invariant c.version.ensures.exact h.0 h.1
    (subst (λ l. SplitsEnds c.args.commit c.self.inside.list.versions l c.ended_by-at.result) c.deref.ensures.value c.ended_by-at.ensures.exact) c.set.ensures.exact c.ending-ending.ensures.exact c.insert_place.ensures.exact c.insert_place.ensures.kept
