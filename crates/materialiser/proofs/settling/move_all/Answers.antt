use Rattle.std.proofs.Common.{refl, ap, ◌+◌, ◌∙◌}
use Rattle.attr_catalog.specs.Catalog.{changed}
use Rattle.layout_store.specs.Changes.{stepped}
use Rattle.materialiser.specs.Steps.{marked}
use Rattle.materialiser.proofs.Marks.{changed-twice, stepped-on, dirty-there, marked-start}
use Rattle.materialiser.proofs.Rearranged.{itself, and-then, by-step, shows-then}
use Rattle.materialiser.proofs.settling.move_all.Goals as goal

pub loop-version-init : goal.loop-version-init
loop-version-init c =
    let s = c.args.layout.now in
    record { attributes = marked-start c.args.clean_to c.args.id.0 s.attributes c.requires.dirty; kept = itself s; shows = λ n row. refl }

pub move_one-requires-clause-dirty : goal.move_one-requires-clause-dirty
move_one-requires-clause-dirty c = dirty-there c.loop-version.version c.args.id.0 c.args.layout.now.attributes c.loop-version.layout.attributes c.loop-version.invariant.attributes

pub loop-version-preserved : goal.loop-version-preserved
loop-version-preserved c =
    let first = c.args.layout.now in
    let now = c.loop-version.layout in
    let next = c.move_one.new.self in
    let v = c.loop-version.version in
    let h = c.in_ok-move_one.ensures.ok in
    record {
      attributes = h.attributes ∙ ap (changed (stepped v) c.args.id) c.loop-version.invariant.attributes ∙ changed-twice (marked v) (stepped v) (marked (v + 1)) c.args.id.0 first.attributes (λ a at. stepped-on v a);
      kept = and-then first now next c.loop-version.invariant.kept (by-step c.args.id v now next h);
      shows = shows-then first now next c.loop-version.invariant.shows c.in_ok-move_one.ensures.shows;
    }
