use Rattle.std.proofs.Common.{◌<◌, length, get_or, arith}
use Rattle.std.proofs.lemmas.Option.{slice_get-get_or}
use Rattle.row_versions.proofs.Places.{get-within}
use Rattle.row_versions.proofs.EndPlaces.{place-has}
use Rattle.row_versions.proofs.TouchLists.{begin-turn, end-turn, begins-all, ends-none, all-touches}
use Rattle.row_versions.proofs.touching.touches_of.Goals as goal

pub beginning-requires-clause-standing : goal.beginning-requires-clause-standing
beginning-requires-clause-standing c = get-within c.args.list.now.versions c.loop-place.place (omega (arith, c.loop-place-test.true, c.begun_by-place-end.ensures.within))

pub loop-place-preserved : goal.loop-place-preserved
loop-place-preserved c =
    let v = get-within c.args.list.now.versions c.loop-place.place (omega (arith, c.loop-place-test.true, c.begun_by-place-end.ensures.within)) in
    let turn = begin-turn c.args.from c.args.to c.begun_by-place.result c.begun_by-place-end.result c.loop-place.place c.args.list.now.versions c.loop-place.touches.items c.push.new.self.items v.0 c.beginning.result c.begun_by-place.ensures.exact c.begun_by-place-end.ensures.exact
    c.loop-place.auto.place c.loop-place-test.true v.1 (c.beginning.ensures.exact v.0 v.1) c.in_ok-push.ensures.items c.loop-place.invariant.only c.loop-place.invariant.begins in
    record { only = turn.0; begins = turn.1 }

pub loop-at-init : goal.loop-at-init
loop-at-init c = record {
  only = c.loop-place.invariant.only;
  begins = begins-all c.args.from c.args.to c.begun_by-place-end.result c.loop-place.place _ c.args.list.now.versions c.loop-place.touches.items c.begun_by-place-end.ensures.exact (omega (arith, c.loop-place-test.false)) c.loop-place.invariant.begins;
  ends = ends-none c.args.from c.args.to c.ended_by-at.result c.args.list.now.versions c.args.ended.now c.loop-place.touches.items c.ended_by-at.ensures.exact;
}

pub ending-requires : goal.ending-requires
ending-requires c = place-has c.args.list.now.versions c.args.ended.now c.requires.ends c.loop-at.at (omega (arith, c.loop-at-test.true, c.ended_by-at-end.ensures.exact.within))

pub loop-at-preserved : goal.loop-at-preserved
loop-at-preserved c =
    let lt : c.loop-at.at < length c.args.ended.now = omega (arith, c.loop-at-test.true, c.ended_by-at-end.ensures.exact.within) in
    let h = place-has c.args.list.now.versions c.args.ended.now c.requires.ends c.loop-at.at lt in
    let turn = end-turn c.args.from c.args.to c.ended_by-at.result c.ended_by-at-end.result c.loop-at.at (get_or c.args.ended.now c.loop-at.at 0) h.0 (length c.args.list.now.versions) c.args.list.now.versions c.args.ended.now c.loop-at.touches.items c.push-in-loop-at.new.self.items h.1.version c.ending.result
    c.ended_by-at.ensures.exact c.ended_by-at-end.ensures.exact c.loop-at.auto.at c.loop-at-test.true (slice_get-get_or c.args.ended.now c.loop-at.at 0 lt) h.1.there h.1.at (c.ending.ensures.exact h.1.version h.0 h.1.there h.1.at) c.in_ok-push-2.ensures.items c.loop-at.invariant.only c.loop-at.invariant.begins c.loop-at.invariant.ends in
    record { only = turn.0; begins = turn.1; ends = turn.2 }

pub returns : goal.returns
returns c = record {
  ok =
      all-touches c.args.from c.args.to c.ended_by-at-end.result c.loop-at.at c.args.list.now.versions c.args.ended.now c.loop-at.touches.items c.requires.ends c.ended_by-at-end.ensures.exact (omega (arith, c.loop-at-test.false)) c.loop-at.invariant.only c.loop-at.invariant.begins c.loop-at.invariant.ends;
}
