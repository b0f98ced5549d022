use Rattle.std.proofs.Common.{◌≡◌, ◌+◌, ◌-◌, ◌/◌, ◌<◌, Some, length, slice_get, get_or, sym, ◌∙◌, arith}
use Rattle.std.proofs.lemmas.Bool.{leb-true, leb-false}
use Rattle.std.proofs.lemmas.Option.{slice_get_within, slice_get-get_or}
use Rattle.row_versions.proofs.EndPlaces.{ends-below, ends-above, place-has, all-split}
use Rattle.row_versions.proofs.ends.ended_by.Goals as goal

pub returns-then-has_ended_by : goal.returns-then-has_ended_by
returns-then-has_ended_by c =
    let last : slice_get c.args.ended.now (length c.args.ended.now - 1) ≡ Some c.in-Some.last = sym c.last.ensures.value ∙ sym c.copied.ensures ∙ c.in-Some.is in
    let h = c.requires.ends.each (length c.args.ended.now - 1) c.in-Some.last last in
    record { exact = all-split c.args.n c.args.list.now.versions c.args.ended.now c.in-Some.last h.0 c.requires.ends last h.1 (leb-true h.0 c.args.n (sym (c.if-has_ended_by.ensures.yes h.0 h.1))) }

pub loop-low-init : goal.loop-low-init
loop-low-init c = record {
  order = omega arith;
  within = omega arith;
  below = λ i place end lt at h. absurd (omega arith);
  above = λ i place end le at h. let lt = slice_get_within c.args.ended.now i place at in absurd (omega arith);
}

pub has_ended_by-requires-in-loop-low : goal.has_ended_by-requires-in-loop-low
has_ended_by-requires-in-loop-low c =
    let i = c.loop-low.invariant in
    place-has c.args.list.now.versions c.args.ended.now c.requires.ends (c.loop-low.low + (c.loop-low.high - c.loop-low.low) / 2) (omega (arith, c.loop-low-test.true, i.within))

pub loop-low-preserved-then-has_ended_by-2 : goal.loop-low-preserved-then-has_ended_by-2
loop-low-preserved-then-has_ended_by-2 c =
    let i = c.loop-low.invariant in
    let m = c.loop-low.low + (c.loop-low.high - c.loop-low.low) / 2 in
    let lt : m < length c.args.ended.now = omega (arith, c.loop-low-test.true, i.within) in
    let h = place-has c.args.list.now.versions c.args.ended.now c.requires.ends m lt in
    record {
      order = omega (arith, c.loop-low-test.true);
      within = i.within;
      below = ends-below c.args.list.now.versions c.args.ended.now c.requires.ends m (get_or c.args.ended.now m 0) h.0 c.args.n (slice_get-get_or c.args.ended.now m 0 lt) h.1 (leb-true h.0 c.args.n (sym (c.if-has_ended_by-2.ensures.yes h.0 h.1)));
      above = i.above;
    }

pub loop-low-preserved : goal.loop-low-preserved
loop-low-preserved c =
    let i = c.loop-low.invariant in
    let m = c.loop-low.low + (c.loop-low.high - c.loop-low.low) / 2 in
    let lt : m < length c.args.ended.now = omega (arith, c.loop-low-test.true, i.within) in
    let h = place-has c.args.list.now.versions c.args.ended.now c.requires.ends m lt in
    record {
      order = omega arith;
      within = omega arith;
      below = i.below;
      above = ends-above c.args.list.now.versions c.args.ended.now c.requires.ends m (get_or c.args.ended.now m 0) h.0 c.args.n (slice_get-get_or c.args.ended.now m 0 lt) h.1 (leb-false h.0 c.args.n (sym (c.if-has_ended_by-2.ensures.yes h.0 h.1)));
    }

pub returns : goal.returns
returns c =
    let i = c.loop-low.invariant in
    record {
      exact = record {
        within = omega (arith, i.order, i.within);
        low = i.below;
        high = λ k place end le at h. i.above k place end (omega (arith, c.loop-low-test.false)) at h;
      };
    }
