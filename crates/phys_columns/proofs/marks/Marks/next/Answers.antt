use Rattle.std.proofs.Common.{refl, arith, inl, inr}
use Rattle.std.proofs.lemmas.Bool.Decides.{leb_tells}
use Rattle.phys_columns.proofs.Marked.{same_word, none_marked}
use Rattle.phys_columns.proofs.marks.Marks.next.Goals as goal

pub returns-in-Some : goal.returns-in-Some
returns-in-Some c =
    let set = c.in-Some.ensures.some in
    record {
      between = (omega (arith, set.0, set.1), omega (arith, set.1));
      none = λ k from below. elim (leb_tells c.loop-place.place k) [
        | inl here ↦ none_marked c.args.self.now.words c.loop-place.place c.in-Some.bit k (omega (arith, set.1)) set.3 here.1 below
        | inr before ↦ c.loop-place.invariant.none k from before.1
      ];
      here = λ inside. same_word c.args.self.now.words c.loop-place.place c.in-Some.bit 1 _ refl set.1 set.2;
    }

pub loop-place-preserved : goal.loop-place-preserved
loop-place-preserved c = record {
  from_on = omega arith;
  upto = omega arith;
  none = λ k from below. elim (leb_tells c.loop-place.place k) [
    | inl here ↦ none_marked c.args.self.now.words c.loop-place.place 64 k (omega arith) c.in-None.ensures.none here.1 (omega (arith, below))
    | inr before ↦ c.loop-place.invariant.none k from before.1
  ];
}
