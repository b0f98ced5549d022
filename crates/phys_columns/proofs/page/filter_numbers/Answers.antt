use Rattle.std.proofs.Common.{◌∙◌, ◌+◌, ◌*◌, ◌&&◌, ap, sym, arith, ℕ, pos, slice_index_or, inl, inr}
use Rattle.std.proofs.lemmas.List.{length-set}
use Rattle.std.proofs.lemmas.Bool.Decides.{eqb_tells}
use Rattle.phys_columns.specs.Filtered.{is_bit, admits_number}
use Rattle.phys_columns.proofs.Lanes.{storable_fits}
use Rattle.phys_columns.proofs.Bits.{step_word, other_word, other_bit, mark_is}
use Rattle.phys_columns.proofs.page.filter_numbers.Goals as goal

pub loop-place-preserved : goal.loop-place-preserved
loop-place-preserved c =
    let before = c.loop-place.invariant in
    let at = c.loop-place.place in
    record {
      many = length-set c.loop-place.words at _ ∙ before.many;
      done = λ w j upto below. elim (eqb_tells w at) [
        | inl here ↦
            step_word c.loop-place.words c.args.marks.now.words at c.met.result w j _ (omega (arith, before.many)) (before.rest at (omega arith)) (c.met.ensures.exact j below) here.1
            ∙ ap (λ (x : ℕ). is_bit c.args.marks.now.words x j && admits_number c.args.test (slice_index_or c.args.numbers.now (64 * x + j) (pos 0))) (sym here.1)
            ∙ ap (λ b. b && admits_number c.args.test (slice_index_or c.args.numbers.now (64 * w + j) (pos 0))) (sym (mark_is c.args.marks.now w j below))
        | inr apart ↦ other_bit c.loop-place.words at _ w j apart.1 ∙ before.done w j (omega (arith, apart.1)) below
      ];
      rest = λ w from. other_word c.loop-place.words at _ w (λ e. absurd (omega (arith, e))) ∙ before.rest w (omega arith);
    }

pub met-requires-clause-fit : goal.met-requires-clause-fit
met-requires-clause-fit c k = storable_fits _ (c.requires.storable k)
