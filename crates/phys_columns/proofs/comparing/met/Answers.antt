use Rattle.std.proofs.Common.{◌∙◌, ◌+◌, ap, sym, refl, not, rules, FitsSigned, w64, pos, slice_index_or}
use Rattle.std.proofs.lemmas.Int.{to_z-of_z}
use Rattle.std.specs.Ordering.{int_cmp}
use Rattle.doc_values.specs.Order.{admits}
use Rattle.phys_columns.proofs.Lanes.{turned_bit, gt_is, lt_is}
use Rattle.phys_columns.proofs.comparing.met.Goals as goal

pub returns-in-Ne : goal.returns-in-Ne
returns-in-Ne c =
    let fits : FitsSigned w64 c.args.test.with = search rules in
    record { exact = λ j under. turned_bit c.equal-in-Ne.result j _ c.equal-in-Ne.type_inv under (rw (to_z-of_z w64 c.args.test.with fits) at (c.equal-in-Ne.ensures.exact j under)) ∙ (let n = slice_index_or c.args.numbers.now (c.args.at + j) (pos 0) in refl ∙ ap (λ o. admits o (int_cmp n c.args.test.with)) (sym c.in-Ne.is)) }

pub returns-in-Le : goal.returns-in-Le
returns-in-Le c =
    let fits : FitsSigned w64 c.args.test.with = search rules in
    record { exact = λ j under. turned_bit c.above.result j _ c.above.type_inv under (rw (to_z-of_z w64 c.args.test.with fits) at (c.above.ensures.exact j under)) ∙ (let n = slice_index_or c.args.numbers.now (c.args.at + j) (pos 0) in ap not (gt_is n c.args.test.with) ∙ ap (λ o. admits o (int_cmp n c.args.test.with)) (sym c.in-Le.is)) }

pub returns-in-Ge : goal.returns-in-Ge
returns-in-Ge c =
    let fits : FitsSigned w64 c.args.test.with = search rules in
    record { exact = λ j under. turned_bit c.below-in-Ge.result j _ c.below-in-Ge.type_inv under (rw (to_z-of_z w64 c.args.test.with fits) at (c.below-in-Ge.ensures.exact j under)) ∙ (let n = slice_index_or c.args.numbers.now (c.args.at + j) (pos 0) in ap not (lt_is n c.args.test.with) ∙ ap (λ o. admits o (int_cmp n c.args.test.with)) (sym c.in-Ge.is)) }
