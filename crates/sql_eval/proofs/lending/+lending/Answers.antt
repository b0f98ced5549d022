use Rattle.std.proofs.Common.{◌≡◌, inl, inr, ◌+◌, ◌*◌, ◌≤◌, true, nat_abs, neg_ℤ, if◌then◌else◌, Some, map, drop, length, sym, ap, ◌∙◌, rules, FitsSigned, to_z, of_z}
use Rattle.std.proofs.lemmas.Int.{to_z-of_z}
use Rattle.std.specs.Int.{w128}
use Rattle.sql_eval.specs.declared.expr.Expr.TheVariants as expr
use Rattle.sql_eval.specs.Truth.{value_of}
use Rattle.sql_eval.specs.Resolved.{value_over, added_over}
use Rattle.sql_eval.specs.Operators.{number_of}
use Rattle.sql_eval.specs.Widths.{width_of, width_in, bits_of}
use Rattle.sql_eval.specs.Within.{IsNumberWithin}
use Rattle.sql_eval.proofs.Numbers.{next, sum_fits, sum_next, sum_same, product_fits, product_next, product_same}
use Rattle.sql_eval.proofs.Expressions.{width_in-is, added_over-is, signed_some, narrow-Minus, within_more}
use Rattle.sql_eval.proofs.TestForms.{or_told, and_told, not_told, compare_told, null_told, among_told, between_told, like_told}
use Rattle.sql_eval.proofs.lending.+lending.Goals as goal

pub product-times-total-requires : goal.product-times-total-requires
product-times-total-requires t c =
    let width = width_of (length c.args.tuple.now) in
    let held = c.loop-member.invariant.within in
    let here = next c.args.members.now c.loop-member.member-index c.member-item.result c.loop-member-test.true c.member-item.is in
    let n = to_z w128 (of_z w128 c.in_ok-number.field-0) in
    let fits : FitsSigned w128 c.in_ok-number.field-0 = search rules in
    let inside : IsNumberWithin (width c.member-item.result).bits n = rw (to_z-of_z w128 c.in_ok-number.field-0 fits) c.in_ok-number.ensures.within in
    product_fits held.0 (width c.member-item.result).bits (bits_of (map width (drop (c.loop-member.member-index + 1) c.args.members.now))) (bits_of (map width (drop c.loop-member.member-index c.args.members.now))) _ (to_z w128 c.loop-member.total-bits) n
    (ap (λ es. bits_of (map width es)) here) held.1 inside held.2 c.requires.few

pub product-loop-member-preserved : goal.product-loop-member-preserved
product-loop-member-preserved t c =
    let width = width_of (length c.args.tuple.now) in
    let value = value_over c.args.tuple.now in
    let held = c.loop-member.invariant in
    let left = drop c.loop-member.member-index c.args.members.now in
    let rest = drop (c.loop-member.member-index + 1) c.args.members.now in
    let here = next c.args.members.now c.loop-member.member-index c.member-item.result c.loop-member-test.true c.member-item.is in
    let total = to_z w128 c.loop-member.total-bits in
    let n = to_z w128 (of_z w128 c.in_ok-number.field-0) in
    let r = to_z w128 (of_z w128 c.times-total.result) in
    let fits : FitsSigned w128 c.in_ok-number.field-0 = search rules in
    let same = to_z-of_z w128 c.in_ok-number.field-0 fits in
    let fits_too : FitsSigned w128 c.times-total.result = search rules in
    let same_too = to_z-of_z w128 c.times-total.result fits_too in
    let inside : IsNumberWithin (width c.member-item.result).bits n = rw same c.in_ok-number.ensures.within in
    let low : nat_abs r ≤ nat_abs total * nat_abs n = rw same_too c.times-total.ensures.within in
    record {
      narrow = search rules;
      within = product_next held.within.0 (width c.member-item.result).bits (bits_of (map width rest)) (bits_of (map width left)) _ total n r
          (ap (λ es. bits_of (map width es)) here) held.within.1 inside held.within.2 low;
      same = product_same total n r (number_of (value c.member-item.result)) (map number_of (map value rest)) (map number_of (map value left))
          (ap (λ es. map number_of (map value es)) here) (sym c.in_ok-number.ensures.exact ∙ ap Some (sym same)) (same_too ∙ c.times-total.ensures.exact) ∙ held.same;
    }

pub sum-plus-total-requires : goal.sum-plus-total-requires
sum-plus-total-requires t c =
    let k = length c.args.tuple.now in
    let held = c.loop-addend.invariant.within in
    let here = next c.args.addends.now c.loop-addend.addend-index c.addend-item.result c.loop-addend-test.true c.addend-item.is in
    let n = to_z w128 (of_z w128 c.in_ok-number.field-0) in
    let fits : FitsSigned w128 c.in_ok-number.field-0 = search rules in
    let inside : IsNumberWithin (width_in k c.addend-item.result).bits n = rw (width_in-is k c.addend-item.result, to_z-of_z w128 c.in_ok-number.field-0 fits) c.in_ok-number.ensures.within in
    sum_fits held.0 (width_in k c.addend-item.result).bits (bits_of (map (width_in k) (drop (c.loop-addend.addend-index + 1) c.args.addends.now))) (bits_of (map (width_in k) (drop c.loop-addend.addend-index c.args.addends.now))) _ (to_z w128 c.loop-addend.total-bits) n
    (ap (λ es. bits_of (map (width_in k) es)) here) held.1 inside held.2 c.requires.few

pub sum-loop-addend-preserved : goal.sum-loop-addend-preserved
sum-loop-addend-preserved t c =
    let k = length c.args.tuple.now in
    let adds = added_over c.args.tuple.now in
    let held = c.loop-addend.invariant in
    let a = c.addend-item.result in
    let left = drop c.loop-addend.addend-index c.args.addends.now in
    let rest = drop (c.loop-addend.addend-index + 1) c.args.addends.now in
    let here = next c.args.addends.now c.loop-addend.addend-index a c.loop-addend-test.true c.addend-item.is in
    let total = to_z w128 c.loop-addend.total-bits in
    let n = to_z w128 (of_z w128 c.in_ok-number.field-0) in
    let r = to_z w128 (of_z w128 c.plus-total.result) in
    let fits : FitsSigned w128 c.in_ok-number.field-0 = search rules in
    let same = to_z-of_z w128 c.in_ok-number.field-0 fits in
    let fits_too : FitsSigned w128 c.plus-total.result = search rules in
    let same_too = to_z-of_z w128 c.plus-total.result fits_too in
    let inside : IsNumberWithin (width_in k a).bits n = rw (width_in-is k a, same) c.in_ok-number.ensures.within in
    let low : nat_abs r ≤ nat_abs total + nat_abs n = rw same_too c.plus-total.ensures.within in
    record {
      narrow = search rules;
      within = sum_next held.within.0 (width_in k a).bits (bits_of (map (width_in k) rest)) (bits_of (map (width_in k) left)) _ total n r
          (ap (λ es. bits_of (map (width_in k) es)) here) held.within.1 inside held.within.2 low;
      same = sum_same total (if a.minus then neg_ℤ n else n) r (adds a) (map adds rest) (map adds left)
          (ap (λ es. map adds es) here) (added_over-is c.args.tuple.now a ∙ signed_some a.minus (number_of (value_over c.args.tuple.now a.expr)) n (sym c.in_ok-number.ensures.exact ∙ ap Some (sym same))) (same_too ∙ c.plus-total.ensures.exact) ∙ held.same;
    }

pub value-negative-requires : goal.value-negative-requires
value-negative-requires t c =
    let k = length c.args.tuple.now in
    let arg = c.get.result.now in
    let whole : c.args.expr.now ≡ expr.Minus arg = c.in-Minus.is ∙ ap expr.Minus (sym c.get.ensures) in
    let narrow : (width_of k (expr.Minus arg)).narrow ≡ true = sym (ap (λ e. (width_of k e).narrow) whole) ∙ c.requires.narrow in
    let n = to_z w128 (of_z w128 c.in_ok-number-in-Minus.field-0) in
    let fits : FitsSigned w128 c.in_ok-number-in-Minus.field-0 = search rules in
    let inside : IsNumberWithin (width_of k arg).bits n = rw (to_z-of_z w128 c.in_ok-number-in-Minus.field-0 fits) c.in_ok-number-in-Minus.ensures.within in
    within_more (width_of k arg).bits 126 n (narrow-Minus k arg narrow) inside

pub value-returns-in-Or-clause-exact : goal.value-returns-in-Or-clause-exact
value-returns-in-Or-clause-exact t c =
    let tuple = c.args.tuple.now in
    let e = c.args.expr.now in
    c.value.ensures.exact ∙ ap value_of c.truth_over.ensures.exact ∙ elim c.in-Or.is [
      | inl h ↦ or_told tuple e h.0 h.1
      | inr h ↦ elim h [
        | inl h ↦ and_told tuple e h.0 h.1
        | inr h ↦ elim h [
          | inl h ↦ not_told tuple e h.0 h.1
          | inr h ↦ elim h [
            | inl h ↦ compare_told tuple e h.0 h.1 h.2 h.3
            | inr h ↦ elim h [
              | inl h ↦ null_told tuple e h.0 h.1 h.2
              | inr h ↦ elim h [
                | inl h ↦ among_told tuple e h.0 h.1 h.2 h.3
                | inr h ↦ elim h [ inl h ↦ between_told tuple e h.0 h.1 h.2 h.3 h.4 | inr h ↦ like_told tuple e h.0 h.1 h.2 h.3 ]
              ]
            ]
          ]
        ]
      ]
    ]
