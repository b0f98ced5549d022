use Rattle.std.proofs.Common.{◌≡◌, ℕ, ◌+◌, ◌+ℤ◌, ◌*ℤ◌, true, length, map, sum, drop, Option, option_map}
use Rattle.doc_values.specs.declared.compare_op.CompareOp.TheVariants as compare_op
use Rattle.sql_eval.specs.Truth.{both, either, all_of, any_of, truth_of}
use Rattle.sql_eval.specs.Operators.{number_of, sum_of, product_of, comparison}
use Rattle.row_columns.specs.Lent.{owned}
use Rattle.sql_eval.specs.Resolved.{value_over, added_over}
use Rattle.sql_eval.specs.Widths.{width_of, width_in, are_narrow, addends_are_narrow, bits_of, sum_bits}
use Rattle.sql_eval.specs.Within.{IsNumberWithin}
use Rattle.sql_eval.proofs.Numbers.{IsTotal, bits_after}
use Rattle.sql_eval.proofs.lending.+lending.Given as goal

-- the members so far and those that are left decide for all
abbrev pub invariant-all-loop-member : goal.invariant-all-loop-member
invariant-all-loop-member l = record {
  narrow : are_narrow (length l.tuple) (drop l.member-index l.members) ≡ true;
  same : both l.truth (all_of (map truth_of (map (value_over l.tuple) (drop l.member-index l.members)))) ≡ all_of (map truth_of (map (value_over l.tuple) l.members));
}

abbrev pub invariant-any-loop-member : goal.invariant-any-loop-member
invariant-any-loop-member l = record {
  narrow : are_narrow (length l.tuple) (drop l.member-index l.members) ≡ true;
  same : either l.truth (any_of (map truth_of (map (value_over l.tuple) (drop l.member-index l.members)))) ≡ any_of (map truth_of (map (value_over l.tuple) l.members));
}

abbrev pub invariant-among-loop-member : goal.invariant-among-loop-member
invariant-among-loop-member l = record {
  narrow : are_narrow (length l.tuple) (drop l.member-index l.members) ≡ true;
  same : either l.truth (any_of (map (comparison compare_op.Eq (option_map owned l.arg)) (map (value_over l.tuple) (drop l.member-index l.members)))) ≡ any_of (map (comparison compare_op.Eq (option_map owned l.arg)) (map (value_over l.tuple) l.members));
}

-- the total so far and the members that are left make the sum, within the bits of all
abbrev pub invariant-sum-loop-addend : goal.invariant-sum-loop-addend
invariant-sum-loop-addend l =
    let left = drop l.addend-index l.addends in
    record {
      narrow : addends_are_narrow (length l.tuple) left ≡ true;
      within : (so_far : Option ℕ) × IsTotal so_far l.total × (bits_after so_far (bits_of (map (width_in (length l.tuple)) left)) ≡ sum_bits (bits_of (map (width_in (length l.tuple)) l.addends)));
      same : option_map (λ rest. l.total +ℤ rest) (sum_of (map (added_over l.tuple) left)) ≡ sum_of (map (added_over l.tuple) l.addends);
    }

abbrev pub invariant-product-loop-member : goal.invariant-product-loop-member
invariant-product-loop-member l =
    let left = drop l.member-index l.members in
    record {
      narrow : are_narrow (length l.tuple) left ≡ true;
      within : (so_far : ℕ) × IsNumberWithin so_far l.total × (so_far + sum (bits_of (map (width_of (length l.tuple)) left)) ≡ sum (bits_of (map (width_of (length l.tuple)) l.members)));
      same : option_map (λ rest. l.total *ℤ rest) (product_of (map number_of (map (value_over l.tuple) left))) ≡ product_of (map number_of (map (value_over l.tuple) l.members));
    }
