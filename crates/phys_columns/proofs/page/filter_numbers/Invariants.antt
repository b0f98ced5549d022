use Rattle.std.proofs.Common.{◌≡◌, ◌≤◌, ◌<◌, ◌+◌, ◌*◌, ◌&&◌, ℕ, pos, length, slice_index_or, slice_index}
use Rattle.phys_columns.specs.Filtered.{is_bit, admits_number}
use Rattle.phys_columns.specs.Pages.{is_marked}
use Rattle.phys_columns.proofs.page.filter_numbers.Given as goal

abbrev pub invariant-loop-place : goal.invariant-loop-place
invariant-loop-place l = record {
  many : length l.words ≡ 16;
  done : (w j : ℕ) → w < l.place → j < 64 → is_bit l.words w j ≡ (is_marked l.marks (64 * w + j) && admits_number l.test (slice_index_or l.numbers (64 * w + j) (pos 0)));
  rest : (w : ℕ) → l.place ≤ w → slice_index l.words w ≡ slice_index l.marks.words w;
}
