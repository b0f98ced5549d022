use Rattle.std.proofs.Common.{◌≡◌, ◌∙◌, ap, sym, Some, None}
use Rattle.std.specs.Ordering.{nat_cmp}
use Rattle.std.specs.Cmp.Lexicographic.{slice_cmp}
use Rattle.std.specs.FinMap.{get-empty}
use Rattle.phys_columns.specs.Cells.{cell_at, key_of}
use Rattle.columns_bench.proofs.typed.empty.Goals as goal

pub returns : goal.returns
returns c id version value is =
    let none : cell_at id version c.new.result.cells ≡ None = ap (λ s. cell_at id version s.cells) c.new.ensures.exact ∙ get-empty (slice_cmp nat_cmp) (key_of id version) in
    let e : Some value ≡ None = sym is ∙ none in
    cc
