use Rattle.std.proofs.Common.{◌∙◌, List, [], ◌∷◌, ◌++◌, ap}
use Rattle.row_columns.specs.Contents.{Cells}
use Rattle.commit_core.proofs.store.Core.rows.Goals as goal

pub returns : goal.returns
returns c =
    let one = c.in_ok-push.ensures.ok ∙ ap (λ (tables : List (List Cells)). tables ++ c.in_ok-rows.rows ∷ []) c.new-tables.ensures in
    record { ok = λ p asked. one ∙ c.in_ok-rows.ensures.ok p asked }
