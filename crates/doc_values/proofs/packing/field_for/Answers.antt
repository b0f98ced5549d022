use Rattle.std.proofs.Common.{string_bytes, ◌∙◌}
use Rattle.doc_values.proofs.Behind.{keeps_twice}
use Rattle.doc_values.proofs.packing.field_for.Goals as goal

pub returns-clause-ok : goal.returns-clause-ok
returns-clause-ok c =
    let span = c.in_ok-span.ensures.ok in
    let cell = c.in_ok-cell.ensures.ok in
    let stays = c.cell_for.ensures.kept c.in_ok-span.span span.0 in
    ((stays.0, cell.0), λ i. ((stays.1 ∙ span.1) i, cell.1 i))

pub returns-clause-kept : goal.returns-clause-kept
returns-clause-kept c = keeps_twice (string_bytes c.args.texts.now) (string_bytes c.append_text.new.texts) (string_bytes c.cell_for.new.texts) c.append_text.ensures.kept c.cell_for.ensures.kept

pub returns-in_err-cell-clause-kept : goal.returns-in_err-cell-clause-kept
returns-in_err-cell-clause-kept c = keeps_twice (string_bytes c.args.texts.now) (string_bytes c.append_text.new.texts) (string_bytes c.cell_for.new.texts) c.append_text.ensures.kept c.cell_for.ensures.kept
