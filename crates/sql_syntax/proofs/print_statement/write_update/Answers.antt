use Rattle.std.proofs.Common.{[], ◌∷◌, ◌++◌}
use Rattle.sql_grammar.specs.declared.mark.Mark.TheVariants as marks
use Rattle.sql_grammar.specs.declared.terminal.Terminal.TheVariants as terminal
use Rattle.sql_syntax.specs.PrintingQuery.{behind_printed}
use Rattle.sql_syntax.specs.PrintingText.{sets_printed}
use Rattle.sql_syntax.proofs.PrintSpaced.{then_spaced}
use Rattle.sql_syntax.proofs.print_statement.write_update.Goals as goal

pub returns : goal.returns
returns c =
    let sets = sets_printed c.args.sets.now in
    let test = behind_printed marks.Where c.args.test.now in
    record { ok = then_spaced _ _ _ (terminal.Word c.args.collection.now ∷ []) (sets ++ test) c.in_ok-write_word.ensures.ok (then_spaced _ _ _ sets test c.in_ok-write_sets.ensures.ok c.in_ok-write_behind_mark.ensures.ok) }
