use Rattle.std.proofs.Common.{◌≤◌, length, arith}
use Rattle.sinew_app.proofs.LawsPrinting.{shown}
use Rattle.sinew_app.proofs.laws.what_is_printed_shows_the_run.Goals as goal

pub returns : goal.returns
returns c = λ lines rules.
    let few : length lines ≤ 65536 = rules.few in
    shown lines (c.lines_are_told_apart.ensures lines rules) (c.numbers_are_small.ensures lines rules) (omega arith) c.every_reply_is_lines.ensures.law
