use Rattle.std.proofs.Common.{◌≡◌, ◌++◌, length, drop}
use Rattle.sinew_app.specs.Printing.{replies_text}
use Rattle.sinew_app.proofs.printing.print_answers.Given as goal

abbrev pub invariant-loop-line : goal.invariant-loop-line
invariant-loop-line l =
    l.out ++ replies_text (drop (length l.yielded) l.lines) (drop (length l.yielded) l.replies) ≡ l.fn.out ++ replies_text l.lines l.replies
