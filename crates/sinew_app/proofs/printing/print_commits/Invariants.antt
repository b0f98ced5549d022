use Rattle.std.proofs.Common.{◌≡◌, ◌+◌, ◌++◌, drop}
use Rattle.sinew_app.specs.Printing.{commits_text}
use Rattle.sinew_app.proofs.printing.print_commits.Given as goal

abbrev pub invariant-loop-index : goal.invariant-loop-index
invariant-loop-index l = l.out ++ commits_text l.lines (l.index + 1) (drop l.index l.order) ≡ l.fn.out ++ commits_text l.lines 1 l.order
