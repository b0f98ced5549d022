-- half of the workers, and what is left, are fewer
use Rattle.turn_bench.proofs.work.+fn-work_in_threads-join+arg2+fn-work_in_threads-join+arg3+work_in_threads.Given as goal

abbrev pub decreases-join+arg2 : goal.decreases-join+arg2
decreases-join+arg2 g l = l.rest

abbrev pub decreases-join+arg3 : goal.decreases-join+arg3
decreases-join+arg3 g l = l.half

abbrev pub decreases-work_in_threads : goal.decreases-work_in_threads
decreases-work_in_threads g l = l.count
