use Rattle.record_bench.proofs.Sampled.{Made}
use Rattle.record_bench.proofs.samples.fields_of.Given as goal

abbrev pub invariant-loop-id : goal.invariant-loop-id
invariant-loop-id l = Made l.fields.items l.id
