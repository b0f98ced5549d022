use Rattle.sinew_laws.proofs.ends.an_unwritten_run_leaves_sink_and_store.Goals as goal

pub returns : goal.returns
returns c = λ before after commits unwritten. (unwritten.sink, unwritten.store)
