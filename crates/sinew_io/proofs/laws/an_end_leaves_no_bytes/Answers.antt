use Rattle.sinew_io.proofs.laws.an_end_leaves_no_bytes.Goals as goal

pub returns : goal.returns
returns c before after buffer end = end.1
