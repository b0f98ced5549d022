use Rattle.script_reader.proofs.Progress.{script_of_long, short_if_good}
use Rattle.script_reader.proofs.laws.long_bytes_are_no_script.Goals as goal

pub returns-clause-long : goal.returns-clause-long
returns-clause-long c = script_of_long

pub returns-clause-short : goal.returns-clause-short
returns-clause-short c = short_if_good
