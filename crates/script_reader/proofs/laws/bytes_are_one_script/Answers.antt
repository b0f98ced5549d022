use Rattle.script_reader.proofs.ScriptOf.{script_both_ways, fault_both_ways}
use Rattle.script_reader.proofs.laws.bytes_are_one_script.Goals as goal

pub returns-clause-script : goal.returns-clause-script
returns-clause-script c = script_both_ways

pub returns-clause-fault : goal.returns-clause-fault
returns-clause-fault c = fault_both_ways
