use Rattle.script_reader.proofs.Rules.{sessions_written}
use Rattle.script_reader.proofs.laws.sessions_are_written.Goals as goal

pub returns : goal.returns
returns c = sessions_written
