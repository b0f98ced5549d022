use Rattle.script_reader.proofs.ScriptOf.{rules_kept}
use Rattle.script_reader.proofs.laws.scripts_keep_the_rules.Goals as goal

pub returns : goal.returns
returns c = rules_kept
