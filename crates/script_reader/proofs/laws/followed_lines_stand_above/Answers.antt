use Rattle.script_reader.proofs.Apart.{above, above_contained}
use Rattle.script_reader.proofs.laws.followed_lines_stand_above.Goals as goal

pub returns-clause-at : goal.returns-clause-at
returns-clause-at c = above

pub returns-clause-contained : goal.returns-clause-contained
returns-clause-contained c = above_contained
