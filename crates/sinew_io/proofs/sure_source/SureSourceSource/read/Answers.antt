use Rattle.std.proofs.Common.{◌≡◌, length, arith, rules}
use Rattle.std.proofs.lemmas.Grind.{common_steps}
use Rattle.sinew_io.proofs.Told.{gave-copied}
use Rattle.sinew_io.proofs.sure_source.SureSourceSource.read.Goals as goal

pub returns-clause-exact : goal.returns-clause-exact
returns-clause-exact c =
    let copied : length c.copy_from_slice.new.self ≡ c.min-count.result = grind (arith, common_steps) in
    (omega arith, grind (arith, common_steps), rw (← c.self.view_is) (gave-copied _ _ _ _ _ (search rules) copied))
