use Rattle.sinew_laws.proofs.EndLemmas.{calm, only_memory}
use Rattle.sinew_laws.proofs.ends.the_input_alone_blames_no_device.Goals as goal

pub returns : goal.returns
returns c = λ lines fault status. (calm status, only_memory status)
