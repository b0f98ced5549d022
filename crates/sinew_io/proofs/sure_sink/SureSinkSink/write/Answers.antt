use Rattle.std.proofs.Common.{arith}
use Rattle.std.proofs.lemmas.Grind.{common_steps}
use Rattle.sinew_io.proofs.Keeping.{take-append_room, lt-room}
use Rattle.sinew_io.proofs.sure_sink.SureSinkSink.write.Goals as goal

pub returns-clause-after : goal.returns-clause-after
returns-clause-after c = grind (arith, common_steps, take-append_room, lt-room)
