use Rattle.std.proofs.Common.{◌≡◌, ◌&&◌, drop}
use Rattle.std.specs.List.{list_all}
use Rattle.exec_finish.specs.Escapes.{stands_for_itself}
use Rattle.exec_finish.proofs.lent_text.stand_for_themselves.Given as goal

abbrev pub invariant-loop-byte : goal.invariant-loop-byte
invariant-loop-byte l = l.plain && list_all stands_for_itself (drop l.byte-index l.bytes) ≡ list_all stands_for_itself l.bytes
