use Rattle.std.proofs.Common.{inl, inr, subst}
use Rattle.type_rules.specs.Written.{IsWritten}
use Rattle.type_rules.proofs.typing.typed.Goals as goal

pub unreachable-requires : goal.unreachable-requires
unreachable-requires c = elim c.in-Update.is [ inl h ↦ subst IsWritten h.3 c.requires.written | inr h ↦ subst IsWritten h.2 c.requires.written ]
