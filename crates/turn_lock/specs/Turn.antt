-- A turn while its value is lent.
use Rattle.turn_lock.specs.declared.turn.Turn.{Turn}

-- The turn with another value
abbrev pub with_value : {T E : Type 0} → Turn T E → T → Turn T E
with_value turn value = record turn { value = value }
