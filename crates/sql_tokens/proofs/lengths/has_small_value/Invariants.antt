use Rattle.std.proofs.Common.{◌≡◌, ◌≤◌, drop}
use Rattle.std.specs.Str.Parse.{digits_value, digits_value_after}
use Rattle.sql_tokens.specs.Forms.{most_value}
use Rattle.sql_tokens.proofs.lengths.has_small_value.Given as goal

abbrev pub invariant-loop-digit : goal.invariant-loop-digit
invariant-loop-digit l = record { small : l.value ≤ most_value; read : digits_value_after 10 l.value (drop l.digit-index l.digits) ≡ digits_value 10 l.digits }
