use Rattle.std.proofs.Common.{◌≡◌, ◌<◌, ℕ, Some, length, slice_get}
use Rattle.schema_analyser.specs.Choice.{choice_by}
use Rattle.schema_analyser.specs.Tally.{Tallied}
use Rattle.schema_analyser.proofs.choosing.choose.Given as goal

-- the choices so far
abbrev pub invariant-loop-id : goal.invariant-loop-id
invariant-loop-id l = record {
  many : length l.choices.items ≡ l.id;
  each : (k : ℕ) (t : Tallied) → k < l.id → slice_get l.survey.tallies k ≡ Some t → slice_get l.choices.items k ≡ Some (choice_by l.limits l.survey.documents k t);
}
