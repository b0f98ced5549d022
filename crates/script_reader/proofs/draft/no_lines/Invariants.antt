use Rattle.std.proofs.Common.{◌≡◌, ℕ, [], length}
use Rattle.std.specs.Prelude.{slice_index_or}
use Rattle.script_reader.proofs.draft.no_lines.Given as goal

abbrev pub invariant-loop-session : goal.invariant-loop-session
invariant-loop-session l = record {
  many : length l.sessions.items ≡ l._session;
  none : (k : ℕ) → slice_index_or l.sessions.items k [] ≡ [];
}
