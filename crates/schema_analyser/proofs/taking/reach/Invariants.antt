use Rattle.std.proofs.Common.{◌≡◌, ◌≤◌, ℕ, length, max}
use Rattle.schema_analyser.specs.Survey.{tally_of}
use Rattle.schema_analyser.proofs.taking.reach.Given as goal

-- there are as many as the place says, and those behind the first ones have counted nothing
abbrev pub invariant-loop-place : goal.invariant-loop-place
invariant-loop-place l = record {
  many : length l.tallies.items ≡ l.place;
  most : l.place ≤ max (length l.fn.tallies.items) l.len;
  kept : (id : ℕ) → tally_of id l.tallies.items ≡ tally_of id l.fn.tallies.items;
}
