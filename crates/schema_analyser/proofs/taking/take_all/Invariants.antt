use Rattle.std.proofs.Common.{◌≡◌, ◌<◌, ◌≤◌, ◌+◌, ℕ, map, length}
use Rattle.layout_store.specs.Documents.{document_at}
use Rattle.schema_analyser.specs.Survey.{values_of, tally_of}
use Rattle.schema_analyser.specs.Tally.{tallied}
use Rattle.schema_analyser.proofs.taking.take_all.Given as goal

-- the tallies below the number have counted, the others not yet
abbrev pub invariant-loop-id : goal.invariant-loop-id
invariant-loop-id l = record {
  taken : (k : ℕ) → k < l.id → tally_of k l.tallies ≡ tallied (tally_of k l.fn.tallies) (values_of l.layout.attributes k (map (λ v. document_at l.layout v.0) l.versions));
  kept : (k : ℕ) → l.id ≤ k → tally_of k l.tallies ≡ tally_of k l.fn.tallies;
  few : (k : ℕ) → (tally_of k l.tallies).count ≤ (tally_of k l.fn.tallies).count + length l.versions;
}
