use Rattle.std.proofs.Common.{◌≡◌, map, length, vec_capacity}
use Rattle.row_versions.specs.History.{reopened}
use Rattle.row_versions.specs.Inside.{AreEnded}
use Rattle.row_versions.proofs.ends.reopen.Given as goal

abbrev pub invariant-loop-last : goal.invariant-loop-last
invariant-loop-last l = record {
  ends : AreEnded l.list.versions l.ended.items;
  same : map (reopened l.commit) l.list.versions ≡ map (reopened l.commit) l.fn.list.versions;
  links : l.list.links ≡ l.fn.list.links;
  room : vec_capacity l.ended ≡ vec_capacity l.fn.ended;
}

abbrev pub decreases-loop-last : goal.decreases-loop-last
decreases-loop-last l = length l.ended.items
