use Rattle.std.proofs.Common.{◌≡◌, ◌≤◌, ◌-◌}
use Rattle.scan_batches.specs.Reading.{wanted}
use Rattle.scan_batches.proofs.reading.read_on.Given as goal

abbrev pub invariant-loop-next : goal.invariant-loop-next
invariant-loop-next l = record {
  read : l.initial.rows.rows ≡ wanted l.layout l.at l.refs l.initial.rows.whole l.test l.most l.from → l.rows.rows ≡ wanted l.layout l.at l.refs l.initial.rows.whole l.test l.most l.next;
  low : l.from ≤ l.next;
  high : l.next ≤ l.to;
  width : l.rows.width ≡ l.initial.rows.width;
  whole : l.rows.whole ≡ l.initial.rows.whole;
}

abbrev pub decreases-loop-next : goal.decreases-loop-next
decreases-loop-next l = l.to - l.next
