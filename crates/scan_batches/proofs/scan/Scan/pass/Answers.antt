use Rattle.std.proofs.Common.{◌≡◌, ◌∙◌, ◌≤◌, true, sym, ap, subst, arith}
use Rattle.scan_batches.specs.Reading.{wanted}
use Rattle.scan_batches.specs.Scans.{ScanOf, has_enough, is_as_many, rows_wanted}
use Rattle.scan_batches.proofs.Chunks.{all-the-rest}
use Rattle.scan_batches.proofs.scan.Scan.pass.Goals as goal

pub returns-then-is_enough-clause-read : goal.returns-then-is_enough-clause-read
returns-then-is_enough-clause-read c = λ so_far.
    let s = c.args.layout.now in
    let r = c.self.inside in
    let rows = c.read_on.new.rows.rows in
    let refs = c.deref.result.now in
    let old : r.rows.rows ≡ wanted s r.at r.refs.items r.rows.whole r.test r.most r.next_row = subst (λ (v : ScanOf). v.rows ≡ rows_wanted s v) (sym c.self.view_is) so_far in
    let read : rows ≡ wanted s r.at refs r.rows.whole r.test r.most c.in_ok-next.next =
    c.in_ok-next.ensures.read (old ∙ ap (λ x. wanted s r.at x r.rows.whole r.test r.most r.next_row) (sym c.deref.ensures.value)) in
    let many : has_enough r.most rows ≡ true = ap (is_as_many r.most) (sym c.len.ensures.exact) ∙ sym c.if-is_enough.ensures.exact in
    let within : c.in_ok-next.next ≤ r.end_row = omega (arith, c.in_ok-next.ensures.within.1, c.self.invariant.0, c.min.ensures) in
    all-the-rest s r.at refs r.rows.whole r.test r.most c.in_ok-next.next r.end_row rows within many read
    ∙ (λ i. wanted s r.at (c.deref.ensures.value i) (sym c.in_ok-next.ensures.whole i) r.test r.most r.end_row)

pub returns-else-is_enough-clause-read : goal.returns-else-is_enough-clause-read
returns-else-is_enough-clause-read c = λ so_far.
    let s = c.args.layout.now in
    let r = c.self.inside in
    let rows = c.read_on.new.rows.rows in
    let refs = c.deref.result.now in
    let old : r.rows.rows ≡ wanted s r.at r.refs.items r.rows.whole r.test r.most r.next_row = subst (λ (v : ScanOf). v.rows ≡ rows_wanted s v) (sym c.self.view_is) so_far in
    let read : rows ≡ wanted s r.at refs r.rows.whole r.test r.most c.in_ok-next.next =
    c.in_ok-next.ensures.read (old ∙ ap (λ x. wanted s r.at x r.rows.whole r.test r.most r.next_row) (sym c.deref.ensures.value)) in
    read ∙ (λ i. wanted s r.at (c.deref.ensures.value i) (sym c.in_ok-next.ensures.whole i) r.test r.most c.in_ok-next.next)
