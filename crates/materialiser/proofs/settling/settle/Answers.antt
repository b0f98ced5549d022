use Rattle.std.proofs.Common.{◌≡◌, ◌<◌, ◌≤◌, length, ap, ◌∙◌, arith}
use Rattle.materialiser.proofs.Settled.{settled-next, settled-all, all-clean}
use Rattle.materialiser.proofs.settling.settle.Goals as goal

pub loop-id-preserved : goal.loop-id-preserved
loop-id-preserved c =
    let first = c.args.layout.now in
    let many : c.len-id-end.result ≡ length first.attributes = c.len-id-end.ensures.exact ∙ ap length c.catalog-2.ensures.exact in
    let below : c.loop-id.id < length first.attributes = omega (arith, c.loop-id-test.true, many) in
    settled-next c.loop-id.id c.loop-id.moves c.in_ok-moves.field-0 first c.loop-id.layout c.settle_one.new.layout c.loop-id.invariant below c.in_ok-moves.ensures.ok c.in_ok-moves.ensures.moves c.in_ok-moves.ensures.few
    c.in_ok-moves.ensures.kept c.in_ok-moves.ensures.shows

pub returns-clause-clean : goal.returns-clause-clean
returns-clause-clean c =
    let first = c.args.layout.now in
    let many : c.len-id-end.result ≡ length first.attributes = c.len-id-end.ensures.exact ∙ ap length c.catalog-2.ensures.exact in
    let all : length first.attributes ≤ c.loop-id.id = omega (arith, c.loop-id-test.false, many) in
    all-clean first.attributes c.loop-id.layout.attributes (settled-all c.loop-id.id c.loop-id.moves first c.loop-id.layout c.loop-id.invariant all).0
