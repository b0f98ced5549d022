use Rattle.std.proofs.Common.{◌≡◌, cond, map, drop, ◌+◌, sym, ap, ◌∙◌}
use Rattle.std.specs.Ordering.{ordering_reverse, ordering_then}
use Rattle.doc_values.specs.Order.{total_order}
use Rattle.row_columns.specs.Placed.{value_in}
use Rattle.exec_finish.specs.Order.{key_order}
use Rattle.exec_finish.proofs.Comparing.{directions, key_at, key_in, key_order-more, decided, passed}
use Rattle.exec_finish.proofs.ordering.compare.Goals as goal

pub returns-then-is_ne : goal.returns-then-is_ne
returns-then-is_ne c =
    let keys = c.args.keys.now in
    let columns = c.args.columns.now in
    let row = map (value_in c.args.number) columns in
    let other = map (value_in c.args.other) columns in
    let place = c.loop-place.place in
    let key = c.index-keys-place.result in
    let rest = key_order (directions (drop (place + 1) keys)) (drop (place + 1) row) (drop (place + 1) other) in
    let compared : c.order-ordering.result ≡ total_order (key_at row place) (key_at other place) = c.order-ordering.ensures.exact ∙ (λ i. total_order ((c.key_at.ensures.exact ∙ key_in c.args.number columns place) i) ((c.key_at-in-loop-place.ensures.exact ∙ key_in c.args.other columns place) i)) in
    record {
      exact =
          c.directed.ensures.exact
          ∙ sym (decided key.descending c.order-ordering.result rest (sym c.is_ne.ensures ∙ c.if-is_ne.true))
          ∙ ap (λ o. ordering_then (cond key.descending (ordering_reverse o) o) rest) compared
          ∙ sym (key_order-more keys row other place key c.loop-place-test.true c.index-keys-place.is)
          ∙ c.loop-place.invariant;
    }

pub loop-place-preserved : goal.loop-place-preserved
loop-place-preserved c =
    let keys = c.args.keys.now in
    let columns = c.args.columns.now in
    let row = map (value_in c.args.number) columns in
    let other = map (value_in c.args.other) columns in
    let place = c.loop-place.place in
    let key = c.index-keys-place.result in
    let rest = key_order (directions (drop (place + 1) keys)) (drop (place + 1) row) (drop (place + 1) other) in
    let compared : c.order-ordering.result ≡ total_order (key_at row place) (key_at other place) = c.order-ordering.ensures.exact ∙ (λ i. total_order ((c.key_at.ensures.exact ∙ key_in c.args.number columns place) i) ((c.key_at-in-loop-place.ensures.exact ∙ key_in c.args.other columns place) i)) in
    sym (passed key.descending c.order-ordering.result rest (sym c.is_ne.ensures ∙ c.if-is_ne.false))
    ∙ ap (λ o. ordering_then (cond key.descending (ordering_reverse o) o) rest) compared
    ∙ sym (key_order-more keys row other place key c.loop-place-test.true c.index-keys-place.is)
    ∙ c.loop-place.invariant
