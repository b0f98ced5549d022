use Rattle.std.proofs.Common.{◌∙◌, ℕ, Bool, List, map, take, ap, subst, is_lt}
use Rattle.std.specs.List.{prefix_len}
use Rattle.exec_finish.specs.Keyed.{IsBeyond, number_order}
use Rattle.exec_finish.specs.Order.{put_in, ordered}
use Rattle.exec_finish.proofs.FirstRows.{none_kept, put_beyond, put_there}
use Rattle.exec_finish.proofs.first_rows.put.Goals as goal
use Rattle.exec_finish.proofs.first_rows.put.Goals.{then-limit-eq0-via-then-limit-eq0, then-limit-eq0-via-else-limit-eq0+then-is_beyond}

pub returns-then-limit-eq0-clause-ok : goal.returns-then-limit-eq0-clause-ok
returns-then-limit-eq0-clause-ok c row rows keyed e =
    let directions = map (λ key. key.descending) c.args.keys.now in
    let columns = c.args.columns.now in
    let numbers = c.args.numbers.now.items in
    elim c.then-limit-eq0.branch [
      | then-limit-eq0-via-then-limit-eq0 w ↦ none_kept c.args.limit (map row numbers) (ordered directions rows) (put_in directions (row c.args.number) (ordered directions rows)) w.if-limit-eq0.true e
      | then-limit-eq0-via-else-limit-eq0+then-is_beyond w ↦
          put_beyond directions columns row keyed c.args.limit c.args.number numbers rows (subst (IsBeyond directions columns c.args.limit c.args.number) w.deref.ensures.value (w.is_beyond.ensures.exact w.if-is_beyond.true)) e
    ]

pub returns-clause-ok : goal.returns-clause-ok
returns-clause-ok c row rows keyed e =
    let directions = map (λ key. key.descending) c.args.keys.now in
    let columns = c.args.columns.now in
    let comes : ℕ → Bool = λ other. is_lt (number_order directions columns other c.args.number) in
    ap (map row) (c.truncate.ensures.items ∙ ap (take c.args.limit) c.in_ok-insert.ensures.items)
    ∙ put_there directions columns row keyed c.args.limit c.args.number c.place_of-place.result c.args.numbers.now.items rows (c.place_of-place.ensures.exact ∙ ap (prefix_len comes) c.deref-2.ensures.value) e
