use Rattle.std.proofs.Common.{ℕ, length, get_or, ap, arith}
use Rattle.std.proofs.lemmas.Option.{slice_get-get_or}
use Rattle.doc_values.specs.Lent.{owned}
use Rattle.layout_store.proofs.Stays.{is_storable, bytes_at, room_at}
use Rattle.layout_store.proofs.lent_numbering.fill_lent.Goals as goal

pub push-requires-clause-storable : goal.push-requires-clause-storable
push-requires-clause-storable c =
    let e : ℕ × ℕ = get_or c.args.entries.now c.loop-entry.entry-index (0, 0) in
    is_storable c.args.document.now e.1 c.field.result.0.now (owned c.field.result.1) c.len-kept.ensures.kept c.field.ensures.exact

pub push-requires-clause-room : goal.push-requires-clause-room
push-requires-clause-room c =
    let d = c.args.document.now in
    let es = c.args.entries.now in
    let k = c.loop-entry.entry-index in
    let e : ℕ × ℕ = get_or c.args.entries.now c.loop-entry.entry-index (0, 0) in
    let room = room_at d es k e (slice_get-get_or es k (0, 0) c.loop-entry-test.true) in
    let here = bytes_at d e c.field.result.0.now (owned c.field.result.1) c.field.ensures.exact in
    omega (arith, room, ap length here, ap length c.loop-entry.invariant.whole, c.requires.fit)
