use Rattle.std.proofs.Common.{◌∙◌, ◌+◌, ◌-◌, ◌*◌, ℕ, ap, arith}
use Rattle.reservoir_record.proofs.Turned.{written, turned_none, turned_more}
use Rattle.reservoir_record.proofs.editing.lower.Goals as goal

pub loop-place-init : goal.loop-place-init
loop-place-init c = turned_none (λ n. n - c.args.by) c.args.at c.args.count c.args.bytes.now

pub loop-place-preserved : goal.loop-place-preserved
loop-place-preserved c =
    turned_more (λ n. n - c.args.by) c.args.at c.args.count c.args.bytes.now c.loop-place.bytes c.set_word.new.bytes c.loop-place.place c.requires.within (omega arith) c.loop-place.invariant
    (c.set_word.ensures.exact ∙ ap (λ (w : ℕ). written c.loop-place.bytes (c.args.at + 4 * c.loop-place.place) (w - c.args.by)) c.word.ensures.exact)
