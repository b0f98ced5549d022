use Rattle.attr_catalog.specs.Attribute.{Attribute}
use Rattle.layout_store.specs.Changes.{written_to}
use Rattle.std.proofs.Common.{◌<◌}
use Rattle.layout_store.proofs.Upto.{fields-none, standing, field-next, field-now}
use Rattle.layout_store.proofs.counting.write_all.Goals as goal

pub loop-place-init : goal.loop-place-init
loop-place-init c = fields-none (λ (a : Attribute). written_to a.home c.args.version a) c.args.stored.now c.args.catalog.now

pub write_one-requires-clause-standing : goal.write_one-requires-clause-standing
write_one-requires-clause-standing c = standing c.args.stored.now c.len-place-end.ensures.kept c.loop-place.place c.id.result c.id.ensures.exact (λ (a : Attribute). written_to a.home c.args.version a) c.args.catalog.now c.loop-place.catalog c.loop-place.invariant c.requires.known

pub write_one-requires-clause-room : goal.write_one-requires-clause-room
write_one-requires-clause-room c = field-now c.args.stored.now c.len-place-end.ensures.kept c.loop-place.place c.id.result c.id.ensures.exact (λ (a : Attribute). written_to a.home c.args.version a) c.args.catalog.now c.loop-place.catalog c.loop-place.invariant c.requires.known (λ (a : Attribute). a.count < 2097152) (λ i a at yes. c.requires.room i a at)

pub loop-place-preserved : goal.loop-place-preserved
loop-place-preserved c = rw c.write_one.ensures.exact (field-next c.args.stored.now c.len-place-end.ensures.kept c.loop-place.place c.id.result c.id.ensures.exact (λ (a : Attribute). written_to a.home c.args.version a) c.args.catalog.now c.loop-place.catalog c.loop-place.invariant c.requires.known)
