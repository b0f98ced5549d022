use Rattle.attr_catalog.specs.Attribute.{Attribute, raised}
use Rattle.std.proofs.Common.{◌<◌}
use Rattle.layout_store.proofs.Upto.{fields-none, standing, field-next, field-now}
use Rattle.layout_store.proofs.counting.raise_fields.Goals as goal

pub loop-place-init : goal.loop-place-init
loop-place-init c = fields-none raised c.args.stored.now c.args.catalog.now

pub raise-requires-clause-standing : goal.raise-requires-clause-standing
raise-requires-clause-standing c = standing c.args.stored.now c.len-place-end.ensures.kept c.loop-place.place c.id.result c.id.ensures.exact raised c.args.catalog.now c.loop-place.catalog c.loop-place.invariant c.requires.known

pub raise-requires-clause-room : goal.raise-requires-clause-room
raise-requires-clause-room c = field-now c.args.stored.now c.len-place-end.ensures.kept c.loop-place.place c.id.result c.id.ensures.exact raised c.args.catalog.now c.loop-place.catalog c.loop-place.invariant c.requires.known (λ (a : Attribute). a.count < 2097152) c.requires.room

pub loop-place-preserved : goal.loop-place-preserved
loop-place-preserved c = rw c.raise.ensures.exact (field-next c.args.stored.now c.len-place-end.ensures.kept c.loop-place.place c.id.result c.id.ensures.exact raised c.args.catalog.now c.loop-place.catalog c.loop-place.invariant c.requires.known)
