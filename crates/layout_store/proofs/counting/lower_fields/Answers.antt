use Rattle.attr_catalog.specs.Attribute.{Attribute, lowered}
use Rattle.std.proofs.Common.{◌<◌}
use Rattle.layout_store.proofs.Upto.{fields-none, standing, field-next, field-now}
use Rattle.layout_store.proofs.counting.lower_fields.Goals as goal

pub loop-place-init : goal.loop-place-init
loop-place-init c = fields-none lowered c.args.stored.now c.args.catalog.now

pub lower-requires-clause-standing : goal.lower-requires-clause-standing
lower-requires-clause-standing c = standing c.args.stored.now c.len-place-end.ensures.kept c.loop-place.place c.id.result c.id.ensures.exact lowered c.args.catalog.now c.loop-place.catalog c.loop-place.invariant c.requires.known

pub lower-requires-clause-held : goal.lower-requires-clause-held
lower-requires-clause-held c = field-now c.args.stored.now c.len-place-end.ensures.kept c.loop-place.place c.id.result c.id.ensures.exact lowered c.args.catalog.now c.loop-place.catalog c.loop-place.invariant c.requires.known (λ (a : Attribute). 0 < a.count) c.requires.counted

pub loop-place-preserved : goal.loop-place-preserved
loop-place-preserved c = rw c.lower.ensures.exact (field-next c.args.stored.now c.len-place-end.ensures.kept c.loop-place.place c.id.result c.id.ensures.exact lowered c.args.catalog.now c.loop-place.catalog c.loop-place.invariant c.requires.known)
