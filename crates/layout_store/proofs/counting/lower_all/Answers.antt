use Rattle.std.proofs.Common.{◌<◌, arith}
use Rattle.attr_catalog.specs.Attribute.{Attribute, lowered}
use Rattle.layout_store.proofs.Upto.{both-changed, still-so}
use Rattle.layout_store.proofs.counting.lower_all.Goals as goal

pub lower_cells-requires : goal.lower_cells-requires
lower_cells-requires c = record { listed = c.requires.listed; celled = λ id value e. omega (arith, c.requires.celled id value e, c.lower_fields.ensures.exact.many); counted = still-so lowered (λ (a : Attribute). 0 < a.count) c.args.stored.now c.args.columns.now.cells c.args.version c.args.catalog.now c.lower_fields.new.catalog c.requires.apart c.lower_fields.ensures.exact c.requires.counted }

pub returns : goal.returns
returns c = record { exact = both-changed lowered c.args.stored.now c.args.columns.now.cells c.args.version c.args.catalog.now c.lower_fields.new.catalog c.lower_cells.new.catalog c.requires.apart c.lower_fields.ensures.exact c.lower_cells.ensures.exact }
