use Rattle.std.proofs.Common.{◌<◌, arith}
use Rattle.attr_catalog.specs.Attribute.{Attribute, raised}
use Rattle.layout_store.proofs.Upto.{both-changed, still-so}
use Rattle.layout_store.proofs.counting.raise_all.Goals as goal

pub raise_cells-requires : goal.raise_cells-requires
raise_cells-requires c = record { listed = c.requires.listed; celled = λ id value e. omega (arith, c.requires.celled id value e, c.raise_fields.ensures.exact.many); room = still-so raised (λ (a : Attribute). a.count < 2097152) c.args.stored.now c.args.columns.now.cells c.args.version c.args.catalog.now c.raise_fields.new.catalog c.requires.apart c.raise_fields.ensures.exact c.requires.room }

pub returns : goal.returns
returns c = record { exact = both-changed raised c.args.stored.now c.args.columns.now.cells c.args.version c.args.catalog.now c.raise_fields.new.catalog c.raise_cells.new.catalog c.requires.apart c.raise_fields.ensures.exact c.raise_cells.ensures.exact }
