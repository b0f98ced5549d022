use Rattle.std.proofs.Common.{◌≡◌, drop}
use Rattle.layout_store.specs.Along.{value_by, first_of}
use Rattle.layout_store.proofs.reading.read_path.Given as goal

abbrev pub invariant-loop-way : goal.invariant-loop-way
invariant-loop-way l = first_of (value_by l.catalog l.stored l.columns.cells l.version) (drop l.way-index l.ways) ≡ first_of (value_by l.catalog l.stored l.columns.cells l.version) l.ways
