use Rattle.std.proofs.Common.{◌∙◌, sym, ap, map}
use Rattle.std.proofs.lemmas.List.{take-map}
use Rattle.row_columns.specs.Placed.{tuple_at}
use Rattle.row_columns.proofs.tuples.Tuples.truncate.Goals as goal

pub returns : goal.returns
returns c =
    let s = c.self.inside in
    record { exact = rw (← c.self.view_is, c.truncate.ensures.items) (sym (take-map (tuple_at s.tables.items) c.args.len s.places.items)) }
