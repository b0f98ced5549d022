use Rattle.doc_values.proofs.Maps.{puts, removes, same, kept}
use Rattle.doc_values.proofs.laws.documents_are_maps.Goals as goal

pub returns : goal.returns
returns c = record { puts = puts; removes = removes; same = same; kept = kept }
