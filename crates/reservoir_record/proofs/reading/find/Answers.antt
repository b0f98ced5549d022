use Rattle.std.proofs.Common.{◌∙◌, ap, ℕ, List, Some, subst}
use Rattle.reservoir_record.specs.Finding.{StandsAt, FitsAt}
use Rattle.reservoir_record.proofs.Found.{found_here, missing_here}
use Rattle.reservoir_record.proofs.reading.find.Goals as goal

pub returns-in-Ok-clause-exact : goal.returns-in-Ok-clause-exact
returns-in-Ok-clause-exact g c = λ fields s.
    let stands : StandsAt c.args.bytes.now c.count-count.result c.args.id c.in-Ok.place = subst (λ (b : List ℕ). StandsAt b c.count-count.result c.args.id c.in-Ok.place) c.new.ensures.exact c.in-Ok.ensures.found in
    ap (λ (v : List ℕ). Some v) c.value.ensures.exact ∙ found_here fields c.args.bytes.now c.count-count.result c.args.id c.in-Ok.place s (c.count-count.ensures.exact fields s) stands

pub returns-in-Err-clause-exact : goal.returns-in-Err-clause-exact
returns-in-Err-clause-exact g c = λ fields s.
    let fits : FitsAt c.args.bytes.now c.count-count.result c.args.id c.in-Err.field-0 = subst (λ (b : List ℕ). FitsAt b c.count-count.result c.args.id c.in-Err.field-0) c.new.ensures.exact c.in-Err.ensures.missing in
    missing_here fields c.args.bytes.now c.count-count.result c.args.id c.in-Err.field-0 s (c.count-count.ensures.exact fields s) fits
