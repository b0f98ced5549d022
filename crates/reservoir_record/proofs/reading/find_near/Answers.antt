use Rattle.std.proofs.Common.{◌∙◌, ap, ℕ, List, Some, subst}
use Rattle.reservoir_record.specs.Finding.{StandsAt, FitsAt}
use Rattle.reservoir_record.proofs.Found.{found_here, missing_here}
use Rattle.reservoir_record.proofs.reading.find_near.Goals as goal

pub returns-then-stands_at : goal.returns-then-stands_at
returns-then-stands_at g c =
    let bytes = c.args.bytes.now in
    let count = c.count-count.result in
    let stands : StandsAt bytes count c.args.id c.args.guess = subst (λ (b : List ℕ). StandsAt b count c.args.id c.args.guess) c.new-numbers.ensures.exact (c.stands_at.ensures.exact c.if-stands_at.true) in
    record { exact = λ fields s. ap (λ (v : List ℕ). Some v) c.value.ensures.exact ∙ found_here fields bytes count c.args.id c.args.guess s (c.count-count.ensures.exact fields s) stands }

pub returns-in-Ok : goal.returns-in-Ok
returns-in-Ok g c =
    let bytes = c.args.bytes.now in
    let count = c.count-count.result in
    let stands : StandsAt bytes count c.args.id c.in-Ok.place = subst (λ (b : List ℕ). StandsAt b count c.args.id c.in-Ok.place) c.new-numbers.ensures.exact c.in-Ok.ensures.found in
    record { exact = λ fields s. ap (λ (v : List ℕ). Some v) c.value-in-Ok.ensures.exact ∙ found_here fields bytes count c.args.id c.in-Ok.place s (c.count-count.ensures.exact fields s) stands }

pub returns-in-Err : goal.returns-in-Err
returns-in-Err g c =
    let bytes = c.args.bytes.now in
    let count = c.count-count.result in
    let fits : FitsAt bytes count c.args.id c.in-Err.field-0 = subst (λ (b : List ℕ). FitsAt b count c.args.id c.in-Err.field-0) c.new-numbers.ensures.exact c.in-Err.ensures.missing in
    record { exact = λ fields s. missing_here fields bytes count c.args.id c.in-Err.field-0 s (c.count-count.ensures.exact fields s) fits }
