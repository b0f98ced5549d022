use Rattle.std.proofs.Common.{◌≡◌, ◌∙◌, ap, sym, subst, ℕ, List, Some, length, refl}
use Rattle.reservoir_record.specs.Spelling.{Spells, spelling}
use Rattle.reservoir_record.specs.Words.{value_at}
use Rattle.reservoir_record.specs.Finding.{StandsAt, FitsAt}
use Rattle.reservoir_record.proofs.Found.{found_here, missing_here}
use Rattle.reservoir_record.proofs.Edited.{stands_nowhere}
use Rattle.reservoir_record.proofs.Without.{without_here, without_none, are_fields_without}
use Rattle.reservoir_record.proofs.taking.take.Goals as goal

pub returns-in_err-taken-in-Ok-clause-kept : goal.returns-in_err-taken-in-Ok-clause-kept
returns-in_err-taken-in-Ok-clause-kept c = λ fields s absent.
    let stands : StandsAt c.args.bytes.now.items (length fields) c.args.id c.in-Ok.place = subst (λ (b : List ℕ). StandsAt b (length fields) c.args.id c.in-Ok.place) c.deref-2.ensures.value (c.in-Ok.ensures.found fields (subst (Spells fields) (sym c.deref-2.ensures.value) s)) in
    absurd (stands_nowhere fields c.args.bytes.now.items c.args.id c.in-Ok.place s absent stands)

pub returns-in_ok-taken-in-Ok-clause-ok : goal.returns-in_ok-taken-in-Ok-clause-ok
returns-in_ok-taken-in-Ok-clause-ok c = λ fields s.
    let stands : StandsAt c.args.bytes.now.items (length fields) c.args.id c.in-Ok.place = subst (λ (b : List ℕ). StandsAt b (length fields) c.args.id c.in-Ok.place) c.deref-2.ensures.value (c.in-Ok.ensures.found fields (subst (Spells fields) (sym c.deref-2.ensures.value) s)) in
    record {
      lawful = are_fields_without c.args.id fields s.lawful;
      spelled = c.take_at.ensures.exact fields s ∙ ap spelling (sym (without_here fields c.args.bytes.now.items c.args.id c.in-Ok.place s stands));
    }

pub returns-in_ok-taken-in-Ok-clause-exact : goal.returns-in_ok-taken-in-Ok-clause-exact
returns-in_ok-taken-in-Ok-clause-exact c = λ fields s.
    let stands : StandsAt c.args.bytes.now.items (length fields) c.args.id c.in-Ok.place = subst (λ (b : List ℕ). StandsAt b (length fields) c.args.id c.in-Ok.place) c.deref-2.ensures.value (c.in-Ok.ensures.found fields (subst (Spells fields) (sym c.deref-2.ensures.value) s)) in
    let many : c.count-many.result ≡ length fields = c.count-many.ensures.exact fields (subst (Spells fields) (sym c.deref.ensures.value) s) in
    ap (λ (v : List ℕ). Some v) (c.in_ok-taken-in-Ok.ensures.items ∙ c.value.ensures.exact
    ∙ ap (λ (b : List ℕ). value_at b c.count-many.result c.in-Ok.place) c.deref-in-Ok.ensures.value
    ∙ ap (λ (n : ℕ). value_at c.args.bytes.now.items n c.in-Ok.place) many)
    ∙ found_here fields c.args.bytes.now.items (length fields) c.args.id c.in-Ok.place s refl stands

pub returns-in_ok-taken-in-Ok-clause-kept : goal.returns-in_ok-taken-in-Ok-clause-kept
returns-in_ok-taken-in-Ok-clause-kept c = λ fields s absent.
    let stands : StandsAt c.args.bytes.now.items (length fields) c.args.id c.in-Ok.place = subst (λ (b : List ℕ). StandsAt b (length fields) c.args.id c.in-Ok.place) c.deref-2.ensures.value (c.in-Ok.ensures.found fields (subst (Spells fields) (sym c.deref-2.ensures.value) s)) in
    absurd (stands_nowhere fields c.args.bytes.now.items c.args.id c.in-Ok.place s absent stands)

pub returns-in-Err-clause-ok : goal.returns-in-Err-clause-ok
returns-in-Err-clause-ok c = λ fields s.
    let fits : FitsAt c.args.bytes.now.items (length fields) c.args.id c.in-Err.field-0 = subst (λ (b : List ℕ). FitsAt b (length fields) c.args.id c.in-Err.field-0) c.deref-2.ensures.value (c.in-Err.ensures.missing fields (subst (Spells fields) (sym c.deref-2.ensures.value) s)) in
    record {
      lawful = are_fields_without c.args.id fields s.lawful;
      spelled = s.spelled ∙ ap spelling (sym (without_none fields c.args.bytes.now.items c.args.id c.in-Err.field-0 s fits));
    }

pub returns-in-Err-clause-exact : goal.returns-in-Err-clause-exact
returns-in-Err-clause-exact c = λ fields s.
    let fits : FitsAt c.args.bytes.now.items (length fields) c.args.id c.in-Err.field-0 = subst (λ (b : List ℕ). FitsAt b (length fields) c.args.id c.in-Err.field-0) c.deref-2.ensures.value (c.in-Err.ensures.missing fields (subst (Spells fields) (sym c.deref-2.ensures.value) s)) in
    missing_here fields c.args.bytes.now.items (length fields) c.args.id c.in-Err.field-0 s refl fits
