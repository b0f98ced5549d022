use Rattle.std.proofs.Common.{◌∙◌, ap, sym, subst, ℕ, List, length}
use Rattle.reservoir_record.specs.Spelling.{Spells, spelling}
use Rattle.reservoir_record.specs.Finding.{StandsAt, FitsAt}
use Rattle.reservoir_record.proofs.Without.{without_here, without_none, are_fields_without}
use Rattle.reservoir_record.proofs.removing.remove.Goals as goal

pub returns-in-Ok : goal.returns-in-Ok
returns-in-Ok c = record {
  exact = λ fields s.
      let stands : StandsAt c.args.bytes.now.items (length fields) c.args.id c.in-Ok.place = subst (λ (b : List ℕ). StandsAt b (length fields) c.args.id c.in-Ok.place) c.deref.ensures.value (c.in-Ok.ensures.found fields (subst (Spells fields) (sym c.deref.ensures.value) s)) in
      record {
        lawful = are_fields_without c.args.id fields s.lawful;
        spelled = c.take_at.ensures.exact fields s ∙ ap spelling (sym (without_here fields c.args.bytes.now.items c.args.id c.in-Ok.place s stands));
      };
}

pub returns-in-Err : goal.returns-in-Err
returns-in-Err c = record {
  exact = λ fields s.
      let fits : FitsAt c.args.bytes.now.items (length fields) c.args.id c.in-Err.field-0 = subst (λ (b : List ℕ). FitsAt b (length fields) c.args.id c.in-Err.field-0) c.deref.ensures.value (c.in-Err.ensures.missing fields (subst (Spells fields) (sym c.deref.ensures.value) s)) in
      record {
        lawful = are_fields_without c.args.id fields s.lawful;
        spelled = s.spelled ∙ ap spelling (sym (without_none fields c.args.bytes.now.items c.args.id c.in-Err.field-0 s fits));
      };
}
