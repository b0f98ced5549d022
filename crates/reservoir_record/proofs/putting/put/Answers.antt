use Rattle.std.proofs.Common.{◌∙◌, ap, sym, subst, length}
use Rattle.reservoir_record.specs.Spelling.{Spells, spelling}
use Rattle.reservoir_record.specs.Finding.{FitsAt}
use Rattle.reservoir_record.proofs.Edited.{are_fields_with, with_here}
use Rattle.reservoir_record.proofs.putting.put.Goals as goal

pub returns-clause-ok : goal.returns-clause-ok
returns-clause-ok c = λ fields s.
    let kept = c.reserve.ensures.items in
    let after : Spells fields c.reserve.new.self.items = subst (Spells fields) (sym kept) s in
    let lent : Spells fields c.deref.result.now = subst (Spells fields) (sym c.deref.ensures.value) after in
    let fits : FitsAt c.deref.result.now (length fields) c.args.id c.place_for-place.result = c.place_for-place.ensures.exact fields lent in
    record {
      lawful = are_fields_with c.args.id c.args.value.now fields s.lawful c.requires.small (c.requires.absent fields s) (c.requires.fit fields s);
      spelled = c.put_at.ensures.exact fields after ∙ ap spelling (sym (with_here fields c.deref.result.now c.args.id c.place_for-place.result c.args.value.now lent fits));
    }
