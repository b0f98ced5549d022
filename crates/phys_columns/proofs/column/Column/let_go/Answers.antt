use Rattle.std.proofs.Common.{refl, sym, subst, IfSome}
use Rattle.phys_columns.specs.Pages.{Holds}
use Rattle.phys_columns.proofs.Valued.{stands, fits_there, removed_pages, removed_others, removed_held, removed_kept}
use Rattle.phys_columns.proofs.column.Column.let_go.Goals as goal

pub returns-then-is_empty : goal.returns-then-is_empty
returns-then-is_empty c =
    let s = stands c.args.self.now.pages.items c.deref.result.now _ c.in-Ok.place c.index.result.now c.deref.ensures.value c.requires.pages c.in-Ok.ensures.exact c.index.ensures in
    rw c.remove.ensures.items (record {
      pages = removed_pages _ _ _ _ s;
      kept = removed_kept _ _ _ _ s (c.if-is_empty.ensures.none refl);
      others = removed_others _ _ _ _ s;
      held = removed_held _ _ _ _ s;
    })

pub returns-else-is_empty-clause-held : goal.returns-else-is_empty-clause-held
returns-else-is_empty-clause-held c =
    let s = stands c.args.self.now.pages.items c.deref.result.now _ c.in-Ok.place c.index.result.now c.deref.ensures.value c.requires.pages c.in-Ok.ensures.exact c.index.ensures in
    subst (λ o. IfSome o Holds) (sym s.at) (c.if-is_empty.ensures.some refl)

pub returns-in-Err-clause-held : goal.returns-in-Err-clause-held
returns-in-Err-clause-held c =
    let place = fits_there c.args.self.now.pages.items c.deref.result.now _ c.in-Err.field-0 c.deref.ensures.value c.in-Err.ensures.exact in
    subst (λ o. IfSome o Holds) (sym place.1) tt
