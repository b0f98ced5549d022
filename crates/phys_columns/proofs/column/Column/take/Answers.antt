use Rattle.std.proofs.Common.{◌∙◌, ap, sym}
use Rattle.phys_columns.proofs.Valued.{stands, value_on, changed_pages, changed_here, changed_kept, changed_rooms, other_at}
use Rattle.phys_columns.proofs.column.Column.take.Goals as goal

pub take-requires-clause-page : goal.take-requires-clause-page
take-requires-clause-page c = (stands c.args.self.now.pages.items c.deref.result.now _ c.in-Ok.place c.index_mut.result.now c.deref.ensures.value c.requires.pages c.in-Ok.ensures.exact c.index_mut.ensures.value).page

pub returns-in-Ok : goal.returns-in-Ok
returns-in-Ok c =
    let s = stands c.args.self.now.pages.items c.deref.result.now _ c.in-Ok.place c.index_mut.result.now c.deref.ensures.value c.requires.pages c.in-Ok.ensures.exact c.index_mut.ensures.value in
    record {
      exact = c.take.ensures.exact ∙ sym (ap (λ r. value_on r c.args.version) s.at);
      pages = changed_pages _ c.args.version _ _ _ s c.take.ensures.number c.take.ensures.page;
      here = changed_here _ c.args.version _ _ _ s c.take.ensures.number c.take.ensures.page ∙ c.take.ensures.here;
      kept = changed_kept _ c.args.version _ _ _ s c.take.ensures.number c.take.ensures.page c.take.ensures.kept;
      others = other_at _ c.args.version _ _ _ s c.take.ensures.number c.take.ensures.page;
      room = changed_rooms _ c.args.version _ _ _ s c.take.ensures.number c.take.ensures.page c.take.ensures.kind;
    }
