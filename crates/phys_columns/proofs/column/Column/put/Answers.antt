use Rattle.std.proofs.Common.{◌∙◌, subst}
use Rattle.phys_columns.specs.Inside.{IsOfKind}
use Rattle.doc_values.specs.Value.{kind_of}
use Rattle.phys_columns.proofs.Valued.{stands, changed_pages, changed_here, changed_kept, changed_held, other_at}
use Rattle.phys_columns.proofs.column.Column.put.Goals as goal

pub put-requires-clause-page : goal.put-requires-clause-page
put-requires-clause-page c = (stands c.args.self.now.pages.items c.deref.result.now _ c.in-Ok.place c.index_mut.result.now c.deref.ensures.value c.requires.pages c.in-Ok.ensures.exact c.index_mut.ensures.value).page

pub put-requires-clause-kind : goal.put-requires-clause-kind
put-requires-clause-kind c =
    let s = stands c.args.self.now.pages.items c.deref.result.now _ c.in-Ok.place c.index_mut.result.now c.deref.ensures.value c.requires.pages c.in-Ok.ensures.exact c.index_mut.ensures.value in
    subst (λ r. IsOfKind (kind_of c.args.value) r) s.at c.requires.room

pub returns-in-Ok : goal.returns-in-Ok
returns-in-Ok c =
    let s = stands c.args.self.now.pages.items c.deref.result.now _ c.in-Ok.place c.index_mut.result.now c.deref.ensures.value c.requires.pages c.in-Ok.ensures.exact c.index_mut.ensures.value in
    record {
      pages = changed_pages _ c.args.version _ _ _ s c.put.ensures.number c.put.ensures.page;
      here = changed_here _ c.args.version _ _ _ s c.put.ensures.number c.put.ensures.page ∙ c.put.ensures.here;
      kept = changed_kept _ c.args.version _ _ _ s c.put.ensures.number c.put.ensures.page c.put.ensures.kept;
      others = other_at _ c.args.version _ _ _ s c.put.ensures.number c.put.ensures.page;
      held = changed_held _ c.args.version _ _ _ s c.put.ensures.number c.put.ensures.page c.put.ensures.held;
    }
