use Rattle.std.proofs.Common.{◌≡◌, ◌<◌, subst, Bor}
use Rattle.phys_columns.specs.declared.page.Page.{Page}
use Rattle.phys_columns.specs.Pages.{AreSlots}
use Rattle.phys_columns.specs.Inside.{most_pages}
use Rattle.phys_columns.proofs.Valued.{stands}
use Rattle.phys_columns.proofs.column.Column.page.Goals as goal

pub returns-in-Ok-clause-page : goal.returns-in-Ok-clause-page
returns-in-Ok-clause-page c = (stands c.args.self.now.pages.items c.deref.result.now _ c.in-Ok.place c.index.result.now c.deref.ensures.value c.requires c.in-Ok.ensures.exact c.index.ensures).page

pub returns-in-Ok-clause-low : goal.returns-in-Ok-clause-low
returns-in-Ok-clause-low c x is =
    let same : c.index.result ≡ x = (cc) in
    subst (λ (p : Bor Page). p.now.number < most_pages) same (stands c.args.self.now.pages.items c.deref.result.now _ c.in-Ok.place c.index.result.now c.deref.ensures.value c.requires c.in-Ok.ensures.exact c.index.ensures).low

pub returns-in-Ok-clause-whole : goal.returns-in-Ok-clause-whole
returns-in-Ok-clause-whole c x is =
    let same : c.index.result ≡ x = (cc) in
    subst (λ (p : Bor Page). AreSlots p.now.slots) same (stands c.args.self.now.pages.items c.deref.result.now _ c.in-Ok.place c.index.result.now c.deref.ensures.value c.requires c.in-Ok.ensures.exact c.index.ensures).page.whole
