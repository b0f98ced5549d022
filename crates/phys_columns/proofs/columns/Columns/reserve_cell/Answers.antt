use Rattle.std.proofs.Common.{◌≡◌, ◌∙◌, ◌/◌, ap, refl, sym, subst, arith, length, ◌<◌, None, Some, IfSome, ◌⊎◌}
use Rattle.phys_columns.specs.Cells.{cell_at}
use Rattle.phys_columns.specs.Pages.{Holds}
use Rattle.phys_columns.specs.Inside.{cells_in, HasRoom, IsRoom, page_at}
use Rattle.phys_columns.proofs.Held.{on_err, paged_there, read_some, pages_same, set_paged, set_same, new_room, same_pages, held_same, set_held, by_room, value_alone, no_room, column_before}
use Rattle.phys_columns.proofs.columns.Columns.reserve_cell.Goals as goal

pub returns-in_err-grow-clause-memory : goal.returns-in_err-grow-clause-memory
returns-in_err-grow-clause-memory c =
    let now = c.self.view_is ∙ c.release.ensures.exact in
    let cells : cells_in c.grow.new.columns.items ≡ c.args.self.now.cells = same_pages c.self.inside.columns.items c.grow.new.columns.items c.self.invariant.paged c.grow.ensures.kept ∙ ap (λ s. s.cells) now in
    on_err _ cells

pub make_room-requires-clause-pages : goal.make_room-requires-clause-pages
make_room-requires-clause-pages c =
    let paged = pages_same c.self.inside.columns.items c.grow.new.columns.items c.grow.ensures.kept c.self.invariant.paged in
    let inside : c.args.id.0 < length c.grow.new.columns.items = omega (arith, c.in_ok-grow.ensures.ok) in
    paged_there _ _ c.args.id.0 _ refl paged inside c.index_mut.ensures.value

pub make_room-requires-clause-held : goal.make_room-requires-clause-held
make_room-requires-clause-held c n =
    let paged = pages_same c.self.inside.columns.items c.grow.new.columns.items c.grow.ensures.kept c.self.invariant.paged in
    let inside : c.args.id.0 < length c.grow.new.columns.items = omega (arith, c.in_ok-grow.ensures.ok) in
    let none : c.self.inside.spare ≡ None = ap (λ s. s.spare) (c.self.view_is ∙ c.release.ensures.exact) in
    let held = held_same c.self.inside.columns.items c.grow.new.columns.items c.self.inside.spare c.grow.ensures.kept c.self.invariant.held in
    value_alone _ _ (no_room c.self.inside.spare none c.args.id.0 n) (subst (λ xs. IfSome (page_at n xs) (λ page. Holds page ⊎ IsRoom c.args.id.0 n c.self.inside.spare)) (column_before c.grow.new.columns.items c.args.id.0 c.index_mut.result.now inside c.index_mut.ensures.value) (held c.args.id.0 n))

pub make_room-requires-clause-alike : goal.make_room-requires-clause-alike
make_room-requires-clause-alike c w v is =
    let now = c.self.view_is ∙ c.release.ensures.exact in
    let cells : cells_in c.grow.new.columns.items ≡ c.args.self.now.cells = same_pages c.self.inside.columns.items c.grow.new.columns.items c.self.invariant.paged c.grow.ensures.kept ∙ ap (λ s. s.cells) now in
    let paged = pages_same c.self.inside.columns.items c.grow.new.columns.items c.grow.ensures.kept c.self.invariant.paged in
    let inside : c.args.id.0 < length c.grow.new.columns.items = omega (arith, c.in_ok-grow.ensures.ok) in
    c.requires.alike w v (ap (cell_at c.args.id.0 w) (sym cells) ∙ read_some _ _ c.args.id.0 w _ refl paged inside c.index_mut.ensures.value ∙ is)

pub invariant_of-self-in_err-make_room : goal.invariant_of-self-in_err-make_room
invariant_of-self-in_err-make_room c =
    let paged = pages_same c.self.inside.columns.items c.grow.new.columns.items c.grow.ensures.kept c.self.invariant.paged in
    let inside : c.args.id.0 < length c.grow.new.columns.items = omega (arith, c.in_ok-grow.ensures.ok) in
    let none : c.self.inside.spare ≡ None = ap (λ s. s.spare) (c.self.view_is ∙ c.release.ensures.exact) in
    let held = held_same c.self.inside.columns.items c.grow.new.columns.items c.self.inside.spare c.grow.ensures.kept c.self.invariant.held in
    let same = sym c.in_err-make_room.ensures.memory in
    record {
      paged = set_paged _ _ _ _ inside c.index_mut.ensures.value paged c.make_room.ensures.pages;
      room = subst (HasRoom _) (sym none) tt;
      held = set_held _ c.args.id.0 _ _ c.self.inside.spare c.self.inside.spare (c.args.version / 1024) inside c.index_mut.ensures.value held c.make_room.ensures.others (subst (λ xs. IfSome (page_at (c.args.version / 1024) xs) (λ page. Holds page ⊎ IsRoom c.args.id.0 (c.args.version / 1024) c.self.inside.spare)) (column_before c.grow.new.columns.items c.args.id.0 c.index_mut.result.now inside c.index_mut.ensures.value ∙ same) (held c.args.id.0 (c.args.version / 1024))) (λ i n apart room. room);
    }

pub returns-in_err-make_room-clause-memory : goal.returns-in_err-make_room-clause-memory
returns-in_err-make_room-clause-memory c =
    let now = c.self.view_is ∙ c.release.ensures.exact in
    let cells : cells_in c.grow.new.columns.items ≡ c.args.self.now.cells = same_pages c.self.inside.columns.items c.grow.new.columns.items c.self.invariant.paged c.grow.ensures.kept ∙ ap (λ s. s.cells) now in
    let paged = pages_same c.self.inside.columns.items c.grow.new.columns.items c.grow.ensures.kept c.self.invariant.paged in
    let inside : c.args.id.0 < length c.grow.new.columns.items = omega (arith, c.in_ok-grow.ensures.ok) in
    on_err _ (set_same _ _ _ _ inside c.index_mut.ensures.value paged c.make_room.ensures.pages c.make_room.ensures.kept ∙ cells)

pub invariant_of-self-2 : goal.invariant_of-self-2
invariant_of-self-2 c =
    let paged = pages_same c.self.inside.columns.items c.grow.new.columns.items c.grow.ensures.kept c.self.invariant.paged in
    let inside : c.args.id.0 < length c.grow.new.columns.items = omega (arith, c.in_ok-grow.ensures.ok) in
    let none : c.self.inside.spare ≡ None = ap (λ s. s.spare) (c.self.view_is ∙ c.release.ensures.exact) in
    let held = held_same c.self.inside.columns.items c.grow.new.columns.items c.self.inside.spare c.grow.ensures.kept c.self.invariant.held in
    record {
      paged = set_paged _ _ _ _ inside c.index_mut.ensures.value paged c.make_room.ensures.pages;
      room = new_room _ _ _ _ inside c.index_mut.ensures.value paged c.make_room.ensures.pages (record { id = c.args.id; version = c.args.version; kind = c.args.kind }) refl c.in_ok-make_room.ensures.room;
      held = set_held _ c.args.id.0 _ _ c.self.inside.spare (Some (record { id = c.args.id; version = c.args.version; kind = c.args.kind })) (c.args.version / 1024) inside c.index_mut.ensures.value held c.make_room.ensures.others (by_room _ _ (refl, refl)) (λ i n apart room. absurd (no_room c.self.inside.spare none i n room));
    }

pub returns-clause-ok : goal.returns-clause-ok
returns-clause-ok c =
    let now = c.self.view_is ∙ c.release.ensures.exact in
    let cells : cells_in c.grow.new.columns.items ≡ c.args.self.now.cells = same_pages c.self.inside.columns.items c.grow.new.columns.items c.self.invariant.paged c.grow.ensures.kept ∙ ap (λ s. s.cells) now in
    let paged = pages_same c.self.inside.columns.items c.grow.new.columns.items c.grow.ensures.kept c.self.invariant.paged in
    let inside : c.args.id.0 < length c.grow.new.columns.items = omega (arith, c.in_ok-grow.ensures.ok) in
    ap (λ held. record { cells = held; spare = Some (record { id = c.args.id; version = c.args.version; kind = c.args.kind }) }) (set_same _ _ _ _ inside c.index_mut.ensures.value paged c.make_room.ensures.pages c.make_room.ensures.kept ∙ cells)
