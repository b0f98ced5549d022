use Rattle.std.proofs.Common.{◌/◌, ap, length, ◌<◌, None}
use Rattle.phys_columns.proofs.Held.{room_within, set_paged, set_same, set_held, by_value, other_room}
use Rattle.phys_columns.proofs.columns.Columns.release.Goals as goal

pub invariant_of-self : goal.invariant_of-self
invariant_of-self c =
    let inside : c.in-Some.spare.id.0 < length c.self.inside.columns.items = room_within _ c.self.inside.spare c.in-Some.spare c.in-Some.is c.self.invariant.room in
    record {
      paged = set_paged _ _ _ _ inside c.index_mut.ensures.value c.self.invariant.paged c.let_go.ensures.pages;
      room = tt;
      held = set_held _ c.in-Some.spare.id.0 _ _ c.self.inside.spare None (c.in-Some.spare.version / 1024) inside c.index_mut.ensures.value c.self.invariant.held c.let_go.ensures.others (by_value _ _ c.let_go.ensures.held) (λ i n apart. other_room c.self.inside.spare c.in-Some.spare c.in-Some.is i n apart);
    }

pub returns-in-Some : goal.returns-in-Some
returns-in-Some c =
    let inside : c.in-Some.spare.id.0 < length c.self.inside.columns.items = room_within _ c.self.inside.spare c.in-Some.spare c.in-Some.is c.self.invariant.room in
    rw (← c.self.view_is) (record { exact = ap (λ cells. record { cells = cells; spare = None }) (set_same _ _ _ _ inside c.index_mut.ensures.value c.self.invariant.paged c.let_go.ensures.pages c.let_go.ensures.kept) })
