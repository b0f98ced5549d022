use Rattle.std.proofs.Common.{◌∙◌, ◌/◌, ap, refl, sym, arith, length, ◌<◌, ◌≤◌}
use Rattle.phys_columns.proofs.Held.{paged_there, nothing_taken, read_some, read_none, set_paged, set_taken, set_room, clear_room, set_held, clear_held}
use Rattle.phys_columns.proofs.columns.Columns.clear_cell.Goals as goal

pub returns-then-id-len : goal.returns-then-id-len
returns-then-id-len c =
    let past : length c.self.inside.columns.items ≤ c.args.id.0 = omega (arith, c.len.ensures) in
    rw (← c.self.view_is) (record {
      exact = ap (λ cells. record { cells = cells; spare = c.self.inside.spare }) (nothing_taken _ c.args.id.0 c.args.version c.self.invariant.paged past);
      taken = sym (read_none _ _ c.args.id.0 c.args.version refl c.self.invariant.paged past);
    })

pub clear-requires : goal.clear-requires
clear-requires c = record { pages = paged_there _ _ c.args.id.0 _ refl c.self.invariant.paged (omega (arith, c.len.ensures)) c.index_mut.ensures.value }

pub invariant_of-self : goal.invariant_of-self
invariant_of-self c =
    let inside : c.args.id.0 < length c.self.inside.columns.items = omega (arith, c.len.ensures) in
    record {
      paged = set_paged _ _ _ _ inside c.index_mut.ensures.value c.self.invariant.paged c.clear.ensures.pages;
      room = set_room _ _ _ _ inside c.index_mut.ensures.value c.self.invariant.paged c.clear.ensures.pages c.self.inside.spare (clear_room _ _ c.args.id.0 c.args.version _ c.self.inside.spare c.clear.ensures.room c.clear.ensures.others c.has_room_at-keep.ensures.no) c.self.invariant.room;
      held = set_held _ c.args.id.0 _ _ c.self.inside.spare c.self.inside.spare (c.args.version / 1024) inside c.index_mut.ensures.value c.self.invariant.held c.clear.ensures.others (clear_held _ _ _ c.clear.ensures.held c.has_room_at-keep.ensures.yes) (λ i n apart room. room);
    }

pub returns : goal.returns
returns c =
    let inside : c.args.id.0 < length c.self.inside.columns.items = omega (arith, c.len.ensures) in
    rw (← c.self.view_is) (record {
      exact = ap (λ cells. record { cells = cells; spare = c.self.inside.spare }) (set_taken _ _ _ _ inside c.index_mut.ensures.value c.self.invariant.paged c.clear.ensures.pages c.args.version c.clear.ensures.here c.clear.ensures.kept);
      taken = c.clear.ensures.exact ∙ sym (read_some _ _ c.args.id.0 c.args.version _ refl c.self.invariant.paged inside c.index_mut.ensures.value);
    })
