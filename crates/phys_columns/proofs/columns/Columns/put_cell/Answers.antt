use Rattle.std.proofs.Common.{◌∙◌, ap, length, ◌<◌, ◌/◌, None}
use Rattle.doc_values.specs.Value.{kind_of}
use Rattle.phys_columns.proofs.Held.{room_within, room_there, set_paged, set_put, set_held, by_value, other_room}
use Rattle.phys_columns.proofs.columns.Columns.put_cell.Goals as goal

pub put-requires-clause-room : goal.put-requires-clause-room
put-requires-clause-room c = room_there _ c.self.inside.spare (record { id = c.args.id; version = c.args.version; kind = kind_of c.args.value }) _ (ap (λ s. s.spare) c.self.view_is ∙ c.requires.spare) c.index_mut.ensures.value c.self.invariant.room

pub invariant_of-self : goal.invariant_of-self
invariant_of-self c =
    let spare = ap (λ s. s.spare) c.self.view_is ∙ c.requires.spare in
    let inside : c.args.id.0 < length c.self.inside.columns.items = room_within _ c.self.inside.spare (record { id = c.args.id; version = c.args.version; kind = kind_of c.args.value }) spare c.self.invariant.room in
    record {
      paged = set_paged _ _ _ _ inside c.index_mut.ensures.value c.self.invariant.paged c.put.ensures.pages;
      room = tt;
      held = set_held _ c.args.id.0 _ _ c.self.inside.spare None (c.args.version / 1024) inside c.index_mut.ensures.value c.self.invariant.held c.put.ensures.others (by_value _ _ c.put.ensures.held) (λ i n apart. other_room c.self.inside.spare (record { id = c.args.id; version = c.args.version; kind = kind_of c.args.value }) spare i n apart);
    }

pub returns : goal.returns
returns c =
    let inside : c.args.id.0 < length c.self.inside.columns.items = room_within _ c.self.inside.spare (record { id = c.args.id; version = c.args.version; kind = kind_of c.args.value }) (ap (λ s. s.spare) c.self.view_is ∙ c.requires.spare) c.self.invariant.room in
    rw (← c.self.view_is) (record { exact = ap (λ cells. record { cells = cells; spare = None }) (set_put _ _ _ _ inside c.index_mut.ensures.value c.self.invariant.paged c.put.ensures.pages c.args.version c.args.value c.put.ensures.here c.put.ensures.kept) })
