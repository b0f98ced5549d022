use Rattle.std.proofs.Common.{arith}
use Rattle.phys_columns.proofs.Valued.{fits_there, found_kind, inserted_pages, inserted_kept, inserted_room, inserted_others}
use Rattle.phys_columns.proofs.column.Column.make_room.Goals as goal

pub returns-in-Ok-clause-room : goal.returns-in-Ok-clause-room
returns-in-Ok-clause-room c = found_kind c.args.self.now.pages.items c.deref.result.now _ _ c.deref.ensures.value c.in-Ok.ensures.exact c.requires.held c.args.kind c.requires.alike

pub returns-in_ok-insert-in-Err : goal.returns-in_ok-insert-in-Err
returns-in_ok-insert-in-Err c =
    let place = fits_there c.args.self.now.pages.items c.deref.result.now _ c.in-Err.place c.deref.ensures.value c.in-Err.ensures.exact in
    let new = c.in_ok-new-in-Err.ensures.ok in
    rw c.in_ok-insert-in-Err.ensures.items (record {
      pages = inserted_pages _ c.args.version _ _ c.requires.pages place new.0 (omega arith) new.2;
      kept = inserted_kept _ c.args.version _ _ c.requires.pages place new.0 (omega arith) new.2 c.in_ok-new-in-Err.ensures.empty;
      others = inserted_others _ c.args.version _ _ c.requires.pages place new.0 (omega arith) new.2;
      room = inserted_room _ c.args.version _ _ c.requires.pages place new.0 (omega arith) new.2 c.args.kind new.1;
      memory = tt;
    })
