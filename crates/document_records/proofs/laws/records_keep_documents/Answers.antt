use Rattle.document_records.proofs.DocumentFields.{stands_again, is_kept, once, fits}
use Rattle.document_records.proofs.laws.records_keep_documents.Goals as goal

pub returns : goal.returns
returns c =
    let l = c.documents_are_maps.ensures in
    record {
      law = λ pairs document made fields ordered zipped moved.
          record {
            stands = stands_again l.puts l.kept pairs l.removes l.same document ordered made fields zipped moved;
            kept = is_kept l.puts l.kept pairs l.removes l.same document ordered made fields zipped moved;
            once = once l.puts l.kept pairs l.removes l.same document ordered made fields zipped moved;
            weighs = fits l.puts l.kept pairs l.removes l.same document ordered made fields zipped moved;
          };
    }
