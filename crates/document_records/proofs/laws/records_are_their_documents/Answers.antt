use Rattle.attr_catalog.specs.Catalog.{id_of}
use Rattle.document_records.proofs.StoredFields.{can_be_read, found_under, kind_under, sound, there}
use Rattle.document_records.proofs.laws.records_are_their_documents.Goals as goal

pub returns : goal.returns
returns c =
    let puts = c.documents_are_maps.ensures.puts in
    record {
      law = λ attributes fields name once kept.
          record {
            readable = can_be_read puts attributes once fields kept name;
            found = found_under puts attributes once fields kept name;
            only = sound puts attributes once fields kept name;
            alike = λ of v found. kind_under of v (id_of name of attributes) fields found;
            each = there puts attributes once fields kept name;
          };
    }
