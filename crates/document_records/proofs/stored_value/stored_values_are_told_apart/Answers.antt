use Rattle.document_records.proofs.StoredValues.{reads_back, told_apart}
use Rattle.document_records.proofs.stored_value.stored_values_are_told_apart.Goals as goal

pub returns : goal.returns
returns c = record { back = reads_back; apart = told_apart }
