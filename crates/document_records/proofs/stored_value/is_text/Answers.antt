use Rattle.std.proofs.lemmas.Str.{is_utf8-from_IsUtf8}
use Rattle.document_records.proofs.stored_value.is_text.Goals as goal

pub returns : goal.returns
returns c = record { exact = is_utf8-from_IsUtf8 c.args.text.now c.utf8.text }
