use Rattle.std.proofs.Common.{take}
use Rattle.document_records.specs.Parts.{AreIn}
use Rattle.layout_store.specs.Numbering.{fields_made}
use Rattle.layout_store.proofs.lent_numbering.fill_lent.Given as goal

abbrev pub invariant-loop-entry : goal.invariant-loop-entry
invariant-loop-entry l = AreIn (fields_made l.document (take l.entry-index l.entries)) l.parts
