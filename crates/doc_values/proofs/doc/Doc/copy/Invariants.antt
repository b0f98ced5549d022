use Rattle.std.proofs.Common.{◌≡◌, take}
use Rattle.doc_values.proofs.doc.Doc.copy.Given as goal

abbrev pub invariant-loop-name : goal.invariant-loop-name
invariant-loop-name l = l.fields.items ≡ take l.name-index l.name-items
