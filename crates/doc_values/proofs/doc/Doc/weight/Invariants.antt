use Rattle.std.proofs.Common.{◌≡◌, ◌-◌, ◌^◌, take, min}
use Rattle.doc_values.specs.Weight.{weight_of}
use Rattle.doc_values.proofs.doc.Doc.weight.Given as goal

abbrev pub invariant-loop-value : goal.invariant-loop-value
invariant-loop-value l = l.total ≡ min (weight_of (take l.value-index l.value-items)) (2 ^ 64 - 1)
