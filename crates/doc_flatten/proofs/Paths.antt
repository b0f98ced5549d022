-- A dotted path is cut back to the path of the object.
use Rattle.std.proofs.Common.{◌≡◌, ℕ, List, [], ◌∷◌, length, take, arith, refl, length-append}
use Rattle.std.proofs.Math.Seq.{take-append_seam, get_or-append_seam}
use Rattle.std.specs.String.Boundary.{IsSplitPoint}
use Rattle.doc_flatten.specs.Tree.{dotted}

pub take-dotted : (path key : List ℕ) → take (length path) (dotted path key) ≡ path
take-dotted [] key = refl
take-dotted (c ∷ outer) key = take-append_seam (c ∷ outer) (46 ∷ key)

pub IsSplitPoint-dotted : (path key : List ℕ) → IsSplitPoint (dotted path key) (length path)
IsSplitPoint-dotted [] key = (omega arith, λ some. absurd (omega arith))
IsSplitPoint-dotted (c ∷ outer) key =
    (omega (arith, length-append (c ∷ outer) (46 ∷ key)), λ some within high. absurd (omega (arith, get_or-append_seam (c ∷ outer) 46 key 0)))
