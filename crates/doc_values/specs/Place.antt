-- Where a name stands among the fields of a document, or would stand.
use Rattle.std.specs.Prelude.{◌≡◌, ℕ, zero, suc, List, [], ◌∷◌}
use Rattle.std.specs.Ordering.{nat_cmp}
use Rattle.std.specs.declared.cmp.Ordering.TheVariants.{Equal, Greater}
use Rattle.std.specs.Cmp.Lexicographic.{slice_cmp}
use Rattle.doc_values.specs.Doc.{Fields, IsBefore}

-- The name is that of the field at the place, and comes after those before it.
abbrev pub StandsAt : List ℕ → Fields → ℕ → Type 0
StandsAt name [] i = ⊥
StandsAt name (f ∷ fs) zero = slice_cmp nat_cmp name f.0 ≡ Equal
StandsAt name (f ∷ fs) (suc i) = (slice_cmp nat_cmp name f.0 ≡ Greater) × StandsAt name fs i

-- The name comes after the fields before the place, and before the one there.
abbrev pub FitsAt : List ℕ → Fields → ℕ → Type 0
FitsAt name fs zero = IsBefore name fs
FitsAt name [] (suc i) = ⊥
FitsAt name (f ∷ fs) (suc i) = (slice_cmp nat_cmp name f.0 ≡ Greater) × FitsAt name fs i
