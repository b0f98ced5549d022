-- What holds of the tuples of several tables.
use Rattle.std.specs.Prelude.{◌≡◌, ℕ, ◌+◌, ◌*◌, List, [], ◌∷◌, ◌++◌, Some, length, slice_get}
use Rattle.doc_values.specs.Doc.{Fields}
use Rattle.query_meaning.specs.Question.{Tuple, tuples_of}

-- With one more table behind others each tuple goes on with each document of that table: the tuples in their order, and under each of them the documents in theirs.
abbrev pub GoOnInOrder : Type 0
GoOnInOrder = (first last : List Fields) (others : List (List Fields)) →
    (length (tuples_of (first ∷ (others ++ last ∷ []))) ≡ length (tuples_of (first ∷ others)) * length last)
    × ((i j : ℕ) (tuple : Tuple) (document : Fields) → slice_get (tuples_of (first ∷ others)) i ≡ Some tuple → slice_get last j ≡ Some document →
    slice_get (tuples_of (first ∷ (others ++ last ∷ []))) (i * length last + j) ≡ Some (tuple ++ Some document ∷ []))
