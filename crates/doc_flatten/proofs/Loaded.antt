-- Documents, one after another.
use Rattle.std.proofs.Common.{◌≡◌, ℕ, List, [], ◌∷◌, ◌++◌, ◌&&◌, Option, Some, None, Result, Ok, Err, refl, ap, append_assoc}
use Rattle.std.specs.List.{list_all}
use Rattle.serde_json.specs.View.{view, items_view}
use Rattle.serde_json.specs.declared.value.Value.{Value}
use Rattle.doc_values.specs.Doc.{Fields}
use Rattle.doc_flatten.specs.Documents.{behind, is_object, are_objects}

-- More documents behind those so far.
abbrev pub after : List Fields → Result (List Fields) ℕ → Result (List Fields) ℕ
after docs (Ok more) = Ok (docs ++ more)
after docs (Err at) = Err at

pub after-behind : (docs : List Fields) (at : ℕ) (found : Option Fields) (doc : Fields) (more : Result (List Fields) ℕ) → found ≡ Some doc → after docs (behind at found more) ≡ after (docs ++ doc ∷ []) more
after-behind docs at None doc more e = absurd (cc)
after-behind docs at (Some found) doc (Ok more) e = let same : found ≡ doc = cc in rw (same, append_assoc docs (doc ∷ []) more)
after-behind docs at (Some found) doc (Err later) e = refl

pub are_objects-list_all : (trees : List Value) → are_objects (items_view trees) ≡ list_all (λ tree. is_object (view tree)) trees
are_objects-list_all [] = refl
are_objects-list_all (tree ∷ trees) = ap (λ rest. is_object (view tree) && rest) (are_objects-list_all trees)
