-- What is held of an attribute can be read at its kind, and is what the document has.
use Rattle.std.proofs.Common.{◌≡◌, ℕ, List, length, Option, Some, slice_get, ap, subst, ◌∙◌}
use Rattle.std.proofs.lemmas.List.Elements.{All-contains}
use Rattle.std.proofs.lemmas.Option.{MatchOption-at_some, slice_get_within}
use Rattle.doc_values.specs.declared.kind.Kind.{Kind}
use Rattle.document_records.specs.StoredDocument.{Pairs, IsStored, IsHeld, IsKept}
use Rattle.document_records.proofs.StoredFields.{among}
use Rattle.layout_store.specs.Documents.{fields_of, document_of}
use Rattle.layout_store.proofs.Fields.{value-below}

pub stored-at : (pairs : Pairs) (under : ℕ → Option (List ℕ)) → IsKept pairs (fields_of pairs under) → (id : ℕ) (bytes : List ℕ) (pair : List ℕ × Kind) → slice_get pairs id ≡ Some pair → under id ≡ Some bytes → IsStored (document_of pairs under) bytes pair
stored-at pairs under kept id bytes pair at e =
    let lt = slice_get_within pairs id pair at in
    let x = among id bytes (fields_of pairs under) (value-below under (length pairs) id lt ∙ e) in
    let held : IsHeld pairs (document_of pairs under) x.field = All-contains (IsHeld pairs (document_of pairs under)) (fields_of pairs under) x.field kept x.there in
    let numbered : slice_get pairs x.field.id ≡ Some pair = ap (slice_get pairs) x.numbered ∙ at in
    let told = MatchOption-at_some ⊥ (IsStored (document_of pairs under) x.field.bytes) pair numbered held in
    subst (λ (b : List ℕ). IsStored (document_of pairs under) b pair) x.has told
