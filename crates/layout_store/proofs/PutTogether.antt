-- A document put together by the numbers of its attributes.
use Rattle.std.proofs.Common.{◌≡◌, ℕ, suc, ◌+◌, List, [], ◌∷◌, ◌++◌, get_or, Option, Some, slice_get, refl, sym, ap, ◌∙◌, arith}
use Rattle.std.specs.Option.{option_map_or}
use Rattle.std.proofs.lemmas.Option.{same_Some}
use Rattle.doc_values.specs.Doc.{Fields, with_field}
use Rattle.doc_values.specs.declared.kind.Kind.{Kind}
use Rattle.doc_values.specs.declared.value.Value.{Value}
use Rattle.reservoir_record.specs.declared.fields.Field.{Field}
use Rattle.attr_catalog.specs.Attribute.{Attribute}
use Rattle.document_records.specs.StoredValue.{bytes_of, value_in, ReadsBack}
use Rattle.document_records.specs.StoredDocument.{Pairs, pairs_of, with_stored, document_with}
use Rattle.document_records.proofs.CatalogNumbers.{pair_at}
use Rattle.layout_store.specs.Documents.{field_if}
use Rattle.layout_store.specs.Listed.{fields_listed}
use Rattle.layout_store.specs.Placed.{IsCelled}

with-append : (pairs : Pairs) (d : Fields) (xs ys : List Field) → document_with pairs d (xs ++ ys) ≡ document_with pairs (document_with pairs d xs) ys
with-append pairs d [] ys = refl
with-append pairs d (x ∷ xs) ys = with-append pairs (with_stored pairs x d) xs ys

-- one listed number more
pub cells-next : (pairs : Pairs) (ids : List ℕ) (under : ℕ → Option (List ℕ)) (k x : ℕ) (first old new : Fields) → x ≡ get_or ids k 0 → old ≡ document_with pairs first (fields_listed ids under k) → new ≡ document_with pairs old (field_if x (under x)) → new ≡ document_with pairs first (fields_listed ids under (k + 1))
cells-next pairs ids under k x first old new is so put =
    let one : k + 1 ≡ suc k = omega arith in
    put ∙ ap (λ (i : ℕ). document_with pairs old (field_if i (under i))) is ∙ ap (λ (d : Fields). document_with pairs d (field_if (get_or ids k 0) (under (get_or ids k 0)))) so
    ∙ sym (with-append pairs first (fields_listed ids under k) (field_if (get_or ids k 0) (under (get_or ids k 0)))) ∙ ap (λ (n : ℕ). document_with pairs first (fields_listed ids under n)) (sym one)

pub fields-then : (pairs : Pairs) (xs ys : List Field) (middle last : Fields) → middle ≡ document_with pairs [] xs → last ≡ document_with pairs middle ys → last ≡ document_with pairs [] (xs ++ ys)
fields-then pairs xs ys middle last so put = put ∙ ap (λ (d : Fields). document_with pairs d ys) so ∙ sym (with-append pairs [] xs ys)

-- a field put under its name
pub put-field : (attributes : List Attribute) (id : ℕ) (a : Attribute) (bytes : List ℕ) (value : Value) (old new : Fields) → slice_get attributes id ≡ Some a → value ≡ value_in a.kind bytes → new ≡ with_field old a.name value
    → new ≡ document_with (pairs_of attributes) old (field_if id (Some bytes))
put-field attributes id a bytes value old new at is put =
    put ∙ ap (with_field old a.name) is ∙ sym (ap (λ (o : Option (List ℕ × Kind)). option_map_or (λ (p : List ℕ × Kind). with_field old p.0 (value_in p.1 bytes)) o old) (pair_at attributes id a at))

-- the value of a cell is what its bytes stand for
pub cell-is : (back : ReadsBack) (attributes : List Attribute) (id : ℕ) (a : Attribute) (value : Value) → slice_get attributes id ≡ Some a → IsCelled attributes id value → value ≡ value_in a.kind (bytes_of value)
cell-is back attributes id a value at c =
    let same : c.attribute ≡ a = same_Some c.attribute a (sym c.there ∙ at) in
    sym (back value c.storable) ∙ ap (λ (k : Kind). value_in k (bytes_of value)) (c.alike ∙ ap (λ (x : Attribute). x.kind) same)
