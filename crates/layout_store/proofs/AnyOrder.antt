-- A document that is put together field by field, in any order, is the one that the fields stand for.
use Rattle.std.proofs.Common.{◌≡◌, ◌≢◌, ◌⊎◌, inl, inr, ℕ, zero, suc, List, [], ◌∷◌, Option, Some, None, slice_get, refl, sym, ap, ◌∙◌, arith}
use Rattle.std.specs.Prelude.{All, MatchOption}
use Rattle.std.specs.List.{Contains, AllByRecursion}
use Rattle.std.proofs.lemmas.List.Elements.{recursion_from_All}
use Rattle.std.proofs.lemmas.Option.{same_Some}
use Rattle.doc_values.specs.Doc.{Fields, value_at, IsDocument}
use Rattle.doc_values.specs.Laws.{PutsAlone, AreSameByNames}
use Rattle.doc_values.specs.declared.kind.Kind.{Kind}
use Rattle.doc_values.specs.declared.value.Value.{Value}
use Rattle.reservoir_record.specs.declared.fields.Field.{Field}
use Rattle.document_records.specs.StoredDocument.{Pairs, with_stored, document_stored, document_with, IsStored, IsHeld}
use Rattle.document_records.specs.StoredValue.{value_in}
use Rattle.document_records.proofs.StoredFields.{same_or_not, Gives, source, stored_here, stored_other}

module _ (puts : PutsAlone) (pairs : Pairs) (whole : Fields) where
  -- Under a name stands what the whole has there, or a field to come has the name.
  abbrev IsSoFar : Fields → List Field → Type 0
  IsSoFar document fs = (name : List ℕ) → Gives pairs name fs ⊎ (value_at name document ≡ value_at name whole)

  -- a name that another field has is to come behind it
  behind : (f : Field) (fs : List Field) (pair : List ℕ × Kind) (name : List ℕ) → slice_get pairs f.id ≡ Some pair → name ≢ pair.0 → Gives pairs name (f ∷ fs) → Gives pairs name fs
  behind f fs pair name at ne g = by g.there
    where
      by : Contains (f ∷ fs) g.field → Gives pairs name fs
      by (zero, lt, is) =
          let same : slice_get pairs f.id ≡ Some g.pair = ap (λ (x : Field). slice_get pairs x.id) is ∙ g.numbered in
          let named : pair.0 ≡ name = ap (λ (p : List ℕ × Kind). p.0) (same_Some pair g.pair (sym at ∙ same)) ∙ g.named in
          absurd (ne (sym named))
      by (suc k, lt, is) = record { field = g.field; there = (k, omega arith, is); pair = g.pair; numbered = g.numbered; named = g.named }

  one_more_by : (f : Field) (fs : List Field) (document : Fields) (pair : List ℕ × Kind) → slice_get pairs f.id ≡ Some pair → value_at pair.0 whole ≡ Some (value_in pair.1 f.bytes) → IsSoFar document (f ∷ fs)
      → (name : List ℕ) → (name ≡ pair.0) ⊎ (name ≢ pair.0) → Gives pairs name fs ⊎ (value_at name (with_stored pairs f document) ≡ value_at name whole)
  one_more_by f fs document pair at held so name (inl same) =
      inr (stored_here puts pairs f document pair name at same ∙ sym held ∙ ap (λ (n : List ℕ). value_at n whole) (sym same))
  one_more_by f fs document pair at held so name (inr ne) = by (so name)
    where
      by : Gives pairs name (f ∷ fs) ⊎ (value_at name document ≡ value_at name whole) → Gives pairs name fs ⊎ (value_at name (with_stored pairs f document) ≡ value_at name whole)
      by (inl g) = inl (behind f fs pair name at ne g)
      by (inr e) = inr (stored_other puts pairs f document pair name at ne ∙ e)

  one_more : (f : Field) (fs : List Field) (document : Fields) (o : Option (List ℕ × Kind)) → slice_get pairs f.id ≡ o → MatchOption o ⊥ (IsStored whole f.bytes)
      → IsSoFar document (f ∷ fs) → IsSoFar (with_stored pairs f document) fs
  one_more f fs document None at held so name = absurd held
  one_more f fs document (Some pair) at held so name = one_more_by f fs document pair at held.stands so name (same_or_not name pair.0)

  all_put : (fs : List Field) (document : Fields) → AllByRecursion (IsHeld pairs whole) fs → IsSoFar document fs → (name : List ℕ) → value_at name (document_with pairs document fs) ≡ value_at name whole
  all_put [] document held so name = by (so name)
    where
      by : Gives pairs name [] ⊎ (value_at name document ≡ value_at name whole) → value_at name document ≡ value_at name whole
      by (inl g) = absurd (omega (arith, g.there.1))
      by (inr e) = e
  all_put (f ∷ fs) document held so name = all_put fs (with_stored pairs f document) held.1 (one_more f fs document (slice_get pairs f.id) refl held.0 so) name

-- The fields put in are held by the document, and have every name that it has.
pub any-order : PutsAlone → AreSameByNames → (pairs : Pairs) (fs all : List Field) → IsDocument (document_stored pairs fs) → IsDocument (document_with pairs [] all) → All (IsHeld pairs (document_stored pairs fs)) all
    → ((name : List ℕ) → Gives pairs name fs → Gives pairs name all) → document_with pairs [] all ≡ document_stored pairs fs
any-order puts same pairs fs all stored made held names =
    let whole : Fields = document_stored pairs fs in
    same (document_with pairs [] all) whole made stored (all_put puts pairs whole all [] (recursion_from_All (IsHeld pairs whole) all held) (λ name. first name (value_at name whole) refl))
  where
    first : (name : List ℕ) (o : Option Value) → value_at name (document_stored pairs fs) ≡ o → Gives pairs name all ⊎ (value_at name [] ≡ value_at name (document_stored pairs fs))
    first name None e = inr (sym e)
    first name (Some v) e = inl (names name (source puts pairs name v fs e))
