-- Documents behind one another: they stay where texts and fields come behind.
use Rattle.std.proofs.Common.{◌≡◌, ◌∙◌, ℕ, ◌≤◌, List, [], ◌∷◌, ◌++◌, map, length, refl, sym, ap, subst, arith, length-append, slice_range}
use Rattle.std.specs.Prelude.{All}
use Rattle.std.proofs.lemmas.List.{map-append}
use Rattle.std.proofs.lemmas.List.Elements.{All-weaker, All-head, All-tail, All-push}
use Rattle.doc_values.specs.declared.field_cell.FieldCell.{FieldCell}
use Rattle.doc_values.specs.declared.doc_place.DocPlace.{DocPlace}
use Rattle.doc_values.specs.Doc.{Fields}
use Rattle.doc_values.specs.Spans.{text_at, IsSpan, KeepsSpans}
use Rattle.doc_values.specs.Packed.{fields_in, IsPacked, document_in, IsPlaced, KeepsRanges}
use Rattle.doc_values.proofs.Behind.{range_kept}

pub ranges_same : {X : Type 0} (xs : List X) → KeepsRanges xs xs
ranges_same xs a b le within = (within, refl)

pub ranges_more : {X : Type 0} (xs ys new : List X) → new ≡ xs ++ ys → KeepsRanges xs new
ranges_more xs ys new e a b le within = (omega (arith, length-append xs ys, ap length e), ap (λ l. slice_range l a b) e ∙ range_kept xs ys a b le within)

module _ (old new : List ℕ) (keeps : KeepsSpans old new) (cells more : List FieldCell) (ranges : KeepsRanges cells more) where
  document_kept : (p : DocPlace) → IsPlaced old cells p → IsPlaced new more p × (document_in new more p ≡ document_in old cells p)
  document_kept p h =
      let text = keeps p.texts h.spanned in
      let range = ranges p.first p.last h.ordered h.within in
      let packed : IsPacked (text_at new p.texts) (slice_range more p.first p.last) =
      subst (λ (ts : List ℕ). IsPacked ts (slice_range more p.first p.last)) (sym text.1) (subst (λ (cs : List FieldCell). IsPacked (text_at old p.texts) cs) (sym range.1) h.packed) in
      (record { spanned = text.0; ordered = h.ordered; within = range.0; packed = packed }, λ i. fields_in (text.1 i) (range.1 i))

  pub documents_kept : (places : List DocPlace) → All (IsPlaced old cells) places → map (document_in new more) places ≡ map (document_in old cells) places
  documents_kept [] h = refl
  documents_kept (p ∷ ps) h =
      let first = (document_kept p (All-head (IsPlaced old cells) p ps h)).1 in
      let rest = documents_kept ps (All-tail (IsPlaced old cells) p ps h) in
      λ i. first i ∷ rest i

  pub places_kept : (places : List DocPlace) → All (IsPlaced old cells) places → All (IsPlaced new more) places
  places_kept places h = All-weaker (IsPlaced old cells) (IsPlaced new more) (λ (p : DocPlace) k. (document_kept p k).0) places h

  pub document_pushed : (places after : List DocPlace) (p : DocPlace) (d : Fields) → All (IsPlaced old cells) places → after ≡ places ++ p ∷ [] → document_in new more p ≡ d
      → map (document_in new more) after ≡ map (document_in old cells) places ++ d ∷ []
  document_pushed places after p d h e is =
      let rest = documents_kept places h in
      ap (map (document_in new more)) e ∙ map-append (document_in new more) places (p ∷ []) ∙ (λ i. rest i ++ is i ∷ [])

  pub places_pushed : (places after : List DocPlace) (p : DocPlace) → All (IsPlaced old cells) places → after ≡ places ++ p ∷ [] → IsPlaced new more p → All (IsPlaced new more) after
  places_pushed places after p h e is = subst (All (IsPlaced new more)) (sym e) (All-push (IsPlaced new more) places p (places_kept places h) is)

-- a document that was put behind the others
module _ (new texts : List ℕ) (cells fields : List FieldCell) (p : DocPlace) (spanned : IsSpan new p.texts) (text : text_at new p.texts ≡ texts) (ordered : p.first ≤ p.last) (within : p.last ≤ length cells)
    (range : slice_range cells p.first p.last ≡ fields) (packed : IsPacked texts fields) where
  pub placed_here : IsPlaced new cells p
  placed_here = record {
    spanned = spanned;
    ordered = ordered;
    within = within;
    packed = subst (λ (ts : List ℕ). IsPacked ts (slice_range cells p.first p.last)) (sym text) (subst (λ (cs : List FieldCell). IsPacked texts cs) (sym range) packed);
  }

  pub document_here : document_in new cells p ≡ fields_in texts fields
  document_here = λ i. fields_in (text i) (range i)
