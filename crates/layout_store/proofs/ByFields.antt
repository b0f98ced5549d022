-- The fields of a version's record and those of its cells are together what it holds.
use Rattle.std.proofs.Common.{◌≡◌, inl, inr, ℕ, zero, suc, ◌+◌, ◌<◌, ◌≤◌, List, [], ◌∷◌, ◌++◌, length, get_or, Option, Some, None, slice_get, refl, sym, ap, subst, ◌∙◌, arith}
use Rattle.std.specs.Prelude.{All, MatchOption}
use Rattle.std.specs.List.{Contains}
use Rattle.std.specs.Option.{option_or}
use Rattle.std.proofs.lemmas.List.Elements.{All-weaker, All-contains_itself, Contains-append_left, Contains-append_right, Contains-append_cases}
use Rattle.std.proofs.lemmas.Option.{none-some, same_Some, slice_get_within, get_or_from_slice_get}
use Rattle.doc_values.specs.Doc.{IsDocument}
use Rattle.doc_values.specs.Laws.{PutsAlone, AreSameByNames}
use Rattle.doc_values.specs.declared.kind.Kind.{Kind}
use Rattle.reservoir_record.specs.declared.fields.Field.{Field}
use Rattle.reservoir_record.specs.Finding.{value_of}
use Rattle.reservoir_record.specs.Spelling.{Ascends, AreFields}
use Rattle.row_versions.proofs.Places.{get-within}
use Rattle.document_records.specs.StoredDocument.{Pairs, document_with, IsStored, IsHeld, IsKept}
use Rattle.document_records.proofs.StoredFields.{Gives, among}
use Rattle.layout_store.specs.Documents.{field_if, fields_below, fields_of, document_of}
use Rattle.layout_store.specs.Listed.{IsListed, fields_listed}
use Rattle.layout_store.proofs.AnyOrder.{any-order}
use Rattle.layout_store.proofs.Attributes.{equal_or_not}
use Rattle.layout_store.proofs.Counted.{less_of}
use Rattle.layout_store.proofs.Fields.{value-here, value-later}
use Rattle.layout_store.proofs.Stored.{stored-at}

-- ---- fields of a record

member_low : (fs : List Field) (least : ℕ) (x : Field) → Ascends least fs → Contains fs x → least ≤ x.id
member_low [] least x h c = absurd (omega (arith, c.1))
member_low (f ∷ fs) least x h (zero, lt, is) = let same : f.id ≡ x.id = ap (λ (y : Field). y.id) is in omega (arith, same, h.0)
member_low (f ∷ fs) least x h (suc k, lt, is) = let rest = member_low fs (f.id + 1) x h.2 (k, omega arith, is) in omega (arith, rest, h.0)

pub member-value : (fs : List Field) (least : ℕ) (x : Field) → Ascends least fs → Contains fs x → value_of x.id fs ≡ Some x.bytes
member-value [] least x h c = absurd (omega (arith, c.1))
member-value (f ∷ fs) least x h (zero, lt, is) = value-here x.id f fs (ap (λ (y : Field). y.id) is) ∙ ap (λ (y : Field). Some y.bytes) is
member-value (f ∷ fs) least x h (suc k, lt, is) =
    let rest : Contains fs x = (k, omega arith, is) in
    let low = member_low fs (f.id + 1) x h.2 rest in
    value-later x.id f fs (λ e. absurd (omega (arith, low, e))) ∙ member-value fs (f.id + 1) x h.2 rest

pub field-found : (fs : List Field) → AreFields fs → (place : ℕ) (f : Field) → slice_get fs place ≡ Some f → value_of f.id fs ≡ Some f.bytes
field-found fs lawful place f at = member-value fs 0 f lawful.ascend (place, slice_get_within fs place f at, get_or_from_slice_get fs place f f at)

-- ---- fields by number, and by a list

one_held : (id : ℕ) (o : Option (List ℕ)) (x : Field) → Contains (field_if id o) x → (id ≡ x.id) × (o ≡ Some x.bytes)
one_held id None x c = absurd (omega (arith, c.1))
one_held id (Some b) x (zero, lt, is) = (ap (λ (y : Field). y.id) is, ap (λ (y : Field). Some y.bytes) is)
one_held id (Some b) x (suc k, lt, is) = absurd (omega arith)

held_below : (under : ℕ → Option (List ℕ)) (n : ℕ) (x : Field) → Contains (fields_below under n) x → under x.id ≡ Some x.bytes
held_below under zero x c = absurd (omega (arith, c.1))
held_below under (suc id) x c = elim (Contains-append_cases (fields_below under id) (field_if id (under id)) x c) [
  | inl front ↦ held_below under id x front
  | inr last ↦ let h = one_held id (under id) x last in ap under (sym h.0) ∙ h.1
]

held_listed : (ids : List ℕ) (under : ℕ → Option (List ℕ)) (k : ℕ) (x : Field) → Contains (fields_listed ids under k) x → under x.id ≡ Some x.bytes
held_listed ids under zero x c = absurd (omega (arith, c.1))
held_listed ids under (suc k) x c = elim (Contains-append_cases (fields_listed ids under k) (field_if (get_or ids k 0) (under (get_or ids k 0))) x c) [
  | inl front ↦ held_listed ids under k x front
  | inr last ↦ let h = one_held (get_or ids k 0) (under (get_or ids k 0)) x last in ap under (sym h.0) ∙ h.1
]

one_stands : (id : ℕ) (o : Option (List ℕ)) (b : List ℕ) → o ≡ Some b → Contains (field_if id o) (record { id = id; bytes = b })
one_stands id None b e = absurd (none-some b e)
one_stands id (Some c) b e = (0, omega arith, ap (λ (y : List ℕ). let f : Field = record { id = id; bytes = y } in f) (same_Some c b e))

stands_listed : (ids : List ℕ) (under : ℕ → Option (List ℕ)) (k p : ℕ) (b : List ℕ) → p < k → under (get_or ids p 0) ≡ Some b → Contains (fields_listed ids under k) (record { id = get_or ids p 0; bytes = b })
stands_listed ids under zero p b lt e = absurd (omega arith)
stands_listed ids under (suc k) p b lt e = equal_or_not k p (Contains (fields_listed ids under (suc k)) (record { id = get_or ids p 0; bytes = b }))
    (λ same.
    let here = one_stands (get_or ids k 0) (under (get_or ids k 0)) b (ap (λ (j : ℕ). under (get_or ids j 0)) same ∙ e) in
    let last = Contains-append_right (fields_listed ids under k) (field_if (get_or ids k 0) (under (get_or ids k 0))) (record { id = get_or ids k 0; bytes = b }) here in
    subst (λ (j : ℕ). Contains (fields_listed ids under (suc k)) (record { id = get_or ids j 0; bytes = b })) same last)
    (λ ne. Contains-append_left (fields_listed ids under k) (field_if (get_or ids k 0) (under (get_or ids k 0))) (record { id = get_or ids p 0; bytes = b }) (stands_listed ids under k p b (less_of k p lt ne) e))

-- ---- both sides

module _ (pairs : Pairs) (stored : List Field) (celled : ℕ → Option (List ℕ)) (ids : List ℕ) (ascends : Ascends 0 stored) where
  abbrev under : ℕ → Option (List ℕ)
  under id = option_or (value_of id stored) (celled id)

  abbrev all : List Field
  all = stored ++ fields_listed ids celled (length ids)

  module _ (known : (id : ℕ) (b : List ℕ) → under id ≡ Some b → id < length pairs) (apart : (id : ℕ) (b : List ℕ) → value_of id stored ≡ Some b → celled id ≡ None) (listed : (id : ℕ) (b : List ℕ) → celled id ≡ Some b → IsListed id ids) where
    from_record : (x : Field) → Contains stored x → under x.id ≡ Some x.bytes
    from_record x c = ap (λ (o : Option (List ℕ)). option_or o (celled x.id)) (member-value stored 0 x ascends c)

    from_cells : (x : Field) → Contains (fields_listed ids celled (length ids)) x → under x.id ≡ Some x.bytes
    from_cells x c = by (value_of x.id stored) refl
      where
        there : celled x.id ≡ Some x.bytes
        there = held_listed ids celled (length ids) x c

        by : (o : Option (List ℕ)) → value_of x.id stored ≡ o → option_or o (celled x.id) ≡ Some x.bytes
        by None e = there
        by (Some b) e = absurd (none-some x.bytes (sym (apart x.id b e) ∙ there))

    each : (x : Field) → Contains all x → under x.id ≡ Some x.bytes
    each x c = elim (Contains-append_cases stored (fields_listed ids celled (length ids)) x c) [ inl a ↦ from_record x a | inr b ↦ from_cells x b ]

    -- a name that is held is that of a field
    names : (name : List ℕ) → Gives pairs name (fields_of pairs under) → Gives pairs name all
    names name g = by (value_of g.field.id stored) refl (held_below under (length pairs) g.field g.there)
      where
        by : (o : Option (List ℕ)) → value_of g.field.id stored ≡ o → option_or o (celled g.field.id) ≡ Some g.field.bytes → Gives pairs name all
        by (Some b) e h =
            let y = among g.field.id b stored e in
            record { field = y.field; there = Contains-append_left stored (fields_listed ids celled (length ids)) y.field y.there; pair = g.pair; numbered = ap (slice_get pairs) y.numbered ∙ g.numbered; named = g.named }
        by None e h =
            let l = listed g.field.id g.field.bytes h in
            let c = stands_listed ids celled (length ids) l.0 g.field.bytes l.1 (ap celled l.2 ∙ h) in
            record {
              field = record { id = get_or ids l.0 0; bytes = g.field.bytes };
              there = Contains-append_right stored (fields_listed ids celled (length ids)) (record { id = get_or ids l.0 0; bytes = g.field.bytes }) c;
              pair = g.pair;
              numbered = ap (slice_get pairs) l.2 ∙ g.numbered;
              named = g.named;
            }

    held_each : IsKept pairs (fields_of pairs under) → All (IsHeld pairs (document_of pairs under)) all
    held_each kept = All-weaker (Contains all) (IsHeld pairs (document_of pairs under)) (λ (x : Field) c.
        let e = each x c in
        let p = get-within pairs x.id (known x.id x.bytes e) in
        subst (λ (o : Option (List ℕ × Kind)). MatchOption o ⊥ (IsStored (document_of pairs under) x.bytes)) (sym p.1) (stored-at pairs under kept x.id x.bytes p.0 p.1 e)) all (All-contains_itself all)

    pub whole-is : PutsAlone → AreSameByNames → IsKept pairs (fields_of pairs under) → IsDocument (document_of pairs under) → IsDocument (document_with pairs [] all) → document_with pairs [] all ≡ document_of pairs under
    whole-is puts same kept stored_is made = any-order puts same pairs (fields_of pairs under) all stored_is made (held_each kept) names
