-- Fields that are kept under attributes that grow, and the parts of a record while they are put together.
use Rattle.std.proofs.Common.{◌≡◌, ℕ, zero, suc, ◌+◌, ◌≤◌, List, [], ◌∷◌, length, take, Option, Some, None, slice_get, refl, sym, ap, subst, ◌∙◌, arith, length-append}
use Rattle.std.specs.Prelude.{All, MatchOption}
use Rattle.std.specs.List.{AllByRecursion}
use Rattle.std.specs.Option.{option_map_or}
use Rattle.std.proofs.lemmas.Option.{get_or_from_slice_get, slice_get_within}
use Rattle.std.proofs.lemmas.List.Elements.{All-weaker, recursion_from_All}
use Rattle.doc_values.specs.Doc.{Fields, with_field, IsDocument}
use Rattle.doc_values.specs.Value.{IsStorable}
use Rattle.doc_values.specs.declared.kind.Kind.{Kind}
use Rattle.doc_values.specs.declared.value.Value.{Value}
use Rattle.reservoir_record.specs.declared.fields.Field.{Field}
use Rattle.reservoir_record.specs.Spelling.{values}
use Rattle.document_records.specs.StoredValue.{value_in, bytes_of}
use Rattle.document_records.specs.StoredDocument.{Pairs, with_stored, document_stored, IsStored, IsHeld, IsKept}
use Rattle.layout_store.specs.Numbering.{field_of, fields_made}
use Rattle.layout_store.proofs.Pairs.{Stays}

-- ---- pairs that stay

held_by : (old new : Pairs) → Stays old new → (d : Fields) (f : Field) (o : Option (List ℕ × Kind)) → slice_get old f.id ≡ o → MatchOption o ⊥ (IsStored d f.bytes)
    → IsHeld new d f × (slice_get new f.id ≡ slice_get old f.id)
held_by old new s d f None e h = absurd h
held_by old new s d f (Some p) e h =
    let at : slice_get new f.id ≡ Some p = s f.id p e in
    (subst (λ (o : Option (List ℕ × Kind)). MatchOption o ⊥ (IsStored d f.bytes)) (sym at) h, at ∙ sym e)

held_stays : (old new : Pairs) → Stays old new → (d : Fields) (f : Field) → IsHeld old d f → IsHeld new d f × (slice_get new f.id ≡ slice_get old f.id)
held_stays old new s d f h = held_by old new s d f (slice_get old f.id) refl h

stored_stays : (old new : Pairs) → Stays old new → (d : Fields) (fs : List Field) → AllByRecursion (IsHeld old d) fs → document_stored new fs ≡ document_stored old fs
stored_stays old new s d [] h = refl
stored_stays old new s d (f ∷ fs) h =
    ap (with_stored new f) (stored_stays old new s d fs h.1)
    ∙ ap (λ (o : Option (List ℕ × Kind)). option_map_or (λ (p : List ℕ × Kind). with_field (document_stored old fs) p.0 (value_in p.1 f.bytes)) o (document_stored old fs)) (held_stays old new s d f h.0).1

pub document_stays : (old new : Pairs) → Stays old new → (fs : List Field) → IsKept old fs → document_stored new fs ≡ document_stored old fs
document_stays old new s fs h = stored_stays old new s (document_stored old fs) fs (recursion_from_All (IsHeld old (document_stored old fs)) fs h)

pub kept_stays : (old new : Pairs) → Stays old new → (fs : List Field) → IsKept old fs → IsKept new fs
kept_stays old new s fs h =
    subst (λ (d : Fields). All (IsHeld new d) fs) (sym (document_stays old new s fs h))
    (All-weaker (IsHeld old (document_stored old fs)) (IsHeld new (document_stored old fs)) (λ (f : Field) k. (held_stays old new s (document_stored old fs) f k).0) fs h)

-- ---- while the parts are put together

storable : (d : Fields) (k : ℕ) (f : List ℕ × Value) → IsDocument d → slice_get d k ≡ Some f → IsStorable f.1
storable [] k f s h = absurd (cc)
storable (g ∷ gs) zero f s h = let same : g ≡ f = cc in subst (λ (x : List ℕ × Value). IsStorable x.1) same s.1
storable (g ∷ gs) (suc k) f s h = storable gs k f s.2 h

pub is_storable : (d : Fields) (k : ℕ) (name : List ℕ) (v : Value) → IsDocument d → slice_get d k ≡ Some (name, v) → IsStorable v
is_storable d k name v s h = storable d k (name, v) s h

pub bytes_at : (d : Fields) (e : ℕ × ℕ) (name : List ℕ) (v : Value) → slice_get d e.1 ≡ Some (name, v) → (field_of d e).bytes ≡ bytes_of v
bytes_at d e name v h = ap (λ (o : Option (List ℕ × Value)). option_map_or (λ (x : List ℕ × Value). bytes_of x.1) o []) h

-- the values before a place, and the one there, are among all
pub room_at : (d : Fields) (es : List (ℕ × ℕ)) (k : ℕ) (e : ℕ × ℕ) → slice_get es k ≡ Some e → length (values (fields_made d (take k es))) + length (field_of d e).bytes ≤ length (values (fields_made d es))
room_at d [] k e h = absurd (cc)
room_at d (x ∷ es) zero e h =
    let same : x ≡ e = cc in
    let long : length (field_of d x).bytes ≡ length (field_of d e).bytes = ap (λ (y : ℕ × ℕ). length (field_of d y).bytes) same in
    omega (arith, length-append (field_of d x).bytes (values (fields_made d es)), long)
room_at d (x ∷ es) (suc k) e h =
    omega (arith, length-append (field_of d x).bytes (values (fields_made d es)), length-append (field_of d x).bytes (values (fields_made d (take k es))), room_at d es k e h)

-- ---- items

pub all_at : {X : Type 0} (P : X → Type 0) (xs : List X) (k : ℕ) (x : X) → All P xs → slice_get xs k ≡ Some x → P x
all_at P xs k x h at = subst P (get_or_from_slice_get xs k x x at) (h k x (slice_get_within xs k x at))
