-- What the document that fields stand for has under a name.
use Rattle.std.proofs.Common.{◌≡◌, ◌≢◌, ◌⊎◌, inl, inr, ℕ, zero, suc, ◌==◌, Bool, true, false, List, [], ◌∷◌, Option, Some, None, option_map, slice_get, refl, sym, ap, subst, ◌∙◌, arith, true≢false}
use Rattle.std.specs.Prelude.{IfSome}
use Rattle.std.specs.List.{Contains}
use Rattle.std.specs.Option.{option_map_or, option_or}
use Rattle.std.specs.Str.{bytes_eq}
use Rattle.std.proofs.lemmas.Bool.Decides.{nat_tests}
use Rattle.std.proofs.lemmas.List.Elements.{All-contains}
use Rattle.std.proofs.lemmas.Option.{MatchOption-at_some, same_Some, none-some}
use Rattle.std.proofs.lemmas.Slice.Eq.{bytes_eq-Decides}
use Rattle.doc_values.specs.Doc.{Fields, value_at, with_field}
use Rattle.doc_values.specs.Laws.{PutsAlone}
use Rattle.doc_values.specs.Value.{kind_of}
use Rattle.doc_values.specs.declared.attr_id.AttrId.{AttrId}
use Rattle.doc_values.specs.declared.kind.Kind.{Kind}
use Rattle.doc_values.specs.declared.kind.Kind.TheVariants as kind
use Rattle.doc_values.specs.declared.value.Value.{Value}
use Rattle.reservoir_record.specs.declared.fields.Field.{Field}
use Rattle.reservoir_record.specs.Finding.{value_of}
use Rattle.attr_catalog.specs.Attribute.{Attribute}
use Rattle.attr_catalog.specs.Catalog.{number, id_of, kinds_of, IsOnce}
use Rattle.document_records.specs.StoredValue.{value_in, AreReadable}
use Rattle.document_records.specs.StoredDocument.{Pairs, pairs_of, with_stored, document_stored, IsStored, IsHeld, IsKept}
use Rattle.document_records.specs.ReadBack.{value_of_kind, value_under, IsReadable, CanBeRead}
use Rattle.document_records.proofs.CatalogNumbers.{contains_head, contains_later, stands_for, pair_at, attribute_at}

-- ---- names

-- two names are the same or not
pub same_or_not : (a b : List ℕ) → (a ≡ b) ⊎ (a ≢ b)
same_or_not a b = by_test (bytes_eq a b) refl
  where
    by_test : (t : Bool) → bytes_eq a b ≡ t → (a ≡ b) ⊎ (a ≢ b)
    by_test true e = inl ((bytes_eq-Decides a b).0 e)
    by_test false e = inr (λ same. true≢false (sym ((bytes_eq-Decides a b).1 same) ∙ e))

-- ---- a field under a number

-- A field among fields with this number and these bytes.
pub record IsAmong (id : ℕ) (bytes : List ℕ) (fields : List Field) : Type 0 where
  pub field : Field
  pub there : Contains fields field
  pub numbered : field.id ≡ id
  pub has : field.bytes ≡ bytes

among_by : (id : ℕ) (bytes : List ℕ) (f : Field) (fs : List Field) (t : Bool) → f.id == id ≡ t → (value_of id fs ≡ Some bytes → IsAmong id bytes fs) → value_of id (f ∷ fs) ≡ Some bytes → IsAmong id bytes (f ∷ fs)
among_by id bytes f fs true e later h =
    let here : Some f.bytes ≡ Some bytes = rw e at h in
    record { field = f; there = contains_head f fs; numbered = grind (arith, nat_tests); has = same_Some f.bytes bytes here }
among_by id bytes f fs false e later h =
    let rest = later (rw e at h) in
    record { field = rest.field; there = contains_later f rest.field fs rest.there; numbered = rest.numbered; has = rest.has }

pub among : (id : ℕ) (bytes : List ℕ) (fs : List Field) → value_of id fs ≡ Some bytes → IsAmong id bytes fs
among id bytes [] h = absurd (cc)
among id bytes (f ∷ fs) h = among_by id bytes f fs (f.id == id) refl (among id bytes fs) h

-- The number has some bytes.
pub record HasBytes (id : ℕ) (fields : List Field) : Type 0 where
  pub bytes : List ℕ
  pub found : value_of id fields ≡ Some bytes

bytes_by : (f : Field) (fs : List Field) (x : Field) (t : Bool) → f.id == x.id ≡ t → (t ≡ false → HasBytes x.id fs) → HasBytes x.id (f ∷ fs)
bytes_by f fs x true e later = record { bytes = f.bytes; found = rw e refl }
bytes_by f fs x false e later = let rest = later refl in record { bytes = rest.bytes; found = rw e rest.found }

itself : (n : ℕ) → n == n ≡ true
itself n = grind (arith, nat_tests)

pub has_bytes : (fs : List Field) (x : Field) → Contains fs x → HasBytes x.id fs
has_bytes [] x h = absurd (omega (arith, h.1))
has_bytes (f ∷ fs) x (zero, lt, is) = bytes_by f fs x (f.id == x.id) refl (λ e. absurd (true≢false (sym (itself x.id) ∙ ap (λ (y : Field). y.id == x.id) (sym is) ∙ e)))
has_bytes (f ∷ fs) x (suc k, lt, is) = bytes_by f fs x (f.id == x.id) refl (λ e. has_bytes fs x (k, omega arith, is))

-- ---- where a value of the document comes from

-- A field among fields whose number has this name.
pub record Gives (pairs : Pairs) (name : List ℕ) (fields : List Field) : Type 0 where
  pub field : Field
  pub there : Contains fields field
  pub pair : List ℕ × Kind
  pub numbered : slice_get pairs field.id ≡ Some pair
  pub named : pair.0 ≡ name

pub gives_later : (pairs : Pairs) (name : List ℕ) (f : Field) (fs : List Field) → Gives pairs name fs → Gives pairs name (f ∷ fs)
gives_later pairs name f fs g = record { field = g.field; there = contains_later f g.field fs g.there; pair = g.pair; numbered = g.numbered; named = g.named }

module _ (puts : PutsAlone) (pairs : Pairs) where
  with_stored-some : (f : Field) (rest : Fields) (pair : List ℕ × Kind) → slice_get pairs f.id ≡ Some pair → with_stored pairs f rest ≡ with_field rest pair.0 (value_in pair.1 f.bytes)
  with_stored-some f rest pair e = ap (λ (o : Option (List ℕ × Kind)). option_map_or (λ (p : List ℕ × Kind). with_field rest p.0 (value_in p.1 f.bytes)) o rest) e

  with_stored-none : (f : Field) (rest : Fields) → slice_get pairs f.id ≡ None → with_stored pairs f rest ≡ rest
  with_stored-none f rest e = ap (λ (o : Option (List ℕ × Kind)). option_map_or (λ (p : List ℕ × Kind). with_field rest p.0 (value_in p.1 f.bytes)) o rest) e

  pub stored_here : (f : Field) (rest : Fields) (pair : List ℕ × Kind) (name : List ℕ) → slice_get pairs f.id ≡ Some pair → name ≡ pair.0 → value_at name (with_stored pairs f rest) ≡ Some (value_in pair.1 f.bytes)
  stored_here f rest pair name e same =
      ap (value_at name) (with_stored-some f rest pair e) ∙ ap (λ (n : List ℕ). value_at n (with_field rest pair.0 (value_in pair.1 f.bytes))) same ∙ (puts rest pair.0 (value_in pair.1 f.bytes)).0

  pub stored_other : (f : Field) (rest : Fields) (pair : List ℕ × Kind) (name : List ℕ) → slice_get pairs f.id ≡ Some pair → name ≢ pair.0 → value_at name (with_stored pairs f rest) ≡ value_at name rest
  stored_other f rest pair name e ne = ap (value_at name) (with_stored-some f rest pair e) ∙ (puts rest pair.0 (value_in pair.1 f.bytes)).1 name ne

  pub stored_none : (f : Field) (rest : Fields) (name : List ℕ) → slice_get pairs f.id ≡ None → value_at name (with_stored pairs f rest) ≡ value_at name rest
  stored_none f rest name e = ap (value_at name) (with_stored-none f rest e)

  module _ (name : List ℕ) (v : Value) where
    source_at : (f : Field) (fs : List Field) (pair : List ℕ × Kind) → slice_get pairs f.id ≡ Some pair → (name ≡ pair.0) ⊎ (name ≢ pair.0) → (value_at name (document_stored pairs fs) ≡ Some v → Gives pairs name fs)
        → value_at name (document_stored pairs (f ∷ fs)) ≡ Some v → Gives pairs name (f ∷ fs)
    source_at f fs pair e (inl same) later h = record { field = f; there = contains_head f fs; pair = pair; numbered = e; named = sym same }
    source_at f fs pair e (inr ne) later h = gives_later pairs name f fs (later (sym (stored_other f (document_stored pairs fs) pair name e ne) ∙ h))

    source_by : (f : Field) (fs : List Field) (o : Option (List ℕ × Kind)) → slice_get pairs f.id ≡ o → (value_at name (document_stored pairs fs) ≡ Some v → Gives pairs name fs)
        → value_at name (document_stored pairs (f ∷ fs)) ≡ Some v → Gives pairs name (f ∷ fs)
    source_by f fs None e later h = gives_later pairs name f fs (later (sym (stored_none f (document_stored pairs fs) name e) ∙ h))
    source_by f fs (Some pair) e later h = source_at f fs pair e (same_or_not name pair.0) later h

    pub source : (fs : List Field) → value_at name (document_stored pairs fs) ≡ Some v → Gives pairs name fs
    source [] h = absurd (cc)
    source (f ∷ fs) h = source_by f fs (slice_get pairs f.id) refl (source fs) h

-- ---- what is found under a name is what the document has there

-- what bytes are at a kind has that kind
pub kind_in : (of : Kind) (bytes : List ℕ) → kind_of (value_in of bytes) ≡ of
kind_in kind.Bool bytes = refl
kind_in kind.Int bytes = refl
kind_in kind.Text bytes = refl
kind_in kind.Array bytes = refl
kind_in kind.Object bytes = refl

kind_found : (of : Kind) (v : Value) (o : Option (List ℕ)) → option_map (value_in of) o ≡ Some v → kind_of v ≡ of
kind_found of v None h = absurd (none-some v h)
kind_found of v (Some bytes) h = ap kind_of (sym (same_Some (value_in of bytes) v h)) ∙ kind_in of bytes

-- what is found at a kind is of that kind
pub kind_under : (of : Kind) (v : Value) (o : Option AttrId) (fields : List Field) → value_of_kind of o fields ≡ Some v → kind_of v ≡ of
kind_under of v None fields h = absurd (none-some v h)
kind_under of v (Some id) fields h = kind_found of v (value_of id.0 fields) h

module _ (puts : PutsAlone) (attributes : List Attribute) (once : IsOnce attributes) (fs : List Field) (kept : IsKept (pairs_of attributes) fs) (name : List ℕ) where
  abbrev document : Fields
  document = document_stored (pairs_of attributes) fs

  held_at : (id : ℕ) (bytes : List ℕ) (a : Attribute) → slice_get attributes id ≡ Some a → value_of id fs ≡ Some bytes → IsStored document bytes (a.name, a.kind)
  held_at id bytes a at h =
      let x = among id bytes fs h in
      let held : IsHeld (pairs_of attributes) document x.field = All-contains (IsHeld (pairs_of attributes) document) fs x.field kept x.there in
      let numbered : slice_get (pairs_of attributes) x.field.id ≡ Some (a.name, a.kind) = ap (slice_get (pairs_of attributes)) x.numbered ∙ pair_at attributes id a at in
      let told = MatchOption-at_some ⊥ (IsStored document x.field.bytes) (a.name, a.kind) numbered held in
      subst (λ (b : List ℕ). IsStored document b (a.name, a.kind)) x.has told

  sound_at : (of : Kind) (id : AttrId) (v : Value) (o : Option (List ℕ)) → id_of name of attributes ≡ Some id → value_of id.0 fs ≡ o → option_map (value_in of) o ≡ Some v → value_at name document ≡ Some v
  sound_at of id v None e found h = absurd (none-some v h)
  sound_at of id v (Some bytes) e found h =
      let s = stands_for attributes name of id e in
      let told = held_at id.0 bytes s.attribute s.there found in
      ap (λ (n : List ℕ). value_at n document) s.named ∙ told.stands ∙ ap (λ (k : Kind). Some (value_in k bytes)) (sym s.kinded) ∙ h

  sound_by : (of : Kind) (v : Value) (o : Option AttrId) → id_of name of attributes ≡ o → value_of_kind of o fs ≡ Some v → value_at name document ≡ Some v
  sound_by of v None e h = absurd (none-some v h)
  sound_by of v (Some id) e h = sound_at of id v (value_of id.0 fs) e refl h

  pub sound : (of : Kind) (v : Value) → value_of_kind of (id_of name of attributes) fs ≡ Some v → value_at name document ≡ Some v
  sound of v h = sound_by of v (id_of name of attributes) refl h

  none_there : (of : Kind) (id : AttrId) → id_of name of attributes ≡ Some id → value_of_kind of (id_of name of attributes) fs ≡ None → HasBytes id.0 fs → ⊥
  none_there of id e none x =
      none-some (value_in of x.bytes) (sym none ∙ ap (λ (o : Option AttrId). value_of_kind of o fs) e ∙ ap (option_map (value_in of)) x.found)

  -- a value of the document stands under its kind
  there_at : (v : Value) (a : Attribute) (id : ℕ) (bytes : List ℕ) → value_at name document ≡ Some v → id_of name a.kind attributes ≡ Some (number id) → value_of id fs ≡ Some bytes → value_of_kind (kind_of v) (id_of name (kind_of v) attributes) fs ≡ Some v
  there_at v a id bytes at numbered found =
      let here : value_of_kind a.kind (id_of name a.kind attributes) fs ≡ Some (value_in a.kind bytes) = ap (λ (o : Option AttrId). value_of_kind a.kind o fs) numbered ∙ ap (option_map (value_in a.kind)) found in
      let same : v ≡ value_in a.kind bytes = same_Some v (value_in a.kind bytes) (sym at ∙ sound a.kind (value_in a.kind bytes) here) in
      let of : kind_of v ≡ a.kind = ap kind_of same ∙ kind_in a.kind bytes in
      ap (λ (k : Kind). value_of_kind k (id_of name k attributes) fs) of ∙ here ∙ ap (λ (w : Value). Some w) (sym same)

  pub there : (v : Value) → value_at name document ≡ Some v → value_of_kind (kind_of v) (id_of name (kind_of v) attributes) fs ≡ Some v
  there v at =
      let g = source puts (pairs_of attributes) name v fs at in
      let a = attribute_at attributes g.field.id g.pair g.numbered in
      let named : a.0.name ≡ name = ap (λ (p : List ℕ × Kind). p.0) a.2 ∙ g.named in
      let numbered : id_of name a.0.kind attributes ≡ Some (number g.field.id) = ap (λ (n : List ℕ). id_of n a.0.kind attributes) (sym named) ∙ once g.field.id a.0 a.1 in
      let b = has_bytes fs g.field g.there in
      there_at v a.0 g.field.id b.bytes at numbered b.found

  -- the kind under which a value stands
  complete : (v : Value) → value_at name document ≡ Some v → ((of : Kind) → value_of_kind of (id_of name of attributes) fs ≡ None) → ⊥
  complete v h none =
      let g = source puts (pairs_of attributes) name v fs h in
      let a = attribute_at attributes g.field.id g.pair g.numbered in
      let named : a.0.name ≡ name = ap (λ (p : List ℕ × Kind). p.0) a.2 ∙ g.named in
      let e : id_of name a.0.kind attributes ≡ Some (number g.field.id) = ap (λ (n : List ℕ). id_of n a.0.kind attributes) (sym named) ∙ once g.field.id a.0 a.1 in
      none_there a.0.kind (number g.field.id) e (none a.0.kind) (has_bytes fs g.field g.there)

  none_by : (t : Option Value) → value_at name document ≡ t → ((of : Kind) → value_of_kind of (id_of name of attributes) fs ≡ None) → t ≡ None
  none_by None e none = refl
  none_by (Some v) e none = absurd (complete v e none)

  of_all : (a b c d e : Option Value) (t : Option Value)
      → ((v : Value) → a ≡ Some v → t ≡ Some v) → ((v : Value) → b ≡ Some v → t ≡ Some v) → ((v : Value) → c ≡ Some v → t ≡ Some v) → ((v : Value) → d ≡ Some v → t ≡ Some v) → ((v : Value) → e ≡ Some v → t ≡ Some v)
      → (a ≡ None → b ≡ None → c ≡ None → d ≡ None → e ≡ None → t ≡ None) → option_or a (option_or b (option_or c (option_or d e))) ≡ t
  of_all (Some v) b c d e t p q r s u n = sym (p v refl)
  of_all None (Some v) c d e t p q r s u n = sym (q v refl)
  of_all None None (Some v) d e t p q r s u n = sym (r v refl)
  of_all None None None (Some v) e t p q r s u n = sym (s v refl)
  of_all None None None None (Some v) t p q r s u n = sym (u v refl)
  of_all None None None None None t p q r s u n = sym (n refl refl refl refl refl)

  abbrev one : Kind → Option Value
  one of = value_of_kind of (id_of name of attributes) fs

  each_none : one kind.Bool ≡ None → one kind.Int ≡ None → one kind.Text ≡ None → one kind.Array ≡ None → one kind.Object ≡ None → (of : Kind) → one of ≡ None
  each_none a b c d e kind.Bool = a
  each_none a b c d e kind.Int = b
  each_none a b c d e kind.Text = c
  each_none a b c d e kind.Array = d
  each_none a b c d e kind.Object = e

  pub found_under : value_under (kinds_of name attributes) fs ≡ value_at name document
  found_under =
      of_all (one kind.Bool) (one kind.Int) (one kind.Text) (one kind.Array) (one kind.Object) (value_at name document) (sound kind.Bool) (sound kind.Int) (sound kind.Text) (sound kind.Array) (sound kind.Object)
      (λ a b c d e. none_by (value_at name document) refl (each_none a b c d e))

  readable_at : (of : Kind) (id : AttrId) (o : Option (List ℕ)) → id_of name of attributes ≡ Some id → value_of id.0 fs ≡ o → IfSome o (AreReadable of)
  readable_at of id None e found = tt
  readable_at of id (Some bytes) e found =
      let s = stands_for attributes name of id e in
      subst (λ (k : Kind). AreReadable k bytes) (sym s.kinded) (held_at id.0 bytes s.attribute s.there found).readable

  readable_by : (of : Kind) (o : Option AttrId) → id_of name of attributes ≡ o → IsReadable of o fs
  readable_by of None e = tt
  readable_by of (Some id) e = readable_at of id (value_of id.0 fs) e refl

  pub can_be_read : CanBeRead (kinds_of name attributes) fs
  can_be_read = record {
    bools = readable_by kind.Bool (id_of name kind.Bool attributes) refl;
    ints = readable_by kind.Int (id_of name kind.Int attributes) refl;
    texts = readable_by kind.Text (id_of name kind.Text attributes) refl;
    arrays = readable_by kind.Array (id_of name kind.Array attributes) refl;
    objects = readable_by kind.Object (id_of name kind.Object attributes) refl;
  }
