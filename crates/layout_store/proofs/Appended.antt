-- A version that is appended with its record: what it holds counts once more, and its row shows its document from then on.
use Rattle.std.proofs.Common.{◌≡◌, ℕ, zero, suc, ◌+◌, ◌-◌, ◌<◌, ◌≤◌, ◌⊎◌, inl, inr, ◌&&◌, nat_lt, not, Bool, true, false, cond, List, [], ◌∷◌, ◌++◌, length, take, drop, Option, Some, None, IfSome, is_some, option_map, unwrap_or, slice_get, position, refl, sym, ap, subst, ◌∙◌, arith, length-append}
use Rattle.std.specs.Prelude.{All}
use Rattle.std.specs.Option.{option_map_or}
use Rattle.std.proofs.lemmas.Bool.Decides.{nat_tests}
use Rattle.std.proofs.lemmas.List.{length-map}
use Rattle.std.proofs.lemmas.List.Quantifiers.{position-Some}
use Rattle.std.proofs.lemmas.List.Elements.{All-contains}
use Rattle.std.proofs.lemmas.Option.{same_Some, slice_get_within}
use Rattle.doc_values.specs.Doc.{Fields, IsDocument}
use Rattle.doc_values.specs.declared.kind.Kind.{Kind}
use Rattle.doc_values.specs.declared.value.Value.{Value}
use Rattle.reservoir_record.specs.declared.fields.Field.{Field}
use Rattle.reservoir_record.specs.Finding.{value_of}
use Rattle.reservoir_record.specs.Spelling.{values}
use Rattle.attr_catalog.specs.Attribute.{Attribute}
use Rattle.attr_catalog.specs.declared.home.Home.{Home}
use Rattle.attr_catalog.specs.declared.home.Home.TheVariants as home
use Rattle.row_versions.specs.declared.version.Version.{Version}
use Rattle.row_versions.specs.declared.version_id.VersionId.{VersionId}
use Rattle.row_versions.specs.History.{begun, is_seen, version_at}
use Rattle.row_versions.specs.Shows.{ShowsFrom}
use Rattle.row_versions.proofs.Places.{get-map, get-last}
use Rattle.document_records.specs.Limits.{most_weight}
use Rattle.document_records.specs.StoredValue.{bytes_of}
use Rattle.document_records.specs.StoredDocument.{Pairs, pairs_of, document_stored, IsHeld, IsKept}
use Rattle.document_records.proofs.StoredFields.{among}
use Rattle.layout_store.specs.Storage.{Storage, record_at, either_side, in_record, in_cell, held}
use Rattle.layout_store.specs.Documents.{most_fields, fields_below, fields_of, is_endless, count_below, holders, counts_of, document_of, document_at, AreDocuments}
use Rattle.layout_store.specs.Placed.{IsAtHome, IsHome, ArePlaced, IsLayout}
use Rattle.layout_store.specs.Shows.{HasWritten}
use Rattle.layout_store.specs.Numbering.{with_fields, IsFresh, HasGrown, IsRecordOf}
use Rattle.layout_store.specs.Changes.{AreChanged, written_to, written_if, HasAppended}
use Rattle.layout_store.proofs.Attributes.{equal_or_not, changed-back, changed-alike, pairs-kept}
use Rattle.layout_store.proofs.Counted.{count-same, count-none, count-few}
use Rattle.layout_store.proofs.Fields.{fields-longer, whole}
use Rattle.layout_store.proofs.HeldNumbers.{held_below}
use Rattle.layout_store.proofs.Pairs.{Stays, stays}
use Rattle.layout_store.proofs.Stays.{document_stays, kept_stays, all_at}

-- ---- lists

push_other : {X : Type 0} (xs : List X) (x : X) (i : ℕ) → (i ≡ length xs → ⊥) → slice_get (xs ++ x ∷ []) i ≡ slice_get xs i
push_other [] x zero ne = absurd (ne refl)
push_other [] x (suc i) ne = refl
push_other (y ∷ xs) x zero ne = refl
push_other (y ∷ xs) x (suc i) ne = push_other xs x i (λ e. ne (ap suc e))

get_past : {X : Type 0} (xs : List X) (i : ℕ) → length xs ≤ i → slice_get xs i ≡ None
get_past [] i le = refl
get_past (x ∷ xs) zero le = absurd (omega arith)
get_past (x ∷ xs) (suc i) le = get_past xs i (omega arith)

get_counts : (list : List Attribute) (i : ℕ) (a : Attribute) → slice_get list i ≡ Some a → slice_get (counts_of list) i ≡ Some a.count
get_counts [] i a e = absurd (cc)
get_counts (b ∷ bs) zero a e = ap (λ (x : Attribute). Some x.count) (same_Some b a e)
get_counts (b ∷ bs) (suc i) a e = get_counts bs i a e

abbrev tail_of : List Attribute → List Attribute
tail_of [] = []
tail_of (x ∷ xs) = xs

-- an attribute of a grown list stood, or is list it begins
grown_back : (old new : List Attribute) → take (length old) new ≡ old → All IsFresh (drop (length old) new) → (i : ℕ) (g : Attribute) → slice_get new i ≡ Some g → (slice_get old i ≡ Some g) ⊎ ((length old ≤ i) × IsFresh g)
grown_back [] new front begun i g at = inr (omega arith, fresh_at new begun i g at)
  where
    fresh_at : (xs : List Attribute) → All IsFresh (drop 0 xs) → (i : ℕ) (g : Attribute) → slice_get xs i ≡ Some g → IsFresh g
    fresh_at [] h i g at = absurd (cc)
    fresh_at (x ∷ xs) h i g at = all_at IsFresh (x ∷ xs) i g h at
grown_back (x ∷ old) [] front begun i g at = absurd (cc)
grown_back (x ∷ old) (y ∷ new) front begun zero g at = inl (ap (λ (l : List Attribute). slice_get l zero) (sym front) ∙ at)
grown_back (x ∷ old) (y ∷ new) front begun (suc i) g at =
    elim (grown_back old new (ap tail_of front) begun i g at) [ inl e ↦ inl e | inr e ↦ inr (omega (arith, e.0), e.1) ]

-- ---- what an attribute becomes

written_to_pair : (to : Home) (n : ℕ) (a : Attribute) → let b : Attribute = written_to to n a in let p : List ℕ × Kind = (b.name, b.kind) in p ≡ (a.name, a.kind)
written_to_pair home.Reservoir n a = refl
written_to_pair home.Column n a = refl

written_pair : (n : ℕ) (t : Bool) (a : Attribute) → let b : Attribute = written_if n t a in let p : List ℕ × Kind = (b.name, b.kind) in p ≡ (a.name, a.kind)
written_pair n true a = written_to_pair a.home n a
written_pair n false a = refl

written_to_count : (to : Home) (n : ℕ) (a : Attribute) → (written_to to n a).count ≡ a.count + 1
written_to_count home.Reservoir n a = refl
written_to_count home.Column n a = refl

written_count : (n : ℕ) (t : Bool) (a : Attribute) → (written_if n t a).count ≡ cond t 1 0 + a.count
written_count n true a = omega (arith, written_to_count a.home n a)
written_count n false a = omega arith

-- The home stays; a mark stays within one version more; what is below it was so, but for the new version; and at that nothing stands that should not.
record Writes (n : ℕ) (t : Bool) (a : Attribute) : Type 0 where
  house : (written_if n t a).home ≡ a.home
  kind : (written_if n t a).kind ≡ a.kind
  mark : IfSome a.mark (λ c. c ≤ n) → IfSome (written_if n t a).mark (λ c. c ≤ suc n)
  low : (v : ℕ) → IfSome a.mark (λ c. c ≤ n) → v < unwrap_or (written_if n t a).mark (suc n) → (v ≡ n → ⊥) → v < unwrap_or a.mark n
  here : (o : Option (List ℕ)) → t ≡ is_some o → IfSome a.mark (λ c. c ≤ n) → n < unwrap_or (written_if n t a).mark (suc n) → IsAtHome a.home o None

none_by : (o : Option (List ℕ)) → false ≡ is_some o → o ≡ None
none_by None e = refl
none_by (Some b) e = absurd (cc)

plain_low : (n v : ℕ) (o : Option ℕ) → v < unwrap_or o (suc n) → (v ≡ n → ⊥) → v < unwrap_or o n
plain_low n v None lt ne = less_than n v lt ne
  where
    less_than : (n v : ℕ) → v < suc n → (v ≡ n → ⊥) → v < n
    less_than n v lt ne = by (nat_lt v n) refl
      where
        by : (t : Bool) → nat_lt v n ≡ t → v < n
        by true e = grind (arith, nat_tests)
        by false e = let ge : n ≤ v = grind (arith, nat_tests) in absurd (ne (omega arith))
plain_low n v (Some c) lt ne = lt

plain_mark : (n : ℕ) (o : Option ℕ) → IfSome o (λ c. c ≤ n) → IfSome o (λ c. c ≤ suc n)
plain_mark n None h = tt
plain_mark n (Some c) h = omega (arith, h)

home_none : (to : Home) (o : Option (List ℕ)) → o ≡ None → IsAtHome to o None
home_none home.Reservoir o e = refl
home_none home.Column o e = e

dirty_low : (n v : ℕ) (o : Option ℕ) → v < unwrap_or (Some (unwrap_or o n)) (suc n) → v < unwrap_or o n
dirty_low n v None lt = lt
dirty_low n v (Some c) lt = lt

dirty_mark : (n : ℕ) (o : Option ℕ) → IfSome o (λ c. c ≤ n) → unwrap_or o n ≤ suc n
dirty_mark n None h = omega arith
dirty_mark n (Some c) h = omega (arith, h)

dirty_here : (n : ℕ) (o : Option ℕ) → IfSome o (λ c. c ≤ n) → n < unwrap_or o n → ⊥
dirty_here n None h lt = absurd (omega arith)
dirty_here n (Some c) h lt = absurd (omega (arith, h))

writes_to : (to : Home) (n : ℕ) (a : Attribute) → a.home ≡ to → let b : Attribute = written_to to n a in
    (b.home ≡ a.home) × (b.kind ≡ a.kind) × (IfSome a.mark (λ c. c ≤ n) → IfSome b.mark (λ c. c ≤ suc n)) × ((v : ℕ) → IfSome a.mark (λ c. c ≤ n) → v < unwrap_or b.mark (suc n) → (v ≡ n → ⊥) → v < unwrap_or a.mark n)
    × ((o : Option (List ℕ)) → IfSome a.mark (λ c. c ≤ n) → n < unwrap_or b.mark (suc n) → IsAtHome a.home o None)
writes_to home.Reservoir n a e = (refl, refl, plain_mark n a.mark, (λ v h lt ne. plain_low n v a.mark lt ne), λ o h lt. subst (λ (t : Home). IsAtHome t o None) (sym e) refl)
writes_to home.Column n a e = (refl, refl, dirty_mark n a.mark, (λ v h lt ne. dirty_low n v a.mark lt), λ o h lt. absurd (dirty_here n a.mark h lt))

writes : (n : ℕ) (t : Bool) (a : Attribute) → Writes n t a
writes n true a = let w = writes_to a.home n a refl in record { house = w.0; kind = w.1; mark = w.2; low = w.3; here = λ o e h lt. w.4 o h lt }
writes n false a = record { house = refl; kind = refl; mark = plain_mark n a.mark; low = λ v h lt ne. plain_low n v a.mark lt ne; here = λ o e h lt. home_none a.home o (none_by o e) }

-- ---- before anything is counted

none_past_all : (s : Storage) → IsLayout s → (v id : ℕ) → length (pairs_of s.attributes) ≤ id → held s v id ≡ None
none_past_all s h v id le = by (held s v id) refl
  where
    by : (o : Option (List ℕ)) → held s v id ≡ o → o ≡ None
    by None e = refl
    by (Some b) e = let k = h.documents.known v id b e in absurd (omega (arith, k.1))

and_none : (b : Bool) (o : Option (List ℕ)) → o ≡ None → b && is_some o ≡ false
and_none true o e = ap is_some e
and_none false o e = refl

count_before : (s : Storage) (h : IsLayout s) (grown : List Attribute) (g : HasGrown s.attributes grown) (id : ℕ) (a : Attribute) → slice_get grown id ≡ Some a → a.count ≡ holders s.history.versions (held s) id
count_before s h grown g id a at = by (grown_back s.attributes grown g.front g.begun id a at)
  where
    by : (slice_get s.attributes id ≡ Some a) ⊎ ((length s.attributes ≤ id) × IsFresh a) → a.count ≡ holders s.history.versions (held s) id
    by (inl e) = h.documents.counted id a.count (get_counts s.attributes id a e)
    by (inr e) =
        ap (λ (x : Attribute). x.count) e.1
        ∙ sym (count-none (λ v. is_endless s.history.versions v && is_some (held s v id)) (length s.history.versions)
        (λ v lt. and_none (is_endless s.history.versions v) (held s v id) (none_past_all s h v id (omega (arith, length-map s.attributes (λ (x : Attribute). let pair : List ℕ × Kind = (x.name, x.kind) in pair), e.0)))))

-- there is room for one document more
pub append-room : (s : Storage) (h : IsLayout s) (grown : List Attribute) (g : HasGrown s.attributes grown) → length s.history.versions < 2097152 → (id : ℕ) (a : Attribute) → slice_get grown id ≡ Some a → a.count < 2097152
append-room s h grown g small id a at = omega (arith, count_before s h grown g id a at, count-few (λ v. is_endless s.history.versions v && is_some (held s v id)) (length s.history.versions), small)

-- the fields of a record of a document have attributes
pub append-known : (grown : List Attribute) (document : Fields) (fields : List Field) → IsRecordOf (pairs_of grown) document fields → (id : ℕ) (bytes : List ℕ) → value_of id fields ≡ Some bytes → id < length grown
append-known grown document fields r id bytes e =
    let x = among id bytes fields e in
    let is : IsHeld (pairs_of grown) (document_stored (pairs_of grown) fields) x.field = All-contains (IsHeld (pairs_of grown) (document_stored (pairs_of grown) fields)) fields x.field r.kept x.there in
    let lt = held_below (pairs_of grown) (document_stored (pairs_of grown) fields) x.field is in
    let long = length-map grown (λ (a : Attribute). let pair : List ℕ × Kind = (a.name, a.kind) in pair) in
    omega (arith, lt, x.numbered, long)

-- ---- all of it

module _ (s : Storage) (h : IsLayout s) (grown : List Attribute) (g : HasGrown s.attributes grown) (document : Fields) (fields : List Field) (r : IsRecordOf (pairs_of grown) document fields)
    (is_document : IsDocument document) (few : length document ≤ most_fields) (row commit : ℕ) (bs : List Attribute)
    (ch : AreChanged (λ id. written_if (length s.history.versions) (is_some (value_of id fields))) grown bs) where
  abbrev n : ℕ
  n = length s.history.versions

  abbrev versions : List Version
  versions = s.history.versions ++ begun row commit ∷ []

  abbrev pub after : Storage
  after = record { attributes = bs; history = record { versions = versions; horizon = s.history.horizon }; records = s.records ++ fields ∷ []; cells = s.cells }

  abbrev old : Pairs
  old = pairs_of s.attributes

  pairs_same : pairs_of bs ≡ pairs_of grown
  pairs_same = pairs-kept (λ id. written_if n (is_some (value_of id fields))) grown bs ch (λ i a. written_pair n (is_some (value_of i fields)) a)

  long_old : length old ≡ length s.attributes
  long_old = length-map s.attributes (λ (a : Attribute). let pair : List ℕ × Kind = (a.name, a.kind) in pair)

  long_new : length (pairs_of grown) ≡ length grown
  long_new = length-map grown (λ (a : Attribute). let pair : List ℕ × Kind = (a.name, a.kind) in pair)

  longer : length old ≤ length (pairs_of grown)
  longer = omega (arith, long_old, long_new, g.longer)

  -- ---- what is held

  record_other : (v : ℕ) → (v ≡ n → ⊥) → record_at v (s.records ++ fields ∷ []) ≡ record_at v s.records
  record_other v ne = ap (λ (o : Option (List Field)). unwrap_or o []) (push_other s.records fields v (λ e. ne (e ∙ h.placed.recorded)))

  record_new : record_at n (s.records ++ fields ∷ []) ≡ fields
  record_new = ap (λ (k : ℕ). record_at k (s.records ++ fields ∷ [])) (sym h.placed.recorded) ∙ ap (λ (o : Option (List Field)). unwrap_or o []) (get-last s.records fields)

  held_other : (v : ℕ) → (v ≡ n → ⊥) → held after v ≡ held s v
  held_other v ne = λ k id. either_side (value_of id (record_other v ne k)) (in_cell s v id)

  no_cell_by : (id : ℕ) (o : Option Value) → in_cell s n id ≡ o → o ≡ None
  no_cell_by id None e = refl
  no_cell_by id (Some value) e =
      let none : in_record s n id ≡ None = ap (λ (o : Option (List Field)). value_of id (unwrap_or o [])) (get_past s.records n (omega (arith, h.placed.recorded))) in
      let is : held s n id ≡ Some (bytes_of value) = λ k. either_side (none k) (e k) in
      let k = h.documents.known n id (bytes_of value) is in
      absurd (omega (arith, k.0))

  no_cell : (id : ℕ) → in_cell s n id ≡ None
  no_cell id = no_cell_by id (in_cell s n id) refl

  none_more : (o : Option (List ℕ)) → either_side o None ≡ o
  none_more None = refl
  none_more (Some b) = refl

  in_new : (id : ℕ) → in_record after n id ≡ value_of id fields
  in_new id = ap (value_of id) record_new

  held_new : held after n ≡ (λ id. value_of id fields)
  held_new = λ k id. ((λ j. either_side (in_new id j) (no_cell id j)) ∙ none_more (value_of id fields)) k

  known_new : (id : ℕ) (bytes : List ℕ) → value_of id fields ≡ Some bytes → id < length (pairs_of grown)
  known_new id bytes e =
      let x = among id bytes fields e in
      let is : IsHeld (pairs_of grown) (document_stored (pairs_of grown) fields) x.field = All-contains (IsHeld (pairs_of grown) (document_stored (pairs_of grown) fields)) fields x.field r.kept x.there in
      let lt = held_below (pairs_of grown) (document_stored (pairs_of grown) fields) x.field is in
      subst (λ (k : ℕ). k < length (pairs_of grown)) x.numbered lt

  fields_new : fields_of (pairs_of grown) (held after n) ≡ fields
  fields_new = ap (fields_of (pairs_of grown)) held_new ∙ whole fields (length (pairs_of grown)) r.lawful.ascend known_new

  none_past : (v id : ℕ) → length old ≤ id → held s v id ≡ None
  none_past v id le = none_past_all s h v id le

  fields_other : (v : ℕ) → (v ≡ n → ⊥) → fields_of (pairs_of grown) (held after v) ≡ fields_of old (held s v)
  fields_other v ne =
      let sum : length (pairs_of grown) ≡ length old + (length (pairs_of grown) - length old) = omega (arith, longer) in
      ap (fields_of (pairs_of grown)) (held_other v ne) ∙ ap (fields_below (held s v)) sum ∙ fields-longer (held s v) (length old) (length (pairs_of grown) - length old) (λ id le. none_past v id le)

  stay : Stays old (pairs_of grown)
  stay = stays s.attributes grown g

  document_other : (v : ℕ) → (v ≡ n → ⊥) → document_of (pairs_of grown) (held after v) ≡ document_of old (held s v)
  document_other v ne = ap (document_stored (pairs_of grown)) (fields_other v ne) ∙ document_stays old (pairs_of grown) stay (fields_of old (held s v)) (h.documents.kept v)

  document_new : document_of (pairs_of grown) (held after n) ≡ document
  document_new = ap (document_stored (pairs_of grown)) fields_new ∙ r.stands

  either : (P : ℕ → Type 0) → P n → ((v : ℕ) → (v ≡ n → ⊥) → P v) → (v : ℕ) → P v
  either P here other v = equal_or_not v n (P v) (λ e. subst P (sym e) here) (λ ne. other v ne)

  -- ---- counts

  was_count : (id : ℕ) (a : Attribute) → slice_get grown id ≡ Some a → a.count ≡ holders s.history.versions (held s) id
  was_count id a at = count_before s h grown g id a at

  long : length versions ≡ suc n
  long = omega (arith, length-append s.history.versions (begun row commit ∷ []))

  endless_other : (v : ℕ) → (v ≡ n → ⊥) → is_endless versions v ≡ is_endless s.history.versions v
  endless_other v ne = ap (λ (o : Option Version). option_map_or (λ (x : Version). not (is_some x.end)) o false) (push_other s.history.versions (begun row commit) v ne)

  endless_new : is_endless versions n ≡ true
  endless_new = ap (λ (o : Option Version). option_map_or (λ (x : Version). not (is_some x.end)) o false) (get-last s.history.versions (begun row commit))

  holders_now : (id : ℕ) → holders versions (held after) id ≡ cond (is_some (value_of id fields)) 1 0 + holders s.history.versions (held s) id
  holders_now id =
      let test : is_endless versions n && is_some (held after n id) ≡ is_some (value_of id fields) = (λ k. endless_new k && is_some (held_new k id)) in
      let rest = count-same (λ v. is_endless s.history.versions v && is_some (held s v id)) (λ v. is_endless versions v && is_some (held after v id)) n
      (λ v lt. let ne : v ≡ n → ⊥ = λ e. absurd (omega arith) in λ k. endless_other v ne k && is_some (held_other v ne k id)) in
      ap (count_below (λ v. is_endless versions v && is_some (held after v id))) long ∙ (λ k. cond (test k) 1 0 + rest k)

  documents : AreDocuments (pairs_of bs) (counts_of bs) after.history (held after)
  documents = subst (λ (ps : Pairs). AreDocuments ps (counts_of bs) after.history (held after)) (sym pairs_same) (record {
    known = either (λ v. (id : ℕ) (bytes : List ℕ) → held after v id ≡ Some bytes → (v < length versions) × (id < length (pairs_of grown)))
        (λ id bytes e. (omega (arith, long), known_new id bytes (sym (λ k. held_new k id) ∙ e)))
        (λ v ne id bytes e. let k = h.documents.known v id bytes (sym (λ j. held_other v ne j id) ∙ e) in (omega (arith, long, k.0), omega (arith, longer, k.1)));
    kept = either (λ v. IsKept (pairs_of grown) (fields_of (pairs_of grown) (held after v)))
        (subst (IsKept (pairs_of grown)) (sym fields_new) r.kept)
        (λ v ne. subst (IsKept (pairs_of grown)) (sym (fields_other v ne)) (kept_stays old (pairs_of grown) stay (fields_of old (held s v)) (h.documents.kept v)));
    documents = either (λ v. IsDocument (document_of (pairs_of grown) (held after v))) (subst IsDocument (sym document_new) is_document) (λ v ne. subst IsDocument (sym (document_other v ne)) (h.documents.documents v));
    few = either (λ v. length (fields_of (pairs_of grown) (held after v)) ≤ most_fields) (subst (λ (fs : List Field). length fs ≤ most_fields) (sym fields_new) (omega (arith, r.many, few)))
        (λ v ne. subst (λ (fs : List Field). length fs ≤ most_fields) (sym (fields_other v ne)) (h.documents.few v));
    light = either (λ v. length (values (fields_of (pairs_of grown) (held after v))) ≤ most_weight) (subst (λ (fs : List Field). length (values fs) ≤ most_weight) (sym fields_new) r.light)
        (λ v ne. subst (λ (fs : List Field). length (values fs) ≤ most_weight) (sym (fields_other v ne)) (h.documents.light v));
    emptied = either (λ v. (x : Version) → slice_get versions v ≡ Some x → x.emptied ≡ true → (id : ℕ) → held after v id ≡ None)
        (λ x at empty id. let is : begun row commit ≡ x = same_Some (begun row commit) x (sym (get-last s.history.versions (begun row commit)) ∙ at) in absurd (let both : false ≡ true = ap (λ (y : Version). y.emptied) is ∙ empty in cc))
        (λ v ne x at empty id. (λ k. held_other v ne k id) ∙ h.documents.emptied v x (sym (push_other s.history.versions (begun row commit) v ne) ∙ at) empty id);
    counted = λ id count at.
        let b = get-map (λ (x : Attribute). x.count) bs id count at in
        let a = changed-back (λ i. written_if n (is_some (value_of i fields))) grown bs ch id b.0 b.1 in
        b.2 ∙ ap (λ (x : Attribute). x.count) a.2 ∙ written_count n (is_some (value_of id fields)) a.0 ∙ ap (λ (k : ℕ). cond (is_some (value_of id fields)) 1 0 + k) (was_count id a.0 a.1) ∙ sym (holders_now id);
  })

  -- ---- sides

  side_other : (v id : ℕ) → (v ≡ n → ⊥) → in_record after v id ≡ in_record s v id
  side_other v id ne = ap (value_of id) (record_other v ne)

  home_other : (v id : ℕ) (a : Attribute) → (v ≡ n → ⊥) → (slice_get s.attributes id ≡ Some a) ⊎ ((length s.attributes ≤ id) × IsFresh a)
      → (IfSome a.mark (λ c. c ≤ n) → v < unwrap_or a.mark n) → IsHome a.home s v id
  home_other v id a ne (inl at) lt = h.placed.home v id a at (lt (h.placed.marks id a at))
  home_other v id a ne (inr e) lt =
      subst (λ (x : Attribute). IsHome x.home s v id) (sym e.1) (cell_none (in_cell s v id) refl)
    where
      cell_none : (o : Option Value) → in_cell s v id ≡ o → o ≡ None
      cell_none None f = refl
      cell_none (Some value) f =
          let c = h.placed.celled v id value f in
          absurd (omega (arith, slice_get_within s.attributes id c.attribute c.there, e.0))

  mark_was : (id : ℕ) (a : Attribute) → (slice_get s.attributes id ≡ Some a) ⊎ ((length s.attributes ≤ id) × IsFresh a) → IfSome a.mark (λ c. c ≤ n)
  mark_was id a (inl at) = h.placed.marks id a at
  mark_was id a (inr e) = subst (λ (x : Attribute). IfSome x.mark (λ c. c ≤ n)) (sym e.1) tt

  placed : ArePlaced after
  placed = record {
    recorded = omega (arith, length-append s.records (fields ∷ []), long, h.placed.recorded);
    apart = either (λ v. (id : ℕ) (bytes : List ℕ) → in_record after v id ≡ Some bytes → in_cell after v id ≡ None) (λ id bytes e. no_cell id) (λ v ne id bytes e. h.placed.apart v id bytes (sym (side_other v id ne) ∙ e));
    home = λ v id b at lt.
        let a = changed-back (λ i. written_if n (is_some (value_of i fields))) grown bs ch id b at in
        let back = grown_back s.attributes grown g.front g.begun id a.0 a.1 in
        let w = writes n (is_some (value_of id fields)) a.0 in
        let below : v < unwrap_or (written_if n (is_some (value_of id fields)) a.0).mark (suc n) = subst (λ (x : Attribute). v < unwrap_or x.mark (suc n)) a.2 (subst (λ (k : ℕ). v < unwrap_or b.mark k) long lt) in
        let housing : b.home ≡ a.0.home = ap (λ (x : Attribute). x.home) a.2 ∙ w.house in
        subst (λ (t : Home). IsHome t after v id) (sym housing)
        (equal_or_not v n (IsHome a.0.home after v id)
        (λ e.
        let at_n : IsAtHome a.0.home (value_of id fields) None = w.here (value_of id fields) refl (mark_was id a.0 back) (subst (λ (k : ℕ). k < unwrap_or (written_if n (is_some (value_of id fields)) a.0).mark (suc n)) e below) in
        subst (λ (k : ℕ). IsHome a.0.home after k id) (sym e)
        (subst (λ (c : Option Value). IsAtHome a.0.home (in_record after n id) c) (sym (no_cell id)) (subst (λ (x : Option (List ℕ)). IsAtHome a.0.home x None) (sym (in_new id)) at_n)))
        (λ ne. subst (λ (x : Option (List ℕ)). IsAtHome a.0.home x (in_cell s v id)) (sym (side_other v id ne)) (home_other v id a.0 ne back (λ m. w.low v m below ne))));
    marks = λ id b at.
        let a = changed-back (λ i. written_if n (is_some (value_of i fields))) grown bs ch id b at in
        let back = grown_back s.attributes grown g.front g.begun id a.0 a.1 in
        let w = writes n (is_some (value_of id fields)) a.0 in
        subst (λ (k : ℕ). IfSome b.mark (λ c. c ≤ k)) (sym long) (subst (λ (x : Attribute). IfSome x.mark (λ c. c ≤ suc n)) (sym a.2) (w.mark (mark_was id a.0 back)));
    celled = λ v id value e.
        let c = h.placed.celled v id value e in
        let there : slice_get grown id ≡ Some c.attribute = front_get s.attributes grown g.front id c.attribute c.there in
        record {
          storable = c.storable;
          attribute = written_if n (is_some (value_of id fields)) c.attribute;
          there = ch.each id c.attribute there;
          alike = c.alike ∙ sym (writes n (is_some (value_of id fields)) c.attribute).kind;
        };
  }
    where
      front_get : (old new : List Attribute) → take (length old) new ≡ old → (i : ℕ) (a : Attribute) → slice_get old i ≡ Some a → slice_get new i ≡ Some a
      front_get [] new e i a at = absurd (cc)
      front_get (x ∷ old) [] e i a at = absurd (cc)
      front_get (x ∷ old) (y ∷ new) e zero a at = ap (λ (l : List Attribute). slice_get l zero) e ∙ at
      front_get (x ∷ old) (y ∷ new) e (suc i) a at = front_get old new (ap tail_of e) i a at

  pub appended-layout : IsLayout after
  appended-layout = record { placed = placed; documents = documents }

  pub appended-document : document_at after n ≡ document
  appended-document = ap (λ (ps : Pairs). document_of ps (held after n)) pairs_same ∙ document_new

  pub appended-has : pairs_of grown ≡ with_fields (pairs_of s.attributes) document → HasAppended row commit document s after
  appended-has pairs = record {
    fields = fields;
    grown = grown;
    longer = g;
    pairs = pairs;
    stands = refl;
    history = refl;
    cells = refl;
    attributes = changed-alike (λ id. written_if n (is_some (value_of id fields))) (λ id. written_if n (is_some (in_record after n id))) grown bs ch (λ id a e. ap (λ (o : Option (List ℕ)). written_if n (is_some o) a) (sym (in_new id)));
    whole = appended-document;
  }

  document_kept : (v : ℕ) → (v ≡ n → ⊥) → document_at after v ≡ document_at s v
  document_kept v ne = ap (λ (ps : Pairs). document_of ps (held after v)) pairs_same ∙ document_other v ne

  -- what is visible of the old versions is among them
  shown_by : (o : Option ℕ) → IfSome o (λ k. k < n) → option_map (λ (version : VersionId). document_at after version.0) (option_map version_at o) ≡ option_map (λ (version : VersionId). document_at s version.0) (option_map version_at o)
  shown_by None lt = refl
  shown_by (Some k) lt = ap (λ (d : Fields). Some d) (document_kept k (λ e. absurd (omega (arith, lt))))

  position_within : (p : Version → Bool) (xs : List Version) → IfSome (position p xs) (λ k. k < length xs)
  position_within p xs = by (position p xs) refl
    where
      by : (o : Option ℕ) → position p xs ≡ o → IfSome o (λ k. k < length xs)
      by None e = tt
      by (Some k) e = (position-Some p xs k (begun 0 0) e).0

  pub appended-shows : ShowsFrom commit row (Some (version_at n)) s.history.versions versions → HasWritten commit row (Some document) s after
  appended-shows from = record {
    earlier = λ k q less. ap (option_map (λ (version : VersionId). document_at after version.0)) (from.earlier k q less) ∙ shown_by (position (is_seen q k) s.history.versions) (position_within (is_seen q k) s.history.versions);
    elsewhere = λ k q ne. ap (option_map (λ (version : VersionId). document_at after version.0)) (from.elsewhere k q ne) ∙ shown_by (position (is_seen q k) s.history.versions) (position_within (is_seen q k) s.history.versions);
    here = λ k le. ap (option_map (λ (version : VersionId). document_at after version.0)) (from.here k le) ∙ ap (λ (d : Fields). Some d) appended-document;
  }
