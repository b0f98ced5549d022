-- A version that ends: what it holds counts once less, and its row shows nothing from then on.
use Rattle.std.proofs.Common.{◌≡◌, ◌⊎◌, inl, inr, ℕ, zero, suc, ◌+◌, ◌<◌, ◌≤◌, ◌&&◌, Bool, true, false, cond, List, [], ◌∷◌, length, set, Option, Some, None, IfSome, is_some, option_map, slice_get, refl, sym, ap, subst, ◌∙◌, arith, length-set}
use Rattle.std.proofs.lemmas.List.{length-map}
use Rattle.std.proofs.lemmas.Option.{same_Some, slice_get_within}
use Rattle.doc_values.specs.declared.kind.Kind.{Kind}
use Rattle.reservoir_record.specs.declared.fields.Field.{Field}
use Rattle.reservoir_record.specs.Finding.{value_of}
use Rattle.attr_catalog.specs.Attribute.{Attribute}
use Rattle.phys_columns.specs.Cells.{cell_at}
use Rattle.row_versions.specs.declared.version.Version.{Version}
use Rattle.row_versions.specs.History.{History, visible, ended}
use Rattle.row_versions.specs.History as history
use Rattle.row_versions.specs.Shows.{ShowsFrom}
use Rattle.row_versions.proofs.Places.{get-map, get-set}
use Rattle.document_records.specs.StoredDocument.{Pairs, pairs_of}
use Rattle.layout_store.specs.Storage.{Storage, record_at, either_side, in_cell, held}
use Rattle.layout_store.specs.Documents.{is_endless, count_below, holders, counts_of, document_of, AreDocuments}
use Rattle.layout_store.specs.Placed.{clean_below, ArePlaced, IsLayout}
use Rattle.layout_store.specs.Shows.{HasWritten}
use Rattle.layout_store.specs.Changes.{AreChanged, lowered_if}
use Rattle.layout_store.proofs.Attributes.{equal_or_not, changed-back, changed-alike, pairs-kept}
use Rattle.layout_store.proofs.Counted.{count-same, count-one, count-some, versions-set, endless-there, endless-gone, endless-other}
use Rattle.layout_store.proofs.Sides.{StaysAtHome, stays-itself, placed-changed, record-there}

-- the sides know of versions only how many there are
pub placed-versions : (s : Storage) (h : History) → length h.versions ≡ length s.history.versions → ArePlaced s → ArePlaced (record { attributes = s.attributes; history = h; records = s.records; cells = s.cells })
placed-versions s h same p = record {
  recorded = p.recorded ∙ sym same;
  apart = p.apart;
  home = λ v i a at lt. p.home v i a at (subst (λ (n : ℕ). v < clean_of n a) same lt);
  marks = λ i a at. subst (λ (n : ℕ). IfSome a.mark (λ c. c ≤ n)) (sym same) (p.marks i a at);
  celled = p.celled;
}
  where
    clean_of : ℕ → Attribute → ℕ
    clean_of n a = clean_below n a

lower_pair : (t : Bool) (a : Attribute) → let b : Attribute = lowered_if t a in let p : List ℕ × Kind = (b.name, b.kind) in p ≡ (a.name, a.kind)
lower_pair true a = refl
lower_pair false a = refl

lower_stays : (s : Storage) (i : ℕ) (a : Attribute) (t : Bool) → StaysAtHome s i a a → StaysAtHome s i a (lowered_if t a)
lower_stays s i a true h = record { kind = h.kind; home = h.home; mark = h.mark }
lower_stays s i a false h = h

and_false : (a : Bool) → a && false ≡ false
and_false true = refl
and_false false = refl

module _ (s : Storage) (h : IsLayout s) (version commit : ℕ) (v : Version) (at : slice_get s.history.versions version ≡ Some v) (endless : v.end ≡ None) where
  lt : version < length s.history.versions
  lt = slice_get_within s.history.versions version v at

  -- what it holds was counted
  pub counted-one : (id : ℕ) (a : Attribute) → slice_get s.attributes id ≡ Some a → is_some (held s version id) ≡ true → 0 < a.count
  counted-one id a there holds =
      let count : a.count ≡ holders s.history.versions (held s) id = h.documents.counted id a.count (get_mapped s.attributes id a there) in
      let test : is_endless s.history.versions version && is_some (held s version id) ≡ true = ap (λ (b : Bool). b && is_some (held s version id)) (endless-there s.history.versions version v at endless) ∙ holds in
      let some = count-some (λ w. is_endless s.history.versions w && is_some (held s w id)) (length s.history.versions) version lt test in
      omega (arith, count, some)
    where
      get_mapped : (list : List Attribute) (i : ℕ) (a : Attribute) → slice_get list i ≡ Some a → slice_get (counts_of list) i ≡ Some a.count
      get_mapped [] i a e = absurd (cc)
      get_mapped (b ∷ bs) zero a e = ap (λ (x : Attribute). Some x.count) (same_Some b a e)
      get_mapped (b ∷ bs) (suc i) a e = get_mapped bs i a e

  -- ---- of the record that is read

  module _ (fields : List Field) (there : slice_get s.records version ≡ Some fields) where
    record_is : record_at version s.records ≡ fields
    record_is = record-there s.records version fields there

    pub lower-known : (id : ℕ) (bytes : List ℕ) → value_of id fields ≡ Some bytes → id < length s.attributes
    lower-known id bytes e =
        let is : held s version id ≡ Some bytes = (λ k. either_side ((ap (value_of id) record_is ∙ e) k) (in_cell s version id)) in
        omega (arith, (h.documents.known version id bytes is).1, length-map s.attributes (λ (a : Attribute). let pair : List ℕ × Kind = (a.name, a.kind) in pair))

    pub lower-apart : (id : ℕ) (bytes : List ℕ) → value_of id fields ≡ Some bytes → cell_at id version s.cells ≡ None
    lower-apart id bytes e = h.placed.apart version id bytes (ap (value_of id) record_is ∙ e)

    side_is : (id : ℕ) → held s version id ≡ either_side (value_of id fields) (cell_at id version s.cells)
    side_is id = λ k. either_side (value_of id (record_is k)) (cell_at id version s.cells)

    pub lower-counted : (id : ℕ) (a : Attribute) → slice_get s.attributes id ≡ Some a → is_some (either_side (value_of id fields) (cell_at id version s.cells)) ≡ true → 0 < a.count
    lower-counted id a at_id holds = counted-one id a at_id (ap is_some (side_is id) ∙ holds)

    pub lowers-held : (bs : List Attribute) → AreChanged (λ id. lowered_if (is_some (either_side (value_of id fields) (cell_at id version s.cells)))) s.attributes bs → AreChanged (λ id. lowered_if (is_some (held s version id))) s.attributes bs
    lowers-held bs ch = changed-alike (λ id. lowered_if (is_some (either_side (value_of id fields) (cell_at id version s.cells)))) (λ id. lowered_if (is_some (held s version id))) s.attributes bs ch (λ id a e. ap (λ (o : Option (List ℕ)). lowered_if (is_some o) a) (sym (side_is id)))

  module _ (bs : List Attribute) (lowers : AreChanged (λ id. lowered_if (is_some (held s version id))) s.attributes bs) where
    abbrev pub after : Storage
    after = record { attributes = bs; history = record { versions = history.changed (ended commit) version s.history.versions; horizon = s.history.horizon }; records = s.records; cells = s.cells }

    is_set : history.changed (ended commit) version s.history.versions ≡ set s.history.versions version (ended commit v)
    is_set = versions-set (ended commit) version s.history.versions v at

    many : length (history.changed (ended commit) version s.history.versions) ≡ length s.history.versions
    many = ap length is_set ∙ length-set s.history.versions version (ended commit v)

    pairs_same : pairs_of bs ≡ pairs_of s.attributes
    pairs_same = pairs-kept (λ id. lowered_if (is_some (held s version id))) s.attributes bs lowers (λ i a. lower_pair (is_some (held s version i)) a)

    holders_by : (id : ℕ) (t : Bool) → is_some (held s version id) ≡ t → holders s.history.versions (held s) id ≡ holders (set s.history.versions version (ended commit v)) (held s) id + cond t 1 0
    holders_by id true e =
        let versions = s.history.versions in
        let now = set versions version (ended commit v) in
        let sure : is_endless versions version && is_some (held s version id) ≡ true = ap (λ (b : Bool). b && is_some (held s version id)) (endless-there versions version v at endless) ∙ e in
        let gone : is_endless now version && is_some (held s version id) ≡ false = ap (λ (b : Bool). b && is_some (held s version id)) (endless-gone versions version commit v at) in
        count-one (λ w. is_endless versions w && is_some (held s w id)) (λ w. is_endless now w && is_some (held s w id)) (length versions) version lt sure gone (λ w ne. ap (λ (b : Bool). b && is_some (held s w id)) (endless-other versions version (ended commit v) w ne))
        ∙ ap (λ (n : ℕ). count_of now n id + 1) (sym (length-set versions version (ended commit v)))
      where
        count_of : List Version → ℕ → ℕ → ℕ
        count_of now n id = count_below (λ w. is_endless now w && is_some (held s w id)) n
    holders_by id false e =
        let versions = s.history.versions in
        let now = set versions version (ended commit v) in
        let same : (w : ℕ) → is_endless now w && is_some (held s w id) ≡ is_endless versions w && is_some (held s w id) = λ w. same_at w in
        let counts = count-same (λ w. is_endless versions w && is_some (held s w id)) (λ w. is_endless now w && is_some (held s w id)) (length versions) (λ w less. same w) in
        let lengths : holders now (held s) id ≡ count_below (λ w. is_endless now w && is_some (held s w id)) (length versions) = ap (λ (n : ℕ). count_below (λ w. is_endless now w && is_some (held s w id)) n) (length-set versions version (ended commit v)) in
        omega (arith, counts, lengths)
      where
        same_at : (w : ℕ) → is_endless (set s.history.versions version (ended commit v)) w && is_some (held s w id) ≡ is_endless s.history.versions w && is_some (held s w id)
        same_at w = equal_or_not w version (is_endless (set s.history.versions version (ended commit v)) w && is_some (held s w id) ≡ is_endless s.history.versions w && is_some (held s w id))
            (λ f.
            let none : is_some (held s w id) ≡ false = ap (λ (x : ℕ). is_some (held s x id)) f ∙ e in
            ap (λ (b : Bool). is_endless (set s.history.versions version (ended commit v)) w && b) none ∙ and_false (is_endless (set s.history.versions version (ended commit v)) w)
            ∙ sym (ap (λ (b : Bool). is_endless s.history.versions w && b) none ∙ and_false (is_endless s.history.versions w)))
            (λ ne. ap (λ (b : Bool). b && is_some (held s w id)) (endless-other s.history.versions version (ended commit v) w ne))

    lowered_count : (t : Bool) (a : Attribute) (n m : ℕ) → a.count ≡ n → n ≡ m + cond t 1 0 → (lowered_if t a).count ≡ m
    lowered_count true a n m e f = omega (arith, e, f)
    lowered_count false a n m e f = omega (arith, e, f)

    documents : AreDocuments (pairs_of bs) (counts_of bs) after.history (held s)
    documents = subst (λ (ps : Pairs). AreDocuments ps (counts_of bs) after.history (held s)) (sym pairs_same) (record {
      known = λ w id bytes e. let k = h.documents.known w id bytes e in (omega (arith, k.0, many), k.1);
      kept = h.documents.kept;
      documents = h.documents.documents;
      few = h.documents.few;
      light = h.documents.light;
      emptied = λ w x there empty id. emptied_by w x id (get-set s.history.versions version (ended commit v) w x (ap (λ (l : List Version). slice_get l w) (sym is_set) ∙ there)) empty;
      counted = λ id count there.
          let b = get-map (λ (x : Attribute). x.count) bs id count there in
          let a = changed-back (λ i. lowered_if (is_some (held s version i))) s.attributes bs lowers id b.0 b.1 in
          let was : a.0.count ≡ holders s.history.versions (held s) id = h.documents.counted id a.0.count (mapped s.attributes id a.0 a.1) in
          b.2 ∙ ap (λ (x : Attribute). x.count) a.2
          ∙ lowered_count (is_some (held s version id)) a.0 (holders s.history.versions (held s) id) (holders (set s.history.versions version (ended commit v)) (held s) id) was (holders_by id (is_some (held s version id)) refl)
          ∙ ap (λ (l : List Version). holders l (held s) id) (sym is_set);
    })
      where
        mapped : (list : List Attribute) (i : ℕ) (a : Attribute) → slice_get list i ≡ Some a → slice_get (counts_of list) i ≡ Some a.count
        mapped [] i a e = absurd (cc)
        mapped (b ∷ bs) zero a e = ap (λ (x : Attribute). Some x.count) (same_Some b a e)
        mapped (b ∷ bs) (suc i) a e = mapped bs i a e

        emptied_by : (w : ℕ) (x : Version) (id : ℕ) → ((w ≡ version) × (x ≡ ended commit v)) ⊎ ((w ≡ version → ⊥) × (slice_get s.history.versions w ≡ Some x)) → x.emptied ≡ true → held s w id ≡ None
        emptied_by w x id (inl e) empty = h.documents.emptied w v (ap (slice_get s.history.versions) e.0 ∙ at) (ap (λ (y : Version). y.emptied) (sym e.1) ∙ empty) id
        emptied_by w x id (inr e) empty = h.documents.emptied w x e.1 empty id

    pub ended-layout : IsLayout after
    ended-layout = record {
      placed = placed-versions (record { attributes = bs; history = s.history; records = s.records; cells = s.cells }) after.history many
          (placed-changed s bs (λ id. lowered_if (is_some (held s version id))) lowers h.placed (λ i a there. lower_stays s i a (is_some (held s version i)) (stays-itself s h.placed i a there)));
      documents = documents;
    }

    pub ended-shows : ShowsFrom commit v.row None s.history.versions (history.changed (ended commit) version s.history.versions) → HasWritten commit v.row None s after
    ended-shows from = record {
      earlier = λ n r less. let e = from.earlier n r less in λ i. option_map (λ version. document_of (pairs_same i) (held s version.0)) (e i);
      elsewhere = λ n r ne. let e = from.elsewhere n r ne in λ i. option_map (λ version. document_of (pairs_same i) (held s version.0)) (e i);
      here = λ n le. ap (option_map (λ version. document_of (pairs_of bs) (held s version.0))) (from.here n le);
    }
