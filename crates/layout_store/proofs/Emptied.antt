-- A version that ended is given up: it holds nothing, and no row shows it from the horizon on.
use Rattle.std.proofs.Common.{◌≡◌, ℕ, ◌<◌, ◌≤◌, ◌&&◌, ◌==◌, max, nat_le, not, Bool, true, false, List, [], length, set, Option, Some, None, IfSome, is_some, option_map, option_and_then, slice_get, position, refl, sym, ap, subst, ◌∙◌, arith, length-set}
use Rattle.std.specs.Option.{option_map_or}
use Rattle.std.proofs.lemmas.Bool.{le-ltb}
use Rattle.std.proofs.lemmas.List.Quantifiers.{position-Some}
use Rattle.std.proofs.lemmas.List.Elements.{All-nil}
use Rattle.std.proofs.lemmas.Option.{none-some, slice_get_within, get_or_from_slice_get}
use Rattle.doc_values.specs.Doc.{IsDocument}
use Rattle.doc_values.specs.declared.value.Value.{Value}
use Rattle.reservoir_record.specs.declared.fields.Field.{Field}
use Rattle.reservoir_record.specs.Finding.{value_of}
use Rattle.reservoir_record.specs.Spelling.{values}
use Rattle.attr_catalog.specs.Attribute.{Attribute}
use Rattle.attr_catalog.specs.declared.home.Home.{Home}
use Rattle.attr_catalog.specs.declared.home.Home.TheVariants as home
use Rattle.phys_columns.specs.Cells.{Cells, cell_at}
use Rattle.row_versions.specs.declared.version.Version.{Version}
use Rattle.row_versions.specs.History.{History, version_at, begun, is_seen, is_open, visible, given_up}
use Rattle.row_versions.specs.History as history
use Rattle.row_versions.specs.Shows.{EmptiesShow}
use Rattle.row_versions.proofs.Places.{get-within, get-set_same, get-set_other}
use Rattle.document_records.specs.Limits.{most_weight}
use Rattle.document_records.specs.StoredDocument.{pairs_of, document_stored, IsHeld, IsKept}
use Rattle.layout_store.specs.Storage.{Storage, either_side, in_record, in_cell, held}
use Rattle.layout_store.specs.Documents.{most_fields, fields_of, is_endless, count_below, holders, counts_of, document_of, document_at, AreDocuments}
use Rattle.layout_store.specs.Placed.{IsAtHome, IsHome, clean_below, IsCelled, ArePlaced, IsLayout}
use Rattle.layout_store.specs.Shows.{shown}
use Rattle.layout_store.specs.Emptied.{HasEmptied, ShowsFromHorizon}
use Rattle.layout_store.proofs.Attributes.{equal_or_not}
use Rattle.layout_store.proofs.Counted.{count-same, versions-set}
use Rattle.layout_store.proofs.Cuts.{fields-none}
use Rattle.layout_store.proofs.Sides.{record-here, record-other}

and_false : (a : Bool) → a && false ≡ false
and_false true = refl
and_false false = refl

at_home : (to : Home) (r : Option (List ℕ)) (c : Option Value) → r ≡ None → c ≡ None → IsAtHome to r c
at_home home.Reservoir r c e f = f
at_home home.Column r c e f = e

module _ (s : Storage) (h : IsLayout s) (version end : ℕ) (v : Version) (at : slice_get s.history.versions version ≡ Some v) (ended : v.end ≡ Some end) (cells : Cells)
    (gone : (id : ℕ) → cell_at id version cells ≡ None) (kept : (w id : ℕ) → (w ≡ version → ⊥) → cell_at id w cells ≡ cell_at id w s.cells) where
  abbrev versions : List Version
  versions = s.history.versions

  abbrev pub after : Storage
  after = record { attributes = s.attributes; history = record { versions = history.changed given_up version s.history.versions; horizon = max s.history.horizon end }; records = set s.records version []; cells = cells }

  lt : version < length versions
  lt = slice_get_within versions version v at

  old_record : (fields : List Field) × (slice_get s.records version ≡ Some fields)
  old_record = get-within s.records version (omega (arith, lt, h.placed.recorded))

  is_set : history.changed given_up version versions ≡ set versions version (given_up v)
  is_set = versions-set given_up version versions v at

  many : length (history.changed given_up version versions) ≡ length versions
  many = ap length is_set ∙ length-set versions version (given_up v)

  -- ---- what is held

  in_here : (id : ℕ) → in_record after version id ≡ None
  in_here id = ap (value_of id) (record-here s.records version old_record.0 [] old_record.1)

  in_other : (w id : ℕ) → (w ≡ version → ⊥) → in_record after w id ≡ in_record s w id
  in_other w id ne = ap (value_of id) (record-other s.records version w [] ne)

  held_here : (id : ℕ) → held after version id ≡ None
  held_here id = λ i. either_side (in_here id i) (gone id i)

  held_other : (w : ℕ) → (w ≡ version → ⊥) → held after w ≡ held s w
  held_other w ne = λ i id. either_side (in_other w id ne i) (kept w id ne i)

  either : (P : ℕ → Type 0) → P version → ((w : ℕ) → (w ≡ version → ⊥) → P w) → (w : ℕ) → P w
  either P here other w = equal_or_not w version (P w) (λ e. subst P (sym e) here) (λ ne. other w ne)

  placed : ArePlaced after
  placed = record {
    recorded = length-set s.records version [] ∙ h.placed.recorded ∙ sym many;
    apart = either (λ w. (id : ℕ) (bytes : List ℕ) → in_record after w id ≡ Some bytes → in_cell after w id ≡ None)
        (λ id bytes e. gone id)
        (λ w ne id bytes e. kept w id ne ∙ h.placed.apart w id bytes (sym (in_other w id ne) ∙ e));
    home = either (λ w. (id : ℕ) (a : Attribute) → slice_get s.attributes id ≡ Some a → w < clean_below (length (history.changed given_up version versions)) a → IsHome a.home after w id)
        (λ id a there less. at_home a.home (in_record after version id) (in_cell after version id) (in_here id) (gone id))
        (λ w ne id a there less.
        let was = h.placed.home w id a there (subst (λ (n : ℕ). w < clean_below n a) many less) in
        subst (λ (c : Option Value). IsAtHome a.home (in_record after w id) c) (sym (kept w id ne)) (subst (λ (r : Option (List ℕ)). IsAtHome a.home r (in_cell s w id)) (sym (in_other w id ne)) was));
    marks = λ id a there. subst (λ (n : ℕ). IfSome a.mark (λ c. c ≤ n)) (sym many) (h.placed.marks id a there);
    celled = either (λ w. (id : ℕ) (value : Value) → in_cell after w id ≡ Some value → IsCelled s.attributes id value)
        (λ id value e. absurd (none-some value (sym (gone id) ∙ e)))
        (λ w ne id value e. h.placed.celled w id value (sym (kept w id ne) ∙ e));
  }

  -- ---- documents

  fields_here : fields_of (pairs_of s.attributes) (held after version) ≡ []
  fields_here = fields-none (held after version) (length (pairs_of s.attributes)) held_here

  fields_other : (w : ℕ) → (w ≡ version → ⊥) → fields_of (pairs_of s.attributes) (held after w) ≡ fields_of (pairs_of s.attributes) (held s w)
  fields_other w ne = ap (fields_of (pairs_of s.attributes)) (held_other w ne)

  endless_same : (w : ℕ) → is_endless (history.changed given_up version versions) w ≡ is_endless versions w
  endless_same w =
      ap (λ (l : List Version). is_endless l w) is_set
      ∙ equal_or_not w version (is_endless (set versions version (given_up v)) w ≡ is_endless versions w)
      (λ e. ap (is_endless (set versions version (given_up v))) e ∙ ap (λ (o : Option Version). option_map_or (λ (x : Version). not (is_some x.end)) o false) (get-set_same versions version (given_up v) v at)
      ∙ sym (ap (is_endless versions) e ∙ ap (λ (o : Option Version). option_map_or (λ (x : Version). not (is_some x.end)) o false) at))
      (λ ne. ap (λ (o : Option Version). option_map_or (λ (x : Version). not (is_some x.end)) o false) (get-set_other versions version (given_up v) w ne))

  not_endless : is_endless versions version ≡ false
  not_endless = ap (λ (o : Option Version). option_map_or (λ (x : Version). not (is_some x.end)) o false) at ∙ ap (λ (o : Option ℕ). not (is_some o)) ended

  counts_same : (id : ℕ) → holders (history.changed given_up version versions) (held after) id ≡ holders versions (held s) id
  counts_same id =
      ap (λ (n : ℕ). count_below (λ w. is_endless (history.changed given_up version versions) w && is_some (held after w id)) n) many
      ∙ count-same (λ w. is_endless versions w && is_some (held s w id)) (λ w. is_endless (history.changed given_up version versions) w && is_some (held after w id)) (length versions)
      (λ w less. either (λ x. is_endless (history.changed given_up version versions) x && is_some (held after x id) ≡ is_endless versions x && is_some (held s x id))
      (ap (λ (b : Bool). b && is_some (held after version id)) (endless_same version ∙ not_endless) ∙ sym (ap (λ (b : Bool). b && is_some (held s version id)) not_endless))
      (λ x ne. (λ i. endless_same x i && is_some (held_other x ne i id))) w)

  documents : AreDocuments (pairs_of s.attributes) (counts_of s.attributes) after.history (held after)
  documents = record {
    known = either (λ w. (id : ℕ) (bytes : List ℕ) → held after w id ≡ Some bytes → (w < length (history.changed given_up version versions)) × (id < length (pairs_of s.attributes)))
        (λ id bytes e. absurd (none-some bytes (sym (held_here id) ∙ e)))
        (λ w ne id bytes e. let k = h.documents.known w id bytes (sym (λ i. held_other w ne i id) ∙ e) in (omega (arith, k.0, many), k.1));
    kept = either (λ w. IsKept (pairs_of s.attributes) (fields_of (pairs_of s.attributes) (held after w)))
        (subst (IsKept (pairs_of s.attributes)) (sym fields_here) (All-nil (IsHeld (pairs_of s.attributes) (document_stored (pairs_of s.attributes) []))))
        (λ w ne. subst (IsKept (pairs_of s.attributes)) (sym (fields_other w ne)) (h.documents.kept w));
    documents = either (λ w. IsDocument (document_of (pairs_of s.attributes) (held after w)))
        (subst (λ (fs : List Field). IsDocument (document_stored (pairs_of s.attributes) fs)) (sym fields_here) tt)
        (λ w ne. subst (λ (fs : List Field). IsDocument (document_stored (pairs_of s.attributes) fs)) (sym (fields_other w ne)) (h.documents.documents w));
    few = either (λ w. length (fields_of (pairs_of s.attributes) (held after w)) ≤ most_fields)
        (subst (λ (fs : List Field). length fs ≤ most_fields) (sym fields_here) (omega arith))
        (λ w ne. subst (λ (fs : List Field). length fs ≤ most_fields) (sym (fields_other w ne)) (h.documents.few w));
    light = either (λ w. length (values (fields_of (pairs_of s.attributes) (held after w))) ≤ most_weight)
        (subst (λ (fs : List Field). length (values fs) ≤ most_weight) (sym fields_here) (omega arith))
        (λ w ne. subst (λ (fs : List Field). length (values fs) ≤ most_weight) (sym (fields_other w ne)) (h.documents.light w));
    emptied = either (λ w. (x : Version) → slice_get (history.changed given_up version versions) w ≡ Some x → x.emptied ≡ true → (id : ℕ) → held after w id ≡ None)
        (λ x there empty id. held_here id)
        (λ w ne x there empty id. (λ i. held_other w ne i id) ∙ h.documents.emptied w x (sym (get-set_other versions version (given_up v) w ne) ∙ ap (λ (l : List Version). slice_get l w) (sym is_set) ∙ there) empty id);
    counted = λ id count there. h.documents.counted id count there ∙ sym (counts_same id);
  }

  pub emptied-layout : IsLayout after
  emptied-layout = record { placed = placed; documents = documents }

  pub emptied-all : HasEmptied version s after
  emptied-all = record { end = end; ended = ap (option_and_then (λ (x : Version). x.end)) at ∙ ended; attributes = refl; history = refl; records = refl; gone = gone; cells = kept }

  -- ---- what rows show

  -- from its end on the version is not seen
  unseen : (n row : ℕ) → end ≤ n → is_seen row n v ≡ false
  unseen n row le = by (v.row == row) (nat_le v.begin n)
    where
      closed : is_open n v.end ≡ false
      closed = ap (is_open n) ended ∙ le-ltb n end le

      by : (a b : Bool) → a && (b && is_open n v.end) ≡ false
      by true true = closed
      by true false = refl
      by false b = refl

  shown_is : (n row : ℕ) → end ≤ n → option_map (λ version. document_at after version.0) (visible row n versions) ≡ shown s n row
  shown_is n row le = by (position (is_seen row n) versions) refl
    where
      by : (o : Option ℕ) → position (is_seen row n) versions ≡ o → option_map (λ version. document_at after version.0) (option_map version_at o) ≡ option_map (λ version. document_at s version.0) (option_map version_at o)
      by None e = refl
      by (Some i) e =
          let place = position-Some (is_seen row n) versions i v e in
          let ne : i ≡ version → ⊥ = λ same.
          let here : is_seen row n v ≡ true = ap (is_seen row n) (sym (get_or_from_slice_get versions i v v (ap (slice_get versions) same ∙ at))) ∙ place.1 in
          absurd (let both : true ≡ false = sym here ∙ unseen n row le in cc) in
          ap (λ (u : ℕ → Option (List ℕ)). Some (document_of (pairs_of s.attributes) u)) (held_other i ne)

  most_le : (a b n : ℕ) → max a b ≤ n → b ≤ n
  most_le a b n le = omega (arith, le)

  pub emptied-shows : EmptiesShow → ShowsFromHorizon s after
  emptied-shows law n row le = ap (option_map (λ version. document_at after version.0)) (law version n row versions) ∙ shown_is n row (most_le s.history.horizon end n le)
