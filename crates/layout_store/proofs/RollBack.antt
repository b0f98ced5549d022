-- The newest commit is taken back: what is left is held as it was, and counted.
use Rattle.std.proofs.Common.{◌≡◌, ℕ, zero, suc, ◌+◌, ◌-◌, ◌<◌, ◌≤◌, ◌&&◌, nat_lt, nat_le, not, Bool, true, false, cond, List, [], ◌∷◌, length, take, drop, Option, Some, None, IfSome, is_some, option_map, option_and_then, unwrap_or, slice_get, position, refl, sym, ap, subst, ◌∙◌, arith}
use Rattle.std.specs.Prelude.{All}
use Rattle.std.specs.List.{AllByRecursion}
use Rattle.std.specs.Option.{option_map_or}
use Rattle.std.proofs.lemmas.Bool.{lt-ltb, le-ltb, ltb-false}
use Rattle.std.proofs.lemmas.Bool.Decides.{nat_tests}
use Rattle.std.proofs.lemmas.List.{length-map, length-take-le}
use Rattle.std.proofs.lemmas.List.Quantifiers.{position-Some}
use Rattle.std.proofs.lemmas.List.Elements.{All-nil}
use Rattle.std.proofs.lemmas.Option.{same_Some, none-some, slice_get_within, slice_get_past}
use Rattle.doc_values.specs.Doc.{Fields, IsDocument}
use Rattle.doc_values.specs.declared.kind.Kind.{Kind}
use Rattle.doc_values.specs.declared.value.Value.{Value}
use Rattle.reservoir_record.specs.declared.fields.Field.{Field}
use Rattle.reservoir_record.specs.Finding.{value_of}
use Rattle.reservoir_record.specs.Spelling.{values}
use Rattle.attr_catalog.specs.Attribute.{Attribute}
use Rattle.attr_catalog.specs.declared.home.Home.{Home}
use Rattle.phys_columns.specs.Cells.{Cells, cell_at}
use Rattle.row_versions.specs.declared.version.Version.{Version}
use Rattle.row_versions.specs.History.{version_at, begun, is_seen, visible, end_before, reopened, rolled_back}
use Rattle.row_versions.specs.Order.{KeepsOrder}
use Rattle.row_versions.specs.Shows.{ShowsBefore}
use Rattle.row_versions.proofs.Places.{get-within, get-map, passes}
use Rattle.row_versions.proofs.RolledBack.{below, passes-below, IsRolled, get-rolled}
use Rattle.document_records.specs.Limits.{most_weight}
use Rattle.document_records.specs.StoredDocument.{Pairs, pairs_of, document_stored, IsHeld, IsKept}
use Rattle.layout_store.specs.Storage.{Storage, record_at, either_side, in_record, in_cell, held}
use Rattle.layout_store.specs.Documents.{most_fields, fields_below, fields_of, is_endless, count_below, holders, counts_of, document_of, document_at, AreDocuments}
use Rattle.layout_store.specs.Placed.{IsAtHome, IsHome, clean_below, IsCelled, ArePlaced, IsLayout}
use Rattle.layout_store.specs.Shows.{shown}
use Rattle.layout_store.specs.Changes.{AreChanged}
use Rattle.layout_store.specs.RolledBack.{mark_below, settled, counted, raised_by, lowered_by, HasRolledBack, ShowsAsBefore, ends_from, is_reopened}
use Rattle.layout_store.proofs.Attributes.{changed-back, changed-twice, changed-alike, pairs-kept}
use Rattle.layout_store.proofs.Counted.{count-same, count-none}
use Rattle.layout_store.proofs.Cuts.{get-take, take-past, changed-take, all-drop, pairs-take, IsSame, same-below, document-same, kept-same, fields-none}
use Rattle.layout_store.proofs.Fields.{fields-longer}
use Rattle.layout_store.proofs.Lists.{if-some}
use Rattle.layout_store.proofs.Recounted.{bit, count-sums, count-two, count-front}
use Rattle.layout_store.proofs.Taken.{cell-held}

get_counts : (list : List Attribute) (i : ℕ) (a : Attribute) → slice_get list i ≡ Some a → slice_get (counts_of list) i ≡ Some a.count
get_counts [] i a e = absurd (cc)
get_counts (b ∷ bs) zero a e = ap (λ (x : Attribute). Some x.count) (same_Some b a e)
get_counts (b ∷ bs) (suc i) a e = get_counts bs i a e

-- ---- ends

and_true : (a : Bool) → a && true ≡ a
and_true true = refl
and_true false = refl

and_false : (a : Bool) → a && false ≡ false
and_false true = refl
and_false false = refl

weighed : (a b c d x : Bool) → bit a + bit b ≡ bit c + bit d → bit (a && x) + bit (b && x) ≡ bit (c && x) + bit (d && x)
weighed a b c d true e = (λ i. bit (and_true a i) + bit (and_true b i)) ∙ e ∙ sym (λ i. bit (and_true c i) + bit (and_true d i))
weighed a b c d false e = (λ i. bit (and_false a i) + bit (and_false b i)) ∙ sym (λ i. bit (and_false c i) + bit (and_false d i))

fewer_of : (a b x : Bool) → bit a + bit b ≤ 1 → bit (a && x) + bit (b && x) ≤ 1
fewer_of a b true e = let same : bit (a && true) + bit (b && true) ≡ bit a + bit b = (λ i. bit (and_true a i) + bit (and_true b i)) in omega (arith, same, e)
fewer_of a b false e = let same : bit (a && false) + bit (b && false) ≡ 0 = (λ i. bit (and_false a i) + bit (and_false b i)) in omega (arith, same)

le_true : (a b : ℕ) → a ≤ b → nat_le a b ≡ true
le_true a b le = grind (arith, nat_tests)

le_false : (a b : ℕ) → b < a → nat_le a b ≡ false
le_false a b lt = grind (arith, nat_tests)

-- an end that comes at the commit or later is taken back, and no other
early_sum : (commit : ℕ) (o : Option ℕ) → bit (not (is_some o)) + bit (ends_from commit o) ≡ bit (not (is_some (end_before commit o)))
early_sum commit None = refl
early_sum commit (Some end) = by (nat_le commit end) refl
  where
    by : (t : Bool) → nat_le commit end ≡ t → bit (not (is_some (Some end))) + bit (ends_from commit (Some end)) ≡ bit (not (is_some (end_before commit (Some end))))
    by true e =
        let le : commit ≤ end = grind (arith, nat_tests) in
        let gone : end_before commit (Some end) ≡ None = ap (λ (b : Bool). cond b (Some end) None) (le-ltb end commit le) in
        ap (λ (b : Bool). 0 + bit b) e ∙ sym (ap (λ (o : Option ℕ). bit (not (is_some o))) gone)
    by false e =
        let lt : end < commit = grind (arith, nat_tests) in
        let stays : end_before commit (Some end) ≡ Some end = ap (λ (b : Bool). cond b (Some end) None) (lt-ltb end commit lt) in
        ap (λ (b : Bool). 0 + bit b) e ∙ sym (ap (λ (o : Option ℕ). bit (not (is_some o))) stays)

late_sum : (commit : ℕ) (o : Option ℕ) → ((end : ℕ) → o ≡ Some end → commit ≤ end) → bit (not (is_some o)) + bit (ends_from commit o) ≡ 1
late_sum commit None late = refl
late_sum commit (Some end) late = ap (λ (b : Bool). 0 + bit b) (le_true commit end (late end refl))

most_one : (commit : ℕ) (o : Option ℕ) → bit (not (is_some o)) + bit (ends_from commit o) ≤ 1
most_one commit None = omega arith
most_one commit (Some end) = by (ends_from commit (Some end))
  where
    by : (t : Bool) → 0 + bit t ≤ 1
    by true = omega arith
    by false = omega arith

-- ---- what is left

module _ (s : Storage) (h : IsLayout s) (k : KeepsOrder s.history) (commit left : ℕ)
    (unheld : (version id : ℕ) → left ≤ id → IfSome (slice_get s.history.versions version) (λ v. v.begin < commit → held s version id ≡ None)) where
  abbrev versions : List Version
  versions = s.history.versions

  abbrev pub rolled : List Version
  rolled = rolled_back commit s.history.versions

  abbrev n : ℕ
  n = length (rolled_back commit s.history.versions)

  abbrev all : ℕ
  all = length s.records

  from_rolled : (i : ℕ) (w : Version) → slice_get rolled i ≡ Some w → IsRolled commit versions i w
  from_rolled i w at = get-rolled commit versions k.ordered.rise i w at

  pub fewer : n ≤ all
  fewer = by (nat_le n all) refl
    where
      by : (t : Bool) → nat_le n all ≡ t → n ≤ all
      by true e = grind (arith, nat_tests)
      by false e =
          let lt : all < n = grind (arith, nat_tests) in
          let w = get-within rolled all lt in
          let r = from_rolled all w.0 w.1 in
          let bad = slice_get_within versions all r.version r.there in
          absurd (omega (arith, bad, h.placed.recorded))

  none_left : (v id : ℕ) → v < n → left ≤ id → held s v id ≡ None
  none_left v id lt le =
      let w = get-within rolled v lt in
      let r = from_rolled v w.0 w.1 in
      if-some (slice_get versions v) (λ (x : Version). x.begin < commit → held s v id ≡ None) r.version r.there (unheld v id le) r.early

  late : (v : ℕ) (w : Version) → slice_get versions v ≡ Some w → n ≤ v → commit ≤ w.begin
  late v w at le =
      let same = passes-below (below commit) (λ _. true) (reopened commit) commit (λ x ge. le-ltb x.begin commit ge) (λ x lt. sym (lt-ltb x.begin commit lt)) versions k.ordered.rise v in
      let none : passes (λ _. true) rolled v ≡ false = ap (λ (o : Option Version). option_map_or (λ (_ : Version). true) o false) (slice_get_past rolled v le) in
      let here : passes (below commit) versions v ≡ below commit w = ap (λ (o : Option Version). option_map_or (below commit) o false) at in
      ltb-false w.begin commit (sym here ∙ sym same ∙ none)

  -- ---- counts

  endless_at : (v : ℕ) (w : Version) → slice_get versions v ≡ Some w → is_endless versions v ≡ not (is_some w.end)
  endless_at v w at = ap (λ (o : Option Version). option_map_or (λ (x : Version). not (is_some x.end)) o false) at

  reopened_at : (v : ℕ) (w : Version) → slice_get versions v ≡ Some w → is_reopened commit versions v ≡ ends_from commit w.end
  reopened_at v w at = ap (λ (o : Option Version). ends_from commit (option_and_then (λ (x : Version). x.end) o)) at

  left_past : (v : ℕ) → n ≤ v → is_endless rolled v ≡ false
  left_past v le = ap (λ (o : Option Version). option_map_or (λ (x : Version). not (is_some x.end)) o false) (slice_get_past rolled v le)

  left_at : (v : ℕ) (w : Version) → slice_get versions v ≡ Some w → v < n → is_endless rolled v ≡ not (is_some (end_before commit w.end))
  left_at v w at lt =
      let x = get-within rolled v lt in
      let r = from_rolled v x.0 x.1 in
      let same : r.version ≡ w = same_Some r.version w (sym r.there ∙ at) in
      ap (λ (o : Option Version). option_map_or (λ (y : Version). not (is_some y.end)) o false) x.1 ∙ ap (λ (y : Version). not (is_some y.end)) r.is ∙ ap (λ (y : Version). not (is_some (end_before commit y.end))) same

  bits : (v : ℕ) → v < all → bit (is_endless versions v) + bit (is_reopened commit versions v) ≡ bit (nat_le n v) + bit (is_endless rolled v)
  bits v lt =
      let w = get-within versions v (omega (arith, lt, h.placed.recorded)) in
      (λ i. bit (endless_at v w.0 w.1 i) + bit (reopened_at v w.0 w.1 i)) ∙ by w.0 w.1 (nat_le n v) refl
    where
      by : (w : Version) → slice_get versions v ≡ Some w → (t : Bool) → nat_le n v ≡ t → bit (not (is_some w.end)) + bit (ends_from commit w.end) ≡ bit (nat_le n v) + bit (is_endless rolled v)
      by w at true e =
          let le : n ≤ v = grind (arith, nat_tests) in
          let start = late v w at le in
          let sum = late_sum commit w.end (λ end f. omega (arith, start, k.ordered.last v w end at f)) in
          let right : bit (nat_le n v) + bit (is_endless rolled v) ≡ 1 = (λ i. bit (e i) + bit (left_past v le i)) in
          sum ∙ sym right
      by w at false e =
          let less : v < n = grind (arith, nat_tests) in
          let sum = early_sum commit w.end in
          let right : bit (nat_le n v) + bit (is_endless rolled v) ≡ 0 + bit (not (is_some (end_before commit w.end))) = (λ i. bit (e i) + bit (left_at v w at less i)) in
          omega (arith, sum, right)

  abbrev holds : ℕ → ℕ → Bool
  holds v id = is_some (held s v id)

  abbrev pub back : ℕ → ℕ
  back id = count_below (λ v. is_reopened commit s.history.versions v && is_some (held s v id)) (length s.records)

  abbrev pub gone_of : ℕ → ℕ
  gone_of id = count_below (λ v. nat_le (length (rolled_back commit s.history.versions)) v && is_some (held s v id)) (length s.records)

  sums : (id : ℕ) → count_below (λ v. is_endless versions v && holds v id) all + back id ≡ gone_of id + count_below (λ v. is_endless rolled v && holds v id) all
  sums id = count-sums (λ v. is_endless versions v && holds v id) (λ v. is_reopened commit versions v && holds v id) (λ v. nat_le n v && holds v id) (λ v. is_endless rolled v && holds v id) all
      (λ v lt. weighed (is_endless versions v) (is_reopened commit versions v) (nat_le n v) (is_endless rolled v) (holds v id) (bits v lt))

  left_is : (id : ℕ) → count_below (λ v. is_endless rolled v && holds v id) all ≡ holders rolled (held s) id
  left_is id =
      let sum : all ≡ n + (all - n) = omega (arith, fewer) in
      ap (count_below (λ v. is_endless rolled v && holds v id)) sum ∙ count-front (λ v. is_endless rolled v && holds v id) n (all - n) (λ v le. ap (λ (b : Bool). b && holds v id) (left_past v le))

  was : (id : ℕ) (a : Attribute) → slice_get s.attributes id ≡ Some a → a.count ≡ count_below (λ v. is_endless versions v && holds v id) all
  was id a at = h.documents.counted id a.count (get_counts s.attributes id a at) ∙ ap (count_below (λ v. is_endless versions v && holds v id)) (sym h.placed.recorded)

  pub back-room : (id : ℕ) (a : Attribute) → slice_get s.attributes id ≡ Some a → a.count + back id ≤ 2097152
  back-room id a at =
      let two = count-two (λ v. is_endless versions v && holds v id) (λ v. is_reopened commit versions v && holds v id) all
      (λ v lt.
      let w = get-within versions v (omega (arith, lt, h.placed.recorded)) in
      fewer_of (is_endless versions v) (is_reopened commit versions v) (holds v id)
      (let same : bit (is_endless versions v) + bit (is_reopened commit versions v) ≡ bit (not (is_some w.0.end)) + bit (ends_from commit w.0.end) = (λ i. bit (endless_at v w.0 w.1 i) + bit (reopened_at v w.0 w.1 i)) in
      omega (arith, same, most_one commit w.0.end))) in
      omega (arith, was id a at, two, h.placed.recorded, k.few)

  pub gone-counted : (c1 : List Attribute) → AreChanged (λ id. raised_by (back id)) s.attributes c1 → (id : ℕ) (a : Attribute) → slice_get c1 id ≡ Some a → gone_of id ≤ a.count
  gone-counted c1 up id a at =
      let b = changed-back (λ i. raised_by (back i)) s.attributes c1 up id a at in
      let is : a.count ≡ b.0.count + back id = ap (λ (x : Attribute). x.count) b.2 in
      omega (arith, is, was id b.0 b.1, sums id)

  pub recounted : (c1 c2 : List Attribute) → AreChanged (λ id. raised_by (back id)) s.attributes c1 → AreChanged (λ id. lowered_by (gone_of id)) c1 c2 → AreChanged (λ id. counted (holders rolled (held s) id)) s.attributes c2
  recounted c1 c2 up down =
      changed-alike (λ id a. lowered_by (gone_of id) (raised_by (back id) a)) (λ id. counted (holders rolled (held s) id)) s.attributes c2
      (changed-twice (λ id. raised_by (back id)) (λ id. lowered_by (gone_of id)) s.attributes c1 c2 up down)
      (λ id a at.
      let e : a.count + back id - gone_of id ≡ holders rolled (held s) id = omega (arith, was id a at, sums id, left_is id) in
      ap (λ (m : ℕ). counted m a) e)

  pub cut-unheld : (c2 : List Attribute) → AreChanged (λ id. counted (holders rolled (held s) id)) s.attributes c2 → All (λ (a : Attribute). a.count ≡ 0) (drop left c2)
  cut-unheld c2 ch = all-drop (λ (a : Attribute). a.count ≡ 0) c2 left (λ id a le at.
      let b = changed-back (λ i. counted (holders rolled (held s) i)) s.attributes c2 ch id a at in
      ap (λ (x : Attribute). x.count) b.2
      ∙ count-none (λ v. is_endless rolled v && holds v id) n (λ v lt. ap (λ (o : Option (List ℕ)). is_endless rolled v && is_some o) (none_left v id lt le) ∙ and_false (is_endless rolled v)))

  pub settled-all : (c2 c4 : List Attribute) → AreChanged (λ id. counted (holders rolled (held s) id)) s.attributes c2 → AreChanged (λ id. settled n) (take left c2) c4
      → AreChanged (λ id a. settled n (counted (holders rolled (held s) id) a)) (take left s.attributes) c4
  settled-all c2 c4 ch marks = changed-twice (λ id. counted (holders rolled (held s) id)) (λ id. settled n) (take left s.attributes) (take left c2) c4 (changed-take (λ id. counted (holders rolled (held s) id)) s.attributes c2 left ch) marks

  -- ---- the storage afterwards

  module _ (within : left ≤ length s.attributes) (c4 : List Attribute) (cells : Cells)
      (attrs : AreChanged (λ id a. settled n (counted (holders rolled (held s) id) a)) (take left s.attributes) c4)
      (gone : (version id : ℕ) → n ≤ version → cell_at id version cells ≡ None)
      (low : (version id : ℕ) → version < n → cell_at id version cells ≡ cell_at id version s.cells) where
    abbrev pub after : Storage
    after = record { attributes = c4; history = record { versions = rolled; horizon = s.history.horizon }; records = take n s.records; cells = cells }

    abbrev old : Pairs
    old = pairs_of s.attributes

    long_old : length old ≡ length s.attributes
    long_old = length-map s.attributes (λ (a : Attribute). let pair : List ℕ × Kind = (a.name, a.kind) in pair)

    pairs_is : pairs_of c4 ≡ take left old
    pairs_is = pairs-kept (λ id a. settled n (counted (holders rolled (held s) id) a)) (take left s.attributes) c4 attrs (λ i a. refl) ∙ pairs-take left s.attributes

    pairs_len : length (pairs_of c4) ≡ left
    pairs_len = ap length pairs_is ∙ length-take-le left old (omega (arith, long_old, within))

    record_low : (v : ℕ) → v < n → record_at v (take n s.records) ≡ record_at v s.records
    record_low v lt = ap (λ (o : Option (List Field)). unwrap_or o []) (get-take s.records n v lt)

    record_high : (v : ℕ) → n ≤ v → record_at v (take n s.records) ≡ []
    record_high v le = ap (λ (o : Option (List Field)). unwrap_or o []) (take-past s.records n v le)

    in_low : (v id : ℕ) → v < n → in_record after v id ≡ in_record s v id
    in_low v id lt = ap (value_of id) (record_low v lt)

    in_high : (v id : ℕ) → n ≤ v → in_record after v id ≡ None
    in_high v id le = ap (value_of id) (record_high v le)

    held_low : (v : ℕ) → v < n → held after v ≡ held s v
    held_low v lt = λ i id. either_side (in_low v id lt i) (low v id lt i)

    held_high : (v id : ℕ) → n ≤ v → held after v id ≡ None
    held_high v id le = λ i. either_side (in_high v id le i) (gone v id le i)

    by_version : (P : ℕ → Type 0) → ((v : ℕ) → v < n → P v) → ((v : ℕ) → n ≤ v → P v) → (v : ℕ) → P v
    by_version P here past v = by (nat_lt v n) refl
      where
        by : (t : Bool) → nat_lt v n ≡ t → P v
        by true e = here v (grind (arith, nat_tests))
        by false e = past v (grind (arith, nat_tests))

    -- ---- documents

    sum : left + (length old - left) ≡ length old
    sum = omega (arith, long_old, within)

    fields_cut : (v : ℕ) → v < n → fields_below (held s v) left ≡ fields_of old (held s v)
    fields_cut v lt = sym (fields-longer (held s v) left (length old - left) (λ id le. none_left v id lt le)) ∙ ap (fields_below (held s v)) sum

    fields_low : (v : ℕ) → v < n → fields_of (pairs_of c4) (held after v) ≡ fields_of old (held s v)
    fields_low v lt = ap (fields_of (pairs_of c4)) (held_low v lt) ∙ ap (fields_below (held s v)) pairs_len ∙ fields_cut v lt

    fields_high : (v : ℕ) → n ≤ v → fields_of (pairs_of c4) (held after v) ≡ []
    fields_high v le = fields-none (held after v) (length (pairs_of c4)) (λ id. held_high v id le)

    alike : (id : ℕ) → id < left → slice_get old id ≡ slice_get (pairs_of c4) id
    alike id lt = sym (ap (λ (ps : Pairs). slice_get ps id) pairs_is ∙ get-take old left id lt)

    agree : (v : ℕ) → v < n → AllByRecursion (IsSame old (pairs_of c4)) (fields_of old (held s v))
    agree v lt = subst (λ (fs : List Field). AllByRecursion (IsSame old (pairs_of c4)) fs) (fields_cut v lt) (same-below old (pairs_of c4) (held s v) left alike)

    document_low : (v : ℕ) → v < n → document_of (pairs_of c4) (held after v) ≡ document_of old (held s v)
    document_low v lt = ap (document_stored (pairs_of c4)) (fields_low v lt) ∙ sym (document-same old (pairs_of c4) (fields_of old (held s v)) (agree v lt))

    document_high : (v : ℕ) → n ≤ v → document_of (pairs_of c4) (held after v) ≡ []
    document_high v le = ap (document_stored (pairs_of c4)) (fields_high v le)

    -- ---- attributes

    abbrev become : ℕ → Attribute → Attribute
    become id a = settled n (counted (holders rolled (held s) id) a)

    before : (id : ℕ) (a : Attribute) → slice_get c4 id ≡ Some a → (b : Attribute) × (slice_get s.attributes id ≡ Some b) × (a ≡ settled n (counted (holders rolled (held s) id) b))
    before id a at =
        let b = changed-back (λ i x. settled n (counted (holders rolled (held s) i) x)) (take left s.attributes) c4 attrs id a at in
        let lt = slice_get_within (take left s.attributes) id b.0 b.1 in
        (b.0, sym (get-take s.attributes left id (omega (arith, lt, length-take-le left s.attributes within))) ∙ b.1, b.2)

    clean_by : (o : Option ℕ) (v : ℕ) → v < unwrap_or (mark_below n o) n → (v < n) × (v < unwrap_or o all)
    clean_by None v lt = (lt, omega (arith, lt, fewer))
    clean_by (Some c) v lt = by (nat_lt c n) refl lt
      where
        by : (t : Bool) → nat_lt c n ≡ t → v < unwrap_or (cond t (Some c) None) n → (v < n) × (v < c)
        by true e lt = let less : c < n = grind (arith, nat_tests) in (omega (arith, lt, less), lt)
        by false e lt = let ge : n ≤ c = grind (arith, nat_tests) in (lt, omega (arith, lt, ge))

    mark_within : (o : Option ℕ) → IfSome (mark_below n o) (λ c. c ≤ n)
    mark_within None = tt
    mark_within (Some c) = by (nat_lt c n) refl
      where
        by : (t : Bool) → nat_lt c n ≡ t → IfSome (cond t (Some c) None) (λ c. c ≤ n)
        by true e = let less : c < n = grind (arith, nat_tests) in omega (arith, less)
        by false e = tt

    home_low : (to : Home) (v id : ℕ) → v < n → IsHome to s v id → IsHome to after v id
    home_low to v id lt at = subst (λ (c : Option Value). IsAtHome to (in_record after v id) c) (sym (low v id lt)) (subst (λ (r : Option (List ℕ)). IsAtHome to r (in_cell s v id)) (sym (in_low v id lt)) at)

    placed : ArePlaced after
    placed = record {
      recorded = length-take-le n s.records fewer;
      apart = by_version (λ v. (id : ℕ) (bytes : List ℕ) → in_record after v id ≡ Some bytes → in_cell after v id ≡ None)
          (λ v lt id bytes e. low v id lt ∙ h.placed.apart v id bytes (sym (in_low v id lt) ∙ e))
          (λ v le id bytes e. gone v id le);
      home = λ v id a at lt.
          let b = before id a at in
          let clean = clean_by b.0.mark v (subst (λ (x : Attribute). v < clean_below n x) b.2 lt) in
          let was_home = h.placed.home v id b.0 b.1 (subst (λ (m : ℕ). v < clean_below m b.0) h.placed.recorded clean.1) in
          subst (λ (x : Attribute). IsHome x.home after v id) (sym b.2) (home_low b.0.home v id clean.0 was_home);
      marks = λ id a at.
          let b = before id a at in
          subst (λ (x : Attribute). IfSome x.mark (λ c. c ≤ n)) (sym b.2) (mark_within b.0.mark);
      celled = by_version (λ v. (id : ℕ) (value : Value) → in_cell after v id ≡ Some value → IsCelled c4 id value)
          (λ v lt id value e.
          let at = sym (low v id lt) ∙ e in
          let c = h.placed.celled v id value at in
          record {
            storable = c.storable;
            attribute = become id c.attribute;
            there = attrs.each id c.attribute (get-take s.attributes left id (below_left v id lt value at) ∙ c.there);
            alike = c.alike;
          })
          (λ v le id value e. absurd (none-some value (sym (gone v id le) ∙ e)));
    }
      where
        below_left : (v id : ℕ) → v < n → (value : Value) → in_cell s v id ≡ Some value → id < left
        below_left v id lt value at = by (nat_lt id left) refl
          where
            by : (t : Bool) → nat_lt id left ≡ t → id < left
            by true e = grind (arith, nat_tests)
            by false e =
                let le : left ≤ id = grind (arith, nat_tests) in
                let there = cell-held s.records s.cells v id value at in
                absurd (none-some there.0 (sym (none_left v id lt le) ∙ there.1))

    known : (v id : ℕ) (bytes : List ℕ) → held after v id ≡ Some bytes → (v < n) × (id < length (pairs_of c4))
    known = by_version (λ v. (id : ℕ) (bytes : List ℕ) → held after v id ≡ Some bytes → (v < n) × (id < length (pairs_of c4)))
        (λ v lt id bytes e. (lt, by v lt id bytes e (nat_lt id left) refl))
        (λ v le id bytes e. absurd (none-some bytes (sym (held_high v id le) ∙ e)))
      where
        by : (v : ℕ) → v < n → (id : ℕ) (bytes : List ℕ) → held after v id ≡ Some bytes → (t : Bool) → nat_lt id left ≡ t → id < length (pairs_of c4)
        by v lt id bytes e true f = let less : id < left = grind (arith, nat_tests) in omega (arith, less, pairs_len)
        by v lt id bytes e false f =
            let le : left ≤ id = grind (arith, nat_tests) in
            absurd (none-some bytes (sym (none_left v id lt le) ∙ sym (λ i. held_low v lt i id) ∙ e))

    documents : AreDocuments (pairs_of c4) (counts_of c4) after.history (held after)
    documents = record {
      known = known;
      kept = by_version (λ v. IsKept (pairs_of c4) (fields_of (pairs_of c4) (held after v)))
          (λ v lt. subst (IsKept (pairs_of c4)) (sym (fields_low v lt)) (kept-same old (pairs_of c4) (fields_of old (held s v)) (agree v lt) (h.documents.kept v)))
          (λ v le. subst (IsKept (pairs_of c4)) (sym (fields_high v le)) (All-nil (IsHeld (pairs_of c4) (document_stored (pairs_of c4) []))));
      documents = by_version (λ v. IsDocument (document_of (pairs_of c4) (held after v)))
          (λ v lt. subst IsDocument (sym (document_low v lt)) (h.documents.documents v))
          (λ v le. subst IsDocument (sym (document_high v le)) tt);
      few = by_version (λ v. length (fields_of (pairs_of c4) (held after v)) ≤ most_fields)
          (λ v lt. subst (λ (fs : List Field). length fs ≤ most_fields) (sym (fields_low v lt)) (h.documents.few v))
          (λ v le. subst (λ (fs : List Field). length fs ≤ most_fields) (sym (fields_high v le)) (omega arith));
      light = by_version (λ v. length (values (fields_of (pairs_of c4) (held after v))) ≤ most_weight)
          (λ v lt. subst (λ (fs : List Field). length (values fs) ≤ most_weight) (sym (fields_low v lt)) (h.documents.light v))
          (λ v le. subst (λ (fs : List Field). length (values fs) ≤ most_weight) (sym (fields_high v le)) (omega arith));
      emptied = λ v w at empty id.
          let r = from_rolled v w at in
          let lt = slice_get_within rolled v w at in
          (λ i. held_low v lt i id) ∙ h.documents.emptied v r.version r.there (ap (λ (x : Version). x.emptied) (sym r.is) ∙ empty) id;
      counted = λ id count at.
          let a = get-map (λ (x : Attribute). x.count) c4 id count at in
          let b = before id a.0 a.1 in
          a.2 ∙ ap (λ (x : Attribute). x.count) b.2
          ∙ sym (count-same (λ v. is_endless rolled v && holds v id) (λ v. is_endless rolled v && is_some (held after v id)) n (λ v lt. ap (λ (o : Option (List ℕ)). is_endless rolled v && is_some o) (λ i. held_low v lt i id)));
    }

    pub rolled-layout : IsLayout after
    rolled-layout = record { placed = placed; documents = documents }

    pub rolled-all : HasRolledBack commit left s after
    rolled-all = record { history = refl; attributes = attrs; records = refl; cells = λ v id lt. low v id lt; gone = λ v id le. gone v id le }

    -- ---- what rows show

    shown_is : (m row : ℕ) → shown after m row ≡ option_map (λ version. document_at s version.0) (visible row m rolled)
    shown_is m row = by (position (is_seen row m) rolled) refl
      where
        by : (o : Option ℕ) → position (is_seen row m) rolled ≡ o → option_map (λ version. document_at after version.0) (option_map version_at o) ≡ option_map (λ version. document_at s version.0) (option_map version_at o)
        by None e = refl
        by (Some i) e = let at = position-Some (is_seen row m) rolled i (begun 0 0) e in ap (λ (d : Fields). Some d) (document_low i at.0)

    pub rolled-shows : 0 < commit → ShowsBefore commit versions rolled → ShowsAsBefore commit s after
    rolled-shows pos law = record {
      earlier = λ m row lt. shown_is m row ∙ ap (option_map (λ version. document_at s version.0)) (law.earlier m row lt);
      later = λ m row le. shown_is m row ∙ ap (option_map (λ version. document_at s version.0)) (law.later m row pos le);
    }
