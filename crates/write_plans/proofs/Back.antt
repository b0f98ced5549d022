-- What a roll back leaves of a write that is under way: all that was before it.
use Rattle.std.proofs.Common.{◌≡◌, ℕ, zero, suc, ◌+◌, ◌<◌, ◌≤◌, ◌&&◌, nat_lt, cond, Bool, true, false, List, [], ◌∷◌, ◌++◌, length, map, take, Option, Some, None, IfSome, is_some, option_map, unwrap_or, slice_get, refl, sym, ap, subst, ◌∙◌, inl, inr, arith, length-append}
use Rattle.std.proofs.lemmas.Bool.Decides.{nat_tests}
use Rattle.std.proofs.lemmas.List.{length-map, length-take-le}
use Rattle.std.proofs.lemmas.Option.{same_Some, none-some, slice_get_within, slice_get_past, slice_get-map}
use Rattle.doc_values.specs.declared.kind.Kind.{Kind}
use Rattle.doc_values.specs.declared.value.Value.{Value}
use Rattle.reservoir_record.specs.declared.fields.Field.{Field}
use Rattle.reservoir_record.specs.Finding.{value_of}
use Rattle.attr_catalog.specs.Attribute.{Attribute}
use Rattle.phys_columns.specs.Cells.{Cells, cell_at}
use Rattle.row_versions.specs.declared.version.Version.{Version}
use Rattle.row_versions.specs.History.{History, rolled_back, visible}
use Rattle.row_versions.specs.Order.{IsLatest}
use Rattle.row_versions.specs.Shows.{RollBacksShow}
use Rattle.row_versions.proofs.Places.{get-within, get-map}
use Rattle.document_records.specs.StoredDocument.{Pairs, pairs_of}
use Rattle.layout_store.specs.Storage.{Storage, record_at, either_side, in_cell, held}
use Rattle.layout_store.specs.Documents.{is_endless, count_below, holders, counts_of, document_of}
use Rattle.layout_store.specs.Placed.{IsLayout}
use Rattle.layout_store.specs.RolledBack.{settled, counted, HasRolledBack}
use Rattle.layout_store.specs.Shows.{shown, ShowsTheSame}
use Rattle.write_plans.specs.Becomes.{StandsAsBefore}
use Rattle.write_plans.specs.UnderWay.{IsFront, bare, CanBeTakenBack}
use Rattle.write_plans.proofs.Items.{get-front, get-take, take-few, same-items}

-- ---- what stands as it stood

pairs_settled : (versions : ℕ) (list : List Attribute) → pairs_of (map (settled versions) list) ≡ pairs_of list
pairs_settled versions [] = refl
pairs_settled versions (a ∷ list) = ap (λ (ps : Pairs). (a.name, a.kind) ∷ ps) (pairs_settled versions list)

pub pairs-stand : (before after : Storage) → StandsAsBefore before after → pairs_of after.attributes ≡ pairs_of before.attributes
pairs-stand before after h =
    elim h.attributes [ inl same ↦ ap pairs_of same | inr gone ↦ ap pairs_of gone ∙ pairs_settled (length before.history.versions) before.attributes ]

pub shows-stand : (before after : Storage) → StandsAsBefore before after → ShowsTheSame before after
shows-stand before after h n row =
    let same : held after ≡ held before = λ i v id. h.held v id i in
    let pairs = pairs-stand before after h in
    λ i. option_map (λ version. document_of (pairs i) (same i version.0)) (visible row n (h.history i).versions)

pub stands-same : (s : Storage) → StandsAsBefore s s
stands-same s = record { attributes = inl refl; history = refl; held = λ v id. refl }

-- ---- counts

count-same : (f g : ℕ → Bool) (n : ℕ) → ((v : ℕ) → v < n → f v ≡ g v) → count_below f n ≡ count_below g n
count-same f g zero h = refl
count-same f g (suc n) h = λ i. (cond (h n (omega arith) i) 1 0) + count-same f g n (λ v lt. h v (omega arith)) i

get_counts : (list : List Attribute) (i : ℕ) (a : Attribute) → slice_get list i ≡ Some a → slice_get (counts_of list) i ≡ Some a.count
get_counts [] i a e = absurd (cc)
get_counts (b ∷ bs) zero a e = ap (λ (x : Attribute). Some x.count) (same_Some b a e)
get_counts (b ∷ bs) (suc i) a e = get_counts bs i a e

-- ---- back

none_held : (o : Option (List ℕ)) → ((bytes : List ℕ) → o ≡ Some bytes → ⊥) → o ≡ None
none_held None h = refl
none_held (Some bytes) h = absurd (h bytes refl)

module _ (rolls : RollBacksShow) (before mid : Storage) (l : IsLayout before) (now commit : ℕ) (latest : IsLatest now before.history.versions) (lt : now < commit) (u : CanBeTakenBack commit before mid) where
  abbrev most : ℕ
  most = length before.history.versions

  back : rolled_back commit mid.history.versions ≡ before.history.versions
  back = u.back ∙ rolls.untouched now commit before.history.versions latest lt

  recorded : (v : ℕ) → v < most → record_at v mid.records ≡ record_at v before.records
  recorded v in_range =
      ap (λ (l : List (List Field)). record_at v l) u.records.is ∙ ap (λ (o : Option (List Field)). unwrap_or o []) (get-front before.records u.records.more v (omega (arith, l.placed.recorded)))

  held_mid : (v id : ℕ) → v < most → held mid v id ≡ held before v id
  held_mid v id in_range =
      let fields = recorded v in_range in
      λ i. either_side (value_of id (fields i)) (cell_at id v (u.cells i))

  none_past : (v id : ℕ) → most ≤ v → held before v id ≡ None
  none_past v id past = none_held (held before v id) (λ bytes e. let known = l.documents.known v id bytes e in absurd (omega (arith, known.0)))

  none_new : (v id : ℕ) → length before.attributes ≤ id → held before v id ≡ None
  none_new v id new = none_held (held before v id) (λ bytes e. let known = l.documents.known v id bytes e in absurd (omega (arith, known.1, length-map before.attributes (λ (a : Attribute). let p : List ℕ × Kind = (a.name, a.kind) in p))))

  pub few : length before.attributes ≤ length mid.attributes
  few = omega (arith, ap length u.attributes.is, length-append (map (bare most) before.attributes) u.attributes.more, length-map mid.attributes (bare most), length-map before.attributes (bare most))

  pub unheld : (version id : ℕ) → length before.attributes ≤ id → IfSome (slice_get mid.history.versions version) (λ v. v.begin < commit → held mid version id ≡ None)
  unheld version id new = by (slice_get mid.history.versions version) refl
    where
      by : (o : Option Version) → slice_get mid.history.versions version ≡ o → IfSome o (λ v. v.begin < commit → held mid version id ≡ None)
      by None at = tt
      by (Some v) at = λ early. in_or (nat_lt version most) refl v at early
        where
          in_or : (t : Bool) → nat_lt version most ≡ t → (v : Version) → slice_get mid.history.versions version ≡ Some v → v.begin < commit → held mid version id ≡ None
          in_or true e v at early = let below : version < most = grind (arith, nat_tests) in held_mid version id below ∙ none_new version id new
          in_or false e v at early = let past : most ≤ version = grind (arith, nat_tests) in absurd (omega (arith, u.young version v past at))

  module _ (after : Storage) (r : HasRolledBack commit (length before.attributes) mid after) where
    versions : after.history.versions ≡ before.history.versions
    versions = ap (λ (x : History). x.versions) r.history ∙ back

    many : length after.history.versions ≡ most
    many = ap length versions

    held_after : (v id : ℕ) → held after v id ≡ held before v id
    held_after v id = by (nat_lt v most) refl
      where
        by : (t : Bool) → nat_lt v most ≡ t → held after v id ≡ held before v id
        by true e =
            let below : v < most = grind (arith, nat_tests) in
            let within : v < length after.history.versions = omega (arith, many) in
            let fields : record_at v after.records ≡ record_at v mid.records =
            ap (λ (l : List (List Field)). record_at v l) r.records ∙ ap (λ (o : Option (List Field)). unwrap_or o []) (get-take mid.records (length after.history.versions) v within) in
            let cells = r.cells v id within in
            (λ i. either_side (value_of id (fields i)) (cells i)) ∙ held_mid v id below
        by false e =
            let past : most ≤ v = grind (arith, nat_tests) in
            let behind : length after.history.versions ≤ v = omega (arith, many) in
            let fields : record_at v after.records ≡ [] =
            ap (λ (o : Option (List Field)). unwrap_or o []) (slice_get_past after.records v (omega (arith, ap length r.records, take-few mid.records (length after.history.versions)))) in
            let cells = r.gone v id behind in
            (λ i. either_side (value_of id (fields i)) (cells i)) ∙ sym (none_past v id past)

    held_by : (id : ℕ) → holders after.history.versions (held mid) id ≡ holders before.history.versions (held before) id
    held_by id =
        ap (λ (vs : List Version). holders vs (held mid) id) versions
        ∙ count-same (λ v. is_endless before.history.versions v && is_some (held mid v id)) (λ v. is_endless before.history.versions v && is_some (held before v id)) most
        (λ v in_range. ap (λ (o : Option (List ℕ)). is_endless before.history.versions v && is_some o) (held_mid v id in_range))

    alike : (i : ℕ) (m a : Attribute) → slice_get mid.attributes i ≡ Some m → slice_get before.attributes i ≡ Some a → bare most m ≡ bare most a
    alike i m a m_at a_at =
        let in_range = slice_get_within before.attributes i a a_at in
        same_Some (bare most m) (bare most a) (
        ap (option_map (bare most)) (sym m_at) ∙ sym (slice_get-map (bare most) mid.attributes i) ∙ ap (λ (l : List Attribute). slice_get l i) u.attributes.is
        ∙ get-front (map (bare most) before.attributes) u.attributes.more i (omega (arith, in_range, length-map before.attributes (bare most)))
        ∙ slice_get-map (bare most) before.attributes i ∙ ap (option_map (bare most)) a_at)

    attribute : (i : ℕ) (x y : Attribute) → slice_get after.attributes i ≡ Some x → slice_get (map (settled most) before.attributes) i ≡ Some y → x ≡ y
    attribute i x y x_at y_at =
        let a = get-map (settled most) before.attributes i y y_at in
        let in_range = slice_get_within before.attributes i a.0 a.1 in
        let m = get-within mid.attributes i (omega (arith, in_range, few)) in
        let left = get-take mid.attributes (length before.attributes) i in_range ∙ m.1 in
        let is : x ≡ settled (length after.history.versions) (counted (holders after.history.versions (held mid) i) m.0) = same_Some x _ (sym x_at ∙ r.attributes.each i m.0 left) in
        let count : a.0.count ≡ holders before.history.versions (held before) i = l.documents.counted i a.0.count (get_counts before.attributes i a.0 a.1) in
        is ∙ ap (λ (n : ℕ). settled n (counted (holders after.history.versions (held mid) i) m.0)) many
        ∙ ap (counted (holders after.history.versions (held mid) i)) (alike i m.0 a.0 m.1 a.1)
        ∙ ap (λ (n : ℕ). counted n (settled most a.0)) (held_by i ∙ sym count) ∙ sym a.2

    pub taken-back : StandsAsBefore before after
    taken-back = record {
      attributes = inr (same-items after.attributes (map (settled most) before.attributes)
          (r.attributes.many ∙ length-take-le (length before.attributes) mid.attributes few ∙ sym (length-map before.attributes (settled most))) attribute);
      history = r.history ∙ (λ i. record { versions = back i; horizon = u.horizon i });
      held = held_after;
    }
