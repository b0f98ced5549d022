-- Where values stand after a change of one attribute, and after a move.
use Rattle.std.proofs.Common.{◌≡◌, ℕ, ◌<◌, ◌≤◌, List, [], length, set, Option, Some, None, IfSome, unwrap_or, slice_get, refl, sym, ap, subst, ◌∙◌}
use Rattle.std.proofs.lemmas.Option.{same_Some}
use Rattle.doc_values.specs.declared.value.Value.{Value}
use Rattle.reservoir_record.specs.declared.fields.Field.{Field}
use Rattle.attr_catalog.specs.Attribute.{Attribute}
use Rattle.attr_catalog.specs.declared.home.Home.{Home}
use Rattle.row_versions.specs.History.{History}
use Rattle.row_versions.proofs.Places.{get-set_same, get-set_other}
use Rattle.layout_store.specs.Storage.{Storage, record_at, in_record, in_cell}
use Rattle.layout_store.specs.Placed.{IsAtHome, IsHome, clean_below, IsCelled, ArePlaced}
use Rattle.layout_store.specs.Changes.{AreChanged}
use Rattle.layout_store.proofs.Attributes.{equal_or_not, changed-back}

-- ---- the same sides, under attributes that are changed

-- Below its mark the changed attribute has its values at home, and its mark is within the versions.
pub record StaysAtHome (s : Storage) (i : ℕ) (a b : Attribute) : Type 0 where
  pub kind : b.kind ≡ a.kind
  pub home : (v : ℕ) → v < clean_below (length s.history.versions) b → IsHome b.home s v i
  pub mark : IfSome b.mark (λ c. c ≤ length s.history.versions)

pub stays-itself : (s : Storage) → ArePlaced s → (i : ℕ) (a : Attribute) → slice_get s.attributes i ≡ Some a → StaysAtHome s i a a
stays-itself s h i a at = record { kind = refl; home = λ v lt. h.home v i a at lt; mark = h.marks i a at }

pub placed-changed : (s : Storage) (bs : List Attribute) (change : ℕ → Attribute → Attribute) → AreChanged change s.attributes bs → ArePlaced s → ((i : ℕ) (a : Attribute) → slice_get s.attributes i ≡ Some a → StaysAtHome s i a (change i a))
    → ArePlaced (record { attributes = bs; history = s.history; records = s.records; cells = s.cells })
placed-changed s bs change ch h stays = record {
  recorded = h.recorded;
  apart = h.apart;
  home = λ v i b at lt.
      let a = changed-back change s.attributes bs ch i b at in
      let st = stays i a.0 a.1 in
      subst (λ (x : Attribute). IsHome x.home s v i) (sym a.2) (st.home v (subst (λ (x : Attribute). v < clean_below (length s.history.versions) x) a.2 lt));
  marks = λ i b at.
      let a = changed-back change s.attributes bs ch i b at in
      subst (λ (x : Attribute). IfSome x.mark (λ c. c ≤ length s.history.versions)) (sym a.2) (stays i a.0 a.1).mark;
  celled = λ v i value at.
      let c = h.celled v i value at in
      record {
        storable = c.storable;
        attribute = change i c.attribute;
        there = ch.each i c.attribute c.there;
        alike = c.alike ∙ sym (stays i c.attribute c.there).kind;
      };
}

-- ---- one value moved

-- One value has another side, where it stands as it did or at home; all others stand where they did.
pub record HasMoved (to : Home) (id version : ℕ) (before after : Storage) : Type 0 where
  pub attributes : after.attributes ≡ before.attributes
  pub history : after.history ≡ before.history
  pub many : length after.records ≡ length before.records
  pub records : (v i : ℕ) → (v ≡ version → i ≡ id → ⊥) → in_record after v i ≡ in_record before v i
  pub cells : (v i : ℕ) → (v ≡ version → i ≡ id → ⊥) → in_cell after v i ≡ in_cell before v i
  pub there : IsHome to after version id
  pub apart : (bytes : List ℕ) → in_record after version id ≡ Some bytes → in_cell after version id ≡ None
  pub celled : (value : Value) → in_cell after version id ≡ Some value → IsCelled before.attributes id value

place_or : (P : ℕ → ℕ → Type 0) (version id : ℕ) → P version id → ((v i : ℕ) → (v ≡ version → i ≡ id → ⊥) → P v i) → (v i : ℕ) → P v i
place_or P version id here other v i =
    equal_or_not v version (P v i)
    (λ same. equal_or_not i id (P v i) (λ alike. subst (λ (w : ℕ). P w i) (sym same) (subst (λ (j : ℕ). P version j) (sym alike) here)) (λ ne. other v i (λ _ e. ne e)))
    (λ ne. other v i (λ e _. ne e))

pub placed-moved : (to : Home) (id version : ℕ) (before after : Storage) (a : Attribute) → slice_get before.attributes id ≡ Some a → a.home ≡ to → HasMoved to id version before after → ArePlaced before → ArePlaced after
placed-moved to id version before after a at home m h =
    let versions : length after.history.versions ≡ length before.history.versions = ap (λ (k : History). length k.versions) m.history in
    record {
      recorded = m.many ∙ h.recorded ∙ sym versions;
      apart = place_or (λ v i. (bytes : List ℕ) → in_record after v i ≡ Some bytes → in_cell after v i ≡ None) version id m.apart
          (λ v i ne bytes e. m.cells v i ne ∙ h.apart v i bytes (sym (m.records v i ne) ∙ e));
      home = place_or (λ v i. (b : Attribute) → slice_get after.attributes i ≡ Some b → v < clean_below (length after.history.versions) b → IsHome b.home after v i) version id
          (λ b there lt.
          let same : b ≡ a = same_Some b a (sym there ∙ ap (λ (xs : List Attribute). slice_get xs id) m.attributes ∙ at) in
          subst (λ (t : Home). IsHome t after version id) (sym home ∙ ap (λ (x : Attribute). x.home) (sym same)) m.there)
          (λ v i ne b there lt.
          let was = h.home v i b (ap (λ (xs : List Attribute). slice_get xs i) (sym m.attributes) ∙ there) (subst (λ (n : ℕ). v < clean_below n b) versions lt) in
          subst (λ (c : Option Value). IsAtHome b.home (in_record after v i) c) (sym (m.cells v i ne)) (subst (λ (r : Option (List ℕ)). IsAtHome b.home r (in_cell before v i)) (sym (m.records v i ne)) was));
      marks = λ i b there. subst (λ (n : ℕ). IfSome b.mark (λ c. c ≤ n)) (sym versions) (h.marks i b (ap (λ (xs : List Attribute). slice_get xs i) (sym m.attributes) ∙ there));
      celled = place_or (λ v i. (value : Value) → in_cell after v i ≡ Some value → IsCelled after.attributes i value) version id
          (λ value e. subst (λ (xs : List Attribute). IsCelled xs id value) (sym m.attributes) (m.celled value e))
          (λ v i ne value e. subst (λ (xs : List Attribute). IsCelled xs i value) (sym m.attributes) (h.celled v i value (sym (m.cells v i ne) ∙ e)));
    }

-- ---- records by version

pub record-here : (records : List (List Field)) (version : ℕ) (old new : List Field) → slice_get records version ≡ Some old → record_at version (set records version new) ≡ new
record-here records version old new at = ap (λ (o : Option (List Field)). unwrap_or o []) (get-set_same records version new old at)

pub record-other : (records : List (List Field)) (version v : ℕ) (new : List Field) → (v ≡ version → ⊥) → record_at v (set records version new) ≡ record_at v records
record-other records version v new ne = ap (λ (o : Option (List Field)). unwrap_or o []) (get-set_other records version new v ne)

pub record-there : (records : List (List Field)) (version : ℕ) (fields : List Field) → slice_get records version ≡ Some fields → record_at version records ≡ fields
record-there records version fields at = ap (λ (o : Option (List Field)). unwrap_or o []) at
