-- What a lawful path leads to is what the document has.
use Rattle.std.proofs.Common.{◌≡◌, ℕ, zero, suc, ◌+◌, ◌<◌, nat_eq, Bool, true, false, cond, List, [], ◌∷◌, ◌++◌, length, drop, Option, Some, None, IfSome, option_map, option_and_then, unwrap_or, slice_get, refl, sym, ap, subst, ◌∙◌, arith, true≢false}
use Rattle.std.specs.Prelude.{All}
use Rattle.std.specs.Option.{option_map_or, option_or}
use Rattle.std.proofs.lemmas.Bool.Decides.{nat_tests}
use Rattle.std.proofs.lemmas.List.Elements.{All-nil, All-cons, All-append, All-weaker}
use Rattle.std.proofs.lemmas.Option.{same_Some, none-some, slice_get_within}
use Rattle.doc_values.specs.Doc.{value_at}
use Rattle.doc_values.specs.Order.{rank, same_kind}
use Rattle.doc_values.specs.Value.{kind_of}
use Rattle.doc_values.specs.declared.attr_id.AttrId.{AttrId}
use Rattle.doc_values.specs.declared.kind.Kind.{Kind}
use Rattle.doc_values.specs.declared.kind.Kind.TheVariants as kind
use Rattle.doc_values.specs.declared.value.Value.{Value}
use Rattle.reservoir_record.specs.declared.fields.Field.{Field}
use Rattle.reservoir_record.specs.Finding.{value_of}
use Rattle.attr_catalog.specs.Attribute.{Attribute}
use Rattle.attr_catalog.specs.Catalog.{id_of, kinds_of, IsOnce}
use Rattle.attr_catalog.specs.Paths.{way_by, ways_to, lawful_path, IsLawful}
use Rattle.attr_catalog.specs.declared.home.Home.{Home}
use Rattle.attr_catalog.specs.declared.home.Home.TheVariants as home
use Rattle.attr_catalog.specs.declared.way.Way.{Way}
use Rattle.document_records.specs.Laws.{AreOfDocument, RecordsAreDocuments}
use Rattle.document_records.specs.ReadBack.{value_of_kind, value_under}
use Rattle.document_records.specs.StoredValue.{bytes_of, value_in, AreReadable, ReadsBack}
use Rattle.document_records.specs.StoredDocument.{pairs_of}
use Rattle.document_records.proofs.CatalogNumbers.{stands_for, pair_at}
use Rattle.layout_store.specs.Along.{value_stored, value_by, first_of}
use Rattle.layout_store.specs.Documents.{fields_of, document_at}
use Rattle.layout_store.specs.Placed.{IsHome, IsLayout}
use Rattle.layout_store.specs.Storage.{Storage, record_at, either_side, in_record, in_cell, held}
use Rattle.layout_store.specs.Values.{if_wanted, value_wanted, number_of, value_held}
use Rattle.layout_store.proofs.Fields.{value-below}
use Rattle.layout_store.proofs.Stored.{stored-at}

-- ---- paths

first-append : (f : Way → Option Value) (xs ys : List Way) → first_of f (xs ++ ys) ≡ option_or (first_of f xs) (first_of f ys)
first-append f [] ys = refl
first-append f (x ∷ xs) ys = by (f x) (first-append f xs ys)
  where
    by : (o : Option Value) → first_of f (xs ++ ys) ≡ option_or (first_of f xs) (first_of f ys) → option_or o (first_of f (xs ++ ys)) ≡ option_or (option_or o (first_of f xs)) (first_of f ys)
    by None e = e
    by (Some v) e = refl

-- A way leads to an attribute.
pub record Leads (attributes : List Attribute) (w : Way) : Type 0 where
  pub attribute : Attribute
  pub there : slice_get attributes (number_of w) ≡ Some attribute

number_by : (id : AttrId) (to : Home) (mark : Option ℕ) → number_of (way_by id to mark) ≡ id.0
number_by id home.Reservoir None = refl
number_by id home.Column None = refl
number_by id home.Reservoir (Some c) = refl
number_by id home.Column (Some c) = refl

ways_by : (attributes : List Attribute) (id : AttrId) (o : Option Attribute) → slice_get attributes id.0 ≡ o → All (Leads attributes) (option_map_or (λ (a : Attribute). way_by id a.home a.mark ∷ []) o [])
ways_by attributes id None e = All-nil (Leads attributes)
ways_by attributes id (Some a) e = All-cons (Leads attributes) (way_by id a.home a.mark) [] (record { attribute = a; there = ap (slice_get attributes) (number_by id a.home a.mark) ∙ e }) (All-nil (Leads attributes))

ways_lead : (attributes : List Attribute) (o : Option AttrId) → All (Leads attributes) (ways_to attributes o)
ways_lead attributes None = All-nil (Leads attributes)
ways_lead attributes (Some id) = ways_by attributes id (slice_get attributes id.0) refl

path_leads : (attributes : List Attribute) (name : List ℕ) (wanted : Option Kind) → All (Leads attributes) (lawful_path name wanted attributes)
path_leads attributes name (Some of) = ways_lead attributes (id_of name of attributes)
path_leads attributes name None =
    let l : (of : Kind) → All (Leads attributes) (ways_to attributes (id_of name of attributes)) = λ of. ways_lead attributes (id_of name of attributes) in
    All-append (Leads attributes) (ways_to attributes (id_of name kind.Bool attributes)) _ (l kind.Bool)
    (All-append (Leads attributes) (ways_to attributes (id_of name kind.Int attributes)) _ (l kind.Int)
    (All-append (Leads attributes) (ways_to attributes (id_of name kind.Text attributes)) _ (l kind.Text) (All-append (Leads attributes) (ways_to attributes (id_of name kind.Array attributes)) _ (l kind.Array) (l kind.Object))))

all-lead : (attributes : List Attribute) (path : List Way) → IsLawful attributes path → All (Leads attributes) path
all-lead attributes path lawful = subst (All (Leads attributes)) (sym lawful.2) (path_leads attributes lawful.0 lawful.1)

-- so the number of each is below that of the attributes
pub all-below : (attributes : List Attribute) (path : List Way) → IsLawful attributes path → All (λ (w : Way). number_of w < length attributes) path
all-below attributes path lawful = All-weaker (Leads attributes) (λ (w : Way). number_of w < length attributes) (λ (w : Way) (l : Leads attributes w). slice_get_within attributes (number_of w) l.attribute l.there) path (all-lead attributes path lawful)

-- one way more that leads to nothing, or the first that leads to a value
pub first-next : (f : Way → Option Value) (ways : List Way) (k : ℕ) (w : Way) → slice_get ways k ≡ Some w → first_of f (drop k ways) ≡ option_or (f w) (first_of f (drop (k + 1) ways))
first-next f [] k w at = absurd (cc)
first-next f (x ∷ xs) zero w at = let same : x ≡ w = same_Some x w at in ap (λ (y : Way). option_or (f y) (first_of f xs)) same ∙ ap (λ (l : List Way). option_or (f w) (first_of f l)) (sym (drop_none xs))
  where
    drop_none : (l : List Way) → drop 0 l ≡ l
    drop_none [] = refl
    drop_none (y ∷ l) = refl
first-next f (x ∷ xs) (suc k) w at = let same : suc (k + 1) ≡ suc k + 1 = omega arith in first-next f xs k w at ∙ ap (λ (n : ℕ). option_or (f w) (first_of f (drop n (x ∷ xs)))) same

pub first-all : (f : Way → Option Value) (ways : List Way) → first_of f (drop 0 ways) ≡ first_of f ways
first-all f [] = refl
first-all f (x ∷ xs) = refl

pub first-none : (f : Way → Option Value) (ways : List Way) → first_of f (drop (length ways) ways) ≡ None
first-none f [] = refl
first-none f (x ∷ xs) = first-none f xs

-- ---- a way leads to what is held

same_rank : (a b : Kind) → rank a ≡ rank b → a ≡ b
same_rank kind.Bool kind.Bool e = refl
same_rank kind.Int kind.Int e = refl
same_rank kind.Text kind.Text e = refl
same_rank kind.Array kind.Array e = refl
same_rank kind.Object kind.Object e = refl
same_rank a b e = absurd (omega arith)

side_none : (o : Option (List ℕ)) → either_side o None ≡ o
side_none None = refl
side_none (Some b) = refl

module _ (s : Storage) (h : IsLayout s) (back : ReadsBack) (version : ℕ) (lt : version < length s.history.versions) where
  abbrev record_of : List Field
  record_of = record_at version s.records

  abbrev value_of_way : Way → Option Value
  value_of_way = value_by s.attributes record_of s.cells version

  cell_back : (id : ℕ) (a : Attribute) → slice_get s.attributes id ≡ Some a → (o : Option Value) → in_cell s version id ≡ o → o ≡ option_map (value_in a.kind) (option_map bytes_of o)
  cell_back id a at None e = refl
  cell_back id a at (Some value) e =
      let c = h.placed.celled version id value e in
      let same : c.attribute ≡ a = same_Some c.attribute a (sym c.there ∙ at) in
      let of : kind_of value ≡ a.kind = c.alike ∙ ap (λ (x : Attribute). x.kind) same in
      ap (λ (v : Value). Some v) (sym (back value c.storable) ∙ ap (λ (k : Kind). value_in k (bytes_of value)) of)

  stored_is : (id : ℕ) (a : Attribute) → slice_get s.attributes id ≡ Some a → value_stored s.attributes record_of id ≡ option_map (value_in a.kind) (in_record s version id)
  stored_is id a at = ap (λ (o : Option Attribute). option_map_or (λ (x : Attribute). option_map (value_in x.kind) (value_of id record_of)) o None) at

  from_record : (id : ℕ) (a : Attribute) → slice_get s.attributes id ≡ Some a → in_cell s version id ≡ None → value_stored s.attributes record_of id ≡ option_map (value_in a.kind) (held s version id)
  from_record id a at none = stored_is id a at ∙ ap (option_map (value_in a.kind)) (sym (side_none (in_record s version id)) ∙ ap (either_side (in_record s version id)) (sym none))

  from_cell : (id : ℕ) (a : Attribute) → slice_get s.attributes id ≡ Some a → in_record s version id ≡ None → in_cell s version id ≡ option_map (value_in a.kind) (held s version id)
  from_cell id a at none = cell_back id a at (in_cell s version id) refl ∙ ap (λ (o : Option (List ℕ)). option_map (value_in a.kind) (either_side o (in_cell s version id))) (sym none)

  record_lacks : (id : ℕ) (value : Value) → in_cell s version id ≡ Some value → (o : Option (List ℕ)) → in_record s version id ≡ o → o ≡ None
  record_lacks id value e None f = refl
  record_lacks id value e (Some b) f = absurd (none-some value (sym (h.placed.apart version id b f) ∙ e))

  from_either : (id : ℕ) (a : Attribute) → slice_get s.attributes id ≡ Some a → (o : Option Value) → in_cell s version id ≡ o → option_or o (value_stored s.attributes record_of id) ≡ option_map (value_in a.kind) (held s version id)
  from_either id a at None e = from_record id a at e
  from_either id a at (Some value) e = sym e ∙ from_cell id a at (record_lacks id value e (in_record s version id) refl)

  way_value : (id : AttrId) (a : Attribute) → slice_get s.attributes id.0 ≡ Some a → (to : Home) (mark : Option ℕ) → a.home ≡ to → a.mark ≡ mark → value_of_way (way_by id to mark) ≡ option_map (value_in a.kind) (held s version id.0)
  way_value id a at home.Reservoir None e f =
      let here = h.placed.home version id.0 a at (subst (λ (o : Option ℕ). version < unwrap_or o (length s.history.versions)) (sym f) lt) in
      from_record id.0 a at (subst (λ (t : Home). IsHome t s version id.0) e here)
  way_value id a at home.Column None e f =
      let here = h.placed.home version id.0 a at (subst (λ (o : Option ℕ). version < unwrap_or o (length s.history.versions)) (sym f) lt) in
      from_cell id.0 a at (subst (λ (t : Home). IsHome t s version id.0) e here)
  way_value id a at home.Reservoir (Some c) e f = from_either id.0 a at (in_cell s version id.0) refl
  way_value id a at home.Column (Some c) e f = from_either id.0 a at (in_cell s version id.0) refl

  -- ---- a name

  module _ (once : IsOnce s.attributes) (law : RecordsAreDocuments) (name : List ℕ) where
    abbrev fields : List Field
    fields = fields_of (pairs_of s.attributes) (held s version)

    told : AreOfDocument s.attributes fields name
    told = law s.attributes fields name once (h.documents.kept version)

    or_none : (o : Option Value) → option_or o None ≡ o
    or_none None = refl
    or_none (Some v) = refl

    one_by : (of : Kind) (o : Option AttrId) → id_of name of s.attributes ≡ o → first_of value_of_way (ways_to s.attributes o) ≡ value_of_kind of o fields
    one_by of None e = refl
    one_by of (Some id) e =
        let st = stands_for s.attributes name of id e in
        let below : id.0 < length (pairs_of s.attributes) = slice_get_within (pairs_of s.attributes) id.0 (st.attribute.name, st.attribute.kind) (pair_at s.attributes id.0 st.attribute st.there) in
        ap (λ (o : Option Attribute). first_of value_of_way (option_map_or (λ (a : Attribute). way_by id a.home a.mark ∷ []) o [])) st.there
        ∙ or_none (value_of_way (way_by id st.attribute.home st.attribute.mark))
        ∙ way_value id st.attribute st.there st.attribute.home st.attribute.mark refl refl
        ∙ ap (λ (k : Kind). option_map (value_in k) (held s version id.0)) (sym st.kinded)
        ∙ ap (option_map (value_in of)) (sym (value-below (held s version) (length (pairs_of s.attributes)) id.0 below))

    one : (of : Kind) → first_of value_of_way (ways_to s.attributes (id_of name of s.attributes)) ≡ value_of_kind of (id_of name of s.attributes) fields
    one of = one_by of (id_of name of s.attributes) refl

    any_kind : first_of value_of_way (lawful_path name None s.attributes) ≡ value_under (kinds_of name s.attributes) fields
    any_kind =
        let w : Kind → List Way = λ of. ways_to s.attributes (id_of name of s.attributes) in
        let f = value_of_way in
        first-append f (w kind.Bool) (w kind.Int ++ (w kind.Text ++ (w kind.Array ++ w kind.Object)))
        ∙ ap (option_or (first_of f (w kind.Bool))) (first-append f (w kind.Int) (w kind.Text ++ (w kind.Array ++ w kind.Object))
        ∙ ap (option_or (first_of f (w kind.Int))) (first-append f (w kind.Text) (w kind.Array ++ w kind.Object)
        ∙ ap (option_or (first_of f (w kind.Text))) (first-append f (w kind.Array) (w kind.Object))))
        ∙ (λ i. option_or (one kind.Bool i) (option_or (one kind.Int i) (option_or (one kind.Text i) (option_or (one kind.Array i) (one kind.Object i)))))

    all_wanted : (o : Option Value) → o ≡ option_and_then (if_wanted None) o
    all_wanted None = refl
    all_wanted (Some v) = refl

    test_kind : (of : Kind) → same_kind of of ≡ true
    test_kind kind.Bool = refl
    test_kind kind.Int = refl
    test_kind kind.Text = refl
    test_kind kind.Array = refl
    test_kind kind.Object = refl

    found_by : (of : Kind) (v : Value) → value_at name (document_at s version) ≡ Some v → (o : Option Value) → value_of_kind of (id_of name of s.attributes) fields ≡ o → (t : Bool) → same_kind (kind_of v) of ≡ t → o ≡ cond t (Some v) None
    found_by of v at None e true test =
        let same : kind_of v ≡ of = same_rank (kind_of v) of (let ranks : nat_eq (rank (kind_of v)) (rank of) ≡ true = test in grind (arith, nat_tests)) in
        sym e ∙ ap (λ (k : Kind). value_of_kind k (id_of name k s.attributes) fields) (sym same) ∙ told.each v at
    found_by of v at (Some w) e true test = ap (λ (x : Value). Some x) (same_Some w v (sym (told.only of w e) ∙ at))
    found_by of v at None e false test = refl
    found_by of v at (Some w) e false test =
        let is : w ≡ v = same_Some w v (sym (told.only of w e) ∙ at) in
        let alike : kind_of v ≡ of = ap kind_of (sym is) ∙ told.alike of w e in
        absurd (true≢false (sym (test_kind of) ∙ ap (λ (k : Kind). same_kind k of) (sym alike) ∙ test))

    of_kind_by : (of : Kind) (o : Option Value) → value_at name (document_at s version) ≡ o → (p : Option Value) → value_of_kind of (id_of name of s.attributes) fields ≡ p → p ≡ option_and_then (if_wanted (Some of)) o
    of_kind_by of None at None e = refl
    of_kind_by of None at (Some w) e = absurd (none-some w (sym at ∙ told.only of w e))
    of_kind_by of (Some v) at p e = found_by of v at p e (same_kind (kind_of v) of) refl

    pub path-value : (wanted : Option Kind) → first_of value_of_way (lawful_path name wanted s.attributes) ≡ value_wanted name wanted (document_at s version)
    path-value None = any_kind ∙ told.found ∙ all_wanted (value_at name (document_at s version))
    path-value (Some of) = one of ∙ of_kind_by of (value_at name (document_at s version)) refl (value_of_kind of (id_of name of s.attributes) fields) refl

-- what stands in a record can be read
pub can-read : (s : Storage) → IsLayout s → (version id : ℕ) (a : Attribute) → slice_get s.attributes id ≡ Some a → IfSome (value_of id (record_at version s.records)) (AreReadable a.kind)
can-read s h version id a at = by (value_of id (record_at version s.records)) refl
  where
    by : (o : Option (List ℕ)) → value_of id (record_at version s.records) ≡ o → IfSome o (AreReadable a.kind)
    by None e = tt
    by (Some bytes) e =
        (stored-at (pairs_of s.attributes) (held s version) (h.documents.kept version) id bytes (a.name, a.kind) (pair_at s.attributes id a at) (λ k. either_side (e k) (in_cell s version id))).readable

-- where a clean column has its values, they are what is held, of every version
pub column-value : (s : Storage) → IsLayout s → ReadsBack → (version id : ℕ) (a : Attribute) → slice_get s.attributes id ≡ Some a → a.mark ≡ None → a.home ≡ home.Column → in_cell s version id ≡ value_held s version id
column-value s h back version id a at clean column = by (held s version id) refl
  where
    sides : (o : Option Value) → in_cell s version id ≡ o → option_map bytes_of o ≡ None → o ≡ None
    sides None e f = refl
    sides (Some v) e f = absurd (none-some (bytes_of v) (sym f))

    cell_of : (r : Option (List ℕ)) (o : Option Value) → either_side r o ≡ None → option_map bytes_of o ≡ None
    cell_of None o e = e
    cell_of (Some b) o e = absurd (none-some b (sym e))

    held_is : value_held s version id ≡ option_map (value_in a.kind) (held s version id)
    held_is = ap (λ (o : Option Attribute). option_map_or (λ (x : Attribute). option_map (value_in x.kind) (held s version id)) o None) at

    by : (o : Option (List ℕ)) → held s version id ≡ o → in_cell s version id ≡ value_held s version id
    by None e = sides (in_cell s version id) refl (cell_of (in_record s version id) (in_cell s version id) e) ∙ sym (held_is ∙ ap (option_map (value_in a.kind)) e)
    by (Some bytes) e =
        let lt = (h.documents.known version id bytes e).0 in
        let here = h.placed.home version id a at (subst (λ (o : Option ℕ). version < unwrap_or o (length s.history.versions)) (sym clean) lt) in
        from_cell s h back version lt id a at (subst (λ (t : Home). IsHome t s version id) column here) ∙ sym held_is
