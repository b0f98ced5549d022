-- The state after commits keeps the rules of a state.
use Rattle.std.proofs.Common.{◌≡◌, ◌≢◌, ℕ, zero, suc, ◌+◌, ◌<◌, ◌≤◌, nat_lt, cond, Bool, true, false, List, [], ◌∷◌, ◌++◌, length, fold, map, Option, Some, refl, sym, ap, ◌∙◌, subst, arith}
use Rattle.std.specs.Prelude.{All, slice_get}
use Rattle.std.specs.List.{AllByRecursion as EachIs, Contains}
use Rattle.std.specs.Str.{bytes_eq}
use Rattle.std.proofs.lemmas.Bool.{cond-true, cond-false, false≢true, or_parts}
use Rattle.std.proofs.lemmas.Bool.Decides.{nat_tests}
use Rattle.std.proofs.lemmas.List.Elements.{All-weaker, All-from_recursion, recursion_from_All}
use Rattle.std.proofs.lemmas.Slice.Eq.{bytes_eq-Decides}
use Rattle.doc_values.specs.Doc.{Fields, IsDocument}
use Rattle.doc_values.specs.Weight.{weight_of}
use Rattle.doc_values.specs.declared.kind.Kind.{Kind}
use Rattle.doc_values.specs.declared.value.Value.{Value}
use Rattle.doc_flatten.specs.Documents.{IsWithinLimits}
use Rattle.attr_catalog.specs.Catalog.{most_attributes}
use Rattle.document_records.specs.Limits.{most_weight}
use Rattle.commit_core.specs.State.{Row, Collection, State, pair_of, IsDocumentOf, IsCollection, IsState, opening, is_named, collection_at, documents_of_rows, documents_at, most_collections}
use Rattle.attr_catalog.specs.Catalog.{most_versions}
use Rattle.commit_core.specs.Write.{accepted, full, loads, rows_from, with_fields, new_collection, with_documents, with_load, is_beyond, is_there_beyond, is_full}
use Rattle.commit_core.specs.Plan.{Plan, refused, read, write, plan_of}
use Rattle.commit_core.specs.Replies.{next_state, state_left, state_behind, state_after}
use Rattle.commit_core.proofs.PairsOnce.{AreOnce-documents}
use Rattle.commit_core.proofs.PairsHeld.{documents_grow, documents_paired}

not_above : (most n : ℕ) → nat_lt most n ≡ false → n ≤ most
not_above most n e = grind (arith, nat_tests)

-- A document of a load.
abbrev IsLight : Fields → Type 0
IsLight document = IsWithinLimits document × (weight_of document ≤ most_weight)

-- a document of a collection is one of it when its pairs have grown
still_of : (documents : List Fields) (pairs : List (List ℕ × Kind)) (document : Fields) → IsDocumentOf pairs document → IsDocumentOf (fold with_fields pairs documents) document
still_of documents pairs document h = record {
  limits = h.limits;
  light = h.light;
  paired = All-weaker (λ (f : List ℕ × Value). Contains pairs (pair_of f)) (λ (f : List ℕ × Value). Contains (fold with_fields pairs documents) (pair_of f)) (λ (f : List ℕ × Value) c. documents_grow documents pairs (pair_of f) c) document h.paired;
}

-- ---- the rows of a load

-- A row of a load, at a position among them.
record IsLoaded (next : ℕ) (documents : List Fields) (i : ℕ) (row : Row) : Type 0 where
  numbered : row.number ≡ next + i
  within : i < length documents
  there : slice_get documents i ≡ Some row.document
  light : IsLight row.document

loaded : (next : ℕ) (documents : List Fields) → EachIs IsLight documents → (i : ℕ) (row : Row) → slice_get (rows_from next documents) i ≡ Some row → IsLoaded next documents i row
loaded next [] all i row e = absurd (cc)
loaded next (d ∷ ds) all zero row e =
    let same : record { number = next; document = d } ≡ row = cc in
    record { numbered = omega (arith, ap (λ (r : Row). r.number) same); within = omega arith; there = ap (λ (r : Row). Some r.document) same; light = subst (λ (r : Row). IsLight r.document) same all.0 }
loaded next (d ∷ ds) all (suc i) row e =
    let rest = loaded (next + 1) ds all.1 i row e in
    record { numbered = omega (arith, rest.numbered); within = omega (arith, rest.within); there = rest.there; light = rest.light }

-- Where a row of rows with more behind them stands.
data Place (rows more : List Row) (i : ℕ) (row : Row) : Type 0 where
  before : slice_get rows i ≡ Some row → i < length rows → Place rows more i row
  behind : (k : ℕ) → i ≡ length rows + k → slice_get more k ≡ Some row → Place rows more i row

place_of : (rows more : List Row) (i : ℕ) (row : Row) → slice_get (rows ++ more) i ≡ Some row → Place rows more i row
place_of [] more i row e = behind i (omega arith) e
place_of (r ∷ rows) more zero row e = before e (omega arith)
place_of (r ∷ rows) more (suc i) row e =
    elim (place_of rows more i row e) [ before f l ↦ before f (omega arith) | behind k s f ↦ behind k (omega arith) f ]

-- Where a row of a collection with documents put into it comes from.
data Origin (collection : Collection) (documents : List Fields) (i : ℕ) (row : Row) : Type 0 where
  kept : slice_get collection.rows i ≡ Some row → i < length collection.rows → Origin collection documents i row
  added : (k : ℕ) → i ≡ length collection.rows + k → IsLoaded collection.next_row documents k row → Origin collection documents i row

origin : (collection : Collection) (documents : List Fields) → EachIs IsLight documents → (i : ℕ) (row : Row) →
    slice_get (with_documents documents collection).rows i ≡ Some row → Origin collection documents i row
origin collection documents all i row e =
    elim (place_of collection.rows (rows_from collection.next_row documents) i row e) [
      | before f l ↦ kept f l
      | behind k s f ↦ added k s (loaded collection.next_row documents all k row f)
    ]

-- A collection that has no more than it may have.
within : (collection : Collection) → is_beyond collection ≡ false → (length collection.pairs ≤ most_attributes) × (collection.versions ≤ most_versions)
within collection e =
    let both = or_parts (nat_lt most_attributes (length collection.pairs)) (nat_lt most_versions collection.versions) e in
    (not_above most_attributes (length collection.pairs) both.0, not_above most_versions collection.versions both.1)

collection_more : (collection : Collection) (documents : List Fields) → EachIs IsLight documents → IsCollection collection → is_beyond (with_documents documents collection) ≡ false
    → IsCollection (with_documents documents collection)
collection_more collection documents all h fits = record {
  ascending = λ i j a b l e f.
      elim (origin collection documents all i a e) [
        | kept e' l' ↦ elim (origin collection documents all j b f) [
          | kept f' m' ↦ h.ascending i j a b l e' f'
          | added n s new ↦ omega (arith, h.below i a e', new.numbered)
        ]
        | added k s new ↦ elim (origin collection documents all j b f) [
          | kept f' m' ↦ absurd (omega arith)
          | added n t newer ↦ omega (arith, new.numbered, newer.numbered)
        ]
      ];
  below = λ i row e.
      elim (origin collection documents all i row e) [
        | kept e' l ↦ omega (arith, h.below i row e')
        | added k s new ↦ omega (arith, new.numbered, new.within)
      ];
  documents = λ i row e.
      elim (origin collection documents all i row e) [
        | kept e' l ↦ still_of documents collection.pairs row.document (h.documents i row e')
        | added k s new ↦ record { limits = new.light.0; light = new.light.1; paired = documents_paired documents collection.pairs k row.document new.there }
      ];
  once = AreOnce-documents documents collection.pairs h.once;
  few_pairs = (within (with_documents documents collection) fits).0;
  few_versions = (within (with_documents documents collection) fits).1;
}

collection_new : (name : List ℕ) → IsCollection (new_collection name)
collection_new name = record {
  ascending = λ i j a b l e f. absurd (cc);
  below = λ i row e. absurd (cc);
  documents = λ i row e. absurd (cc);
  once = λ i j a b e f same. absurd (cc);
  few_pairs = omega arith;
  few_versions = omega arith;
}

-- ---- the collections of a state

-- No collection has the name.
abbrev Unnamed : List ℕ → State → Type 0
Unnamed name state = (i : ℕ) (c : Collection) → slice_get state i ≡ Some c → c.name ≢ name

state_none : IsState []
state_none = record { few = omega arith; names = λ i j a b e f same. absurd (cc); each = λ i c e. absurd (cc) }

-- A name that only a first collection may have.
unnamed_cons : (name : List ℕ) (c : Collection) (more : State) → c.name ≢ name → Unnamed name more → Unnamed name (c ∷ more)
unnamed_cons name c more ne apart zero d e same = ne (let first : c ≡ d = cc in ap (λ (x : Collection). x.name) first ∙ same)
unnamed_cons name c more ne apart (suc i) d e same = apart i d e same

names_cons : (c : Collection) (more : State) → Unnamed c.name more → IsState more →
    (i j : ℕ) (a b : Collection) → slice_get (c ∷ more) i ≡ Some a → slice_get (c ∷ more) j ≡ Some b → a.name ≡ b.name → i ≡ j
names_cons c more apart rest zero zero a b e f same = refl
names_cons c more apart rest zero (suc j) a b e f same =
    let first : c ≡ a = cc in
    absurd (apart j b f (sym (ap (λ (x : Collection). x.name) first ∙ same)))
names_cons c more apart rest (suc i) zero a b e f same =
    let first : c ≡ b = cc in
    absurd (apart i a e (same ∙ sym (ap (λ (x : Collection). x.name) first)))
names_cons c more apart rest (suc i) (suc j) a b e f same = omega (arith, rest.names i j a b e f same)

each_cons : (c : Collection) (more : State) → IsCollection c → IsState more → (i : ℕ) (d : Collection) → slice_get (c ∷ more) i ≡ Some d → IsCollection d
each_cons c more one rest zero d e = let first : c ≡ d = cc in subst (λ (x : Collection). IsCollection x) first one
each_cons c more one rest (suc i) d e = rest.each i d e

state_cons : (c : Collection) (more : State) → length (c ∷ more) ≤ most_collections → IsCollection c → Unnamed c.name more → IsState more → IsState (c ∷ more)
state_cons c more few one apart rest = record { few = few; names = names_cons c more apart rest; each = each_cons c more one rest }

state_head : (c : Collection) (more : State) → IsState (c ∷ more) → IsCollection c
state_head c more h = h.each 0 c refl

state_tail : (c : Collection) (more : State) → IsState (c ∷ more) → IsState more
state_tail c more h = record {
  few = let all : length (c ∷ more) ≤ most_collections = h.few in omega arith;
  names = λ i j a b e f same. let both : suc i ≡ suc j = h.names (suc i) (suc j) a b e f same in omega arith;
  each = λ i d e. h.each (suc i) d e;
}

state_apart : (c : Collection) (more : State) → IsState (c ∷ more) → Unnamed c.name more
state_apart c more h = λ i d e same. let both : suc i ≡ 0 = h.names (suc i) 0 d c e refl same in omega arith

-- A load goes into a collection that has its name, or behind one that has not; there the collection of that name is found.
data Reached (name : List ℕ) (documents : List Fields) (c : Collection) (more : State) : Type 0 where
  here : with_load name documents (c ∷ more) ≡ with_documents documents c ∷ more → collection_at name (with_load name documents (c ∷ more)) ≡ Some (with_documents documents c) → Reached name documents c more
  later : c.name ≢ name → with_load name documents (c ∷ more) ≡ c ∷ with_load name documents more
      → collection_at name (with_load name documents (c ∷ more)) ≡ collection_at name (with_load name documents more) → Reached name documents c more

reached : (name : List ℕ) (documents : List Fields) (c : Collection) (more : State) → Reached name documents c more
reached name documents c more = by (bytes_eq name c.name) refl where
  by : (t : Bool) → bytes_eq name c.name ≡ t → Reached name documents c more
  by true e =
      let is : with_load name documents (c ∷ more) ≡ with_documents documents c ∷ more = rw e refl in
      here is (ap (collection_at name) is ∙ cond-true (is_named name (with_documents documents c)) _ _ e)
  by false e =
      let is : with_load name documents (c ∷ more) ≡ c ∷ with_load name documents more = rw e refl in
      later (λ same. false≢true (sym e ∙ (bytes_eq-Decides name c.name).1 (sym same))) is (ap (collection_at name) is ∙ cond-false (is_named name c) _ _ e)

-- A name that no collection has, and that is not the name of a load, no collection has after it.
unnamed_load : (name other : List ℕ) (documents : List Fields) (state : State) → name ≢ other → Unnamed other state → Unnamed other (with_load name documents state)
unnamed_load name other documents [] ne apart = unnamed_cons other (with_documents documents (new_collection name)) [] ne apart
unnamed_load name other documents (c ∷ more) ne apart =
    let first : c.name ≢ other = apart 0 c refl in
    let rest : Unnamed other more = λ i d e. apart (suc i) d e in
    elim (reached name documents c more) [
      | here is at ↦ subst (λ (s : State). Unnamed other s) (sym is) (unnamed_cons other (with_documents documents c) more first rest)
      | later differs is at ↦ subst (λ (s : State). Unnamed other s) (sym is)
          (unnamed_cons other c (with_load name documents more) first (unnamed_load name other documents more ne rest))
    ]

-- The collection of a name, if there is one, has no more than it may have.
abbrev FitsAt : List ℕ → State → Type 0
FitsAt name state = is_there_beyond (collection_at name state) ≡ false

load_kept : (name : List ℕ) (documents : List Fields) (state : State) → EachIs IsLight documents → length (with_load name documents state) ≤ most_collections → FitsAt name (with_load name documents state)
    → IsState state → IsState (with_load name documents state)
load_kept name documents [] all few fits h =
    let more = with_documents documents (new_collection name) in
    let found : collection_at name (more ∷ []) ≡ Some more = cond-true (is_named name more) _ _ ((bytes_eq-Decides name name).1 refl) in
    state_cons more [] few (collection_more (new_collection name) documents all (collection_new name) (ap is_there_beyond (sym found) ∙ fits)) (λ i d e same. absurd (cc)) state_none
load_kept name documents (c ∷ more) all few fits h =
    elim (reached name documents c more) [
      | here is at ↦ subst (λ (s : State). IsState s) (sym is)
          (state_cons (with_documents documents c) more (subst (λ (s : State). length s ≤ most_collections) is few)
          (collection_more c documents all (state_head c more h) (ap is_there_beyond (sym at) ∙ fits)) (state_apart c more h) (state_tail c more h))
      | later differs is at ↦
          let long : length (c ∷ with_load name documents more) ≤ most_collections = subst (λ (s : State). length s ≤ most_collections) is few in
          subst (λ (s : State). IsState s) (sym is)
          (state_cons c (with_load name documents more) long (state_head c more h)
          (unnamed_load name c.name documents more (λ same. differs (sym same)) (state_apart c more h))
          (load_kept name documents more all (omega arith) (ap is_there_beyond (sym at) ∙ fits) (state_tail c more h)))
    ]

-- ---- commits

-- The documents of a load keep the limits of documents, and are light.
abbrev LoadsAreLight : Type 0
LoadsAreLight = (text name : List ℕ) (docs : List Fields) → plan_of text ≡ write (loads name docs) → All IsWithinLimits docs × All (λ doc. weight_of doc ≤ most_weight) docs

-- A plan writes light documents.
abbrev WritesLight : Plan → Type 0
WritesLight (refused line) = Unit {0}
WritesLight (read query) = Unit {0}
WritesLight (write (loads name docs)) = EachIs IsLight docs

both_are : (docs : List Fields) → EachIs IsWithinLimits docs → EachIs (λ doc. weight_of doc ≤ most_weight) docs → EachIs IsLight docs
both_are [] a b = tt
both_are (d ∷ ds) a b = ((a.0, b.0), both_are ds a.1 b.1)

plan_writes : LoadsAreLight → (text : List ℕ) → WritesLight (plan_of text)
plan_writes light text = by (plan_of text) refl
  where
    by : (plan : Plan) → plan_of text ≡ plan → WritesLight plan
    by (refused line) e = tt
    by (read query) e = tt
    by (write (loads name docs)) e =
        let both = light text name docs e in
        both_are docs (recursion_from_All IsWithinLimits docs both.0) (recursion_from_All (λ doc. weight_of doc ≤ most_weight) docs both.1)

effect_kept : (state after : State) (rows : ℕ) (t : Bool) → IsState state → (t ≡ false → IsState after) → IsState (state_left state (cond t full (accepted after rows)))
effect_kept state after rows true h k = h
effect_kept state after rows false h k = k refl

plan_kept : (plan : Plan) (state : State) → WritesLight plan → IsState state → IsState (state_behind plan state)
plan_kept (refused line) state w h = h
plan_kept (read query) state w h = h
plan_kept (write (loads name docs)) state w h =
    let after = with_load name docs state in
    effect_kept state after (length docs) (is_full name after) h
    (λ fits. let both = or_parts (nat_lt most_collections (length after)) (is_there_beyond (collection_at name after)) fits in
    load_kept name docs state w (not_above most_collections (length after) both.0) both.1 h)

commits_kept : LoadsAreLight → (texts : List (List ℕ)) (state : State) → IsState state → IsState (fold next_state state texts)
commits_kept light [] state h = h
commits_kept light (text ∷ texts) state h =
    commits_kept light texts (next_state state text) (plan_kept (plan_of text) state (plan_writes light text) h)

-- The state after commits keeps the rules of a state.
pub IsState-after : LoadsAreLight → (texts : List (List ℕ)) → IsState (state_after texts)
IsState-after light texts = commits_kept light texts opening state_none

-- ---- the documents of a state

rows_are_documents : (pairs : List (List ℕ × Kind)) (rows : List Row) → ((i : ℕ) (row : Row) → slice_get rows i ≡ Some row → IsDocumentOf pairs row.document) → EachIs IsDocument (map (λ (row : Row). row.document) rows)
rows_are_documents pairs [] h = tt
rows_are_documents pairs (r ∷ rs) h = ((h 0 r refl).limits.0, rows_are_documents pairs rs (λ i row e. h (suc i) row e))

documents_by : (name : List ℕ) (c : Collection) (more : State) (t : Bool) → is_named name c ≡ t → IsCollection c → EachIs IsDocument (documents_at name more) → EachIs IsDocument (documents_at name (c ∷ more))
documents_by name c more true e h rest =
    subst (λ (o : Option Collection). EachIs IsDocument (documents_of_rows o)) (sym (cond-true (is_named name c) (Some c) (collection_at name more) e)) (rows_are_documents c.pairs c.rows h.documents)
documents_by name c more false e h rest =
    subst (λ (o : Option Collection). EachIs IsDocument (documents_of_rows o)) (sym (cond-false (is_named name c) (Some c) (collection_at name more) e)) rest

documents_in : (name : List ℕ) (state : State) → ((i : ℕ) (c : Collection) → slice_get state i ≡ Some c → IsCollection c) → EachIs IsDocument (documents_at name state)
documents_in name [] h = tt
documents_in name (c ∷ more) h = documents_by name c more (is_named name c) refl (h 0 c refl) (documents_in name more (λ i d e. h (suc i) d e))

-- The documents of a collection in a state are documents.
pub documents_at-documents : (name : List ℕ) (state : State) → IsState state → EachIs IsDocument (documents_at name state)
documents_at-documents name state h = documents_in name state h.each

rows_from_documents : (rows : List Row) → EachIs IsDocument (map (λ (row : Row). row.document) rows) → EachIs (λ (row : Row). IsDocument row.document) rows
rows_from_documents [] h = tt
rows_from_documents (r ∷ rs) h = (h.0, rows_from_documents rs h.1)

-- The rows of a collection in a state have documents.
pub rows_found-documents : (name : List ℕ) (state : State) (collection : Collection) → IsState state → collection_at name state ≡ Some collection → All (λ (row : Row). IsDocument row.document) collection.rows
rows_found-documents name state collection h found =
    All-from_recursion (λ (row : Row). IsDocument row.document) collection.rows
    (rows_from_documents collection.rows (subst (λ (o : Option Collection). EachIs IsDocument (documents_of_rows o)) found (documents_at-documents name state h)))
