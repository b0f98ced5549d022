-- The numbers of rows: they are told apart, and a load numbers its rows on.
use Rattle.std.proofs.Common.{◌≡◌, ◌⊎◌, inl, inr, ℕ, zero, suc, ◌+◌, ◌<◌, ◌≤◌, Bool, true, false, cond, List, [], ◌∷◌, ◌++◌, length, fold, Option, Some, None, unwrap_or, refl, sym, ap, ◌∙◌, subst, arith, length-append}
use Rattle.std.specs.Prelude.{slice_get}
use Rattle.std.specs.Option.{option_map_or}
use Rattle.std.specs.List.{AllByRecursion as EachIs, position_or_len}
use Rattle.std.proofs.lemmas.Bool.{cond_both, cond-true, cond-false}
use Rattle.std.proofs.lemmas.Grind.{fold-append}
use Rattle.std.proofs.lemmas.List.Folds.{find_at}
use Rattle.std.proofs.lemmas.Option.{same_Some, slice_get_within}
use Rattle.std.proofs.lemmas.Slice.Eq.{bytes_eq-Decides}
use Rattle.doc_values.specs.Doc.{Fields}
use Rattle.commit_core.specs.State.{Row, Collection, State, IsCollection, opening, is_named, collection_at}
use Rattle.commit_core.specs.Write.{Effect, accepted, full, loads, rows_from, new_collection, with_documents, with_load, is_full}
use Rattle.commit_core.specs.Plan.{Plan, refused, read, write, plan_of}
use Rattle.commit_core.specs.Replies.{told_effect, told_plan, next_state, state_left, state_behind, state_after}
use Rattle.sinew_laws.proofs.Positions.{kept_before, stands_behind}
use Rattle.sinew_laws.specs.States.{NumbersRowsBelowTheNext, NumbersRowsOn, HasRowsBehind, rows_at, next_at}

-- ---- rows of a load

-- The rows of documents are numbered on.
number-rows_from : (next : ℕ) (documents : List Fields) (k : ℕ) (row : Row) → slice_get (rows_from next documents) k ≡ Some row → row.number ≡ next + k
number-rows_from next [] k row e = absurd (cc)
number-rows_from next (d ∷ ds) zero row e =
    let same : record { number = next; document = d } ≡ row = same_Some _ row e in
    omega (arith, ap (λ (r : Row). r.number) same)
number-rows_from next (d ∷ ds) (suc k) row e = omega (arith, number-rows_from (next + 1) ds k row e)

length-rows_from : (next : ℕ) (documents : List Fields) → length (rows_from next documents) ≡ length documents
length-rows_from next [] = refl
length-rows_from next (d ∷ ds) = omega (arith, length-rows_from (next + 1) ds)

-- A row among rows with those of a load behind them stands among the first ones, or behind them with its number.
place_of : (rows : List Row) (next : ℕ) (documents : List Fields) (i : ℕ) (row : Row) → slice_get (rows ++ rows_from next documents) i ≡ Some row
    → ((slice_get rows i ≡ Some row) × (i < length rows)) ⊎ ((k : ℕ) × (i ≡ length rows + k) × (row.number ≡ next + k))
place_of [] next documents i row e = inr (i, omega arith, number-rows_from next documents i row e)
place_of (r ∷ rows) next documents zero row e = inl (e, omega arith)
place_of (r ∷ rows) next documents (suc i) row e =
    elim (place_of rows next documents i row e) [ inl x ↦ inl (x.0, omega (arith, x.1)) | inr y ↦ inr (y.0, omega (arith, y.1), y.2) ]

-- ---- rows of a collection

-- The numbers ascend, whatever was put behind the rows.
pub ascends : (documents : List Fields) (collection : Collection) → IsCollection collection → (i j : ℕ) (a b : Row) → i < j
    → slice_get (with_documents documents collection).rows i ≡ Some a → slice_get (with_documents documents collection).rows j ≡ Some b → a.number < b.number
ascends documents collection h i j a b l e f =
    elim (place_of collection.rows collection.next_row documents i a e) [
      | inl x ↦ elim (place_of collection.rows collection.next_row documents j b f) [
        | inl y ↦ h.ascending i j a b l x.0 y.0
        | inr y ↦ omega (arith, h.below i a x.0, y.2)
      ]
      | inr x ↦ elim (place_of collection.rows collection.next_row documents j b f) [
        | inl y ↦ absurd (omega (arith, x.1, y.1))
        | inr y ↦ omega (arith, x.1, x.2, y.1, y.2)
      ]
    ]

-- ---- rows of a state

-- The rows of a collection are numbered from 0 on, and so is the next one; each is one version.
record IsNumbered (collection : Collection) : Type 0 where
  next : collection.next_row ≡ length collection.rows
  versions : collection.versions ≡ length collection.rows
  places : (i : ℕ) (row : Row) → slice_get collection.rows i ≡ Some row → row.number ≡ i

numbered_new : (name : List ℕ) → IsNumbered (new_collection name)
numbered_new name = record { next = refl; versions = refl; places = λ i row e. absurd (cc) }

numbered_more : (documents : List Fields) (collection : Collection) → IsNumbered collection → IsNumbered (with_documents documents collection)
numbered_more documents collection h = record {
  next = omega (arith, h.next, length-append collection.rows (rows_from collection.next_row documents), length-rows_from collection.next_row documents);
  versions = omega (arith, h.versions, length-append collection.rows (rows_from collection.next_row documents), length-rows_from collection.next_row documents);
  places = λ i row e.
      elim (place_of collection.rows collection.next_row documents i row e) [
        | inl x ↦ h.places i row x.0
        | inr y ↦ omega (arith, h.next, y.1, y.2)
      ];
}

numbered_load : (name : List ℕ) (documents : List Fields) (state : State) → EachIs IsNumbered state → EachIs IsNumbered (with_load name documents state)
numbered_load name documents [] h = (numbered_more documents (new_collection name) (numbered_new name), tt)
numbered_load name documents (c ∷ more) h =
    cond_both (is_named name c) (with_documents documents c ∷ more) (c ∷ with_load name documents more) (λ (s : State). EachIs IsNumbered s)
    (λ e. (numbered_more documents c h.0, h.1)) (λ e. (h.0, numbered_load name documents more h.1))

numbered_behind : (plan : Plan) (state : State) → EachIs IsNumbered state → EachIs IsNumbered (state_behind plan state)
numbered_behind (refused line) state h = h
numbered_behind (read query) state h = h
numbered_behind (write (loads name documents)) state h =
    let after = with_load name documents state in
    cond_both (is_full name after) full (accepted after (length documents)) (λ (effect : Effect). EachIs IsNumbered (state_left state effect))
    (λ e. h) (λ e. numbered_load name documents state h)

numbered_after : (texts : List (List ℕ)) (state : State) → EachIs IsNumbered state → EachIs IsNumbered (fold next_state state texts)
numbered_after [] state h = h
numbered_after (text ∷ texts) state h = numbered_after texts (next_state state text) (numbered_behind (plan_of text) state h)

numbered_at : (state : State) (i : ℕ) (c : Collection) → EachIs IsNumbered state → slice_get state i ≡ Some c → IsNumbered c
numbered_at [] i c h e = absurd (cc)
numbered_at (d ∷ more) zero c h e = subst (λ (x : Collection). IsNumbered x) (same_Some d c e) h.0
numbered_at (d ∷ more) (suc i) c h e = numbered_at more i c h.1 e

-- The number of a row is its place today.
pub below_the_next : NumbersRowsBelowTheNext
below_the_next texts name collection found =
    let state = state_after texts in
    let place : slice_get state (position_or_len (is_named name) state) ≡ Some collection = sym (find_at (is_named name) state) ∙ found in
    let numbered = numbered_at state (position_or_len (is_named name) state) collection (numbered_after texts opening tt) place in
    let each : (i : ℕ) (row : Row) → slice_get collection.rows i ≡ Some row → (i ≤ row.number) × (row.number < collection.next_row) = λ i row e.
    let number = numbered.places i row e in
    let within = slice_get_within collection.rows i row e in
    (omega (arith, number), omega (arith, number, within, numbered.next)) in
    (each, omega (arith, numbered.next, numbered.versions))

-- ---- what a load adds

-- The collection that a load leaves under its name.
loaded_by : (name : List ℕ) (documents : List Fields) (c : Collection) (more : State)
    → collection_at name (with_load name documents more) ≡ Some (with_documents documents (unwrap_or (collection_at name more) (new_collection name)))
    → (t : Bool) → is_named name c ≡ t
    → collection_at name (cond t (with_documents documents c ∷ more) (c ∷ with_load name documents more)) ≡ Some (with_documents documents (unwrap_or (cond t (Some c) (collection_at name more)) (new_collection name)))
loaded_by name documents c more rest true e = cond-true (is_named name c) (Some (with_documents documents c)) (collection_at name more) e
loaded_by name documents c more rest false e = cond-false (is_named name c) (Some c) (collection_at name (with_load name documents more)) e ∙ rest

loaded_at : (name : List ℕ) (documents : List Fields) (state : State)
    → collection_at name (with_load name documents state) ≡ Some (with_documents documents (unwrap_or (collection_at name state) (new_collection name)))
loaded_at name documents [] = cond-true (is_named name (with_documents documents (new_collection name))) (Some (with_documents documents (new_collection name))) None ((bytes_eq-Decides name name).1 refl)
loaded_at name documents (c ∷ more) = loaded_by name documents c more (loaded_at name documents more) (is_named name c) refl

rows_known : (name : List ℕ) (o : Option Collection) → (unwrap_or o (new_collection name)).rows ≡ option_map_or (λ (c : Collection). c.rows) o []
rows_known name None = refl
rows_known name (Some c) = refl

next_known : (name : List ℕ) (o : Option Collection) → (unwrap_or o (new_collection name)).next_row ≡ option_map_or (λ (c : Collection). c.next_row) o 0
next_known name None = refl
next_known name (Some c) = refl

rows_loaded : (name : List ℕ) (documents : List Fields) (state : State) → rows_at name (with_load name documents state) ≡ rows_at name state ++ rows_from (next_at name state) documents
rows_loaded name documents state =
    let rows = rows_known name (collection_at name state) in
    let next = next_known name (collection_at name state) in
    ap (λ (o : Option Collection). option_map_or (λ (c : Collection). c.rows) o []) (loaded_at name documents state)
    ∙ (λ i. rows i ++ rows_from (next i) documents)

next_loaded : (name : List ℕ) (documents : List Fields) (state : State) → next_at name (with_load name documents state) ≡ next_at name state + length documents
next_loaded name documents state =
    ap (λ (o : Option Collection). option_map_or (λ (c : Collection). c.next_row) o 0) (loaded_at name documents state)
    ∙ ap (λ (next : ℕ). next + length documents) (next_known name (collection_at name state))

row_of_document : (next : ℕ) (documents : List Fields) (k : ℕ) (document : Fields) → slice_get documents k ≡ Some document
    → slice_get (rows_from next documents) k ≡ Some (record { number = next + k; document = document })
row_of_document next [] k document e = absurd (cc)
row_of_document next (d ∷ ds) zero document e =
    let number : next ≡ next + 0 = omega arith in
    let same : d ≡ document = same_Some d document e in
    λ i. Some (record { number = number i; document = same i })
row_of_document next (d ∷ ds) (suc k) document e =
    let number : (next + 1) + k ≡ next + suc k = omega arith in
    row_of_document (next + 1) ds k document e ∙ ap (λ (n : ℕ). Some (record { number = n; document = document })) number

behind_load : (name : List ℕ) (documents : List Fields) (before after : State) → after ≡ with_load name documents before → HasRowsBehind name documents before after
behind_load name documents before after is =
    let rows : rows_at name after ≡ rows_at name before ++ rows_from (next_at name before) documents = ap (rows_at name) is ∙ rows_loaded name documents before in
    record {
      kept = λ i row e. ap (λ (all : List Row). slice_get all i) rows ∙ kept_before (rows_at name before) (rows_from (next_at name before) documents) i row e;
      added = λ k document e.
          ap (λ (all : List Row). slice_get all (length (rows_at name before) + k)) rows
          ∙ (stands_behind (rows_at name before) (rows_from (next_at name before) documents) k ∙ row_of_document (next_at name before) documents k document e);
      all = ap length rows ∙ (length-append (rows_at name before) (rows_from (next_at name before) documents) ∙ ap (λ (n : ℕ). length (rows_at name before) + n) (length-rows_from (next_at name before) documents));
      next = ap (next_at name) is ∙ next_loaded name documents before;
    }

accepted_left : (before after : State) (rows : ℕ) (t : Bool) → (told_effect (cond t full (accepted after rows))).accepted ≡ true → state_left before (cond t full (accepted after rows)) ≡ after
accepted_left before after rows true e = absurd (cc)
accepted_left before after rows false e = refl

-- An accepted load leaves the state with its documents.
load_left : (state : State) (name : List ℕ) (documents : List Fields) (plan : Plan) → plan ≡ write (loads name documents) → (told_plan plan state).accepted ≡ true → state_behind plan state ≡ with_load name documents state
load_left state name documents plan planned taken =
    let after = with_load name documents state in
    ap (λ (p : Plan). state_behind p state) planned
    ∙ accepted_left state after (length documents) (is_full name after) (sym (ap (λ (p : Plan). (told_plan p state).accepted) planned) ∙ taken)

-- An accepted load numbers its rows on.
pub numbered_on : NumbersRowsOn
numbered_on texts text name documents planned taken =
    behind_load name documents (state_after texts) (state_after (texts ++ text ∷ []))
    (fold-append next_state opening texts (text ∷ []) ∙ load_left (state_after texts) name documents (plan_of text) planned taken)
