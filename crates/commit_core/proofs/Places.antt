-- A load by the place of its collection.
use Rattle.std.proofs.Common.{◌≡◌, ◌∙◌, ℕ, zero, suc, ◌+◌, ◌<◌, ◌≤◌, ◌||◌, Bool, true, false, List, [], ◌∷◌, ◌++◌, length, get_or, set, nat_lt, Option, Some, None, refl, sym, ap, arith, length-append, length-set}
use Rattle.std.proofs.lemmas.Bool.{cond-true, cond-false}
use Rattle.std.proofs.lemmas.Bool.Decides.{nat_tests}
use Rattle.std.proofs.lemmas.List.Quantifiers.{position-Some}
use Rattle.std.proofs.lemmas.Slice.Eq.{bytes_eq-Decides}
use Rattle.std.specs.List.{position, position_or_len}
use Rattle.std.specs.Option.{option_or}
use Rattle.std.proofs.lemmas.List.Folds.{find_at, find-append}
use Rattle.std.proofs.lemmas.Option.{slice_get_past}
use Rattle.doc_values.specs.Doc.{Fields}
use Rattle.commit_core.specs.State.{Collection, State, is_named, collection_at, most_collections}
use Rattle.commit_core.specs.Write.{new_collection, with_documents, with_load, is_beyond, is_there_beyond, is_full}

module _ (name : List ℕ) (documents : List Fields) where
  -- the collection that is named stands at a place, and none before it
  at_place : (state : State) (i : ℕ) (d : Collection) → i < length state → is_named name (get_or state i d) ≡ true → ((k : ℕ) → k < i → is_named name (get_or state k d) ≡ false)
      → with_load name documents state ≡ set state i (with_documents documents (get_or state i d))
  at_place [] i d within here before = absurd (omega arith)
  at_place (c ∷ more) zero d within here before = cond-true (is_named name c) _ _ here
  at_place (c ∷ more) (suc i) d within here before =
      cond-false (is_named name c) _ _ (before 0 (omega arith)) ∙ ap (λ (rest : State). c ∷ rest) (at_place more i d (omega arith) here (λ k h. before (suc k) (omega arith)))

  found_at : (state : State) (i : ℕ) (d x : Collection) → i < length state → is_named name x ≡ true → ((k : ℕ) → k < i → is_named name (get_or state k d) ≡ false) → collection_at name (set state i x) ≡ Some x
  found_at [] i d x within here before = absurd (omega arith)
  found_at (c ∷ more) zero d x within here before = cond-true (is_named name x) _ _ here
  found_at (c ∷ more) (suc i) d x within here before = cond-false (is_named name c) _ _ (before 0 (omega arith)) ∙ found_at more i d x (omega arith) here (λ k h. before (suc k) (omega arith))

  -- a load into a collection that is there
  load-at : (state : State) (i : ℕ) (d : Collection) → position (is_named name) state ≡ Some i → with_load name documents state ≡ set state i (with_documents documents (get_or state i d))
  load-at state i d found = let p = position-Some (is_named name) state i d found in at_place state i d p.0 p.1 p.2

  few_enough : (n : ℕ) → n ≤ most_collections → nat_lt most_collections n ≡ false
  few_enough n few = grind (arith, nat_tests)

  full-at : (state : State) (i : ℕ) (d : Collection) → length state ≤ most_collections → position (is_named name) state ≡ Some i → is_full name (with_load name documents state) ≡ is_beyond (with_documents documents (get_or state i d))
  full-at state i d few found =
      let p = position-Some (is_named name) state i d found in
      let more = with_documents documents (get_or state i d) in
      let same : length (set state i more) ≡ length state = length-set state i more in
      ap (is_full name) (load-at state i d found)
      ∙ ap (λ t. t || is_there_beyond (collection_at name (set state i more))) (few_enough (length (set state i more)) (omega arith))
      ∙ ap is_there_beyond (found_at state i d more p.0 p.1 p.2)

  none_found : (state : State) → position (is_named name) state ≡ None → collection_at name state ≡ None
  none_found state none = by (nat_lt (position_or_len (is_named name) state) (length state)) refl
    where
      by : (t : Bool) → nat_lt (position_or_len (is_named name) state) (length state) ≡ t → collection_at name state ≡ None
      by true e = absurd (let some : position (is_named name) state ≡ Some (position_or_len (is_named name) state) = cond-true _ _ _ e in cc)
      by false e = find_at (is_named name) state ∙ slice_get_past state (position_or_len (is_named name) state) (grind (arith, nat_tests))

  behind_by : (c : Collection) (more : State) (t : Bool) → is_named name c ≡ t → collection_at name (c ∷ more) ≡ None → (collection_at name more ≡ None → with_load name documents more ≡ more ++ with_documents documents (new_collection name) ∷ [])
      → with_load name documents (c ∷ more) ≡ c ∷ (more ++ with_documents documents (new_collection name) ∷ [])
  behind_by c more true e none rest = absurd (let some : collection_at name (c ∷ more) ≡ Some c = cond-true _ _ _ e in cc)
  behind_by c more false e none rest = cond-false (is_named name c) _ _ e ∙ ap (λ (s : State). c ∷ s) (rest (sym (cond-false (is_named name c) _ _ e) ∙ none))

  behind_all : (state : State) → collection_at name state ≡ None → with_load name documents state ≡ state ++ with_documents documents (new_collection name) ∷ []
  behind_all [] none = refl
  behind_all (c ∷ more) none = behind_by c more (is_named name c) refl none (behind_all more)

  found_behind : (state : State) (x : Collection) → collection_at name state ≡ None → is_named name x ≡ true → collection_at name (state ++ x ∷ []) ≡ Some x
  found_behind state x none named = find-append (is_named name) state (x ∷ []) ∙ ap (λ (o : Option Collection). option_or o (collection_at name (x ∷ []))) none ∙ cond-true _ _ _ named

  -- a load into a collection that is not there
  load-new : (state : State) → position (is_named name) state ≡ None → with_load name documents state ≡ state ++ with_documents documents (new_collection name) ∷ []
  load-new state none = behind_all state (none_found state none)

  full-new : (state : State) → position (is_named name) state ≡ None
      → is_full name (with_load name documents state) ≡ nat_lt most_collections (length state + 1) || is_beyond (with_documents documents (new_collection name))
  full-new state none =
      let more = with_documents documents (new_collection name) in
      let longer : length (state ++ more ∷ []) ≡ length state + 1 = length-append state (more ∷ []) in
      let named : is_named name more ≡ true = (bytes_eq-Decides name name).1 refl in
      ap (is_full name) (load-new state none)
      ∙ ap (λ n. nat_lt most_collections n || is_there_beyond (collection_at name (state ++ more ∷ []))) longer
      ∙ ap (λ (o : Option Collection). nat_lt most_collections (length state + 1) || is_there_beyond o) (found_behind state more (none_found state none) named)

  -- a load into a collection that is one too many
  pub full-crowded : (state : State) → position (is_named name) state ≡ None → most_collections ≤ length state → is_full name (with_load name documents state) ≡ true
  full-crowded state none many =
      let crowded : nat_lt most_collections (length state + 1) ≡ true = grind (arith, nat_tests) in
      full-new state none ∙ ap (λ t. t || is_beyond (with_documents documents (new_collection name))) crowded

  -- a load into a new collection for which there is room
  full-roomy : (state : State) → position (is_named name) state ≡ None → length state < most_collections
      → is_full name (with_load name documents state) ≡ is_beyond (with_documents documents (new_collection name))
  full-roomy state none few = full-new state none ∙ ap (λ t. t || is_beyond (with_documents documents (new_collection name))) (few_enough (length state + 1) (omega arith))

  -- what is loaded into the collection at a place
  pub loaded-at : (state self : State) (i : ℕ) (was new : Collection) → state ≡ self → Some i ≡ position (is_named name) self → was ≡ get_or state i was → new ≡ with_documents documents was
      → set state i new ≡ with_load name documents self
  loaded-at state self i was new same found there loaded =
      ap (set state i) (loaded ∙ ap (with_documents documents) there) ∙ sym (load-at state i was (ap (position (is_named name)) same ∙ sym found)) ∙ ap (with_load name documents) same

  pub full-loaded : (state self : State) (i : ℕ) (was : Collection) → state ≡ self → Some i ≡ position (is_named name) self → was ≡ get_or state i was → length state ≤ most_collections
      → is_full name (with_load name documents self) ≡ is_beyond (with_documents documents was)
  full-loaded state self i was same found there few =
      ap (λ (s : State). is_full name (with_load name documents s)) (sym same)
      ∙ full-at state i was few (ap (position (is_named name)) same ∙ sym found)
      ∙ ap (λ (c : Collection). is_beyond (with_documents documents c)) (sym there)

  -- what is loaded into a new collection, which is pushed behind the others
  pub loaded-new : (state self new : State) (was more : Collection) → state ≡ self → position (is_named name) self ≡ None → was ≡ new_collection name → more ≡ with_documents documents was → new ≡ state ++ more ∷ []
      → new ≡ with_load name documents self
  loaded-new state self new was more same none made loaded pushed =
      pushed
      ∙ ap (λ (c : Collection). state ++ c ∷ []) (loaded ∙ ap (with_documents documents) made)
      ∙ ap (λ (s : State). s ++ with_documents documents (new_collection name) ∷ []) same
      ∙ sym (load-new self none)

  pub full-loaded_new : (self : State) (was : Collection) → position (is_named name) self ≡ None → was ≡ new_collection name → length self < most_collections
      → is_full name (with_load name documents self) ≡ is_beyond (with_documents documents was)
  full-loaded_new self was none made few = full-roomy self none few ∙ ap (λ (c : Collection). is_beyond (with_documents documents c)) (sym made)
