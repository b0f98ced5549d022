-- A collection that is known stays known.
use Rattle.std.proofs.Common.{◌≡◌, ℕ, ◌≤◌, Bool, true, false, cond, List, [], ◌∷◌, ◌++◌, length, take, drop, fold, Option, Some, None, refl, sym, ap, subst, ◌∙◌, arith}
use Rattle.std.specs.Prelude.{is_some}
use Rattle.std.proofs.lemmas.Bool.{cond-true, cond-false}
use Rattle.std.proofs.lemmas.List.{take-append-drop}
use Rattle.doc_values.specs.Doc.{Fields}
use Rattle.commit_core.specs.State.{Collection, State, opening, is_named, collection_at}
use Rattle.commit_core.specs.Write.{Effect, accepted, range, full, Write, loads, effect_of, with_documents, new_collection, with_load, is_full}
use Rattle.commit_core.specs.Plan.{Plan, refused, read, write, plan_of}
use Rattle.commit_core.specs.Replies.{next_state, state_left, state_behind, state_after}

-- A collection of a name is known in a state, and in each to which a change leads.
abbrev Stays : List ℕ → State → State → Type 0
Stays name before after = is_some (collection_at name before) ≡ true → is_some (collection_at name after) ≡ true

some_cond : (t : Bool) (c : Collection) (o : Option Collection) → t ≡ true → is_some (cond t (Some c) o) ≡ true
some_cond t c o e = ap (λ (b : Bool). is_some (cond b (Some c) o)) e

rest_by : (t : Bool) (c d : Collection) (o p : Option Collection) → (is_some o ≡ true → is_some p ≡ true) → is_some (cond t (Some c) o) ≡ true → is_some (cond t (Some d) p) ≡ true
rest_by true c d o p h e = refl
rest_by false c d o p h e = h e

load_by : (name other : List ℕ) (documents : List Fields) (c : Collection) (more : State) (t : Bool) → Stays other more (with_load name documents more)
    → Stays other (c ∷ more) (cond t (with_documents documents c ∷ more) (c ∷ with_load name documents more))
load_by name other documents c more true h e = rest_by (is_named other c) c (with_documents documents c) (collection_at other more) (collection_at other more) (λ k. k) e
load_by name other documents c more false h e = rest_by (is_named other c) c c (collection_at other more) (collection_at other (with_load name documents more)) h e

load_stays : (name other : List ℕ) (documents : List Fields) (state : State) → Stays other state (with_load name documents state)
load_stays name other documents [] e = absurd (cc)
load_stays name other documents (c ∷ more) e = load_by name other documents c more (is_named name c) (load_stays name other documents more) e

load_effect_stays : (name other : List ℕ) (documents : List Fields) (state after : State) (rows : ℕ) (t : Bool) → Stays other state after → Stays other state (state_left state (cond t full (accepted after rows)))
load_effect_stays name other documents state after rows true h = λ e. e
load_effect_stays name other documents state after rows false h = h

plan_stays : (other : List ℕ) (plan : Plan) (state : State) → Stays other state (state_behind plan state)
plan_stays other (refused line) state = λ e. e
plan_stays other (read question) state = λ e. e
plan_stays other (write (loads name documents)) state =
    load_effect_stays name other documents state (with_load name documents state) (length documents) (is_full name (with_load name documents state)) (load_stays name other documents state)

all_stay : (other : List ℕ) (texts : List (List ℕ)) (state : State) → Stays other state (fold next_state state texts)
all_stay other [] state = λ e. e
all_stay other (text ∷ texts) state = λ e. all_stay other texts (next_state state text) (plan_stays other (plan_of text) state e)

pub fold_append : (xs ys : List (List ℕ)) (state : State) → fold next_state state (xs ++ ys) ≡ fold next_state (fold next_state state xs) ys
fold_append [] ys state = refl
fold_append (x ∷ xs) ys state = fold_append xs ys (next_state state x)

none_or : (o : Option Collection) → (is_some o ≡ true → false ≡ true) → o ≡ None
none_or None h = refl
none_or (Some c) h = absurd (let bad : false ≡ true = h refl in cc)

-- what is unknown after commits was unknown after the first of them
pub unknown-before : (name : List ℕ) (texts : List (List ℕ)) (n : ℕ) → collection_at name (state_after texts) ≡ None → collection_at name (state_after (take n texts)) ≡ None
unknown-before name texts n none =
    let whole : state_after texts ≡ fold next_state (state_after (take n texts)) (drop n texts) = ap state_after (sym (take-append-drop n texts)) ∙ fold_append (take n texts) (drop n texts) opening in
    none_or (collection_at name (state_after (take n texts)))
    (λ e.
    let known : is_some (collection_at name (state_after texts)) ≡ true = ap (λ (s : State). is_some (collection_at name s)) whole ∙ all_stay name (drop n texts) (state_after (take n texts)) e in
    ap (λ (o : Option Collection). is_some o) (sym none) ∙ known)
