-- What a load does to the documents under each name.
use Rattle.std.proofs.Common.{◌≡◌, ◌≢◌, ◌⊎◌, ℕ, ◌+◌, List, [], ◌∷◌, ◌++◌, Bool, true, false, map, refl, ap, inl, inr}
use Rattle.std.specs.Str.{bytes_eq}
use Rattle.std.proofs.lemmas.Bool.{false≢true}
use Rattle.std.proofs.lemmas.List.{map-append}
use Rattle.std.proofs.lemmas.Slice.Eq.{bytes_eq-Decides}
use Rattle.doc_values.specs.Doc.{Fields}
use Rattle.commit_core.specs.State.{Row, Collection, State, documents_at}
use Rattle.commit_core.specs.Write.{rows_from, with_load}

pub documents-rows_from : (n : ℕ) (documents : List Fields) → map (λ (row : Row). row.document) (rows_from n documents) ≡ documents
documents-rows_from n [] = refl
documents-rows_from n (d ∷ ds) = ap (λ more. d ∷ more) (documents-rows_from (n + 1) ds)

documents-more : (rows : List Row) (n : ℕ) (documents : List Fields) → map (λ (row : Row). row.document) (rows ++ rows_from n documents) ≡ map (λ (row : Row). row.document) rows ++ documents
documents-more rows n documents = rw (map-append, documents-rows_from) refl

-- two texts are the same or not
pub same_or_not : (a b : List ℕ) → (a ≡ b) ⊎ (a ≢ b)
same_or_not a b = by_test (bytes_eq a b) refl
  where
    by_test : (t : Bool) → bytes_eq a b ≡ t → (a ≡ b) ⊎ (a ≢ b)
    by_test true e = inl ((bytes_eq-Decides a b).0 e)
    by_test false e = inr (λ same. false≢true (cc ((bytes_eq-Decides a b).1 same)))

load_same_by : (name : List ℕ) (documents : List Fields) (c : Collection) (more : State) → documents_at name (with_load name documents more) ≡ documents_at name more ++ documents
    → (t : Bool) → bytes_eq name c.name ≡ t → documents_at name (with_load name documents (c ∷ more)) ≡ documents_at name (c ∷ more) ++ documents
load_same_by name documents c more ih true e = simp e (documents-more c.rows c.next_row documents)
load_same_by name documents c more ih false e = simp e ih

-- a load puts its documents behind those under its name
pub documents_at-load : (name : List ℕ) (documents : List Fields) (state : State) → documents_at name (with_load name documents state) ≡ documents_at name state ++ documents
documents_at-load name documents [] =
    let e : bytes_eq name name ≡ true = (bytes_eq-Decides name name).1 refl in
    simp e (documents-rows_from 0 documents)
documents_at-load name documents (c ∷ more) = load_same_by name documents c more (documents_at-load name documents more) (bytes_eq name c.name) refl

load_other_by : (name other : List ℕ) (documents : List Fields) (c : Collection) (more : State) → other ≢ name → documents_at other (with_load name documents more) ≡ documents_at other more
    → (t u : Bool) → bytes_eq name c.name ≡ t → bytes_eq other c.name ≡ u → documents_at other (with_load name documents (c ∷ more)) ≡ documents_at other (c ∷ more)
load_other_by name other documents c more ne ih true true e f =
    let a = (bytes_eq-Decides name c.name).0 e in
    let b = (bytes_eq-Decides other c.name).0 f in
    absurd (ne (cc))
load_other_by name other documents c more ne ih true false e f = simp (e, f)
load_other_by name other documents c more ne ih false true e f = simp (e, f)
load_other_by name other documents c more ne ih false false e f = simp (e, f) ih

-- a load changes nothing under another name
pub documents_at-load_other : (name other : List ℕ) (documents : List Fields) (state : State) → other ≢ name → documents_at other (with_load name documents state) ≡ documents_at other state
documents_at-load_other name other documents [] ne =
    by_test (bytes_eq other name) refl
  where
    by_test : (t : Bool) → bytes_eq other name ≡ t → documents_at other (with_load name documents []) ≡ []
    by_test true e = absurd (ne ((bytes_eq-Decides other name).0 e))
    by_test false e = simp e
documents_at-load_other name other documents (c ∷ more) ne =
    load_other_by name other documents c more ne (documents_at-load_other name other documents more ne) (bytes_eq name c.name) (bytes_eq other c.name) refl refl
