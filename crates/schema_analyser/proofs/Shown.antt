-- The documents that rows show, one row after the other.
use Rattle.std.proofs.Common.{◌≡◌, ◌∙◌, ◌<◌, ◌≤◌, ◌+◌, ℕ, zero, suc, inl, inr, nat_le, Bool, true, false, cond, List, [], ◌∷◌, ◌++◌, map, filter, length, Option, Some, None, option_map, position, refl, sym, ap, append-nil, arith, add-one}
use Rattle.std.proofs.lemmas.Bool.{le-leb, leb-true}
use Rattle.std.proofs.lemmas.Bool.Decides.{leb_tells}
use Rattle.std.proofs.lemmas.List.{map-append}
use Rattle.std.proofs.lemmas.List.Elements.{filter-append}
use Rattle.std.proofs.lemmas.List.Quantifiers.{position-Some}
use Rattle.doc_values.specs.Doc.{Fields}
use Rattle.row_versions.specs.declared.version.Version.{Version}
use Rattle.row_versions.specs.declared.version_id.VersionId.{VersionId}
use Rattle.row_versions.specs.History.{version_at, visible, is_seen, begun}
use Rattle.layout_store.specs.Documents.{document_at}
use Rattle.layout_store.specs.Shows.{shown}
use Rattle.layout_store.specs.Storage.{Storage}
use Rattle.shown_rows.specs.Rows.{Row, row_if, rows_below}
use Rattle.schema_analyser.specs.Survey.{documents_between}

-- Whether a row stands from a number on.
abbrev from_on : ℕ → Row → Bool
from_on from row = nat_le from row.number

abbrev document_in : Row → Fields
document_in row = row.document

not_yet : (from k : ℕ) → k < from → nat_le from k ≡ false
not_yet from k lt = elim (leb_tells from k) [ inl h ↦ absurd (omega (arith, h.1, lt)) | inr h ↦ h.0 ]

row_out : (from k : ℕ) (o : Option Fields) → k < from → filter (from_on from) (row_if k o) ≡ []
row_out from k None lt = refl
row_out from k (Some d) lt = ap (λ b. cond b (record { number = k; document = d } ∷ []) []) (not_yet from k lt)

none_before : (show : ℕ → Option Fields) (from k : ℕ) → k ≤ from → filter (from_on from) (rows_below show k) ≡ []
none_before show from zero h = refl
none_before show from (suc k) h =
    filter-append (from_on from) (rows_below show k) (row_if k (show k))
    ∙ (λ i. none_before show from k (omega (arith, h)) i ++ row_out from k (show k) (omega (arith, h)) i)

-- no row stands from a number to that number
pub between_none : (s : Storage) (n from : ℕ) → documents_between s n from from ≡ []
between_none s n from = ap (map document_in) (none_before (shown s n) from from (omega arith))

one_more : (s : Storage) (n from row : ℕ) → documents_between s n from (row + 1) ≡ documents_between s n from row ++ map document_in (filter (from_on from) (row_if row (shown s n row)))
one_more s n from row =
    ap (documents_between s n from) (add-one row)
    ∙ ap (map document_in) (filter-append (from_on from) (rows_below (shown s n) row) (row_if row (shown s n row)))
    ∙ map-append document_in (filter (from_on from) (rows_below (shown s n) row)) (filter (from_on from) (row_if row (shown s n row)))

abbrev pub documents_at : Storage → List VersionId → List Fields
documents_at s versions = map (λ (v : VersionId). document_at s v.0) versions

-- a row that shows a version more
pub between_more : (s : Storage) (n from row : ℕ) (versions : List VersionId) (v : VersionId) → from ≤ row → Some v ≡ visible row n s.history.versions → documents_at s versions ≡ documents_between s n from row
    → documents_at s (versions ++ v ∷ []) ≡ documents_between s n from (row + 1)
between_more s n from row versions v h is so =
    map-append (λ (x : VersionId). document_at s x.0) versions (v ∷ [])
    ∙ (λ i. so i ++ here i)
    ∙ sym (one_more s n from row)
  where
    d : Fields
    d = document_at s v.0

    here : document_at s v.0 ∷ [] ≡ map document_in (filter (from_on from) (row_if row (shown s n row)))
    here =
        ap (λ b. map document_in (cond b (record { number = row; document = document_at s v.0 } ∷ []) [])) (sym (le-leb from row h))
        ∙ ap (λ (o : Option VersionId). map document_in (filter (from_on from) (row_if row (option_map (λ (x : VersionId). document_at s x.0) o)))) is

-- a row that shows none
pub between_same : (s : Storage) (n from row : ℕ) → None ≡ visible row n s.history.versions → documents_between s n from row ≡ documents_between s n from (row + 1)
between_same s n from row is =
    sym (append-nil (documents_between s n from row))
    ∙ ap (λ (o : Option VersionId). documents_between s n from row ++ map document_in (filter (from_on from) (row_if row (option_map (λ (x : VersionId). document_at s x.0) o)))) is
    ∙ sym (one_more s n from row)

seen_by : (n : ℕ) (o : Option ℕ) (v : VersionId) → Some v ≡ option_map version_at o → ((i : ℕ) → o ≡ Some i → i < n) → v.0 < n
seen_by n None v is h = absurd (cc)
seen_by n (Some i) v is h = let e : v ≡ version_at i = cc in let f : v.0 ≡ i = ap (λ (x : VersionId). x.0) e in omega (arith, f, h i refl)

-- what is not some is none
pub none_left : {A : Type 0} (o : Option A) → ((x : A) → o ≡ Some x → ⊥) → o ≡ None
none_left None never = refl
none_left (Some x) never = absurd (never x refl)

-- a version that a row shows is there
pub visible_within : (row n : ℕ) (versions : List Version) (v : VersionId) → Some v ≡ visible row n versions → v.0 < length versions
visible_within row n versions v is = seen_by (length versions) (position (is_seen row n) versions) v is (λ i e. (position-Some (is_seen row n) versions i (begun 0 0) e).0)

all_on : (rows : List Row) → filter (from_on 0) rows ≡ rows
all_on [] = refl
all_on (row ∷ rows) = ap (λ b. cond b (row ∷ filter (from_on 0) rows) (filter (from_on 0) rows)) (le-leb 0 row.number (omega arith)) ∙ ap (λ (rest : List Row). row ∷ rest) (all_on rows)

-- the documents of all rows below a number
pub between_all : (s : Storage) (n to : ℕ) → documents_between s n 0 to ≡ map document_in (rows_below (shown s n) to)
between_all s n to = ap (map document_in) (all_on (rows_below (shown s n) to))
