-- The pairs of documents, one document after another.
use Rattle.std.proofs.Common.{◌≡◌, ℕ, zero, suc, ◌+◌, ◌<◌, ◌≤◌, cond, Bool, true, false, List, [], ◌∷◌, ◌++◌, length, take, fold, Some, slice_get, refl, sym, ap, ◌∙◌, arith, length-append}
use Rattle.std.specs.List.{list_any}
use Rattle.doc_values.specs.Doc.{Fields}
use Rattle.doc_values.specs.Value.{kind_of}
use Rattle.doc_values.specs.declared.kind.Kind.{Kind}
use Rattle.document_records.specs.Pairs.{same_pair, pairs_with, with_fields}
use Rattle.document_records.specs.StoredDocument.{Pairs}

one_longer_by : (pairs : Pairs) (pair : List ℕ × Kind) (t : Bool) → length pairs ≤ length (cond t pairs (pairs ++ pair ∷ []))
one_longer_by pairs pair true = omega arith
one_longer_by pairs pair false = omega (arith, length-append pairs (pair ∷ []))

one_longer : (pairs : Pairs) (pair : List ℕ × Kind) → length pairs ≤ length (pairs_with pairs pair)
one_longer pairs pair = one_longer_by pairs pair (list_any (same_pair pair) pairs)

pub fields_longer : (d : Fields) (pairs : Pairs) → length pairs ≤ length (with_fields pairs d)
fields_longer [] pairs = omega arith
fields_longer (f ∷ fs) pairs = omega (arith, one_longer pairs (f.0, kind_of f.1), fields_longer fs (pairs_with pairs (f.0, kind_of f.1)))

pub documents_longer : (ds : List Fields) (pairs : Pairs) → length pairs ≤ length (fold with_fields pairs ds)
documents_longer [] pairs = omega arith
documents_longer (d ∷ ds) pairs = omega (arith, fields_longer d pairs, documents_longer ds (with_fields pairs d))

documents_next : (ds : List Fields) (pairs : Pairs) (k : ℕ) (d : Fields) → slice_get ds k ≡ Some d → fold with_fields pairs (take (suc k) ds) ≡ with_fields (fold with_fields pairs (take k ds)) d
documents_next [] pairs k d h = absurd (cc)
documents_next (e ∷ []) pairs zero d h = let same : e ≡ d = cc in ap (with_fields pairs) same
documents_next (e ∷ (n ∷ es)) pairs zero d h = let same : e ≡ d = cc in ap (with_fields pairs) same
documents_next (e ∷ es) pairs (suc k) d h = documents_next es (with_fields pairs e) k d h

pub documents_more : (ds : List Fields) (pairs : Pairs) (k : ℕ) (d : Fields) → slice_get ds k ≡ Some d → fold with_fields pairs (take (k + 1) ds) ≡ with_fields (fold with_fields pairs (take k ds)) d
documents_more ds pairs k d h = let one : k + 1 ≡ suc k = omega arith in ap (λ (n : ℕ). fold with_fields pairs (take n ds)) one ∙ documents_next ds pairs k d h

pub documents_upto : (ds : List Fields) (pairs : Pairs) (k : ℕ) → length (fold with_fields pairs (take k ds)) ≤ length (fold with_fields pairs ds)
documents_upto [] pairs zero = omega arith
documents_upto [] pairs (suc k) = omega arith
documents_upto (e ∷ es) pairs zero = documents_longer (e ∷ es) pairs
documents_upto (e ∷ es) pairs (suc k) = documents_upto es (with_fields pairs e) k

pub take_none : (ds : List Fields) → take 0 ds ≡ []
take_none [] = refl
take_none (d ∷ ds) = refl

pub take_all : (ds : List Fields) → take (length ds) ds ≡ ds
take_all [] = refl
take_all (d ∷ ds) = ap (λ es. d ∷ es) (take_all ds)

-- too many pairs with one document more are too many with all
pub too_many : (ds : List Fields) (first now : Pairs) (k most : ℕ) (d : Fields) → slice_get ds k ≡ Some d → now ≡ fold with_fields first (take k ds) → most < length (with_fields now d) → most < length (fold with_fields first ds)
too_many ds first now k most d at is many =
    let one : length (with_fields now d) ≡ length (fold with_fields first (take (k + 1) ds)) = ap (λ (ps : Pairs). length (with_fields ps d)) is ∙ ap length (sym (documents_more ds first k d at)) in
    omega (arith, documents_upto ds first (k + 1), one, many)
