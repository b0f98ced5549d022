-- A document weighs no more than its object costs, and so no document of a text is heavy.
use Rattle.std.proofs.Common.{◌≡◌, ℕ, ℤ, ◌+◌, ◌*◌, ◌≤◌, List, [], ◌∷◌, ◌++◌, length, true, ◌&&◌, nat_le, Option, Some, None, option_map, option_to_list, Ok, All, Ordering, Less, Equal, Greater, nat_cmp, refl, sym, arith}
use Rattle.std.proofs.lemmas.List.Recursion.{is_sum_by}
use Rattle.std.specs.Ordering.{match_ordering}
use Rattle.std.specs.Cmp.Lexicographic.{slice_cmp}
use Rattle.serde_json.specs.Data.{Data, null, boolean, number, string, array, object, Items, no_items, item, Members, no_members, member, depth}
use Rattle.serde_json.specs.Read.{read}
use Rattle.doc_values.specs.declared.value.Value.{Value}
use Rattle.doc_values.specs.declared.value.Value.TheVariants.{Int}
use Rattle.doc_values.specs.Weight.{value_weight, weight_of}
use Rattle.doc_values.specs.Doc.{Fields, with_field}
use Rattle.doc_flatten.specs.Tree.{int_of, dotted, has_integers, members_have_integers, has_paths}
use Rattle.doc_flatten.specs.Fields.{fields_under, members_fields, with_all_fields}
use Rattle.doc_flatten.specs.Documents.{document_of_members, is_admitted, documents_of}
use Rattle.doc_flatten.proofs.Tests.{both_true}
use Rattle.doc_flatten.proofs.Cost.{cost, items_cost, members_cost}
use Rattle.doc_flatten.proofs.CompactCost.{length-compact_text}
use Rattle.doc_flatten.proofs.ReadCost.{Costs, read-cost}
use Rattle.doc_flatten.proofs.EachDocument.{AllFit, FitsWhole, documents_of-each_fitting}

-- ---- fields

-- the weight, by recursion over the fields
abbrev mass : Fields → ℕ
mass [] = 0
mass (f ∷ fs) = value_weight f.1 + mass fs

mass-weight : (fields : Fields) → mass fields ≡ weight_of fields
mass-weight = is_sum_by mass (λ f. value_weight f.1) refl (λ f fs. refl)

mass-append : (xs ys : Fields) → mass (xs ++ ys) ≡ mass xs + mass ys
mass-append [] ys = omega arith
mass-append (x ∷ xs) ys = omega (arith, mass-append xs ys)

either_mass : (o : Ordering) (n : ℕ) (a b c : Fields) → mass a ≤ n → mass b ≤ n → mass c ≤ n → mass (match_ordering o a b c) ≤ n
either_mass Less n a b c p q r = p
either_mass Equal n a b c p q r = q
either_mass Greater n a b c p q r = r

mass-with_field : (doc : Fields) (name : List ℕ) (v : Value) → mass (with_field doc name v) ≤ mass doc + value_weight v
mass-with_field [] name v = omega arith
mass-with_field (f ∷ fs) name v =
    either_mass (slice_cmp nat_cmp name f.0) _ ((name, v) ∷ f ∷ fs) ((f.0, v) ∷ fs) (f ∷ with_field fs name v) (omega arith) (omega arith) (omega (arith, mass-with_field fs name v))

mass-with_all_fields : (doc fields : Fields) → mass (with_all_fields doc fields) ≤ mass doc + mass fields
mass-with_all_fields doc [] = omega arith
mass-with_all_fields doc (f ∷ fs) = omega (arith, mass-with_field doc f.0 f.1, mass-with_all_fields (with_field doc f.0 f.1) fs)

-- ---- a tree

mass-int : (path : List ℕ) (o : Option ℤ) → mass (option_to_list (option_map (λ z. (path, Int z)) o)) ≤ 8
mass-int path None = omega arith
mass-int path (Some z) = omega arith

mutual
  mass-fields_under : (path : List ℕ) (d : Data) → has_integers d ≡ true → mass (fields_under path d) ≤ cost d
  mass-fields_under path null h = omega arith
  mass-fields_under path (boolean b) h = omega arith
  mass-fields_under path (number n) h = omega (arith, mass-int path (int_of n))
  mass-fields_under path (string s) h = omega arith
  mass-fields_under path (array ds) h = omega (arith, length-compact_text (array ds) h)
  mass-fields_under path (object no_members) h = omega arith
  mass-fields_under path (object (member key d ms)) h =
      let p = both_true (has_integers d) _ h in
      omega (arith, mass-append (fields_under (dotted path key) d) (members_fields path ms), mass-fields_under (dotted path key) d p.0, mass-members_fields path ms p.1)

  mass-members_fields : (path : List ℕ) (ms : Members) → members_have_integers ms ≡ true → mass (members_fields path ms) + 16 ≤ members_cost ms
  mass-members_fields path no_members h = omega arith
  mass-members_fields path (member key d ms) h =
      let p = both_true (has_integers d) _ h in
      omega (arith, mass-append (fields_under (dotted path key) d) (members_fields path ms), mass-fields_under (dotted path key) d p.0, mass-members_fields path ms p.1)

-- ---- a text

-- the members cost so little that their document is light
abbrev Affords : ℕ → Members → Type 0
Affords n ms = members_cost ms ≤ 16 * n + 16

document_of_members-light : (n : ℕ) (ms : Members) → Affords n ms → is_admitted ms ≡ true → weight_of (document_of_members ms) ≤ 16 * n
document_of_members-light n ms afforded h =
    let few = both_true (nat_le (depth (object ms)) 64 && has_integers (object ms) && has_paths [] (object ms)) _ h in
    let paths = both_true (nat_le (depth (object ms)) 64 && has_integers (object ms)) _ few.0 in
    let integers = both_true (nat_le (depth (object ms)) 64) _ paths.0 in
    omega (arith, sym (mass-weight (document_of_members ms)), mass-with_all_fields [] (members_fields [] ms), mass-members_fields [] ms integers.1)

fits-items : (n : ℕ) (ds : Items) → items_cost ds ≤ 16 * n + 16 → AllFit (Affords n) ds
fits-items n no_items le = tt
fits-items n (item null ds) le = (tt, fits-items n ds (omega arith))
fits-items n (item (boolean b) ds) le = (tt, fits-items n ds (omega arith))
fits-items n (item (number x) ds) le = (tt, fits-items n ds (omega arith))
fits-items n (item (string s) ds) le = (tt, fits-items n ds (omega arith))
fits-items n (item (array es) ds) le = (tt, fits-items n ds (omega arith))
fits-items n (item (object ms) ds) le = (omega arith, fits-items n ds (omega arith))

fits-whole : (n : ℕ) (o : Option Data) → Costs (16 * n + 8) o → FitsWhole (Affords n) o
fits-whole n None h = tt
fits-whole n (Some null) h = tt
fits-whole n (Some (boolean b)) h = tt
fits-whole n (Some (number x)) h = tt
fits-whole n (Some (string s)) h = tt
fits-whole n (Some (array ds)) h = fits-items n ds (omega arith)
fits-whole n (Some (object ms)) h = (omega arith, tt)

pub documents_of-light : (text : List ℕ) (docs : List Fields) → documents_of text ≡ Ok docs → All (λ doc. weight_of doc ≤ 16 * length text) docs
documents_of-light text docs =
    documents_of-each_fitting (Affords (length text)) (λ doc. weight_of doc ≤ 16 * length text) (document_of_members-light (length text)) text docs (fits-whole (length text) (read text) (read-cost text))
