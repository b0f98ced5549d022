-- Each field name of a document that is loaded may stand between quotes.
use Rattle.std.proofs.Common.{◌≡◌, ℕ, ◌<◌, ◌≤◌, List, [], ◌∷◌, ◌++◌, length, Bool, true, false, cond, ◌&&◌, ◌⊎◌, inl, inr, Option, Some, None, option_map, option_to_list, Ok, All, Ordering, Less, Equal, Greater, refl, ap, sym, ◌∙◌, arith}
use Rattle.std.specs.Prelude.{◌==◌, not, nat_le, nat_lt}
use Rattle.std.specs.List.{list_all, slice_split, onto_first, AllByRecursion}
use Rattle.std.specs.Ordering.{match_ordering, nat_cmp}
use Rattle.std.specs.Cmp.Lexicographic.{slice_cmp}
use Rattle.std.proofs.lemmas.Bool.{and_from, and_parts, ltb-true}
use Rattle.std.proofs.lemmas.Bool.Decides.{nat_tests}
use Rattle.std.proofs.lemmas.List.Elements.{All-from_recursion}
use Rattle.std.proofs.lemmas.List.Splits.{slice_split_none, length-slice_split}
use Rattle.serde_json.specs.Data.{Num, unsigned, negative, float, Data, null, boolean, number, string, array, object, Members, no_members, member, depth}
use Rattle.doc_values.specs.declared.value.Value.{Value}
use Rattle.doc_values.specs.declared.value.Value.TheVariants.{Int}
use Rattle.doc_values.specs.Doc.{Fields, with_field}
use Rattle.doc_flatten.specs.Tree.{int_of, has_integers, is_key_byte, is_key, dotted, is_member, has_paths, members_have_paths}
use Rattle.doc_flatten.specs.Fields.{fields_under, members_fields, with_all_fields}
use Rattle.doc_flatten.specs.Documents.{document_of_members, is_admitted, most_fields, most_levels, documents_of}
use Rattle.doc_flatten.proofs.Tests.{both_true}
use Rattle.doc_flatten.proofs.EachDocument.{documents_of-each}
use Rattle.sql_tokens.specs.Forms.{is_dot, is_segment, is_segment_byte, is_quoted_name}

-- ---- names between quotes
onto_append : (x : ℕ) (ps qs : List (List ℕ)) → 0 < length ps → onto_first x (ps ++ qs) ≡ onto_first x ps ++ qs
onto_append x [] qs some = absurd (omega arith)
onto_append x (p ∷ ps) qs some = refl

-- A dot between two parts parts their segments.
split_at_dot : (xs ys : List ℕ) → slice_split is_dot (xs ++ 46 ∷ ys) ≡ slice_split is_dot xs ++ slice_split is_dot ys
split_at_dot [] ys = refl
split_at_dot (x ∷ xs) ys =
    let later = split_at_dot xs ys in
    elim (is_dot x) as (λ b. cond b ([] ∷ slice_split is_dot (xs ++ 46 ∷ ys)) (onto_first x (slice_split is_dot (xs ++ 46 ∷ ys))) ≡ cond b ([] ∷ slice_split is_dot xs) (onto_first x (slice_split is_dot xs)) ++ slice_split is_dot ys) [
      | true ↦ ap (λ ps. [] ∷ ps) later
      | false ↦ ap (onto_first x) later ∙ onto_append x (slice_split is_dot xs) (slice_split is_dot ys) (omega (arith, length-slice_split is_dot xs))
    ]

all_append : (f : List ℕ → Bool) (xs ys : List (List ℕ)) → list_all f xs ≡ true → list_all f ys ≡ true → list_all f (xs ++ ys) ≡ true
all_append f [] ys h k = k
all_append f (x ∷ xs) ys h k = let both = and_parts (f x) (list_all f xs) h in and_from (f x) (list_all f (xs ++ ys)) both.0 (all_append f xs ys both.1 k)

key_byte : (c : ℕ) → is_key_byte c ≡ true → (is_dot c ≡ false) × (is_segment_byte c ≡ true)
key_byte c h = (grind (arith, nat_tests), grind (arith, nat_tests))

key_bytes : (key : List ℕ) → list_all is_key_byte key ≡ true → AllByRecursion (λ c. is_dot c ≡ false) key × (list_all is_segment_byte key ≡ true)
key_bytes [] h = (tt, refl)
key_bytes (c ∷ cs) h =
    let both = and_parts (is_key_byte c) (list_all is_key_byte cs) h in
    let first = key_byte c both.0 in
    let rest = key_bytes cs both.1 in
    ((first.0, rest.0), and_from (is_segment_byte c) (list_all is_segment_byte cs) first.1 rest.1)

some_segment : (key : List ℕ) → 0 < length key → list_all is_segment_byte key ≡ true → is_segment key ≡ true
some_segment [] some all = absurd (omega arith)
some_segment (c ∷ cs) some all = all

-- A key is one segment.
key_segments : (key : List ℕ) → is_key key ≡ true → list_all is_segment (slice_split is_dot key) ≡ true
key_segments key h =
    let both = and_parts (nat_lt 0 (length key)) (list_all is_key_byte key) h in
    let bytes = key_bytes key both.1 in
    let one : slice_split is_dot key ≡ key ∷ [] = slice_split_none is_dot key (All-from_recursion (λ c. is_dot c ≡ false) key bytes.0) in
    ap (list_all is_segment) one ∙ and_from (is_segment key) true (some_segment key (ltb-true 0 (length key) both.0) bytes.1) refl

segments_of : (name : List ℕ) → is_quoted_name name ≡ true → list_all is_segment (slice_split is_dot name) ≡ true
segments_of name h = (and_parts _ _ h).1

-- The path of the document itself, or one that may stand between quotes.
abbrev IsOuter : List ℕ → Type 0
IsOuter path = (path ≡ []) ⊎ (is_quoted_name path ≡ true)

dotted_segments : (path key : List ℕ) → IsOuter path → is_key key ≡ true → list_all is_segment (slice_split is_dot (dotted path key)) ≡ true
dotted_segments [] key outer h = key_segments key h
dotted_segments (c ∷ cs) key (inl none) h = absurd (cc)
dotted_segments (c ∷ cs) key (inr quoted) h =
    ap (list_all is_segment) (split_at_dot (c ∷ cs) key) ∙ all_append is_segment (slice_split is_dot (c ∷ cs)) (slice_split is_dot key) (segments_of (c ∷ cs) quoted) (key_segments key h)

dotted_quoted : (path key : List ℕ) → IsOuter path → is_member path key ≡ true → is_quoted_name (dotted path key) ≡ true
dotted_quoted path key outer h =
    let both = and_parts (is_key key) (nat_le (length (dotted path key)) 255) h in
    and_from _ _ both.1 (dotted_segments path key outer both.0)

-- ---- the fields of a tree
-- Each name may stand between quotes.
abbrev pub Quotable : Fields → Type 0
Quotable = AllByRecursion (λ field. is_quoted_name field.0 ≡ true)

Quotable-append : (xs ys : Fields) → Quotable xs → Quotable ys → Quotable (xs ++ ys)
Quotable-append [] ys p q = q
Quotable-append (x ∷ xs) ys p q = (p.0, Quotable-append xs ys p.1 q)

number_quotable : (path : List ℕ) (n : Num) → is_quoted_name path ≡ true → Quotable (fields_under path (number n))
number_quotable path n h = elim (int_of n) as (λ o. Quotable (option_to_list (option_map (λ z. (path, Int z)) o))) [ None ↦ tt | Some z ↦ (h, tt) ]

mutual
  under_quotable : (path : List ℕ) (d : Data) → is_quoted_name path ≡ true → has_paths path d ≡ true → Quotable (fields_under path d)
  under_quotable path null h paths = tt
  under_quotable path (boolean b) h paths = (h, tt)
  under_quotable path (number n) h paths = number_quotable path n h
  under_quotable path (string s) h paths = (h, tt)
  under_quotable path (array ds) h paths = (h, tt)
  under_quotable path (object no_members) h paths = (h, tt)
  under_quotable path (object (member key d ms)) h paths = members_quotable path (member key d ms) (inr h) paths

  members_quotable : (path : List ℕ) (ms : Members) → IsOuter path → members_have_paths path ms ≡ true → Quotable (members_fields path ms)
  members_quotable path no_members outer paths = tt
  members_quotable path (member key d ms) outer paths =
      let all = both_true (is_member path key && has_paths (dotted path key) d) (members_have_paths path ms) paths in
      let first = both_true (is_member path key) (has_paths (dotted path key) d) all.0 in
      Quotable-append (fields_under (dotted path key) d) (members_fields path ms)
      (under_quotable (dotted path key) d (dotted_quoted path key outer first.0) first.1) (members_quotable path ms outer all.1)

placed : (name : List ℕ) (v : Value) (f : List ℕ × Value) (fs : Fields) (o : Ordering) → is_quoted_name name ≡ true → Quotable (f ∷ fs) → Quotable (with_field fs name v)
    → Quotable (match_ordering o ((name, v) ∷ f ∷ fs) ((f.0, v) ∷ fs) (f ∷ with_field fs name v))
placed name v f fs Less h q later = (h, q)
placed name v f fs Equal h q later = (q.0, q.1)
placed name v f fs Greater h q later = (q.0, later)

with_quotable : (name : List ℕ) (v : Value) (fs : Fields) → is_quoted_name name ≡ true → Quotable fs → Quotable (with_field fs name v)
with_quotable name v [] h q = (h, tt)
with_quotable name v (f ∷ fs) h q = placed name v f fs (slice_cmp nat_cmp name f.0) h q (with_quotable name v fs h q.1)

with_all_quotable : (doc fields : Fields) → Quotable doc → Quotable fields → Quotable (with_all_fields doc fields)
with_all_quotable doc [] p q = p
with_all_quotable doc (f ∷ fs) p q = with_all_quotable (with_field doc f.0 f.1) fs (with_quotable f.0 f.1 doc q.0 p) q.1

-- ---- documents
admitted : (ms : Members) → is_admitted ms ≡ true → Quotable (document_of_members ms)
admitted ms h =
    let few = both_true (nat_le (depth (object ms)) most_levels && has_integers (object ms) && has_paths [] (object ms)) (nat_le (length (document_of_members ms)) most_fields) h in
    let paths = both_true (nat_le (depth (object ms)) most_levels && has_integers (object ms)) (has_paths [] (object ms)) few.0 in
    with_all_quotable [] (members_fields [] ms) tt (members_quotable [] ms (inl refl) paths.1)

pub quotable_documents : (json : List ℕ) (documents : List Fields) → documents_of json ≡ Ok documents → All Quotable documents
quotable_documents = documents_of-each Quotable admitted

each_by : (P : List ℕ → Type 0) → ((name : List ℕ) → is_quoted_name name ≡ true → P name) → (document : Fields) → Quotable document → AllByRecursion (λ field. P field.0) document
each_by P holds [] q = tt
each_by P holds (f ∷ fs) q = (holds f.0 q.0, each_by P holds fs q.1)

pub each_field : (P : List ℕ → Type 0) → ((name : List ℕ) → is_quoted_name name ≡ true → P name) → (document : Fields) → Quotable document → All (λ field. P field.0) document
each_field P holds document q = All-from_recursion (λ field. P field.0) document (each_by P holds document q)
