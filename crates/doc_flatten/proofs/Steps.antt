-- The walk's tests and fields, one step at a time.
use Rattle.std.proofs.Common.{◌≡◌, ℕ, suc, ◌-◌, ◌<◌, ◌≤◌, List, [], ◌∷◌, ◌++◌, length, true, false, ◌&&◌, nat_le, Ordering, Less, Equal, Greater, nat_cmp, refl, ap, ◌∙◌, arith}
use Rattle.std.proofs.lemmas.Bool.Decides.{nat_tests}
use Rattle.std.proofs.lemmas.List.Sums.{fold-append}
use Rattle.std.specs.Ordering.{match_ordering}
use Rattle.std.specs.Cmp.Lexicographic.{slice_cmp}
use Rattle.serde_json.specs.Data.{Data, object, Members, no_members, member, depth, members_depth}
use Rattle.doc_values.specs.declared.value.Value.{Value}
use Rattle.doc_values.specs.Doc.{Fields, with_field}
use Rattle.doc_flatten.specs.Tree.{dotted, is_member, has_integers, members_have_integers, has_paths, members_have_paths}
use Rattle.doc_flatten.specs.Fields.{fields_under, members_fields, with_all_fields}
use Rattle.doc_flatten.specs.Walk.{members_are_plain, fits_in, members_fit_in}
use Rattle.doc_flatten.proofs.Tests.{nat_le-max, nat_le-more, rest_decides, member_fails}

-- ---- a document only grows

longer : (o : Ordering) (n : ℕ) (a b c : Fields) → n ≤ length a → n ≤ length b → n ≤ length c → n ≤ length (match_ordering o a b c)
longer Less n a b c p q r = p
longer Equal n a b c p q r = q
longer Greater n a b c p q r = r

with_field-grows : (doc : Fields) (name : List ℕ) (value : Value) → length doc ≤ length (with_field doc name value)
with_field-grows [] name value = omega arith
with_field-grows (f ∷ fs) name value =
    longer (slice_cmp nat_cmp name f.0) _ ((name, value) ∷ f ∷ fs) ((f.0, value) ∷ fs) (f ∷ with_field fs name value) (omega arith) (omega arith) (omega (arith, with_field-grows fs name value))

with_all_fields-grows : (doc fields : Fields) → length doc ≤ length (with_all_fields doc fields)
with_all_fields-grows doc [] = omega arith
with_all_fields-grows doc (f ∷ fs) = omega (arith, with_field-grows doc f.0 f.1, with_all_fields-grows (with_field doc f.0 f.1) fs)

pub with_all_fields-append : (doc xs ys : Fields) → with_all_fields doc (xs ++ ys) ≡ with_all_fields (with_all_fields doc xs) ys
with_all_fields-append doc xs ys = fold-append _ doc xs ys

-- ---- one member more

split_depth : (levels : ℕ) (path key : List ℕ) (doc : Fields) (d : Data) (ms : Members)
    → members_fit_in levels path doc (member key d ms) ≡ (((nat_le (depth d) levels && nat_le (members_depth ms) levels) && (has_integers d && members_have_integers ms)) && ((is_member path key && has_paths (dotted path key) d) && members_have_paths path ms)) && nat_le (length (with_all_fields doc (members_fields path (member key d ms)))) 4096
split_depth levels path key doc d ms =
    ap (λ b. ((b && (has_integers d && members_have_integers ms)) && ((is_member path key && has_paths (dotted path key) d) && members_have_paths path ms)) && nat_le (length (with_all_fields doc (members_fields path (member key d ms)))) 4096)
    (nat_le-max (depth d) (members_depth ms) levels)

pub members_fit_in-more : (levels : ℕ) (path key : List ℕ) (doc : Fields) (d : Data) (ms : Members) → is_member path key ≡ true → fits_in levels (dotted path key) doc d ≡ true
    → members_fit_in levels path doc (member key d ms) ≡ members_fit_in levels path (with_all_fields doc (fields_under (dotted path key) d)) ms
members_fit_in-more levels path key doc d ms k h =
    let inner = fields_under (dotted path key) d in
    split_depth levels path key doc d ms
    ∙ rest_decides (nat_le (depth d) levels) (nat_le (members_depth ms) levels) (has_integers d) (members_have_integers ms) (is_member path key) (has_paths (dotted path key) d) (members_have_paths path ms) (nat_le (length (with_all_fields doc inner)) 4096) _ k h
    ∙ ap (λ document. (members_are_plain levels ms && members_have_paths path ms) && nat_le (length document) 4096) (with_all_fields-append doc inner (members_fields path ms))

pub members_fit_in-not : (levels : ℕ) (path key : List ℕ) (doc : Fields) (d : Data) (ms : Members) → fits_in levels (dotted path key) doc d ≡ false
    → members_fit_in levels path doc (member key d ms) ≡ false
members_fit_in-not levels path key doc d ms h =
    let inner = fields_under (dotted path key) d in
    split_depth levels path key doc d ms
    ∙ member_fails (nat_le (depth d) levels) (nat_le (members_depth ms) levels) (has_integers d) (members_have_integers ms) (is_member path key) (has_paths (dotted path key) d) (members_have_paths path ms) (nat_le (length (with_all_fields doc inner)) 4096) _ h
    (λ e. ap (λ document. nat_le (length document) 4096) (with_all_fields-append doc inner (members_fields path ms)) ∙ nat_le-more (length (with_all_fields doc inner)) _ 4096 (with_all_fields-grows (with_all_fields doc inner) (members_fields path ms)) e)

-- ---- an object that is not empty

nat_le-suc : (a n : ℕ) → 0 < n → nat_le (suc a) n ≡ nat_le a (n - 1)
nat_le-suc a n h = grind (arith, nat_tests)

pub fields_under-object : (path : List ℕ) (ms : Members) → (ms ≡ no_members → ⊥) → fields_under path (object ms) ≡ members_fields path ms
fields_under-object path no_members some = absurd (some refl)
fields_under-object path (member key d ms) some = refl

pub fits_in-object : (levels : ℕ) (path : List ℕ) (doc : Fields) (ms : Members) → 0 < levels → (ms ≡ no_members → ⊥) → fits_in levels path doc (object ms) ≡ members_fit_in (levels - 1) path doc ms
fits_in-object levels path doc ms h some = rw (nat_le-suc (members_depth ms) levels h, fields_under-object path ms some)
