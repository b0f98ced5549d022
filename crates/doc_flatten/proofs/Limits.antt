-- An admitted document keeps the limits.
use Rattle.std.proofs.Common.{◌≡◌, ℕ, ℤ, pos, negsuc, List, [], ◌∷◌, ◌++◌, length, Bool, true, false, cond, ◌&&◌, nat_le, int_le, Some, None, option_map, option_to_list, refl, arith, leb-true}
use Rattle.std.proofs.lemmas.Int.{ints}
use Rattle.std.specs.List.{AllByRecursion}
use Rattle.serde_json.specs.Data.{Num, unsigned, negative, float, Data, null, boolean, number, string, array, object, Members, no_members, member, depth}
use Rattle.doc_values.specs.declared.value.Value.TheVariants.{Int}
use Rattle.doc_values.specs.Value.{IsStorable}
use Rattle.doc_values.specs.Doc.{Fields, with_field, IsDocument}
use Rattle.doc_values.proofs.Maps.{kept}
use Rattle.doc_flatten.specs.Tree.{dotted, has_integers, has_paths}
use Rattle.doc_flatten.specs.Fields.{fields_under, members_fields, with_all_fields}
use Rattle.doc_flatten.specs.Documents.{document_of_members, is_admitted, IsWithinLimits}
use Rattle.doc_flatten.proofs.Tests.{both_true}

abbrev Storable : Fields → Type 0
Storable = AllByRecursion (λ field. IsStorable field.1)

Storable-append : (xs ys : Fields) → Storable xs → Storable ys → Storable (xs ++ ys)
Storable-append [] ys p q = q
Storable-append (x ∷ xs) ys p q = (p.0, Storable-append xs ys p.1 q)

with_all_fields-document : (doc fields : Fields) → IsDocument doc → Storable fields → IsDocument (with_all_fields doc fields)
with_all_fields-document doc [] p q = p
with_all_fields-document doc (f ∷ fs) p q = with_all_fields-document (with_field doc f.0 f.1) fs ((kept doc f.0 p).0 f.1 q.0) q.1

bounds : (z : ℤ) → int_le (negsuc 9223372036854775807) z && int_le z (pos 9223372036854775807) ≡ true → IsStorable (Int z)
bounds z h = let p = both_true (int_le (negsuc 9223372036854775807) z) _ h in (omega (arith, ints, p.0), omega (arith, ints, p.1))

int-storable : (path : List ℕ) (z : ℤ) (b : Bool) → int_le (negsuc 9223372036854775807) z && int_le z (pos 9223372036854775807) ≡ b → Storable (option_to_list (option_map (λ z. (path, Int z)) (cond b (Some z) None)))
int-storable path z false h = tt
int-storable path z true h = (bounds z h, tt)

number-storable : (path : List ℕ) (n : Num) → Storable (fields_under path (number n))
number-storable path (unsigned n) = int-storable path (pos n) _ refl
number-storable path (negative z) = int-storable path z _ refl
number-storable path (float x) = tt

mutual
  fields_under-storable : (path : List ℕ) (d : Data) → Storable (fields_under path d)
  fields_under-storable path null = tt
  fields_under-storable path (boolean b) = (tt, tt)
  fields_under-storable path (number n) = number-storable path n
  fields_under-storable path (string s) = (tt, tt)
  fields_under-storable path (array ds) = (tt, tt)
  fields_under-storable path (object no_members) = (tt, tt)
  fields_under-storable path (object (member key d ms)) =
      Storable-append (fields_under (dotted path key) d) (members_fields path ms) (fields_under-storable (dotted path key) d) (members_fields-storable path ms)

  members_fields-storable : (path : List ℕ) (ms : Members) → Storable (members_fields path ms)
  members_fields-storable path no_members = tt
  members_fields-storable path (member key d ms) =
      Storable-append (fields_under (dotted path key) d) (members_fields path ms) (fields_under-storable (dotted path key) d) (members_fields-storable path ms)

pub document_of_members-limits : (ms : Members) → is_admitted ms ≡ true → IsWithinLimits (document_of_members ms)
document_of_members-limits ms h =
    let few = both_true (nat_le (depth (object ms)) 64 && has_integers (object ms) && has_paths [] (object ms)) (nat_le (length (document_of_members ms)) 4096) h in
    (with_all_fields-document [] (members_fields [] ms) tt (members_fields-storable [] ms), leb-true _ _ few.1)
