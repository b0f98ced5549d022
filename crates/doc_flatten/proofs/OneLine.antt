-- A compact text holds no byte below a space, so the arrays of a document stand on one line.
use Rattle.std.proofs.Common.{ℕ, ◌≤◌, ℤ, pos, List, [], ◌∷◌, ◌++◌, Bool, true, false, Option, Some, None, option_map, option_to_list, Ordering, Less, Equal, Greater, nat_cmp, arith}
use Rattle.std.proofs.lemmas.List.Elements.{All-from_recursion, recursion_from_All}
use Rattle.std.specs.List.{AllByRecursion}
use Rattle.std.specs.Ordering.{match_ordering}
use Rattle.std.specs.Cmp.Lexicographic.{slice_cmp}
use Rattle.serde_json.specs.Data.{Num, unsigned, negative, float, Data, null, boolean, number, string, array, object, Items, no_items, item, Members, no_members, member}
use Rattle.serde_json.specs.Written.{number_text, compact_text, items_text, members_text, comma_if}
use Rattle.doc_values.specs.declared.value.Value as value
use Rattle.doc_values.specs.declared.value.Value.TheVariants.{Int, Text}
use Rattle.doc_values.specs.Value.{HasOneLineArray, value_text}
use Rattle.doc_values.specs.Doc.{Fields, with_field}
use Rattle.doc_values.proofs.OneLine.{IsOneLine-printed}
use Rattle.doc_flatten.specs.Tree.{int_of, dotted}
use Rattle.doc_flatten.specs.Fields.{fields_under, members_fields, with_all_fields}
use Rattle.doc_flatten.specs.Documents.{document_of_members}
use Rattle.doc_flatten.specs.Lines.{HasOneLineArrays}

-- the same by recursion over the text
abbrev Stays : List ℕ → Type 0
Stays = AllByRecursion (λ byte. 32 ≤ byte)

Stays-append : (xs ys : List ℕ) → Stays xs → Stays ys → Stays (xs ++ ys)
Stays-append [] ys p q = q
Stays-append (x ∷ xs) ys p q = (p.0, Stays-append xs ys p.1 q)

Stays-value_text : (v : value.Value) → HasOneLineArray v → Stays (value_text v)
Stays-value_text v h = recursion_from_All (λ byte. 32 ≤ byte) (value_text v) (IsOneLine-printed (Some v) h)

Stays-number_text : (n : Num) → Stays (number_text n)
Stays-number_text (unsigned n) = Stays-value_text (Int (pos n)) tt
Stays-number_text (negative z) = Stays-value_text (Int z) tt
Stays-number_text (float x) = tt

-- ---- trees

Stays-comma_if : (later : Bool) → Stays (comma_if later)
Stays-comma_if true = (omega arith, tt)
Stays-comma_if false = tt

Stays-boolean : (b : Bool) → Stays (compact_text (boolean b))
Stays-boolean true = Stays-value_text (value.TheVariants.Bool true) tt
Stays-boolean false = Stays-value_text (value.TheVariants.Bool false) tt

mutual
  Stays-compact_text : (d : Data) → Stays (compact_text d)
  Stays-compact_text null = (omega arith, (omega arith, (omega arith, (omega arith, tt))))
  Stays-compact_text (boolean b) = Stays-boolean b
  Stays-compact_text (number n) = Stays-number_text n
  Stays-compact_text (string s) = Stays-value_text (Text s) tt
  Stays-compact_text (array ds) = (omega arith, Stays-items_text false ds)
  Stays-compact_text (object ms) = (omega arith, Stays-members_text false ms)

  Stays-items_text : (later : Bool) (ds : Items) → Stays (items_text later ds)
  Stays-items_text later no_items = (omega arith, tt)
  Stays-items_text later (item d ds) =
      Stays-append (comma_if later) (compact_text d ++ items_text true ds) (Stays-comma_if later) (Stays-append (compact_text d) (items_text true ds) (Stays-compact_text d) (Stays-items_text true ds))

  Stays-members_text : (later : Bool) (ms : Members) → Stays (members_text later ms)
  Stays-members_text later no_members = (omega arith, tt)
  Stays-members_text later (member k d ms) =
      let after = Stays-append (compact_text d) (members_text true ms) (Stays-compact_text d) (Stays-members_text true ms) in
      Stays-append (comma_if later) (value_text (Text k) ++ 58 ∷ (compact_text d ++ members_text true ms)) (Stays-comma_if later)
      (Stays-append (value_text (Text k)) (58 ∷ (compact_text d ++ members_text true ms)) (Stays-value_text (Text k) tt) (omega arith, after))

-- ---- documents

abbrev Lines : Fields → Type 0
Lines = AllByRecursion (λ field. HasOneLineArray field.1)

Lines-append : (xs ys : Fields) → Lines xs → Lines ys → Lines (xs ++ ys)
Lines-append [] ys p q = q
Lines-append (x ∷ xs) ys p q = (p.0, Lines-append xs ys p.1 q)

either_lines : (o : Ordering) (a b c : Fields) → Lines a → Lines b → Lines c → Lines (match_ordering o a b c)
either_lines Less a b c p q r = p
either_lines Equal a b c p q r = q
either_lines Greater a b c p q r = r

with_field-lines : (doc : Fields) (name : List ℕ) (v : value.Value) → Lines doc → HasOneLineArray v → Lines (with_field doc name v)
with_field-lines [] name v p q = (q, tt)
with_field-lines (f ∷ fs) name v p q = either_lines (slice_cmp nat_cmp name f.0) _ _ _ (q, p) (q, p.1) (p.0, with_field-lines fs name v p.1 q)

with_all_fields-lines : (doc fields : Fields) → Lines doc → Lines fields → Lines (with_all_fields doc fields)
with_all_fields-lines doc [] p q = p
with_all_fields-lines doc (f ∷ fs) p q = with_all_fields-lines (with_field doc f.0 f.1) fs (with_field-lines doc f.0 f.1 p q.0) q.1

int-lines : (path : List ℕ) (o : Option ℤ) → Lines (option_to_list (option_map (λ z. (path, Int z)) o))
int-lines path None = tt
int-lines path (Some z) = (tt, tt)

mutual
  fields_under-lines : (path : List ℕ) (d : Data) → Lines (fields_under path d)
  fields_under-lines path null = tt
  fields_under-lines path (boolean b) = (tt, tt)
  fields_under-lines path (number n) = int-lines path (int_of n)
  fields_under-lines path (string s) = (tt, tt)
  fields_under-lines path (array ds) = (All-from_recursion (λ byte. 32 ≤ byte) (compact_text (array ds)) (Stays-compact_text (array ds)), tt)
  fields_under-lines path (object no_members) = (tt, tt)
  fields_under-lines path (object (member key d ms)) =
      Lines-append (fields_under (dotted path key) d) _ (fields_under-lines (dotted path key) d) (members_fields-lines path ms)

  members_fields-lines : (path : List ℕ) (ms : Members) → Lines (members_fields path ms)
  members_fields-lines path no_members = tt
  members_fields-lines path (member key d ms) =
      Lines-append (fields_under (dotted path key) d) _ (fields_under-lines (dotted path key) d) (members_fields-lines path ms)

pub document_of_members-lines : (ms : Members) → HasOneLineArrays (document_of_members ms)
document_of_members-lines ms =
    All-from_recursion (λ field. HasOneLineArray field.1) (document_of_members ms) (with_all_fields-lines [] (members_fields [] ms) tt (members_fields-lines [] ms))
