-- A tree's compact text is no longer than what the tree costs.
use Rattle.std.proofs.Common.{◌≡◌, ℕ, ◌+◌, ◌*◌, ◌^◌, ◌<◌, ◌≤◌, ℤ, pos, negsuc, List, [], ◌∷◌, ◌++◌, length, Bool, true, false, cond, nat_lt, int_le, is_some, Some, None, refl, arith, length-append}
use Rattle.std.proofs.lemmas.Int.{ints}
use Rattle.std.proofs.lemmas.Fmt.{length-decimal-le, length_signed_le}
use Rattle.json.specs.Print.{escape_letter, escape_byte, escape, quoted}
use Rattle.serde_json.specs.Data.{Num, unsigned, negative, float, Data, null, boolean, number, string, array, object, Items, no_items, item, Members, no_members, member}
use Rattle.serde_json.specs.Written.{number_text, compact_text, items_text, members_text, comma_if}
use Rattle.doc_flatten.specs.Tree.{int_of, has_integers, items_have_integers, members_have_integers}
use Rattle.doc_flatten.proofs.Cost.{cost, items_cost, members_cost}
use Rattle.doc_flatten.proofs.Tests.{both_true}

-- ---- a string

six : (b : Bool) (x y : List ℕ) → length x ≤ 6 → length y ≤ 6 → length (cond b x y) ≤ 6
six true x y p q = p
six false x y p q = q

length-escape_byte : (x : ℕ) → length (escape_byte x) ≤ 6
unfolding escape_byte
length-escape_byte x = six (nat_lt 0 (escape_letter x)) _ _ (omega arith) (six (nat_lt x 32) _ _ (omega arith) (omega arith))

length-escape : (s : List ℕ) → length (escape s) ≤ 6 * length s
length-escape [] = omega arith
length-escape (x ∷ s) = omega (arith, length-append (escape_byte x) (escape s), length-escape_byte x, length-escape s)

length-quoted : (s : List ℕ) → length (quoted s) ≤ 6 * length s + 2
length-quoted s = omega (arith, length-append (escape s) (34 ∷ []), length-escape s)

-- ---- a number

within : (z : ℤ) (b : Bool) → is_some (cond b (Some z) None) ≡ true → b ≡ true
within z true h = refl
within z false h = absurd (cc)

length-number : (n : Num) → is_some (int_of n) ≡ true → length (number_text n) ≤ 20
length-number (unsigned n) h =
    let p = both_true (int_le (negsuc 9223372036854775807) (pos n)) _ (within (pos n) _ h) in
    let small : n < 2 ^ 63 = omega (arith, ints, p.1) in omega (arith, length-decimal-le 19 n (omega arith) (omega arith) (omega arith))
length-number (negative (pos n)) h =
    let p = both_true (int_le (negsuc 9223372036854775807) (pos n)) _ (within (pos n) _ h) in
    let small : n < 2 ^ 63 = omega (arith, ints, p.1) in length_signed_le 19 (pos n) (omega arith) (omega arith)
length-number (negative (negsuc n)) h =
    let p = both_true (int_le (negsuc 9223372036854775807) (negsuc n)) _ (within (negsuc n) _ h) in
    let small : n < 2 ^ 63 = omega (arith, ints, p.0) in length_signed_le 19 (negsuc n) (omega arith) (omega arith)
length-number (float x) h = absurd (cc)

-- ---- a tree

length-comma : (later : Bool) → length (comma_if later) ≤ 1
length-comma true = omega arith
length-comma false = omega arith

length-boolean : (b : Bool) → length (compact_text (boolean b)) ≤ 5
length-boolean true = omega arith
length-boolean false = omega arith

mutual
  pub length-compact_text : (d : Data) → has_integers d ≡ true → length (compact_text d) + 1 ≤ cost d
  length-compact_text null h = omega arith
  length-compact_text (boolean b) h = omega (arith, length-boolean b)
  length-compact_text (number n) h = omega (arith, length-number n h)
  length-compact_text (string s) h = omega (arith, length-quoted s)
  length-compact_text (array ds) h = omega (arith, length-items_text false ds h)
  length-compact_text (object ms) h = omega (arith, length-members_text false ms h)

  length-items_text : (later : Bool) (ds : Items) → items_have_integers ds ≡ true → length (items_text later ds) ≤ items_cost ds
  length-items_text later no_items h = omega arith
  length-items_text later (item d ds) h =
      let p = both_true (has_integers d) _ h in
      omega (arith, length-append (comma_if later) (compact_text d ++ items_text true ds), length-append (compact_text d) (items_text true ds), length-comma later, length-compact_text d p.0, length-items_text true ds p.1)

  length-members_text : (later : Bool) (ms : Members) → members_have_integers ms ≡ true → length (members_text later ms) ≤ members_cost ms
  length-members_text later no_members h = omega arith
  length-members_text later (member k d ms) h =
      let p = both_true (has_integers d) _ h in
      omega (
        arith,
        length-append (comma_if later) (quoted k ++ 58 ∷ (compact_text d ++ members_text true ms)),
        length-append (quoted k) (58 ∷ (compact_text d ++ members_text true ms)),
        length-append (compact_text d) (members_text true ms),
        length-comma later,
        length-quoted k,
        length-compact_text d p.0,
        length-members_text true ms p.1,
      )
