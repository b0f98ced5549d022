-- A printed value stays on its line.
use Rattle.std.proofs.Common.{◌≡◌, ℕ, zero, suc, ◌/◌, ◌%◌, ◌≤◌, List, [], ◌∷◌, ◌++◌, Bool, true, false, cond, ltb, eqb, Option, Some, None, IfSome, ℤ, pos, negsuc, refl, arith}
use Rattle.std.specs.Char.{digit_char}
use Rattle.std.specs.Fmt.{digits, digits_onto, digit_glyph, decimal, signed_decimal}
use Rattle.std.specs.List.{AllByRecursion}
use Rattle.std.proofs.lemmas.Bool.Decides.{nat_tests}
use Rattle.std.proofs.lemmas.List.Elements.{All-from_recursion, recursion_from_All}
use Rattle.json.specs.Print.{escape_letter, escape_byte, escape, quoted}
use Rattle.doc_values.specs.declared.value.Value.{Value}
use Rattle.doc_values.specs.declared.value.Value.TheVariants as value
use Rattle.doc_values.specs.Value.{IsOneLine, HasOneLineArray, bool_text, value_text, printed}

-- the same by recursion over the text
abbrev Stays : List ℕ → Type 0
Stays = AllByRecursion (λ byte. 32 ≤ byte)

Stays-append : (s t : List ℕ) → Stays s → Stays t → Stays (s ++ t)
Stays-append [] t h k = k
Stays-append (x ∷ s) t h k = (h.0, Stays-append s t h.1 k)

-- ---- numbers

glyph_high : (d : ℕ) → 32 ≤ digit_glyph false d
glyph_high d = grind (arith, nat_tests)

either : (b : Bool) (s t : List ℕ) → Stays s → Stays t → Stays (cond b s t)
either true s t h k = h
either false s t h k = k

Stays-digits_onto : (k n : ℕ) (text : List ℕ) → Stays text → Stays (digits_onto k 10 false n text)
Stays-digits_onto zero n text h = h
Stays-digits_onto (suc k) n text h =
    let more : Stays (digit_glyph false (n % 10) ∷ text) = (glyph_high (n % 10), h) in
    either (eqb (n / 10) 0) _ _ more (Stays-digits_onto k (n / 10) _ more)

Stays-decimal : (n : ℕ) → Stays (decimal n)
unfolding digits
Stays-decimal n = Stays-digits_onto 64 n [] tt

Stays-signed : (z : ℤ) → Stays (signed_decimal z)
Stays-signed (pos n) = Stays-decimal n
Stays-signed (negsuc n) = (omega arith, Stays-decimal (suc n))

-- ---- texts

char_high : (d : ℕ) → 32 ≤ digit_char d
char_high d = grind (arith, nat_tests)

letter_high : (x : ℕ) → ltb 0 (escape_letter x) ≡ true → 32 ≤ escape_letter x
letter_high x h = grind (arith, nat_tests)

escaped_by : (x : ℕ) (short control : Bool) → (short ≡ true → 32 ≤ escape_letter x) → (control ≡ false → 32 ≤ x)
    → Stays (cond short (92 ∷ escape_letter x ∷ []) (cond control (92 ∷ 117 ∷ 48 ∷ 48 ∷ digit_char (x / 16) ∷ digit_char (x % 16) ∷ []) (x ∷ [])))
escaped_by x true control p q = (omega arith, (p refl, tt))
escaped_by x false true p q = (omega arith, (omega arith, (omega arith, (omega arith, (char_high (x / 16), (char_high (x % 16), tt))))))
escaped_by x false false p q = (q refl, tt)

Stays-escape_byte : (x : ℕ) → Stays (escape_byte x)
unfolding escape_byte
Stays-escape_byte x = escaped_by x (ltb 0 (escape_letter x)) (ltb x 32) (letter_high x) (λ h. grind (arith, nat_tests))

Stays-escape : (s : List ℕ) → Stays (escape s)
Stays-escape [] = tt
Stays-escape (x ∷ s) = Stays-append (escape_byte x) (escape s) (Stays-escape_byte x) (Stays-escape s)

Stays-quoted : (s : List ℕ) → Stays (quoted s)
Stays-quoted s = (omega arith, Stays-append (escape s) (34 ∷ []) (Stays-escape s) (omega arith, tt))

-- ---- values

Stays-bool : (b : Bool) → Stays (bool_text b)
Stays-bool true = (omega arith, (omega arith, (omega arith, (omega arith, tt))))
Stays-bool false = (omega arith, (omega arith, (omega arith, (omega arith, (omega arith, tt)))))

Stays-value : (v : Value) → HasOneLineArray v → Stays (value_text v)
Stays-value (value.Bool b) h = Stays-bool b
Stays-value (value.Int n) h = Stays-signed n
Stays-value (value.Text s) h = Stays-quoted s
Stays-value (value.Array s) h = recursion_from_All (λ byte. 32 ≤ byte) s h
Stays-value value.Object h = (omega arith, (omega arith, tt))

Stays-printed : (v : Option Value) → IfSome v HasOneLineArray → Stays (printed v)
Stays-printed None h = (omega arith, (omega arith, (omega arith, (omega arith, tt))))
Stays-printed (Some v) h = Stays-value v h

pub IsOneLine-printed : (v : Option Value) → IfSome v HasOneLineArray → IsOneLine (printed v)
IsOneLine-printed v h = All-from_recursion (λ byte. 32 ≤ byte) (printed v) (Stays-printed v h)
