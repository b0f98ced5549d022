-- The tokens of a text cost at most 16 for each of its bytes, and 8.
use Rattle.std.proofs.Common.{◌≡◌, ℕ, suc, ◌+◌, ◌*◌, ◌≤◌, Bool, true, false, cond, ◌&&◌, ◌==◌, nat_lt, List, [], ◌∷◌, length, Option, Some, None, option_and_then, refl, sym, ap, ◌∙◌, arith}
use Rattle.std.proofs.lemmas.Bool.{false≢true, eqb-true, and_parts}
use Rattle.std.proofs.lemmas.List.{length-append}
use Rattle.std.specs.Prelude.{⊤}
use Rattle.std.specs.Char.{is_digit, encode_utf8}
use Rattle.json.specs.Token.{Token, begin_object, end_object, begin_array, end_array, key, string, number, boolean, null, bad}
use Rattle.json.specs.Text.{code_unit, short_escape, is_high_surrogate, is_low_surrogate, surrogate_pair, Within, plain, after_backslash, after_u, after_high, prepend, content}
use Rattle.json.specs.Word.{is_operator, is_space, number_before, after_number, head, word, ends_word}
use Rattle.json.specs.Lex.{Lexeme, token, comma, colon, Class, quote, backslash, operator, space, other, class, operator_lexeme, string_token, Mode, between, in_word, in_string, in_escape, lex_byte, lex, Place, fresh, after_value, after_comma, after_key, begins_colon, may_begin, may_close, if_allowed, place_token, punctuate, tokens}
use Rattle.doc_flatten.proofs.Cost.{token_cost, tokens_cost}

-- ---- lexemes

-- what a token affords of itself, with no comma
abbrev own_cost : Token → ℕ
own_cost begin_object = 16
own_cost end_object = 16
own_cost begin_array = 16
own_cost end_array = 16
own_cost (key s) = 16 + 16 * length s
own_cost (string s) = 16 + 16 * length s
own_cost (number s) = 16
own_cost (boolean b) = 16
own_cost null = 16
own_cost bad = 16

abbrev lexeme_cost : Lexeme → ℕ
lexeme_cost (token t) = own_cost t
lexeme_cost comma = 16
lexeme_cost colon = 16

abbrev lexemes_cost : List Lexeme → ℕ
lexemes_cost [] = 0
lexemes_cost (l ∷ ls) = lexeme_cost l + lexemes_cost ls

-- ---- a string's content, which its bytes pay for

-- the content and what is lexed after it cost at most 16 for each of n bytes
abbrev Paid : ℕ → ℕ → Option (List ℕ) → Type 0
Paid n after None = ⊤
Paid n after (Some s) = after + 16 * length s ≤ 16 * n

abbrev mode : Within → Mode
mode plain = in_string
mode after_backslash = in_escape
mode after_u = in_string
mode (after_high h) = in_string

both : (n after : ℕ) (b : Bool) (x y : Option (List ℕ)) → (b ≡ true → Paid n after x) → (b ≡ false → Paid n after y) → Paid n after (cond b x y)
both n after true x y f g = f refl
both n after false x y f g = g refl

abbrev is_found : Option ℕ → Bool
is_found None = false
is_found (Some u) = true

then : (n after : ℕ) (f : ℕ → Option (List ℕ)) (o : Option ℕ) → (is_found o ≡ true → (u : ℕ) → Paid n after (f u)) → Paid n after (option_and_then f o)
then n after f None h = tt
then n after f (Some u) h = h refl u

more : (n m after later : ℕ) (r : Option (List ℕ)) → Paid m later r → after ≡ later → m ≤ n → Paid n after r
more n m after later None h e le = tt
more n m after later (Some s) h e le = omega arith

longer : (n m after later : ℕ) (a : List ℕ) (r : Option (List ℕ)) → Paid m later r → after ≡ later → length a + m ≤ n → Paid n after (prepend a r)
longer n m after later a None h e le = tt
longer n m after later a (Some s) h e le = omega (arith, length-append a s)

length-encode : (u : ℕ) → length (encode_utf8 u) ≤ 4
unfolding encode_utf8
length-encode u = grind arith

passes : (o s : Bool) (x : ℕ) (xs : List ℕ) (k : Mode → List Lexeme) → lex_byte in_string (cond o operator (cond s space other)) x xs k ≡ k in_string
passes true s x xs k = refl
passes false true x xs k = refl
passes false false x xs k = refl

lex_plain : (x : ℕ) (xs : List ℕ) → (x == 34) ≡ false → (x == 92) ≡ false → lex in_string (x ∷ xs) ≡ lex in_string xs
unfolding lex
lex_plain x xs q b =
    (λ i. lex_byte in_string (cond (q i) quote (cond (b i) backslash (cond (is_operator x) operator (cond (is_space x) space other)))) x xs (λ n. lex n xs))
    ∙ passes (is_operator x) (is_space x) x xs (λ n. lex n xs)

lex_quote : (x : ℕ) (xs : List ℕ) → (x == 34) ≡ true → lex in_string (x ∷ xs) ≡ lex between xs
unfolding lex
lex_quote x xs q = ap (λ y. lex in_string (y ∷ xs)) (eqb-true x 34 q)

lex_backslash : (x : ℕ) (xs : List ℕ) → (x == 92) ≡ true → lex in_string (x ∷ xs) ≡ lex in_escape xs
unfolding lex
lex_backslash x xs b = ap (λ y. lex in_string (y ∷ xs)) (eqb-true x 92 b)

lex_escape : (x : ℕ) (xs : List ℕ) → lex in_escape (x ∷ xs) ≡ lex in_string xs
unfolding lex
lex_escape x xs = refl

not_this : (c x : ℕ) (t : Bool) → (t ≡ true → x ≡ c) → is_digit c 16 ≡ false → is_digit x 16 ≡ true → t ≡ false
not_this c x false e never h = refl
not_this c x true e never h = absurd (false≢true (sym never ∙ ap (λ y. is_digit y 16) (sym (e refl)) ∙ h))

lex_hex : (x : ℕ) (xs : List ℕ) → is_digit x 16 ≡ true → lex in_string (x ∷ xs) ≡ lex in_string xs
lex_hex x xs h = lex_plain x xs (not_this 34 x (x == 34) (eqb-true x 34) refl h) (not_this 92 x (x == 92) (eqb-true x 92) refl h)

all_hex : (b : Bool) (u : ℕ) → is_found (cond b (Some u) None) ≡ true → b ≡ true
all_hex true u h = refl
all_hex false u h = h

lex_unit : (a b c d : ℕ) (xs : List ℕ) → is_found (code_unit a b c d) ≡ true → lex in_string (a ∷ b ∷ c ∷ d ∷ xs) ≡ lex in_string xs
unfolding code_unit
lex_unit a b c d xs h =
    let p = and_parts (is_digit a 16 && is_digit b 16 && is_digit c 16) (is_digit d 16) (all_hex _ _ h) in
    let q = and_parts (is_digit a 16 && is_digit b 16) (is_digit c 16) p.0 in
    let r = and_parts (is_digit a 16) (is_digit b 16) q.0 in
    lex_hex a (b ∷ c ∷ d ∷ xs) r.0 ∙ lex_hex b (c ∷ d ∷ xs) r.1 ∙ lex_hex c (d ∷ xs) q.1 ∙ lex_hex d xs p.1

-- ---- a word costs one byte

either_word : (b : Bool) (x y : Token) → own_cost x ≡ 16 → own_cost y ≡ 16 → own_cost (cond b x y) ≡ 16
either_word true x y p q = p
either_word false x y p q = q

number_word : (t : List ℕ) (o : Option (List ℕ)) → own_cost (number_before t o) ≡ 16
number_word t None = refl
number_word t (Some rest) = either_word (ends_word rest) _ bad refl refl

own_cost-word : (t : List ℕ) → own_cost (word t) ≡ 16
unfolding word
own_cost-word t =
    either_word (head t == 116) _ _ (either_word _ (boolean true) bad refl refl)
    (either_word (head t == 102) _ _ (either_word _ (boolean false) bad refl refl) (either_word (head t == 110) _ _ (either_word _ null bad refl refl) (number_word t (after_number t))))

-- ---- a text

either_lexeme : (b : Bool) (x y : Lexeme) → lexeme_cost x ≡ 16 → lexeme_cost y ≡ 16 → lexeme_cost (cond b x y) ≡ 16
either_lexeme true x y p q = p
either_lexeme false x y p q = q

operator_cost : (x : ℕ) → lexeme_cost (operator_lexeme x) ≡ 16
operator_cost x =
    either_lexeme (x == 123) _ _ refl (either_lexeme (x == 125) _ _ refl (either_lexeme (x == 91) _ _ refl (either_lexeme (x == 93) _ _ refl (either_lexeme (x == 44) _ _ refl refl))))

string_cost : (n after : ℕ) (o : Option (List ℕ)) → Paid n after o → after ≤ 16 * n → own_cost (string_token o) + after ≤ 16 * suc n
string_cost n after None p q = omega arith
string_cost n after (Some s) p q = omega arith

byte_cost : (m : Mode) (c : Class) (x : ℕ) (xs : List ℕ) (k : Mode → List Lexeme) → ((next : Mode) → lexemes_cost (k next) ≤ 16 * length xs)
    → Paid (length xs) (lexemes_cost (k in_string)) (content plain xs) → lexemes_cost (lex_byte m c x xs k) ≤ 16 * suc (length xs)
byte_cost between quote x xs k p q = string_cost (length xs) _ (content plain xs) q (p in_string)
byte_cost between backslash x xs k p q = omega (arith, p in_word)
byte_cost between operator x xs k p q = omega (arith, operator_cost x, p between)
byte_cost between space x xs k p q = omega (arith, p between)
byte_cost between other x xs k p q = omega (arith, own_cost-word (x ∷ xs), p in_word)
byte_cost in_word quote x xs k p q = omega (arith, p in_word)
byte_cost in_word backslash x xs k p q = omega (arith, p in_word)
byte_cost in_word operator x xs k p q = omega (arith, operator_cost x, p between)
byte_cost in_word space x xs k p q = omega (arith, p between)
byte_cost in_word other x xs k p q = omega (arith, p in_word)
byte_cost in_string quote x xs k p q = omega (arith, p between)
byte_cost in_string backslash x xs k p q = omega (arith, p in_escape)
byte_cost in_string operator x xs k p q = omega (arith, p in_string)
byte_cost in_string space x xs k p q = omega (arith, p in_string)
byte_cost in_string other x xs k p q = omega (arith, p in_string)
byte_cost in_escape c x xs k p q = omega (arith, p in_string)

mutual
  unfolding lex content

  lexed_cost : (m : Mode) (xs : List ℕ) → lexemes_cost (lex m xs) ≤ 16 * length xs
  lexed_cost m [] = omega arith
  lexed_cost m (x ∷ xs) = byte_cost m (class x) x xs (λ next. lex next xs) (λ next. lexed_cost next xs) (content_paid plain xs)

  content_paid : (w : Within) (xs : List ℕ) → Paid (length xs) (lexemes_cost (lex (mode w) xs)) (content w xs)
  content_paid plain [] = tt
  content_paid plain (x ∷ xs) =
      let n = suc (length xs) in
      both n _ (x == 34) _ _ (λ q. omega (arith, ap lexemes_cost (lex_quote x xs q), lexed_cost between xs))
      (λ q. both n _ (x == 92) _ _ (λ b. more n _ _ _ (content after_backslash xs) (content_paid after_backslash xs) (ap lexemes_cost (lex_backslash x xs b)) (omega arith))
      (λ b. both n _ (nat_lt x 32) _ _ (λ l. tt) (λ l. longer n _ _ _ (x ∷ []) _ (content_paid plain xs) (ap lexemes_cost (lex_plain x xs q b)) (omega arith))))
  content_paid after_backslash [] = tt
  content_paid after_backslash (x ∷ xs) =
      let n = suc (length xs) in
      let same = ap lexemes_cost (lex_escape x xs) in
      both n _ (x == 117) _ _ (λ u. more n _ _ _ (content after_u xs) (content_paid after_u xs) same (omega arith))
      (λ u. then n _ _ (short_escape x) (λ f c. longer n _ _ _ (c ∷ []) _ (content_paid plain xs) same (omega arith)))
  content_paid after_u [] = tt
  content_paid after_u (a ∷ []) = tt
  content_paid after_u (a ∷ b ∷ []) = tt
  content_paid after_u (a ∷ b ∷ c ∷ []) = tt
  content_paid after_u (a ∷ b ∷ c ∷ d ∷ xs) =
      let n = length (a ∷ b ∷ c ∷ d ∷ xs) in
      then n _ _ (code_unit a b c d) (λ f u. (
      let same = ap lexemes_cost (lex_unit a b c d xs f) in
      both n _ (is_high_surrogate u) _ _ (λ h. more n _ _ _ (content (after_high u) xs) (content_paid (after_high u) xs) same (omega arith))
      (λ h. both n _ (is_low_surrogate u) _ _ (λ l. tt) (λ l. longer n _ _ _ (encode_utf8 u) _ (content_paid plain xs) same (omega (arith, length-encode u))))))
  content_paid (after_high h) [] = tt
  content_paid (after_high h) (s ∷ []) = tt
  content_paid (after_high h) (s ∷ u ∷ []) = tt
  content_paid (after_high h) (s ∷ u ∷ a ∷ []) = tt
  content_paid (after_high h) (s ∷ u ∷ a ∷ b ∷ []) = tt
  content_paid (after_high h) (s ∷ u ∷ a ∷ b ∷ c ∷ []) = tt
  content_paid (after_high h) (s ∷ u ∷ a ∷ b ∷ c ∷ d ∷ xs) =
      let n = length (s ∷ u ∷ a ∷ b ∷ c ∷ d ∷ xs) in
      both n _ ((s == 92) && (u == 117)) _ _ (λ e. then n _ _ (code_unit a b c d) (λ f l. both n _ (is_low_surrogate l) _ _
      (λ y. longer n _ _ _ (encode_utf8 (surrogate_pair h l)) _ (content_paid plain xs)
      (ap lexemes_cost (lex_backslash s (u ∷ a ∷ b ∷ c ∷ d ∷ xs) (and_parts _ _ e).0 ∙ lex_escape u (a ∷ b ∷ c ∷ d ∷ xs) ∙ lex_unit a b c d xs f)) (omega (arith, length-encode (surrogate_pair h l))))
      (λ y. tt))) (λ e. tt)

-- ---- commas and colons

-- what is in hand at a place: where a value may begin, half of the comma, of the colon or of the bracket before it
abbrev credit : Place → ℕ
credit fresh = 8
credit after_value = 0
credit after_comma = 8
credit after_key = 0

begins : (p : Place) → may_begin p ≡ true → credit p ≡ 8
begins fresh h = refl
begins after_value h = absurd (false≢true h)
begins after_comma h = refl
begins after_key h = absurd (false≢true h)

allowed : (b : Bool) (t : Token) (k : Place → List Token) (next : Place) (n : ℕ) → (b ≡ true → token_cost t + tokens_cost (k next) ≤ n) → tokens_cost (if_allowed b t k next) ≤ n
allowed true t k next n h = h refl
allowed false t k next n h = omega arith

placed : (p : Place) (t : Token) (before_colon : Bool) (n : ℕ) (k : Place → List Token) → ((next : Place) → tokens_cost (k next) ≤ n + credit next) → tokens_cost (place_token p t before_colon k) ≤ own_cost t + n + credit p
placed p begin_object c n k h = allowed (may_begin p) _ k fresh _ (λ b. omega (arith, h fresh, begins p b))
placed p end_object c n k h = allowed (may_close p) _ k after_value _ (λ b. omega (arith, h after_value))
placed p begin_array c n k h = allowed (may_begin p) _ k fresh _ (λ b. omega (arith, h fresh, begins p b))
placed p end_array c n k h = allowed (may_close p) _ k after_value _ (λ b. omega (arith, h after_value))
placed p (key s) c n k h = omega arith
placed p (string s) true n k h = allowed (may_begin p) _ k after_key _ (λ b. omega (arith, h after_key))
placed p (string s) false n k h = allowed (may_begin p) _ k after_value _ (λ b. omega (arith, h after_value))
placed p (number s) c n k h = allowed (may_begin p) _ k after_value _ (λ b. omega (arith, h after_value, begins p b))
placed p (boolean b) c n k h = allowed (may_begin p) _ k after_value _ (λ b. omega (arith, h after_value))
placed p null c n k h = allowed (may_begin p) _ k after_value _ (λ b. omega (arith, h after_value))
placed p bad c n k h = omega arith

punctuated : (p : Place) (ls : List Lexeme) → tokens_cost (punctuate p ls) ≤ lexemes_cost ls + credit p
unfolding punctuate
punctuated fresh [] = omega arith
punctuated after_value [] = omega arith
punctuated after_comma [] = omega arith
punctuated after_key [] = omega arith
punctuated fresh (token t ∷ ls) = placed fresh t (begins_colon ls) (lexemes_cost ls) (λ next. punctuate next ls) (λ next. punctuated next ls)
punctuated after_value (token t ∷ ls) = placed after_value t (begins_colon ls) (lexemes_cost ls) (λ next. punctuate next ls) (λ next. punctuated next ls)
punctuated after_comma (token t ∷ ls) = placed after_comma t (begins_colon ls) (lexemes_cost ls) (λ next. punctuate next ls) (λ next. punctuated next ls)
punctuated after_key (token t ∷ ls) = placed after_key t (begins_colon ls) (lexemes_cost ls) (λ next. punctuate next ls) (λ next. punctuated next ls)
punctuated fresh (comma ∷ ls) = omega arith
punctuated after_value (comma ∷ ls) = omega (arith, punctuated after_comma ls)
punctuated after_comma (comma ∷ ls) = omega arith
punctuated after_key (comma ∷ ls) = omega arith
punctuated fresh (colon ∷ ls) = omega arith
punctuated after_value (colon ∷ ls) = omega arith
punctuated after_comma (colon ∷ ls) = omega arith
punctuated after_key (colon ∷ ls) = omega (arith, punctuated fresh ls)

pub tokens-afforded : (text : List ℕ) → tokens_cost (tokens text) ≤ 16 * length text + 8
tokens-afforded text = omega (arith, punctuated fresh (lex between text), lexed_cost between text)
