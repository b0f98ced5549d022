-- One turn of each loop.
use Rattle.std.proofs.Common.{◌≡◌, ◌∙◌, ◌≢◌, refl, ℕ, zero, suc, Bool, ◌+◌, ◌-◌, ◌*◌, ◌<◌, ◌≤◌, true, false, List, [], ◌∷◌, ◌++◌, length, get_or, take, drop, arith, ap, sym, subst, Option, Some, None, inl, inr}
use Rattle.std.specs.Prelude.{option_map, nat_le}
use Rattle.std.specs.Char.{is_ascii_digit, digit_value}
use Rattle.std.specs.List.{list_all}
use Rattle.std.specs.Str.Parse.{digits_value, digits_value_after}
use Rattle.std.proofs.lemmas.Bool.{cond-true, le-leb, and_parts, cases_lt, eq-eqb, ne_eqb, lt-leb}
use Rattle.std.proofs.lemmas.Bool.Decides.{nat_tests}
use Rattle.std.proofs.lemmas.List.{append_assoc, append-nil, drop_more, drop_all, drop-drop, length-drop, take_rest}
use Rattle.sql_tokens.specs.declared.token.Token.{Token}
use Rattle.sql_tokens.specs.declared.lexeme.Lexeme.{Lexeme}
use Rattle.sql_tokens.specs.Forms.{is_space, is_quote, most_value}
use Rattle.sql_tokens.specs.Tokens.{BeginsOutside, most_statement_bytes}
use Rattle.sql_tokens.specs.Scan.{tokens_of, text_len, first_lexeme, token_at, scan}
use Rattle.sql_tokens.proofs.Texts.{text_len-other, text_len-quotes, text_len-end}
use Rattle.sql_tokens.proofs.Formed.{formed}
use Rattle.sql_tokens.proofs.Scans.{scan-space, scan-token, scan-nothing}

-- ---- a text's end

shift : (a b : ℕ) (o : Option ℕ) → option_map (λ n. a + n) (option_map (λ n. b + n) o) ≡ option_map (λ n. (a + b) + n) o
shift a b None = refl
shift a b (Some n) = ap Some (omega arith)

-- where a text ends that is looked for from a place on
abbrev pub end_from : List ℕ → ℕ → Option ℕ
end_from bytes at = option_map (λ n. at + n) (text_len (drop at bytes))

pub end-other : (bytes : List ℕ) (at : ℕ) → at < length bytes → get_or bytes at 0 ≢ 39 → end_from bytes at ≡ end_from bytes (at + 1)
end-other bytes at inside other =
    let quote : is_quote (get_or bytes at 0) ≡ false = ne_eqb _ 39 other in
    ap (λ (xs : List ℕ). option_map (λ n. at + n) (text_len xs)) (drop_more bytes at 0 inside)
    ∙ ap (option_map (λ n. at + n)) (text_len-other (get_or bytes at 0) (drop (at + 1) bytes) quote)
    ∙ shift at 1 (text_len (drop (at + 1) bytes))

pub end-quotes : (bytes : List ℕ) (at : ℕ) → at + 1 < length bytes → get_or bytes at 0 ≡ 39 → get_or bytes (at + 1) 0 ≡ 39 → end_from bytes at ≡ end_from bytes (at + 2)
end-quotes bytes at inside one two =
    let next : at + 1 + 1 ≡ at + 2 = omega arith in
    ap (λ (xs : List ℕ). option_map (λ n. at + n) (text_len xs)) (drop_more bytes at 0 (omega arith) ∙ ap (λ (xs : List ℕ). get_or bytes at 0 ∷ xs) (drop_more bytes (at + 1) 0 inside))
    ∙ ap (option_map (λ n. at + n)) (text_len-quotes (get_or bytes at 0) (get_or bytes (at + 1) 0) (drop (at + 1 + 1) bytes) (eq-eqb _ 39 one) (eq-eqb _ 39 two))
    ∙ shift at 2 (text_len (drop (at + 1 + 1) bytes))
    ∙ ap (λ k. option_map (λ n. (at + 2) + n) (text_len (drop k bytes))) next

-- no quote stands at the place
outside-at : (bytes : List ℕ) (at : ℕ) → (at < length bytes → get_or bytes at 0 ≢ 39) → BeginsOutside is_quote (drop at bytes)
outside-at bytes at other =
    elim (cases_lt at (length bytes)) [
      | inl inside ↦ subst (BeginsOutside is_quote) (sym (drop_more bytes at 0 inside)) (ne_eqb _ 39 (other inside))
      | inr past ↦ subst (BeginsOutside is_quote) (sym (drop_all at bytes past)) tt
    ]

pub end-here : (bytes : List ℕ) (at : ℕ) → at < length bytes → get_or bytes at 0 ≡ 39 → (at + 1 < length bytes → get_or bytes (at + 1) 0 ≢ 39) → end_from bytes at ≡ Some (at + 1)
end-here bytes at inside quote other =
    ap (λ (xs : List ℕ). option_map (λ n. at + n) (text_len xs)) (drop_more bytes at 0 inside)
    ∙ ap (option_map (λ n. at + n)) (text_len-end (get_or bytes at 0) (drop (at + 1) bytes) (eq-eqb _ 39 quote) (outside-at bytes (at + 1) other))

pub end-none : (bytes : List ℕ) (at : ℕ) → length bytes ≤ at → end_from bytes at ≡ None
end-none bytes at past = ap (λ (xs : List ℕ). option_map (λ n. at + n) (text_len xs)) (drop_all at bytes past)

-- ---- a numeral's value

value-digit : (c : ℕ) → is_ascii_digit c ≡ true → digit_value c ≡ c - 48
value-digit c h = grind (arith, nat_tests)

-- digits make a number no smaller
pub more-value : (n : ℕ) (cs : List ℕ) → n ≤ digits_value_after 10 n cs
more-value n [] = omega arith
more-value n (c ∷ cs) = let more = more-value (n * 10 + digit_value c) cs in omega arith

-- each element of a list that passes, passes
pub all-at : (test : ℕ → Bool) (xs : List ℕ) (i : ℕ) → list_all test xs ≡ true → i < length xs → test (get_or xs i 0) ≡ true
all-at test [] i h inside = absurd (omega arith)
all-at test (x ∷ xs) zero h inside = (and_parts (test x) (list_all test xs) h).0
all-at test (x ∷ xs) (suc i) h inside = all-at test xs i (and_parts (test x) (list_all test xs) h).1 (omega arith)

pub too_great : (digits : List ℕ) (i value more : ℕ) → list_all is_ascii_digit digits ≡ true → i < length digits → more ≡ get_or digits i 0 - 48 → most_value < 10 * value + more
    → digits_value_after 10 value (drop i digits) ≡ digits_value 10 digits → false ≡ nat_le (digits_value 10 digits) most_value
too_great digits i value more all inside is above read =
    let d : ℕ = get_or digits i 0 in
    let same : digit_value d ≡ d - 48 = value-digit d (all-at is_ascii_digit digits i all inside) in
    let next : digits_value_after 10 value (drop i digits) ≡ digits_value_after 10 (value * 10 + digit_value d) (drop (i + 1) digits) = ap (digits_value_after 10 value) (drop_more digits i 0 inside) in
    let grown : value * 10 + digit_value d ≤ digits_value_after 10 (value * 10 + digit_value d) (drop (i + 1) digits) = more-value (value * 10 + digit_value d) (drop (i + 1) digits) in
    sym (lt-leb (digits_value 10 digits) most_value (omega arith))

-- ---- the tokens

-- the tokens so far, and those from a place on
abbrev pub scan_from : List ℕ → List Token → ℕ → Option (List Token)
scan_from bytes found at = option_map (λ more. found ++ more) (scan 0 at (drop at bytes))

pub scan-past_space : (bytes : List ℕ) (found : List Token) (at : ℕ) → at < length bytes → is_space (get_or bytes at 0) ≡ true → scan_from bytes found at ≡ scan_from bytes found (at + 1)
scan-past_space bytes found at inside space =
    ap (λ (xs : List ℕ). option_map (λ more. found ++ more) (scan 0 at xs)) (drop_more bytes at 0 inside) ∙ ap (option_map (λ more. found ++ more)) (scan-space at (get_or bytes at 0) (drop (at + 1) bytes) space)

onto : (found : List Token) (t : Token) (o : Option (List Token)) → option_map (λ more. found ++ more) (option_map (λ more. t ∷ more) o) ≡ option_map (λ more. (found ++ t ∷ []) ++ more) o
onto found t None = refl
onto found t (Some more) = ap Some (sym (append_assoc found (t ∷ []) more))

pub scan-past_token : (bytes : List ℕ) (found : List Token) (at : ℕ) (l : Lexeme) → at < length bytes → is_space (get_or bytes at 0) ≡ false → first_lexeme (drop at bytes) ≡ Some l
    → scan_from bytes found at ≡ scan_from bytes (found ++ token_at at l ∷ []) (at + l.len)
scan-past_token bytes found at l inside no_space h =
    let here = drop_more bytes at 0 inside in
    ap (λ (xs : List ℕ). option_map (λ more. found ++ more) (scan 0 at xs)) here
    ∙ ap (option_map (λ more. found ++ more)) (scan-token at (get_or bytes at 0) (drop (at + 1) bytes) l no_space (subst (λ (xs : List ℕ). first_lexeme xs ≡ Some l) here h))
    ∙ onto found (token_at at l) _
    ∙ ap (λ (xs : List ℕ). option_map (λ more. (found ++ token_at at l ∷ []) ++ more) (scan 0 (at + l.len) xs)) (ap (drop l.len) (sym here) ∙ drop-drop l.len at bytes)

pub scan-stops : (bytes : List ℕ) (found : List Token) (at : ℕ) → at < length bytes → is_space (get_or bytes at 0) ≡ false → first_lexeme (drop at bytes) ≡ None → scan_from bytes found at ≡ None
scan-stops bytes found at inside no_space h =
    let here = drop_more bytes at 0 inside in
    ap (λ (xs : List ℕ). option_map (λ more. found ++ more) (scan 0 at xs)) here
    ∙ ap (option_map (λ more. found ++ more)) (scan-nothing at (get_or bytes at 0) (drop (at + 1) bytes) no_space (subst (λ (xs : List ℕ). first_lexeme xs ≡ None) here h))

pub scan-done : (bytes : List ℕ) (found : List Token) (at : ℕ) → length bytes ≤ at → scan_from bytes found at ≡ Some found
scan-done bytes found at past = ap (λ (xs : List ℕ). option_map (λ more. found ++ more) (scan 0 at xs)) (drop_all at bytes past) ∙ ap Some (append-nil found)

-- the token that is found in a slice from a place on
pub front-from : (bytes : List ℕ) (at : ℕ) (o : Option Lexeme) → o ≡ first_lexeme (take (length bytes - at) (drop at bytes)) → first_lexeme (drop at bytes) ≡ o
front-from bytes at o e = sym (e ∙ ap first_lexeme (take_rest bytes at))

pub token-inside : (bytes : List ℕ) (at : ℕ) (l : Lexeme) → at < length bytes → Some l ≡ first_lexeme (take (length bytes - at) (drop at bytes)) → (0 < l.len) × (at + l.len ≤ length bytes)
token-inside bytes at l inside h =
    let front = formed (drop at bytes) l (front-from bytes at (Some l) h) in
    let some = front.some in
    let within = front.inside in
    (omega arith, omega (arith, length-drop at bytes))

pub scan-past_found : (bytes : List ℕ) (found : List Token) (at : ℕ) (l : Lexeme) → at < length bytes → is_space (get_or bytes at 0) ≡ false → Some l ≡ first_lexeme (take (length bytes - at) (drop at bytes))
    → scan_from bytes found at ≡ scan_from bytes (found ++ token_at at l ∷ []) (at + l.len)
scan-past_found bytes found at l inside no_space h = scan-past_token bytes found at l inside no_space (front-from bytes at (Some l) h)

pub scan-stops_here : (bytes : List ℕ) (found : List Token) (at : ℕ) → at < length bytes → is_space (get_or bytes at 0) ≡ false → None ≡ first_lexeme (take (length bytes - at) (drop at bytes)) → scan_from bytes found at ≡ None
scan-stops_here bytes found at inside no_space h = scan-stops bytes found at inside no_space (front-from bytes at None h)

-- all of a text is read
pub all-read : (text bytes : List ℕ) (found : List Token) (at : ℕ) → bytes ≡ text → length bytes ≤ most_statement_bytes → length bytes ≤ at → scan_from bytes found at ≡ scan 0 0 bytes → tokens_of text ≡ Some found
all-read text bytes found at same fits past read =
    ap tokens_of (sym same) ∙ cond-true (nat_le (length bytes) most_statement_bytes) _ _ (le-leb _ _ fits) ∙ sym read ∙ scan-done bytes found at past
