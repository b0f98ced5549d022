-- The tokens that are found from a place on are those that stand there.
use Rattle.std.proofs.Common.{◌≡◌, ◌∙◌, refl, ℕ, zero, suc, ◌+◌, ◌-◌, ◌<◌, ◌≤◌, true, false, List, [], ◌∷◌, ◌++◌, length, take, drop, arith, ap, sym, subst, Option, Some, None, inl, inr}
use Rattle.std.specs.Prelude.{option_map, option_and_then, slice_range, nat_le, ◌↔◌}
use Rattle.std.specs.List.{All, list_all}
use Rattle.std.proofs.lemmas.Bool.{and_from, and_parts, cases_Bool, cond-false, cond-true, leb-true, le-leb}
use Rattle.std.proofs.lemmas.List.{append-nil, drop_at, drop-drop, length-drop, length-take}
use Rattle.std.proofs.lemmas.List.Folds.{drop_split}
use Rattle.std.proofs.lemmas.Option.{none-some, same_Some}
use Rattle.sql_tokens.specs.declared.token.Token.{Token}
use Rattle.sql_tokens.specs.declared.lexeme.Lexeme.{Lexeme}
use Rattle.sql_tokens.specs.Forms.{is_space, IsToken, goes_on}
use Rattle.sql_tokens.specs.Tokens.{most_statement_bytes, IsSpace, BeginsOutside, written, Stands, HasFrom, none, next, AreTokens}
use Rattle.sql_tokens.specs.Scan.{lexeme, first_lexeme, token_at, scan, tokens_of}
use Rattle.sql_tokens.proofs.Runs.{map_some}
use Rattle.sql_tokens.proofs.Fronts.{found, Begins, begins}
use Rattle.sql_tokens.proofs.Formed.{IsFront, formed}

-- ---- steps of the scan

-- bytes inside a token are passed
pub scan-inside : (k at : ℕ) (bytes : List ℕ) → k ≤ length bytes → scan k at bytes ≡ scan 0 (at + k) (drop k bytes)
scan-inside zero at bytes inside = ap (λ n. scan 0 n bytes) (omega arith)
scan-inside (suc k) at [] inside = absurd (omega arith)
scan-inside (suc k) at (c ∷ cs) inside =
    let place : at + 1 + k ≡ at + suc k = omega arith in
    scan-inside k (at + 1) cs (omega arith) ∙ ap (λ n. scan 0 n (drop k cs)) place

pub scan-space : (at c : ℕ) (cs : List ℕ) → is_space c ≡ true → scan 0 at (c ∷ cs) ≡ scan 0 (at + 1) cs
scan-space at c cs h = cond-true (is_space c) _ _ h

scan-gap : (at : ℕ) (gap rest : List ℕ) → IsSpace gap → scan 0 at (gap ++ rest) ≡ scan 0 (at + length gap) rest
scan-gap at [] rest spaces = ap (λ n. scan 0 n rest) (omega arith)
scan-gap at (c ∷ gap) rest spaces =
    let both = and_parts (is_space c) (list_all is_space gap) spaces in
    let place : at + 1 + length gap ≡ at + length (c ∷ gap) = omega arith in
    scan-space at c (gap ++ rest) both.0 ∙ scan-gap (at + 1) gap rest both.1 ∙ ap (λ n. scan 0 n rest) place

-- what follows the first byte of a token of some bytes
abbrev after_first : ℕ → ℕ → List ℕ → Option (List Token)
after_first len at cs = scan (len - 1) (at + 1) cs

after_first-is : (len at c : ℕ) (cs : List ℕ) → 0 < len → len ≤ length (c ∷ cs) → after_first len at cs ≡ scan 0 (at + len) (drop len (c ∷ cs))
after_first-is zero at c cs some inside = absurd (omega arith)
after_first-is (suc m) at c cs some inside =
    let less : suc m - 1 ≡ m = omega arith in
    let place : at + 1 + m ≡ at + suc m = omega arith in
    ap (λ k. scan k (at + 1) cs) less ∙ scan-inside m (at + 1) cs (omega arith) ∙ ap (λ n. scan 0 n (drop m cs)) place

scan-begun : (at c : ℕ) (cs : List ℕ) (l : Lexeme) → is_space c ≡ false → first_lexeme (c ∷ cs) ≡ Some l → scan 0 at (c ∷ cs) ≡ option_map (λ more. token_at at l ∷ more) (after_first l.len at cs)
scan-begun at c cs l no_space h = cond-false (is_space c) _ _ no_space ∙ ap (option_and_then (λ (f : Lexeme). option_map (λ more. token_at at f ∷ more) (after_first f.len at cs))) h

-- a token is found, and then those behind it
pub scan-token : (at c : ℕ) (cs : List ℕ) (l : Lexeme) → is_space c ≡ false → first_lexeme (c ∷ cs) ≡ Some l → scan 0 at (c ∷ cs) ≡ option_map (λ more. token_at at l ∷ more) (scan 0 (at + l.len) (drop l.len (c ∷ cs)))
scan-token at c cs l no_space h =
    let front = formed (c ∷ cs) l h in
    scan-begun at c cs l no_space h ∙ ap (option_map (λ more. token_at at l ∷ more)) (after_first-is l.len at c cs front.some front.inside)

-- nothing is found
pub scan-nothing : (at c : ℕ) (cs : List ℕ) → is_space c ≡ false → first_lexeme (c ∷ cs) ≡ None → scan 0 at (c ∷ cs) ≡ None
scan-nothing at c cs no_space h =
    cond-false (is_space c) _ _ no_space ∙ ap (option_and_then (λ (f : Lexeme). option_map (λ more. token_at at f ∷ more) (after_first f.len at cs))) h

-- ---- a token that stands

front-some : (bytes : List ℕ) → Begins bytes → 0 < length bytes
front-some [] h = absurd h
front-some (c ∷ cs) h = omega arith

-- The span of a token that stands is in its text, and has a byte.
pub span : (text : List ℕ) (token : Token) → Stands text token → (token.from < token.to) × (length (written text token) ≡ token.to - token.from)
span text token stands =
    let some = front-some (written text token) (begins token.sort (written text token) stands.form) in
    let inside = stands.inside in
    let many : length (written text token) ≡ token.to - token.from = omega (arith, length-take (token.to - token.from) (drop token.from text), length-drop token.from text) in
    (omega arith, many)

-- from a token's place on, it is found
scan-stands-front : (at : ℕ) (sort : _) (bytes rest : List ℕ) → IsToken sort bytes → BeginsOutside (goes_on sort bytes) rest
    → scan 0 at (bytes ++ rest) ≡ option_map (λ more. token_at at (lexeme sort (length bytes)) ∷ more) (scan 0 (at + length bytes) rest)
scan-stands-front at sort [] rest form outside = absurd (begins sort [] form)
scan-stands-front at sort (c ∷ cs) rest form outside =
    scan-token at c (cs ++ rest) (lexeme sort (length (c ∷ cs))) (begins sort (c ∷ cs) form) (found sort (c ∷ cs) rest form outside)
    ∙ ap (λ (left : List ℕ). option_map (λ more. token_at at (lexeme sort (length (c ∷ cs))) ∷ more) (scan 0 (at + length (c ∷ cs)) left)) (drop_at (c ∷ cs) rest (length (c ∷ cs)) refl)

scan-stands : (text : List ℕ) (token : Token) → Stands text token → scan 0 token.from (drop token.from text) ≡ option_map (λ more. token ∷ more) (scan 0 token.to (drop token.to text))
scan-stands text token stands =
    let sp = span text token stands in
    let behind : token.from + length (written text token) ≡ token.to = let a = sp.0 in let b = sp.1 in omega arith in
    ap (scan 0 token.from) (drop_split text token.from token.to (let a = sp.0 in omega arith))
    ∙ scan-stands-front token.from token.sort (written text token) (drop token.to text) stands.form stands.longest
    ∙ ap (λ (n : ℕ). let t : Token = record { sort = token.sort; from = token.from; to = n } in option_map (λ more. t ∷ more) (scan 0 n (drop token.to text))) behind

-- ---- tokens that stand are found

complete : (text : List ℕ) (at : ℕ) (tokens : List Token) → HasFrom text at tokens → scan 0 at (drop at text) ≡ Some tokens
complete text at [] (none space) = ap (scan 0 at) (sym (append-nil (drop at text))) ∙ scan-gap at (drop at text) [] space
complete text at (token ∷ more) (next behind space stands rest) =
    let sp = span text token stands in
    let inside = stands.inside in
    let gap : List ℕ = slice_range text at token.from in
    let many : length gap ≡ token.from - at = omega (arith, sp.0, length-take (token.from - at) (drop at text), length-drop at text) in
    let place : at + length gap ≡ token.from = omega arith in
    ap (scan 0 at) (drop_split text at token.from behind)
    ∙ scan-gap at gap (drop token.from text) space
    ∙ ap (λ n. scan 0 n (drop token.from text)) place
    ∙ scan-stands text token stands
    ∙ ap (option_map (λ more. token ∷ more)) (complete text token.to more rest)

-- ---- tokens that are found stand

-- a token that is found at a place stands there
pub stands_found : (text : List ℕ) (at : ℕ) (l : Lexeme) → at ≤ length text → IsFront (drop at text) l → Stands text (token_at at l)
stands_found text at l within front =
    let less : at + l.len - at ≡ l.len = omega arith in
    let same : take l.len (drop at text) ≡ written text (token_at at l) = ap (λ n. take n (drop at text)) (sym less) in
    let form = front.form in
    let longest = front.longest in
    record {
      inside = let inside = front.inside in omega (arith, length-drop at text);
      form = subst (IsToken l.sort) same form;
      longest = subst (λ (left : List ℕ). BeginsOutside (goes_on l.sort (written text (token_at at l))) left) (drop-drop l.len at text) (subst (λ (bytes : List ℕ). BeginsOutside (goes_on l.sort bytes) (drop l.len (drop at text))) same longest);
    }

-- white space before what is found
widen : (text : List ℕ) (at c : ℕ) (cs : List ℕ) (tokens : List Token) → c ∷ cs ≡ drop at text → cs ≡ drop (at + 1) text → is_space c ≡ true → HasFrom text (at + 1) tokens → HasFrom text at tokens
widen text at c cs [] here there h (none space) = none (subst IsSpace here (and_from (is_space c) (list_all is_space cs) h (subst IsSpace (sym there) space)))
widen text at c cs (token ∷ more) here there h (next behind space stands rest) =
    let first : slice_range text at token.from ≡ c ∷ slice_range text (at + 1) token.from =
    ap (λ (xs : List ℕ). take (token.from - at) xs) (sym here)
    ∙ ap (λ n. take n (c ∷ cs)) (let e : token.from - at ≡ suc (token.from - (at + 1)) = omega arith in e)
    ∙ ap (λ (xs : List ℕ). c ∷ take (token.from - (at + 1)) xs) there in
    next (omega arith) (subst IsSpace (sym first) (and_from (is_space c) (list_all is_space (slice_range text (at + 1) token.from)) h space)) stands rest

empty-gap : (text : List ℕ) (at : ℕ) → IsSpace (slice_range text at at)
empty-gap text at = subst (λ n. IsSpace (take n (drop at text))) (let e : 0 ≡ at - at = omega arith in e) refl

-- what follows the first byte of what is left
left-one : (text : List ℕ) (at c : ℕ) (cs : List ℕ) → c ∷ cs ≡ drop at text → cs ≡ drop (at + 1) text
left-one text at c cs here = ap (drop 1) here ∙ drop-drop 1 at text

left-inside : (text : List ℕ) (at c : ℕ) (cs : List ℕ) → c ∷ cs ≡ drop at text → at < length text
left-inside text at c cs here = let e : length (c ∷ cs) ≡ length (drop at text) = ap length here in omega (arith, length-drop at text)

-- a token first, where what follows the first byte is known
token-first : (text : List ℕ) (at c : ℕ) (cs : List ℕ) (tokens : List Token) (o : Option Lexeme)
    → c ∷ cs ≡ drop at text
    → is_space c ≡ false
    → scan 0 at (c ∷ cs) ≡ Some tokens
    → ((k : ℕ) (more : List Token) → k ≤ length cs → scan k (at + 1) cs ≡ Some more → HasFrom text (at + 1 + k) more)
    → first_lexeme (c ∷ cs) ≡ o
    → HasFrom text at tokens
token-first text at c cs tokens None here no_space h after e = absurd (none-some tokens (sym (scan-nothing at c cs no_space e) ∙ h))
token-first text at c cs tokens (Some l) here no_space h after e =
    let front = formed (c ∷ cs) l e in
    let some = front.some in
    let inside = front.inside in
    let begun = sym (scan-begun at c cs l no_space e) ∙ h in
    let rest = map_some (λ more. token_at at l ∷ more) (after_first l.len at cs) tokens begun in
    let behind : HasFrom text (at + l.len) rest.0 = subst (λ n. HasFrom text n rest.0) (let p : at + 1 + (l.len - 1) ≡ at + l.len = omega arith in p) (after (l.len - 1) rest.0 (omega arith) rest.1) in
    let stands = stands_found text at l (let w = left-inside text at c cs here in omega arith) (subst (λ (bytes : List ℕ). IsFront bytes l) here front) in
    subst (HasFrom text at) rest.2 (next (omega arith) (empty-gap text at) stands behind)

sound : (text bytes : List ℕ) (k at : ℕ) (tokens : List Token) → bytes ≡ drop at text → k ≤ length bytes → scan k at bytes ≡ Some tokens → HasFrom text (at + k) tokens
sound text [] zero at tokens here inside h =
    subst (HasFrom text (at + 0)) (same_Some [] tokens h) (none (subst (λ n. IsSpace (drop n text)) (omega arith) (subst IsSpace here refl)))
sound text [] (suc k) at tokens here inside h = absurd (omega arith)
sound text (c ∷ cs) (suc k) at tokens here inside h = subst (λ n. HasFrom text n tokens) (omega arith) (sound text cs k (at + 1) tokens (left-one text at c cs here) (omega arith) h)
sound text (c ∷ cs) zero at tokens here inside h =
    subst
    (λ n. HasFrom text n tokens)
    (omega arith)
    (elim (cases_Bool (is_space c)) [
      | inl space ↦
          let there = left-one text at c cs here in
          let rest : HasFrom text (at + 1 + 0) tokens = sound text cs 0 (at + 1) tokens there (omega arith) (sym (scan-space at c cs space) ∙ h) in
          widen text at c cs tokens here there space (subst (λ n. HasFrom text n tokens) (omega arith) rest)
      | inr no_space ↦ token-first text at c cs tokens (first_lexeme (c ∷ cs)) here no_space h (λ n more within e. sound text cs n (at + 1) more (left-one text at c cs here) within e) refl
    ])

-- ---- the laws

found_of : (text : List ℕ) (tokens : List Token) → AreTokens text tokens → tokens_of text ≡ Some tokens
found_of text tokens are = cond-true (nat_le (length text) most_statement_bytes) _ _ (le-leb _ _ are.fits) ∙ complete text 0 tokens are.all

stood_of : (text : List ℕ) (tokens : List Token) → tokens_of text ≡ Some tokens → AreTokens text tokens
stood_of text tokens h =
    elim (cases_Bool (nat_le (length text) most_statement_bytes)) [
      | inl fits ↦ record { fits = leb-true (length text) most_statement_bytes fits; all = sound text text 0 0 tokens refl (omega arith) (sym (cond-true (nat_le (length text) most_statement_bytes) _ _ fits) ∙ h) }
      | inr long ↦ absurd (none-some tokens (sym (cond-false (nat_le (length text) most_statement_bytes) _ _ long) ∙ h))
    ]

pub found_iff_are : (text : List ℕ) (tokens : List Token) → (tokens_of text ≡ Some tokens) ↔ AreTokens text tokens
found_iff_are text tokens = (stood_of text tokens, found_of text tokens)

pub are_one : (text : List ℕ) (a b : List Token) → AreTokens text a → AreTokens text b → a ≡ b
are_one text a b one two = same_Some a b (sym (found_of text a one) ∙ found_of text b two)

each : (text : List ℕ) (at : ℕ) (tokens : List Token) → HasFrom text at tokens → All (Stands text) tokens
each text at [] has k d inside = absurd (omega arith)
each text at (token ∷ more) (next behind space stands rest) zero d inside = stands
each text at (token ∷ more) (next behind space stands rest) (suc k) d inside = each text token.to more rest k d (omega arith)

pub each_stands : (text : List ℕ) (tokens : List Token) → tokens_of text ≡ Some tokens → All (Stands text) tokens
each_stands text tokens h = each text 0 tokens (stood_of text tokens h).all
