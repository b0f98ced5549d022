-- What the readers of words and of ends find in bytes that are put together from white space, words and the rest.
use Rattle.std.proofs.Common.{◌≡◌, ◌∙◌, refl, ℕ, ◌<◌, true, false, List, [], ◌∷◌, ◌++◌, length, take, drop, arith, ap, sym}
use Rattle.std.specs.Prelude.{reverse}
use Rattle.std.specs.Char.{to_ascii_lowercase}
use Rattle.std.specs.List.{list_all, prefix_len}
use Rattle.std.proofs.lemmas.Bool.{and_from, and_parts, eqb-true, false≢true, or_left}
use Rattle.std.proofs.lemmas.Bool.Decides.{nat_tests}
use Rattle.std.proofs.lemmas.List.{append-nil, reverse-append, reverse-reverse}
use Rattle.std.proofs.lemmas.List.Folds.{list_all-append}
use Rattle.sql_tokens.specs.Forms.{is_space, is_word_start, is_word_byte, is_word}
use Rattle.sql_tokens.specs.Tokens.{IsSpace, BeginsOutside}
use Rattle.sql_grammar.specs.Terminals.{is_keyword}
use Rattle.sql_grammar.specs.Statement.{IsGap, IsTrimmed, is_collection}
use Rattle.sql_tokens.specs.Ends.{skip_space, trim, word_in, behind_word}
use Rattle.sql_grammar.proofs.Runs.{take-run, drop-run, outside-append, passes-reverse}

-- Bytes of a word, one at least.
abbrev pub IsRun : List ℕ → Type 0
IsRun word = (list_all is_word_byte word ≡ true) × (0 < length word)

word_byte_outside : (c : ℕ) → is_word_byte c ≡ true → is_space c ≡ false
word_byte_outside c h = grind (arith, nat_tests)

space_outside : (c : ℕ) → is_space c ≡ true → is_word_byte c ≡ false
space_outside c h = grind (arith, nat_tests)

same_letter : (a b : ℕ) → to_ascii_lowercase a ≡ to_ascii_lowercase b → is_word_byte b ≡ true → is_word_byte a ≡ true
same_letter a b e h = grind (arith, nat_tests)

-- a run is no white space, and white space no word
pub run-outside : (word rest : List ℕ) → IsRun word → BeginsOutside is_space (word ++ rest)
run-outside [] rest run = absurd (omega arith)
run-outside (c ∷ word) rest run = word_byte_outside c (and_parts (is_word_byte c) (list_all is_word_byte word) run.0).0

pub space-outside : (space : List ℕ) → IsSpace space → BeginsOutside is_word_byte space
space-outside [] spaces = tt
space-outside (c ∷ space) spaces = space_outside c (and_parts (is_space c) (list_all is_space space) spaces).0

pub gap-outside : (gap rest : List ℕ) → IsGap gap → BeginsOutside is_word_byte (gap ++ rest)
gap-outside gap rest spaces = outside-append is_word_byte gap rest spaces.1 (space-outside gap spaces.0)

-- words are runs
pub word-run : (word : List ℕ) → is_word word ≡ true → IsRun word
word-run [] h = absurd (false≢true h)
word-run (c ∷ word) h =
    let both = and_parts (is_word_start c) (list_all is_word_byte word) h in
    (and_from (is_word_byte c) (list_all is_word_byte word) (or_left (is_word_start c) _ both.0) both.1, omega arith)

pub collection-run : (word : List ℕ) → is_collection word ≡ true → IsRun word
collection-run word h = word-run word (and_parts _ _ (and_parts _ _ h).0).0

pub keyword-run : (keyword word : List ℕ) → is_keyword word keyword ≡ true → IsRun keyword → IsRun word
keyword-run [] word h run = absurd (omega arith)
keyword-run (b ∷ keyword) [] h run = absurd (false≢true h)
keyword-run (b ∷ keyword) (a ∷ word) h run = (letters (b ∷ keyword) (a ∷ word) h run.0, omega arith)
  where
    letters : (keyword word : List ℕ) → is_keyword word keyword ≡ true → list_all is_word_byte keyword ≡ true → list_all is_word_byte word ≡ true
    letters [] [] h passes = refl
    letters [] (a ∷ word) h passes = absurd (false≢true h)
    letters (b ∷ keyword) [] h passes = absurd (false≢true h)
    letters (b ∷ keyword) (a ∷ word) h passes =
        let same = and_parts _ _ h in
        let both = and_parts (is_word_byte b) (list_all is_word_byte keyword) passes in
        and_from _ _ (same_letter a b (eqb-true _ _ same.0) both.0) (letters keyword word same.1 both.1)

-- white space, a run, and something outside behind it: the word is the run
pub word_in-found : (before word rest : List ℕ) → IsSpace before → IsRun word → BeginsOutside is_word_byte rest → word_in (before ++ (word ++ rest)) ≡ word
word_in-found before word rest spaces run outside =
    let skipped : skip_space (before ++ (word ++ rest)) ≡ word ++ rest = drop-run is_space before (word ++ rest) spaces (run-outside word rest run) in
    ap (λ bytes. take (prefix_len is_word_byte bytes) bytes) skipped ∙ take-run is_word_byte word rest run.0 outside

pub behind_word-found : (before word rest : List ℕ) → IsSpace before → IsRun word → BeginsOutside is_word_byte rest → behind_word (before ++ (word ++ rest)) ≡ rest
behind_word-found before word rest spaces run outside =
    let skipped : skip_space (before ++ (word ++ rest)) ≡ word ++ rest = drop-run is_space before (word ++ rest) spaces (run-outside word rest run) in
    ap (λ bytes. drop (prefix_len is_word_byte bytes) bytes) skipped ∙ drop-run is_word_byte word rest run.0 outside

-- white space alone
pub skip_space-blank : (bytes : List ℕ) → IsSpace bytes → skip_space bytes ≡ []
skip_space-blank bytes spaces = ap skip_space (sym (append-nil bytes)) ∙ drop-run is_space bytes [] spaces tt

-- white space at both ends of what is trimmed
pub trim-between : (between middle after : List ℕ) → IsSpace between → IsTrimmed middle → IsSpace after → trim (between ++ (middle ++ after)) ≡ middle
trim-between between [] after spaces trimmed more =
    let blank : IsSpace (between ++ after) = list_all-append is_space between after ∙ and_from _ _ spaces more in
    ap (λ bytes. reverse (skip_space (reverse bytes))) (skip_space-blank (between ++ after) blank)
trim-between between (c ∷ middle) after spaces trimmed more =
    let begun : skip_space (between ++ ((c ∷ middle) ++ after)) ≡ (c ∷ middle) ++ after = drop-run is_space between ((c ∷ middle) ++ after) spaces trimmed.0 in
    let turned : reverse ((c ∷ middle) ++ after) ≡ reverse after ++ reverse (c ∷ middle) = reverse-append (c ∷ middle) after in
    let ended : skip_space (reverse after ++ reverse (c ∷ middle)) ≡ reverse (c ∷ middle) = drop-run is_space (reverse after) (reverse (c ∷ middle)) (passes-reverse is_space after more) trimmed.1 in
    ap (λ bytes. reverse (skip_space (reverse bytes))) begun ∙ ap (λ bytes. reverse (skip_space bytes)) turned ∙ ap reverse ended ∙ reverse-reverse (c ∷ middle)
