-- The marks of symbols.
use Rattle.std.proofs.Common.{◌≡◌, ℕ, ◌==◌, Bool, true, false, ◌&&◌, ◌||◌, List, [], ◌∷◌, codes, Option, Some, is_some, refl, ◌∙◌}
use Rattle.std.specs.Prelude.{if◌then◌else◌}
use Rattle.std.specs.List.{list_any}
use Rattle.std.specs.Str.{bytes_eq}
use Rattle.sql_tokens.specs.Forms.{is_symbol, is_sign, is_sign_pair}
use Rattle.sql_grammar.specs.declared.mark.Mark.{Mark}
use Rattle.sql_grammar.specs.Words.{entry, symbols, mark_of_symbol}

chosen : (b : Bool) (m : Mark) (rest : Option Mark) (any : Bool) → is_some rest ≡ any → is_some (if b then Some m else rest) ≡ (b || any)
chosen true m rest any e = refl
chosen false m rest any e = e

-- There is an entry for bytes exactly where some entry passes the test.
some_entry : (test : List ℕ → Bool) (es : List (List ℕ × Mark)) → is_some (entry test es) ≡ list_any (λ (e : List ℕ × Mark). test e.0) es
some_entry test [] = refl
some_entry test (e ∷ es) = chosen (test e.0) e.1 (entry test es) (list_any (λ (d : List ℕ × Mark). test d.0) es) (some_entry test es)

and_true : (b : Bool) → (b && true) ≡ b
and_true true = refl
and_true false = refl

and_false : (b : Bool) → (b && false) ≡ false
and_false true = refl
and_false false = refl

and_neither : (a b : Bool) → (a && (b && false)) ≡ false
and_neither true b = and_false b
and_neither false b = refl

abbrev any_symbol : List ℕ → Bool
any_symbol bytes = list_any (λ (e : List ℕ × Mark). bytes_eq bytes e.0) symbols

one_sign : (c : ℕ) → any_symbol (c ∷ []) ≡ is_sign c
one_sign c = λ i.
    and_true (c == 40) i || (and_true (c == 41) i || (and_true (c == 44) i || (and_true (c == 46) i || (and_true (c == 59) i
    || (and_true (c == 42) i || (and_true (c == 43) i || (and_true (c == 45) i || (and_true (c == 61) i || (and_false (c == 60) i
    || (and_false (c == 33) i || (and_true (c == 60) i || (and_false (c == 60) i || (and_true (c == 62) i || (and_false (c == 62) i || false))))))))))))))

two_signs : (c d : ℕ) → any_symbol (c ∷ d ∷ []) ≡ is_sign_pair c d
two_signs c d = λ i.
    and_false (c == 40) i || (and_false (c == 41) i || (and_false (c == 44) i || (and_false (c == 46) i || (and_false (c == 59) i
    || (and_false (c == 42) i || (and_false (c == 43) i || (and_false (c == 45) i || (and_false (c == 61) i || (bytes_eq (c ∷ d ∷ []) (codes "<>")
    || (bytes_eq (c ∷ d ∷ []) (codes "!=") || (and_false (c == 60) i || (bytes_eq (c ∷ d ∷ []) (codes "<=") || (and_false (c == 62) i || (bytes_eq (c ∷ d ∷ []) (codes ">=") || false))))))))))))))

more_signs : (c d f : ℕ) (more : List ℕ) → any_symbol (c ∷ d ∷ f ∷ more) ≡ false
more_signs c d f more = λ i.
    and_false (c == 40) i || (and_false (c == 41) i || (and_false (c == 44) i || (and_false (c == 46) i || (and_false (c == 59) i
    || (and_false (c == 42) i || (and_false (c == 43) i || (and_false (c == 45) i || (and_false (c == 61) i || (and_neither (c == 60) (d == 62) i
    || (and_neither (c == 33) (d == 61) i || (and_false (c == 60) i || (and_neither (c == 60) (d == 61) i || (and_false (c == 62) i || (and_neither (c == 62) (d == 61) i || false))))))))))))))

any_is : (bytes : List ℕ) → any_symbol bytes ≡ is_symbol bytes
any_is [] = refl
any_is (c ∷ []) = one_sign c
any_is (c ∷ d ∷ []) = two_signs c d
any_is (c ∷ d ∷ f ∷ more) = more_signs c d f more

pub marks_of_symbols : (bytes : List ℕ) → is_some (mark_of_symbol bytes) ≡ is_symbol bytes
marks_of_symbols bytes = some_entry (bytes_eq bytes) symbols ∙ any_is bytes
