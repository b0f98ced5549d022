-- A numeral is read as its value.
use Rattle.std.proofs.Common.{◌≡◌, ℕ, true, List, [], ◌∷◌, arith, rules}
use Rattle.std.specs.Prelude.{Result, Ok}
use Rattle.std.specs.Char.{is_ascii_digit}
use Rattle.std.specs.List.{list_all}
use Rattle.std.specs.Str.Parse.{digits_value, ParsesUnsigned}
use Rattle.std.proofs.lemmas.Bool.{and_parts, false≢true, leb-true}
use Rattle.std.proofs.lemmas.Str.Parse.{IsNumeralModel, numerals_by_value, parse_gives}
use Rattle.sql_tokens.specs.Forms.{is_numeral, most_value}

own : IsNumeralModel (λ (ds : List ℕ). list_all is_ascii_digit ds ≡ true) (digits_value 10)
own = numerals_by_value (λ (ds : List ℕ). list_all is_ascii_digit ds ≡ true) (search rules)

pub numeral-parses : {E : Type 0} (bytes : List ℕ) (r : Result ℕ E) → is_numeral bytes ≡ true → ParsesUnsigned 64 10 bytes r → r ≡ Ok (digits_value 10 bytes)
numeral-parses [] r form parses = absurd (false≢true form)
numeral-parses (c ∷ cs) r form parses =
    let both = and_parts _ _ form in
    let small = leb-true (digits_value 10 (c ∷ cs)) most_value both.1 in
    parse_gives own 64 (c ∷ cs) r parses both.0 (omega arith) (omega arith)
