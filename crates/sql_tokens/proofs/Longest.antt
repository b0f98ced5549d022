-- A token that stands is the longest from its place on.
use Rattle.std.proofs.Common.{◌≡◌, ◌∙◌, ℕ, ◌-◌, ◌<◌, ◌≤◌, Bool, List, [], ◌∷◌, ◌++◌, length, take, drop, arith, ap, sym, subst, refl}
use Rattle.std.specs.Prelude.{slice_range}
use Rattle.std.proofs.lemmas.List.{append-nil, append_assoc, append_cancel_left, length-drop, length-take, take-append-drop, take-append-le, take_at}
use Rattle.std.proofs.lemmas.List.Folds.{drop_split}
use Rattle.std.proofs.lemmas.Option.{same_Some}
use Rattle.sql_tokens.specs.declared.token_sort.TokenSort.{TokenSort}
use Rattle.sql_tokens.specs.declared.token.Token.{Token}
use Rattle.sql_tokens.specs.declared.lexeme.Lexeme.{Lexeme}
use Rattle.sql_tokens.specs.Forms.{IsToken, goes_on}
use Rattle.sql_tokens.specs.Tokens.{BeginsOutside, written, Stands}
use Rattle.sql_tokens.specs.Scan.{lexeme, first_lexeme}
use Rattle.sql_tokens.proofs.Fronts.{found}
use Rattle.sql_tokens.proofs.Scans.{span}

outside-front : (test : ℕ → Bool) (front rest : List ℕ) → BeginsOutside test (front ++ rest) → BeginsOutside test front
outside-front test [] rest outside = tt
outside-front test (c ∷ front) rest outside = outside

-- two tokens at the front of the same bytes are as long
as-long : (sort other : TokenSort) (bytes more : List ℕ) → IsToken sort bytes → BeginsOutside (goes_on sort bytes) more → IsToken other (bytes ++ more) → length bytes ≡ length (bytes ++ more)
as-long sort other bytes more form outside longer =
    let one = found sort bytes more form outside in
    let two = ap first_lexeme (sym (append-nil (bytes ++ more))) ∙ found other (bytes ++ more) [] longer tt in
    ap (λ (l : Lexeme). l.len) (same_Some (lexeme sort (length bytes)) (lexeme other (length (bytes ++ more))) (sym one ∙ two))

pub longest : (text : List ℕ) (token : Token) (other : TokenSort) (to : ℕ) → Stands text token → token.to < to → to ≤ length text → IsToken other (slice_range text token.from to) → ⊥
longest text token other to stands later within longer =
    let sp = span text token stands in
    let begun : token.from < token.to = sp.0 in
    let inner : List ℕ = written text token in
    let outer : List ℕ = slice_range text token.from to in
    let short : length inner ≡ token.to - token.from = sp.1 in
    let long : length outer ≡ to - token.from = omega (arith, length-take (to - token.from) (drop token.from text), length-drop token.from text) in
    let one : drop token.from text ≡ outer ++ drop to text = drop_split text token.from to (omega arith) in
    let two : drop token.from text ≡ inner ++ drop token.to text = drop_split text token.from token.to (omega arith) in
    let more : List ℕ = drop (length inner) outer in
    let front : take (length inner) outer ≡ inner =
    sym (take-append-le (length inner) outer (drop to text) (omega arith)) ∙ ap (take (length inner)) (sym one ∙ two) ∙ take_at inner (drop token.to text) (length inner) refl in
    let parts : outer ≡ inner ++ more = sym (take-append-drop (length inner) outer) ∙ ap (λ (xs : List ℕ). xs ++ more) front in
    let behind : drop token.to text ≡ more ++ drop to text =
    append_cancel_left inner (drop token.to text) (more ++ drop to text) (sym two ∙ one ∙ ap (λ (xs : List ℕ). xs ++ drop to text) parts ∙ append_assoc inner more (drop to text)) in
    let outside = outside-front (goes_on token.sort inner) more (drop to text) (subst (BeginsOutside (goes_on token.sort inner)) behind stands.longest) in
    let same : length inner ≡ length (inner ++ more) = as-long token.sort other inner more stands.form outside (subst (IsToken other) parts longer) in
    let whole : length outer ≡ length (inner ++ more) = ap length parts in
    omega arith
