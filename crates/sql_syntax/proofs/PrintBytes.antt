-- What is printed has the tokens that stand for its terminals.
use Rattle.std.proofs.Common.{◌≡◌, ℕ, ◌-◌, ◌≤◌, List, [], ◌∷◌, ◌++◌, length, take, drop, refl, sym, subst, ap, ap₂, ◌∙◌, arith, append_assoc, length-append}
use Rattle.std.specs.Prelude.{slice_range}
use Rattle.std.proofs.lemmas.List.{take_at, drop_at}
use Rattle.sql_tokens.specs.declared.token.Token.{Token}
use Rattle.sql_tokens.specs.Forms.{IsToken, goes_on}
use Rattle.sql_tokens.specs.Tokens.{most_statement_bytes, IsSpace, BeginsOutside, written, Stands, HasFrom, none, next, AreTokens}
use Rattle.sql_grammar.specs.declared.terminal.Terminal.{Terminal}
use Rattle.sql_grammar.specs.Words.{terminal_of, terminals_of}
use Rattle.sql_syntax.specs.PrintingText.{terminal_text, spaced, text_printed}
use Rattle.sql_syntax.proofs.PrintParts.{Each}
use Rattle.sql_syntax.proofs.PrintTokens.{Quoting, IsWritable, sort_of, IsItsToken, its_token}

-- Bytes between others.
piece : (before bytes after : List ℕ) → slice_range (before ++ (bytes ++ after)) (length before) (length (before ++ bytes)) ≡ bytes
piece before bytes after =
    let many : length bytes ≡ length (before ++ bytes) - length before = omega (arith, length-append before bytes) in
    ap (take (length (before ++ bytes) - length before)) (drop_at before (bytes ++ after) (length before) refl) ∙ take_at bytes after (length (before ++ bytes) - length before) many

-- What is left behind them.
behind : (before bytes after : List ℕ) → drop (length (before ++ bytes)) (before ++ (bytes ++ after)) ≡ after
behind before bytes after = ap (drop (length (before ++ bytes))) (sym (append_assoc before bytes after)) ∙ drop_at (before ++ bytes) after (length (before ++ bytes)) refl

-- The token that is written for a terminal behind some bytes.
abbrev token_behind : List ℕ → Terminal → Token
token_behind before t = record { sort = sort_of t; from = length before; to = length (before ++ terminal_text t) }

spaced_outside : (t : Terminal) (ts : List Terminal) → IsItsToken t → BeginsOutside (goes_on (sort_of t) (terminal_text t)) (spaced ts)
spaced_outside t [] own = tt
spaced_outside t (u ∷ us) own = own.ends

module _ (text before : List ℕ) (t : Terminal) (ts : List Terminal) (is : text ≡ before ++ (terminal_text t ++ spaced ts)) (own : IsItsToken t) where
  written_is : written text (token_behind before t) ≡ terminal_text t
  written_is = ap (λ xs. slice_range xs (length before) (length (before ++ terminal_text t))) is ∙ piece before (terminal_text t) (spaced ts)

  stands_behind : Stands text (token_behind before t)
  stands_behind =
      let left : drop (length (before ++ terminal_text t)) text ≡ spaced ts = ap (drop (length (before ++ terminal_text t))) is ∙ behind before (terminal_text t) (spaced ts) in
      let outside : BeginsOutside (goes_on (sort_of t) (written text (token_behind before t))) (spaced ts) = subst (λ bytes. BeginsOutside (goes_on (sort_of t) bytes) (spaced ts)) (sym written_is) (spaced_outside t ts own) in
      record {
        inside = omega (arith, ap length is, length-append before (terminal_text t ++ spaced ts), length-append (terminal_text t) (spaced ts), length-append before (terminal_text t));
        form = subst (IsToken (sort_of t)) (sym written_is) own.form;
        longest = subst (BeginsOutside (goes_on (sort_of t) (written text (token_behind before t)))) (sym left) outside;
      }

  stands_for : terminal_of (sort_of t) (written text (token_behind before t)) ≡ t
  stands_for = ap (terminal_of (sort_of t)) written_is ∙ own.again

-- The tokens from a place on, and what they stand for.
pub record Rest (text : List ℕ) (at : ℕ) (ts : List Terminal) : Type 0 where
  pub tokens : List Token
  pub has : HasFrom text at tokens
  pub are : terminals_of text tokens ≡ ts

spaced_rest : Quoting → (text before : List ℕ) (ts : List Terminal) → text ≡ before ++ spaced ts → Each IsWritable ts → Rest text (length before) ts
spaced_rest quoting text before [] is f =
    let left : drop (length before) text ≡ [] = ap (drop (length before)) is ∙ drop_at before [] (length before) refl in
    record { tokens = []; has = none (subst IsSpace (sym left) refl); are = refl }
spaced_rest quoting text before (t ∷ ts) is f =
    let own = its_token quoting t f.0 in
    let space = 32 ∷ [] in
    let bytes = terminal_text t in
    let from = before ++ space in
    let is_from : text ≡ from ++ (bytes ++ spaced ts) = is ∙ sym (append_assoc before space (bytes ++ spaced ts)) in
    let is_to : text ≡ (from ++ bytes) ++ spaced ts = is_from ∙ sym (append_assoc from bytes (spaced ts)) in
    let gap : slice_range text (length before) (length from) ≡ space = ap (λ xs. slice_range xs (length before) (length from)) is ∙ piece before space (bytes ++ spaced ts) in
    let more = spaced_rest quoting text (from ++ bytes) ts is_to f.1 in
    record {
      tokens = token_behind from t ∷ more.tokens;
      has = next (omega (arith, length-append before space)) (subst IsSpace (sym gap) refl) (stands_behind text from t ts is_from own) more.has;
      are = ap₂ (λ x xs. x ∷ xs) (stands_for text from t ts is_from own) more.are;
    }

text_rest : Quoting → (ts : List Terminal) → Each IsWritable ts → Rest (text_printed ts) 0 ts
text_rest quoting [] f = record { tokens = []; has = none refl; are = refl }
text_rest quoting (t ∷ ts) f =
    let own = its_token quoting t f.0 in
    let text = text_printed (t ∷ ts) in
    let more = spaced_rest quoting text (terminal_text t) ts refl f.1 in
    record {
      tokens = token_behind [] t ∷ more.tokens;
      has = next (omega arith) refl (stands_behind text [] t ts refl own) more.has;
      are = ap₂ (λ x xs. x ∷ xs) (stands_for text [] t ts refl own) more.are;
    }

-- The tokens of what is printed stand for the terminals that are printed.
pub text_tokens : Quoting → (ts : List Terminal) → Each IsWritable ts → length (text_printed ts) ≤ most_statement_bytes → (tokens : List Token) × AreTokens (text_printed ts) tokens × (terminals_of (text_printed ts) tokens ≡ ts)
text_tokens quoting ts f fits = let rest = text_rest quoting ts f in (rest.tokens, record { fits = fits; all = rest.has }, rest.are)
