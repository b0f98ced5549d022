-- A text in which each two quotes are replaced by one.
use Rattle.std.proofs.Common.{◌≡◌, ◌∙◌, refl, ℕ, zero, suc, ◌<◌, ◌≤◌, List, [], ◌∷◌, ◌++◌, length, take, drop, arith, ap, sym, subst, Some, None, inl, inr, Bor}
use Rattle.std.specs.Str.Replace.{ReplacesMatches}
use Rattle.std.specs.Str.Pattern.{FindsText, LacksTextAt}
use Rattle.std.proofs.lemmas.Bool.{cases_Bool, eqb-true, eqb-false}
use Rattle.sql_tokens.specs.Forms.{is_quote, doubled}
use Rattle.sql_tokens.proofs.Texts.{doubled-quote, doubled-other}

-- two quotes
abbrev two : List ℕ
two = 39 ∷ 39 ∷ []

abbrev LacksBelow : List ℕ → ℕ → Type 0
LacksBelow bytes n = (i : ℕ) → i < n → LacksTextAt two bytes i

-- no two quotes: nothing is doubled
none-doubled : (value : List ℕ) → ((i : ℕ) → i ≤ length (doubled value) → LacksTextAt two (doubled value) i) → doubled value ≡ value
none-doubled [] lacks = refl
none-doubled (c ∷ cs) lacks =
    elim (cases_Bool (is_quote c)) [
      | inl h ↦
          let same : doubled (c ∷ cs) ≡ 39 ∷ 39 ∷ doubled cs = doubled-quote c cs h ∙ ap (λ d. d ∷ d ∷ doubled cs) (eqb-true c 39 h) in
          absurd (lacks 0 (omega arith) (doubled cs) same)
      | inr h ↦
          let same = doubled-other c cs h in
          let more : (i : ℕ) → i ≤ length (c ∷ doubled cs) → LacksTextAt two (c ∷ doubled cs) i = subst (λ (bytes : List ℕ). (i : ℕ) → i ≤ length bytes → LacksTextAt two bytes i) same lacks in
          same ∙ ap (λ xs. c ∷ xs) (none-doubled cs (λ i within. more (suc i) (omega arith)))
    ]

-- The value is cut at its first quote.
record IsCut (value : List ℕ) (at : ℕ) (rest : List ℕ) : Type 0 where
  pub behind : List ℕ
  pub tail : rest ≡ doubled behind
  pub parts : value ≡ take at (doubled value) ++ 39 ∷ behind

first-cut : (value : List ℕ) (at : ℕ) (rest : List ℕ) → LacksBelow (doubled value) at → drop at (doubled value) ≡ 39 ∷ 39 ∷ rest → IsCut value at rest
first-cut [] zero rest lacks e = absurd (cc)
first-cut [] (suc at) rest lacks e = absurd (cc)
first-cut (c ∷ cs) zero rest lacks e =
    elim (cases_Bool (is_quote c)) [
      | inl h ↦
          let same : c ∷ c ∷ doubled cs ≡ 39 ∷ 39 ∷ rest = sym (doubled-quote c cs h) ∙ e in
          record { behind = cs; tail = cc; parts = ap (λ d. d ∷ cs) (eqb-true c 39 h) }
      | inr h ↦
          let same : c ∷ doubled cs ≡ 39 ∷ 39 ∷ rest = sym (doubled-other c cs h) ∙ e in
          absurd (eqb-false c 39 h (cc))
    ]
first-cut (c ∷ cs) (suc at) rest lacks e =
    elim (cases_Bool (is_quote c)) [
      | inl h ↦
          let same : doubled (c ∷ cs) ≡ 39 ∷ 39 ∷ doubled cs = doubled-quote c cs h ∙ ap (λ d. d ∷ d ∷ doubled cs) (eqb-true c 39 h) in
          absurd (lacks 0 (omega arith) (doubled cs) same)
      | inr h ↦
          let same = doubled-other c cs h in
          let more : LacksBelow (c ∷ doubled cs) (suc at) = subst (λ (bytes : List ℕ). LacksBelow bytes (suc at)) same lacks in
          let cut = first-cut cs at rest (λ i within. more (suc i) (omega arith)) (subst (λ (bytes : List ℕ). drop (suc at) bytes ≡ 39 ∷ 39 ∷ rest) same e) in
          record { behind = cut.behind; tail = cut.tail; parts = ap (λ xs. c ∷ xs) cut.parts ∙ ap (λ (xs : List ℕ). take (suc at) xs ++ 39 ∷ cut.behind) (sym same) }
    ]

-- what comes of the replacement
abbrev pub Replaces : ℕ → Bor (List ℕ) → List ℕ → List ℕ → Type 0
Replaces n p s out = ReplacesMatches {P = Bor (List ℕ)} (λ n. FindsText n.now) (λ n m. m.now ≡ n.now) (39 ∷ []) n p s out

pub replaced : (n : ℕ) (p : Bor (List ℕ)) (value s out : List ℕ) → p.now ≡ two → s ≡ doubled value → Replaces n p s out → out ≡ value
replaced zero p value s out is same r =
    let lacks : (i : ℕ) → i ≤ length (doubled value) → LacksTextAt two (doubled value) i =
    subst (λ (bytes : List ℕ). (i : ℕ) → i ≤ length bytes → LacksTextAt two bytes i) same (subst (λ (t : List ℕ). FindsText t s None) is r.0) in
    r.1 ∙ same ∙ none-doubled value lacks
replaced (suc n) p value s out is same r =
    let a = r.0 in
    let b = r.1 in
    let finds = subst (λ (t : List ℕ). FindsText t s (Some (r.0, r.1))) is r.4 in
    let has = finds.1 in
    let ends = has.ends in
    let cut = first-cut value a (drop b s) (subst (λ (bytes : List ℕ). LacksBelow bytes a) same finds.0) (ap (drop a) (sym same) ∙ has.split) in
    elim r.6 [
      | inl more ↦
          r.7
          ∙ ap (λ (xs : List ℕ). take a s ++ 39 ∷ xs) (replaced n r.2 cut.behind (drop b s) r.3 (r.5 ∙ is) cut.tail more.1)
          ∙ ap (λ (xs : List ℕ). take a xs ++ 39 ∷ cut.behind) same
          ∙ sym cut.parts
      | inr empty ↦ let e = empty.0 in absurd (omega arith)
    ]
