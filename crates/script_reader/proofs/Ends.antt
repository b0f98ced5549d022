-- A script's pieces are those of its bytes without a line feed that ends them.
use Rattle.std.proofs.Common.{◌≡◌, ℕ, Bool, true, false, cond, List, [], ◌∷◌, ◌++◌, length, arith, refl, ap, sym, ◌∙◌}
use Rattle.std.specs.List.{slice_split, onto_first}
use Rattle.std.specs.Prelude.{◌==◌}
use Rattle.std.proofs.lemmas.Bool.{eqb-true, ne_eqb}
use Rattle.std.proofs.lemmas.List.Splits.{length-slice_split}
use Rattle.script_reader.specs.Pieces.{is_line_feed, without_empty_end}

abbrev split : List ℕ → List (List ℕ)
split bytes = slice_split is_line_feed bytes

abbrev cut : List (List ℕ) → List (List ℕ)
cut parts = without_empty_end parts

-- There are at least two parts.
record HasTwo (parts : List (List ℕ)) : Type 0 where
  first : List ℕ
  next : List ℕ
  more : List (List ℕ)
  is : parts ≡ first ∷ next ∷ more

two_parts : (bytes : List ℕ) → HasTwo (split (bytes ++ 10 ∷ []))
two_parts [] = record { first = []; next = []; more = []; is = refl }
two_parts (x ∷ bytes) =
    let rest = two_parts bytes in
    elim (is_line_feed x) as (λ b. HasTwo (cond b ([] ∷ split (bytes ++ 10 ∷ [])) (onto_first x (split (bytes ++ 10 ∷ []))))) [
      | true ↦ record { first = []; next = rest.first; more = rest.next ∷ rest.more; is = ap (λ ps. [] ∷ ps) rest.is }
      | false ↦ record { first = x ∷ rest.first; next = rest.next; more = rest.more; is = ap (onto_first x) rest.is }
    ]

-- A line feed at the end gives one part more, which is empty.
pub dropped_end : (bytes : List ℕ) → without_empty_end (split (bytes ++ 10 ∷ [])) ≡ split bytes
dropped_end [] = refl
dropped_end (x ∷ bytes) =
    let two = two_parts bytes in
    let rest : cut (two.first ∷ two.next ∷ two.more) ≡ split bytes = sym (ap cut two.is) ∙ dropped_end bytes in
    elim (is_line_feed x) as (λ b. cut (cond b ([] ∷ split (bytes ++ 10 ∷ [])) (onto_first x (split (bytes ++ 10 ∷ [])))) ≡ cond b ([] ∷ split bytes) (onto_first x (split bytes))) [
      | true ↦ ap (λ ps. cut ([] ∷ ps)) two.is ∙ ap (λ ps. [] ∷ ps) rest
      | false ↦ ap (λ ps. cut (onto_first x ps)) two.is ∙ ap (onto_first x) rest
    ]

-- ---- no line feed at the end
some_part : (bytes : List ℕ) → split bytes ≡ [] → ⊥
some_part bytes e = omega (arith, length-slice_split is_line_feed bytes, ap length e)

not_empty : (x : ℕ) (part : List ℕ) → cut ((x ∷ part) ∷ []) ≡ (x ∷ part) ∷ []
not_empty x part =
    let e : (length (x ∷ part) == 0) ≡ false = ne_eqb _ _ (λ h. omega (arith, h)) in
    rw e refl

onto_kept : (x : ℕ) (parts : List (List ℕ)) → (parts ≡ [] → ⊥) → cut parts ≡ parts → cut (onto_first x parts) ≡ onto_first x parts
onto_kept x [] some kept = absurd (some refl)
onto_kept x (part ∷ []) some kept = not_empty x part
onto_kept x (part ∷ next ∷ more) some kept = let rest : cut (next ∷ more) ≡ next ∷ more = cc in ap (λ ps. (x ∷ part) ∷ ps) rest

behind_kept : (parts : List (List ℕ)) → (parts ≡ [] → ⊥) → cut parts ≡ parts → cut ([] ∷ parts) ≡ [] ∷ parts
behind_kept [] some kept = absurd (some refl)
behind_kept (part ∷ more) some kept = ap (λ ps. [] ∷ ps) kept

pub kept_end : (x : ℕ) (bytes : List ℕ) → ((front : List ℕ) → x ∷ bytes ≡ front ++ 10 ∷ [] → ⊥) → without_empty_end (split (x ∷ bytes)) ≡ split (x ∷ bytes)
kept_end x [] none = by (is_line_feed x) refl where
  by : (b : Bool) → is_line_feed x ≡ b → cut (cond b ([] ∷ split []) (onto_first x (split []))) ≡ cond b ([] ∷ split []) (onto_first x (split []))
  by true e = let is : x ≡ 10 = eqb-true x 10 e in absurd (none [] (ap (λ c. c ∷ []) is))
  by false e = not_empty x []
kept_end x (y ∷ bytes) none =
    let rest = kept_end y bytes (λ front e. none (x ∷ front) (ap (λ bs. x ∷ bs) e)) in
    let some = some_part (y ∷ bytes) in
    elim (is_line_feed x) as (λ b. cut (cond b ([] ∷ split (y ∷ bytes)) (onto_first x (split (y ∷ bytes)))) ≡ cond b ([] ∷ split (y ∷ bytes)) (onto_first x (split (y ∷ bytes)))) [
      | true ↦ behind_kept (split (y ∷ bytes)) some rest
      | false ↦ onto_kept x (split (y ∷ bytes)) some rest
    ]
