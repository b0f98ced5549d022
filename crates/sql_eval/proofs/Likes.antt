-- Laws of being like a pattern.
use Rattle.std.proofs.Common.{◌≡◌, ℕ, Bool, true, false, ◌||◌, ◌&&◌, List, [], ◌∷◌, eqb, refl, sym, ap, ◌∙◌}
use Rattle.sql_eval.specs.Like.{percent, stands_for, begins_so, are_like}
use Rattle.sql_eval.specs.Run.{some_end, like_from}

-- A character that is no `%` takes one character.
pub are_like-one : (p : ℕ) (ps cs : List ℕ) → eqb p percent ≡ false → are_like (p ∷ ps) cs ≡ begins_so p (are_like ps) cs
are_like-one p ps cs h = rw h

-- Behind a `%` some end is like the rest.
pub are_like-percent : (p : ℕ) (ps cs : List ℕ) → eqb p percent ≡ true → are_like (p ∷ ps) cs ≡ some_end ps cs
are_like-percent p ps cs h = rw h

either_true : (a b : Bool) → b ≡ true → (a || b) ≡ true
either_true true b h = refl
either_true false b h = h

or_cases : (a b : Bool) (P : Type 0) → (a || b) ≡ true → (a ≡ true → P) → (b ≡ true → P) → P
or_cases true b P h f g = f refl
or_cases false b P h f g = g h

or_first : (a b : Bool) → a ≡ true → (a || b) ≡ true
or_first true b h = refl
or_first false b h = cc

and_second : (a b : Bool) → (a && b) ≡ true → b ≡ true
and_second true b h = h
and_second false b h = cc

-- The whole is an end.
pub some_end-whole : (ps cs : List ℕ) → are_like ps cs ≡ true → some_end ps cs ≡ true
some_end-whole ps [] h = or_first _ _ h
some_end-whole ps (c ∷ cs) h = or_first _ _ h

-- An end of what is left is an end.
pub some_end-rest : (ps : List ℕ) (c : ℕ) (cs : List ℕ) → some_end ps cs ≡ true → some_end ps (c ∷ cs) ≡ true
some_end-rest ps c cs h = either_true _ _ h

-- Where the whole is not like the pattern an end of what is left behind its first character is.
pub some_end-mismatch : (ps : List ℕ) (c : ℕ) (cs : List ℕ) → are_like ps (c ∷ cs) ≡ false → some_end ps (c ∷ cs) ≡ some_end ps cs
some_end-mismatch ps c cs h = rw h

pub some_end-none : (ps : List ℕ) → are_like ps [] ≡ false → some_end ps [] ≡ false
some_end-none ps h = rw h

-- If an end is like a pattern that takes one character first, an end of what is left is like the rest of it.
pub some_end-one : (p : ℕ) (ps : List ℕ) (c : ℕ) (cs : List ℕ) → eqb p percent ≡ false → some_end (p ∷ ps) (c ∷ cs) ≡ true → some_end ps cs ≡ true
some_end-one p ps c [] plain h =
    or_cases (are_like (p ∷ ps) (c ∷ [])) (some_end (p ∷ ps) []) (some_end ps [] ≡ true) h
    (λ whole. some_end-whole ps [] (and_second (stands_for p c) _ (sym (are_like-one p ps (c ∷ []) plain) ∙ whole)))
    (λ later. or_cases (are_like (p ∷ ps) []) false (some_end ps [] ≡ true) later (λ whole. let e : false ≡ true = sym (are_like-one p ps [] plain) ∙ whole in cc) (λ f. cc))
some_end-one p ps c (d ∷ cs) plain h =
    or_cases (are_like (p ∷ ps) (c ∷ d ∷ cs)) (some_end (p ∷ ps) (d ∷ cs)) (some_end ps (d ∷ cs) ≡ true) h
    (λ whole. some_end-whole ps (d ∷ cs) (and_second (stands_for p c) _ (sym (are_like-one p ps (c ∷ d ∷ cs) plain) ∙ whole)))
    (λ later. some_end-rest ps d cs (some_end-one p ps d cs plain later))

-- If an end is like a pattern that begins with a `%`, an end is like the rest of it.
pub some_end-percent : (p : ℕ) (ps cs : List ℕ) → eqb p percent ≡ true → some_end (p ∷ ps) cs ≡ true → some_end ps cs ≡ true
some_end-percent p ps [] yes_it_is h =
    or_cases (are_like (p ∷ ps) []) false (some_end ps [] ≡ true) h (λ whole. sym (are_like-percent p ps [] yes_it_is) ∙ whole) (λ f. cc)
some_end-percent p ps (c ∷ cs) yes_it_is h =
    or_cases (are_like (p ∷ ps) (c ∷ cs)) (some_end (p ∷ ps) cs) (some_end ps (c ∷ cs) ≡ true) h
    (λ whole. sym (are_like-percent p ps (c ∷ cs) yes_it_is) ∙ whole)
    (λ later. some_end-rest ps c cs (some_end-percent p ps cs yes_it_is later))

same_tests : (a b : Bool) → (a ≡ true → b ≡ true) → (b ≡ true → a ≡ true) → a ≡ b
same_tests true b f g = sym (f refl)
same_tests false true f g = g refl
same_tests false false f g = refl

-- One character is taken: what decides for the whole.
pub taken : (P T W L ps cs : List ℕ) (p c : ℕ) → W ≡ p ∷ ps → L ≡ c ∷ cs → eqb p percent ≡ false → stands_for p c ≡ true → are_like P T ≡ are_like W L → are_like P T ≡ are_like ps cs
taken P T W L ps cs p c w l plain fits e =
    let here : are_like (p ∷ ps) (c ∷ cs) ≡ are_like ps cs = are_like-one p ps (c ∷ cs) plain ∙ ap (λ b. b && are_like ps cs) fits in
    let there : are_like W L ≡ are_like (p ∷ ps) (c ∷ cs) = cc in
    e ∙ there ∙ here

-- One character is taken: what an end needs.
pub taken_later : (P T W L ps cs : List ℕ) (p c : ℕ) → W ≡ p ∷ ps → L ≡ c ∷ cs → eqb p percent ≡ false → (some_end P T ≡ true → some_end W L ≡ true) → some_end P T ≡ true → some_end ps cs ≡ true
taken_later P T W L ps cs p c w l plain later h =
    let there : some_end (p ∷ ps) (c ∷ cs) ≡ some_end W L = cc in
    some_end-one p ps c cs plain (there ∙ later h)

-- A `%` comes.
pub starred : (P T W L ps : List ℕ) (p : ℕ) → W ≡ p ∷ ps → eqb p percent ≡ true → are_like P T ≡ are_like W L → (some_end P T ≡ true → some_end W L ≡ true) → (anywhere : Bool) → like_from anywhere P T ≡ some_end ps L
starred P T W L ps p w is e later false =
    let there : are_like W L ≡ are_like (p ∷ ps) L = cc in
    e ∙ there ∙ are_like-percent p ps L is
starred P T W L ps p w is e later true =
    let whole : are_like W L ≡ are_like (p ∷ ps) L = cc in
    let there : some_end (p ∷ ps) L ≡ some_end W L = cc in
    same_tests (some_end P T) (some_end ps L)
    (λ h. some_end-percent p ps L is (there ∙ later h))
    (λ h. some_end-whole P T (e ∙ whole ∙ are_like-percent p ps L is ∙ h))

-- What is like the pattern as a whole is so from anywhere.
pub like_from-whole : (anywhere : Bool) (ps cs : List ℕ) → are_like ps cs ≡ true → like_from anywhere ps cs ≡ true
like_from-whole false ps cs h = h
like_from-whole true ps cs h = some_end-whole ps cs h
