-- The positions of the lines of a session, and the last of them, before and behind one more line.
use Rattle.std.proofs.Common.{◌≡◌, ℕ, zero, suc, ◌+◌, ◌-◌, ◌<◌, ◌≤◌, Bool, true, false, cond, List, [], ◌∷◌, ◌++◌, length, length-set, Option, Some, None, get_or, set, arith, refl, sym, ap, ◌∙◌, subst, ⊎_elim, get_or-set_same, get_or-set_other, append-nil}
use Rattle.std.specs.Prelude.{count_by, option_to_list, slice_get, if◌then◌else◌}
use Rattle.std.specs.List.{All}
use Rattle.std.proofs.lemmas.Bool.{cases_eq, eq-eqb, ne_eqb}
use Rattle.std.proofs.lemmas.List.{length_push}
use Rattle.std.proofs.lemmas.List.Sums.{sum_by-cons, count_by-le-length}
use Rattle.std.proofs.lemmas.List.Elements.{All-nil, All-cons, All-append}
use Rattle.std.proofs.lemmas.Option.{same_Some, slice_get_read, get_or_from_slice_get}
use Rattle.script_reader.specs.Sessions.{IsSession, is_said_by, lines_from, lines_of, last_of, most_sessions}
use Rattle.script_reader.specs.Draft.{TellsSessions}
use Rattle.script_reader.specs.declared.line.Line.{Line}

-- ---- one more line
lines_from_push : (at s : ℕ) (lines : List Line) (line : Line) → lines_from at s (lines ++ line ∷ []) ≡ lines_from at s lines ++ (if is_said_by s line then (at + length lines) ∷ [] else [])
lines_from_push at s [] line =
    let here : at ≡ at + 0 = omega arith in
    elim (is_said_by s line) as (λ b. (if b then at ∷ [] else []) ≡ [] ++ (if b then (at + 0) ∷ [] else [])) [ true ↦ ap (λ p. p ∷ []) here | false ↦ refl ]
lines_from_push at s (x ∷ xs) line =
    let rest : List ℕ = lines_from (at + 1) s xs in
    let there : at + 1 + length xs ≡ at + suc (length xs) = omega arith in
    let more = lines_from_push (at + 1) s xs line ∙ ap (λ p. rest ++ (if is_said_by s line then p ∷ [] else [])) there in
    elim (is_said_by s x) as (λ b. (if b then at ∷ lines_from (at + 1) s (xs ++ line ∷ []) else lines_from (at + 1) s (xs ++ line ∷ []))
    ≡ (if b then at ∷ rest else rest) ++ (if is_said_by s line then (at + suc (length xs)) ∷ [] else [])) [
      | true ↦ ap (λ ps. at ∷ ps) more
      | false ↦ more
    ]

pub lines_of_push_own : (s : ℕ) (lines : List Line) (line : Line) → is_said_by s line ≡ true → lines_of s (lines ++ line ∷ []) ≡ lines_of s lines ++ length lines ∷ []
lines_of_push_own s lines line own =
    let here : 0 + length lines ≡ length lines = omega arith in
    lines_from_push 0 s lines line ∙ ap (λ b. lines_of s lines ++ (if b then (0 + length lines) ∷ [] else [])) own ∙ ap (λ p. lines_of s lines ++ p ∷ []) here

pub lines_of_push_other : (s : ℕ) (lines : List Line) (line : Line) → is_said_by s line ≡ false → lines_of s (lines ++ line ∷ []) ≡ lines_of s lines
lines_of_push_other s lines line other =
    lines_from_push 0 s lines line ∙ ap (λ b. lines_of s lines ++ (if b then (0 + length lines) ∷ [] else [])) other ∙ append-nil (lines_of s lines)

-- ---- how many, and where
length-lines_from : (at s : ℕ) (lines : List Line) → length (lines_from at s lines) ≡ count_by (is_said_by s) lines
length-lines_from at s [] = refl
length-lines_from at s (x ∷ xs) =
    rw (sum_by-cons (λ y. cond (is_said_by s y) 1 0) x xs)
    (elim (is_said_by s x) as (λ b. length (if b then at ∷ lines_from (at + 1) s xs else lines_from (at + 1) s xs) ≡ cond b 1 0 + count_by (is_said_by s) xs) [
      | true ↦ omega (arith, length-lines_from (at + 1) s xs)
      | false ↦ omega (arith, length-lines_from (at + 1) s xs)
    ])

pub length-lines_of : (s : ℕ) (lines : List Line) → length (lines_of s lines) ≡ count_by (is_said_by s) lines
length-lines_of s lines = length-lines_from 0 s lines

pub lines_of_few : (s : ℕ) (lines : List Line) → length (lines_of s lines) ≤ length lines
lines_of_few s lines = omega (arith, length-lines_of s lines, count_by-le-length (is_said_by s) lines)

-- The positions are those of lines.
positions_within : (at s : ℕ) (lines : List Line) (i k : ℕ) → slice_get (lines_from at s lines) i ≡ Some k → k < at + length lines
positions_within at s [] i k e = absurd (cc)
positions_within at s (x ∷ xs) i k e =
    elim (is_said_by s x) as (λ b. slice_get (if b then at ∷ lines_from (at + 1) s xs else lines_from (at + 1) s xs) i ≡ Some k → k < at + suc (length xs)) [
      | true ↦ own (λ j f. positions_within (at + 1) s xs j k f) i
      | false ↦ λ f. omega (arith, positions_within (at + 1) s xs i k f)
    ] e
  where
    own : ((j : ℕ) → slice_get (lines_from (at + 1) s xs) j ≡ Some k → k < at + 1 + length xs) → (i : ℕ) → slice_get (at ∷ lines_from (at + 1) s xs) i ≡ Some k → k < at + suc (length xs)
    own rest zero f = let same : at ≡ k = same_Some at k f in omega (arith, same)
    own rest (suc i) f = omega (arith, rest i f)

pub line_within : (s : ℕ) (lines : List Line) (i k : ℕ) → slice_get (lines_of s lines) i ≡ Some k → k < length lines
line_within s lines i k e = omega (arith, positions_within 0 s lines i k e)

pub last_within : (s : ℕ) (lines : List Line) (k : ℕ) → last_of s lines ≡ Some k → k < length lines
last_within s lines k e = line_within s lines (length (lines_of s lines) - 1) k e

-- ---- the last one
pub at_length : {A : Type 0} (before : List A) (x : A) (more : List A) → slice_get (before ++ x ∷ more) (length before) ≡ Some x
at_length [] x more = refl
at_length (y ∷ before) x more = at_length before x more

last_push : (xs : List ℕ) (n : ℕ) → slice_get (xs ++ n ∷ []) (length (xs ++ n ∷ []) - 1) ≡ Some n
last_push xs n =
    let at : length (xs ++ n ∷ []) - 1 ≡ length xs = omega (arith, length_push xs n) in
    ap (slice_get (xs ++ n ∷ [])) at ∙ at_length xs n []

pub last_of_push : (s : ℕ) (lines : List Line) (line : Line) → last_of s (lines ++ line ∷ []) ≡ (if is_said_by s line then Some (length lines) else last_of s lines)
last_of_push s lines line = by (is_said_by s line) refl where
  by : (own : Bool) → is_said_by s line ≡ own → last_of s (lines ++ line ∷ []) ≡ (if own then Some (length lines) else last_of s lines)
  by true own = ap (λ ps. slice_get ps (length ps - 1)) (lines_of_push_own s lines line own) ∙ last_push (lines_of s lines) (length lines)
  by false other = ap (λ ps. slice_get ps (length ps - 1)) (lines_of_push_other s lines line other)

-- ---- what is kept for each session
pub TellsSessions-nil : (kept : List (List ℕ)) → length kept ≡ most_sessions → ((k : ℕ) → get_or kept k [] ≡ []) → TellsSessions kept []
TellsSessions-nil kept all none = record { all = all; each = λ k l. none k }

pub TellsSessions_push : (kept : List (List ℕ)) (lines : List Line) (line : Line) (k position : ℕ) → TellsSessions kept lines → k < most_sessions → line.session ≡ k + 1 → position ≡ length lines
    → TellsSessions (set kept k (get_or kept k [] ++ position ∷ [])) (lines ++ line ∷ [])
TellsSessions_push kept lines line k position tells known session at =
    let new : List ℕ = get_or kept k [] ++ position ∷ [] in
    let within : k < length kept = omega (arith, tells.all, known) in
    record {
      all = length-set kept k new ∙ tells.all;
      each = λ j inside. ⊎_elim
          (λ same.
          let own : is_said_by (k + 1) line ≡ true = eq-eqb _ _ session in
          let told : new ≡ lines_of (k + 1) (lines ++ line ∷ []) =
          (λ i. tells.each k known i ++ at i ∷ []) ∙ sym (lines_of_push_own (k + 1) lines line own) in
          subst (λ i. get_or (set kept k new) i [] ≡ lines_of (i + 1) (lines ++ line ∷ [])) (sym same) (get_or-set_same kept k new [] within ∙ told))
          (λ other.
          let others : is_said_by (j + 1) line ≡ false = ne_eqb _ _ (λ e. other (omega (arith, e, session))) in
          get_or-set_other kept k j new [] other ∙ tells.each j inside ∙ sym (lines_of_push_other (j + 1) lines line others))
          (cases_eq j k);
    }

-- What is kept of a session, found by its number less one.
pub own_is : (kept : List (List ℕ)) (lines : List Line) (session : ℕ) (own : List ℕ) → TellsSessions kept lines → IsSession session → own ≡ get_or kept (session - 1) own → own ≡ lines_of session lines
own_is kept lines session own tells known is =
    let one : session - 1 + 1 ≡ session = omega (arith, known.0) in
    let within : session - 1 < most_sessions = omega (arith, known.0, known.1) in
    let there = slice_get_read kept (length kept) (session - 1) own refl (omega (arith, tells.all, within)) is in
    sym (get_or_from_slice_get kept (session - 1) own [] there) ∙ tells.each (session - 1) within ∙ ap (λ s. lines_of s lines) one

-- The same as `TellsSessions_push`, by the session's number.
pub TellsSessions_behind : (kept : List (List ℕ)) (lines more : List Line) (line : Line) (session position : ℕ) (own new : List ℕ) → TellsSessions kept lines → IsSession session → own ≡ get_or kept (session - 1) own
    → new ≡ own ++ position ∷ [] → more ≡ lines ++ line ∷ [] → line.session ≡ session → position ≡ length lines → TellsSessions (set kept (session - 1) new) more
TellsSessions_behind kept lines more line session position own new tells known is new-is more-is said at =
    let one : session - 1 + 1 ≡ session = omega (arith, known.0) in
    let within : session - 1 < most_sessions = omega (arith, known.0, known.1) in
    let there = slice_get_read kept (length kept) (session - 1) own refl (omega (arith, tells.all, within)) is in
    let new-kept : get_or kept (session - 1) [] ++ position ∷ [] ≡ new = ap (λ o. o ++ position ∷ []) (get_or_from_slice_get kept (session - 1) own [] there) ∙ sym new-is in
    subst (λ ls. TellsSessions (set kept (session - 1) new) ls) (sym more-is)
    (subst (λ n. TellsSessions (set kept (session - 1) n) (lines ++ line ∷ [])) new-kept
    (TellsSessions_push kept lines line (session - 1) position tells within (said ∙ sym one) at))

-- Whom the next line of a session follows stands above it.
pub all_followed : (lines : List Line) (session n : ℕ) (named : List ℕ) (found : Option ℕ) → n ≡ length lines → All (λ k. k < length lines) named → found ≡ last_of session lines → All (λ k. k < n) (named ++ option_to_list found)
all_followed lines session n named found long above is =
    subst (λ m. All (λ k. k < m) (named ++ option_to_list found)) (sym long) (All-append (λ k. k < length lines) named (option_to_list found) above (last found is))
  where
    last : (found : Option ℕ) → found ≡ last_of session lines → All (λ k. k < length lines) (option_to_list found)
    last None e = All-nil (λ k. k < length lines)
    last (Some k) e = All-cons (λ k. k < length lines) k [] (last_within session lines k (sym e)) (All-nil (λ k. k < length lines))
