-- A line that has its place and follows whom it has to is the one that its statement makes behind the lines above it, and the other way round.
use Rattle.std.proofs.Common.{◌≡◌, ℕ, zero, suc, ◌+◌, ◌<◌, ◌≤◌, Bool, true, false, ◌⊎◌, inl, inr, List, [], ◌∷◌, ◌++◌, length, take, Option, Some, None, arith, refl, ap, sym, ◌∙◌, subst, ⊎_elim}
use Rattle.std.specs.Prelude.{◌↔◌, count_by, option_to_list, slice_get, slice_index_or, if◌then◌else◌}
use Rattle.std.specs.List.{All, Contains}
use Rattle.std.proofs.lemmas.Bool.{cases_eq, eq-eqb, eqb-true, false≢true}
use Rattle.std.proofs.lemmas.List.{length-take-le, take_all}
use Rattle.std.proofs.lemmas.List.Elements.{Contains-append_left, Contains-append_right, Contains-append_cases}
use Rattle.std.proofs.lemmas.List.Sums.{count_by_more_yes}
use Rattle.std.proofs.lemmas.Option.{slice_get_within, get_or_from_slice_get, same_Some}
use Rattle.script_reader.specs.Reader.{ascending, line_behind}
use Rattle.script_reader.specs.Script.{HasPlace, StandsAbove, IsLastAbove, FollowsAbove, Follows}
use Rattle.script_reader.specs.Sessions.{is_said_by, last_of}
use Rattle.script_reader.proofs.Ascending.{in_ascending, ascending_has, ascending_rises, increasing_from_Rises, Rises-from_increasing, is_ascending}
use Rattle.script_reader.proofs.Lasts.{last_of_push}
use Rattle.script_reader.specs.declared.line.Line.{Line}

there : {A : Type 0} (xs : List A) (k : ℕ) → k < length xs → (x : A) × (slice_get xs k ≡ Some x)
there [] k l = absurd (omega arith)
there (x ∷ xs) zero l = (x, refl)
there (x ∷ xs) (suc k) l = there xs k (omega arith)

take_suc : {A : Type 0} (xs : List A) (k : ℕ) (x : A) → slice_get xs k ≡ Some x → take (suc k) xs ≡ take k xs ++ x ∷ []
take_suc [] k x e = absurd (cc)
take_suc {A} (y ∷ xs) zero x e = ap (λ (z : A). z ∷ []) (same_Some y x e)
take_suc {A} (y ∷ xs) (suc k) x e = ap (λ (front : List A). y ∷ front) (take_suc xs k x e)

-- ---- the last line of a session above a position

-- What is found, or not, is the last line of the session above the position.
abbrev Tells : List Line → ℕ → ℕ → Option ℕ → Type 0
Tells lines session lower None = (upper : ℕ) → StandsAbove lines session upper lower → ⊥
Tells lines session lower (Some upper) = IsLastAbove lines session upper lower

module _ (lines : List Line) (session n : ℕ) (next : Line) (at_n : slice_get lines n ≡ Some next) where
  one_further : (upper : ℕ) → StandsAbove lines session upper n → StandsAbove lines session upper (suc n)
  one_further upper h = record { line = h.line; stands = h.stands; said_by = h.said_by; above = omega (arith, h.above) }

  here : is_said_by session next ≡ true → IsLastAbove lines session n (suc n)
  here own = record {
    stands = record { line = next; stands = at_n; said_by = eqb-true next.session session own; above = omega arith };
    last = λ other h. omega (arith, h.above);
  }

  not_here : is_said_by session next ≡ false → (upper : ℕ) → StandsAbove lines session upper (suc n) → StandsAbove lines session upper n
  not_here other upper h = ⊎_elim
      (λ same.
      let line-is : h.line ≡ next = same_Some h.line next (sym h.stands ∙ ap (slice_get lines) same ∙ at_n) in
      let own : is_said_by session next ≡ true = eq-eqb next.session session (sym (ap (λ (l : Line). l.session) line-is) ∙ h.said_by) in
      absurd (false≢true (sym other ∙ own)))
      (λ differ. record { line = h.line; stands = h.stands; said_by = h.said_by; above = omega (arith, h.above, differ) })
      (cases_eq upper n)

  unless_here : is_said_by session next ≡ false → (found : Option ℕ) → Tells lines session n found → Tells lines session (suc n) found
  unless_here other None none = λ upper h. none upper (not_here other upper h)
  unless_here other (Some upper) is = record { stands = one_further upper is.stands; last = λ o h. is.last o (not_here other o h) }

  tells_next : length (take n lines) ≡ n → (own : Bool) → is_said_by session next ≡ own → (found : Option ℕ) → Tells lines session n found
      → Tells lines session (suc n) (if own then Some (length (take n lines)) else found)
  tells_next long true own found tells = subst (λ k. Tells lines session (suc n) (Some k)) (sym long) (here own)
  tells_next long false other found tells = unless_here other found tells

tells_last : (lines : List Line) (session n : ℕ) → n ≤ length lines → Tells lines session n (last_of session (take n lines))
tells_last lines session zero within = λ upper h. absurd (omega (arith, h.above))
tells_last lines session (suc n) within =
    let next = there lines n (omega (arith, within)) in
    let long : length (take n lines) ≡ n = length-take-le n lines (omega (arith, within)) in
    let found = ap (last_of session) (take_suc lines n next.0 next.1) ∙ last_of_push session (take n lines) next.0 in
    subst (Tells lines session (suc n)) (sym found)
    (tells_next lines session n next.0 next.1 long (is_said_by session next.0) refl (last_of session (take n lines)) (tells_last lines session n (omega (arith, within))))

-- There is a last line of a session above a position, or none of its lines stands there.
pub last_above : (lines : List Line) (session lower : ℕ) → lower ≤ length lines → ((upper : ℕ) × IsLastAbove lines session upper lower) ⊎ ((upper : ℕ) → StandsAbove lines session upper lower → ⊥)
last_above lines session lower within = by (last_of session (take lower lines)) (tells_last lines session lower within) where
  by : (found : Option ℕ) → Tells lines session lower found → ((upper : ℕ) × IsLastAbove lines session upper lower) ⊎ ((upper : ℕ) → StandsAbove lines session upper lower → ⊥)
  by None none = inr none
  by (Some upper) is = inl (upper, is)

-- ---- whom a line follows
only_in : (x y k : ℕ) → k < 1 → slice_index_or (x ∷ []) k y ≡ y → x ≡ y
only_in x y zero l e = e
only_in x y (suc k) l e = absurd (omega arith)

none_in : (y : ℕ) → Contains [] y → ⊥
none_in y h = let l : h.0 < 0 = h.1 in omega (arith, l)

-- What is found is the last line above.
found_is_last : (lines : List Line) (session n : ℕ) (found : Option ℕ) → Tells lines session n found → (upper : ℕ) → Contains (option_to_list found) upper ↔ IsLastAbove lines session upper n
found_is_last lines session n None none upper = (λ h. absurd (none_in upper h), λ h. absurd (none upper h.stands))
found_is_last lines session n (Some first) last upper = (
  λ h. subst (λ u. IsLastAbove lines session u n) (only_in first upper h.0 h.1 h.2) last,
  λ h. let same : first ≡ upper = omega (arith, h.last first last.stands, last.last upper h.stands) in (0, omega arith, same),
)

last_is : (lines : List Line) (session n : ℕ) → n ≤ length lines → (upper : ℕ) → Contains (option_to_list (last_of session (take n lines))) upper ↔ IsLastAbove lines session upper n
last_is lines session n within = found_is_last lines session n (last_of session (take n lines)) (tells_last lines session n within)

module _ (lines : List Line) (at : ℕ) (line : Line) (stands : slice_get lines at ≡ Some line) where
  within : at < length lines
  within = slice_get_within lines at line stands

  itself : count_by (is_said_by line.session) (take (at + 1) lines) ≡ count_by (is_said_by line.session) (take at lines) + 1
  itself = count_by_more_yes (is_said_by line.session) lines at line within (ap (is_said_by line.session) (get_or_from_slice_get lines at line line stands) ∙ eq-eqb line.session line.session refl)

  long : length (take at lines) ≡ at
  long = length-take-le at lines (omega (arith, within))

  -- A line that a statement makes keeps the rules.
  module _ (named : List ℕ) (is : line ≡ line_behind (take at lines) line.session named line.text) where
    pub placed_behind : HasPlace lines at line
    placed_behind = ap (λ (l : Line). l.place) is ∙ sym itself

    follows-is : line.follows ≡ ascending (named ++ option_to_list (last_of line.session (take at lines))) (length (take at lines))
    follows-is = ap (λ (l : Line). l.follows) is

    pub follows_behind : FollowsAbove lines at line
    follows_behind =
        let last : List ℕ = option_to_list (last_of line.session (take at lines)) in
        let bound : ℕ = length (take at lines) in
        record {
          last = λ upper h.
              let below : upper < bound = omega (arith, long, h.stands.above) in
              subst (λ list. Contains list upper) (sym follows-is)
              (ascending_has (named ++ last) bound upper below (Contains-append_right named last upper ((last_is lines line.session at (omega (arith, within)) upper).1 h)));
          above = λ upper h.
              let found = in_ascending (named ++ last) bound upper (subst (λ list. Contains list upper) follows-is h) in
              omega (arith, found.0, long);
          ascending = subst (λ (list : List ℕ). (k : ℕ) → k + 1 < length list → slice_index_or list k 0 < slice_index_or list (k + 1) 0) (sym follows-is)
              (increasing_from_Rises 0 (ascending (named ++ last) bound) (ascending_rises (named ++ last) bound));
        }

-- ---- the line that a statement makes follows exactly those that it has to
last_of_all : (before : List Line) (session upper : ℕ) → Contains (option_to_list (last_of session before)) upper ↔ IsLastAbove before session upper (length before)
last_of_all before session upper =
    let all : take (length before) before ≡ before = take_all (length before) before (omega arith) in
    let last = last_is before session (length before) (omega arith) upper in
    subst (λ ls. Contains (option_to_list (last_of session ls)) upper ↔ IsLastAbove before session upper (length before)) all last

pub behind_follows : (before : List Line) (session : ℕ) (named text : List ℕ) → All (λ k. k < length before) named → Follows before named (line_behind before session named text)
behind_follows before session named text above =
    let last : List ℕ = option_to_list (last_of session before) in
    let found = last_of_all before session in
    λ upper. (
      λ h. ⊎_elim
          (λ in-named. inr in-named)
          (λ in-last. inl ((found upper).0 in-last))
          (Contains-append_cases named last upper (in_ascending (named ++ last) (length before) upper h).1),
      λ h. ⊎_elim
          (λ is. ascending_has (named ++ last) (length before) upper is.stands.above (Contains-append_right named last upper ((found upper).1 is)))
          (λ (in-named : Contains named upper).
          let same : slice_index_or named in-named.0 upper ≡ upper = in-named.2 in
          let below : upper < length before = subst (λ n. n < length before) same (above in-named.0 upper in-named.1) in
          ascending_has (named ++ last) (length before) upper below (Contains-append_left named last upper in-named))
          h,
    )

-- A line with its place that follows exactly those that it has to, all above it and ascending, is the one that the statement makes.
pub is_behind : (before : List Line) (line : Line) (named : List ℕ) → line.place ≡ count_by (is_said_by line.session) before + 1 → Follows before named line →
    ((upper : ℕ) → Contains line.follows upper → upper < length before) → ((k : ℕ) → k + 1 < length line.follows → slice_index_or line.follows k 0 < slice_index_or line.follows (k + 1) 0) →
    line ≡ line_behind before line.session named line.text
is_behind before line named place follows above up =
    let last : List ℕ = option_to_list (last_of line.session before) in
    let found = last_of_all before line.session in
    let follows-is : line.follows ≡ ascending (named ++ last) (length before) =
    is_ascending line.follows (named ++ last) (length before) (Rises-from_increasing line.follows up)
    (λ k h. (
      above k h,
      ⊎_elim
          (λ is. Contains-append_right named last k ((found k).1 is))
          (λ in-named. Contains-append_left named last k in-named)
          ((follows k).0 h),
    ))
    (λ k h. (follows k).1 (⊎_elim
    (λ in-named. inr in-named)
    (λ in-last. inl ((found k).0 in-last))
    (Contains-append_cases named last k h))) in
    λ i. record { session = line.session; place = place i; follows = follows-is i; text = line.text }
