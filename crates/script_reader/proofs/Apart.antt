-- What follows from the rules that the lines of a script keep.
use Rattle.std.proofs.Common.{◌≡◌, ℕ, ◌+◌, ◌<◌, ◌≤◌, Bool, true, List, length, length-take, take, Some, arith, refl, ap, sym, ◌∙◌, ⊎_elim}
use Rattle.std.specs.Prelude.{count_by, slice_get}
use Rattle.std.proofs.lemmas.Bool.{cases_order, eq-eqb}
use Rattle.std.proofs.lemmas.List.{take-take}
use Rattle.std.proofs.lemmas.List.Sums.{count_by_more_yes, count_by-le-length, sum_by-take-le}
use Rattle.std.proofs.lemmas.Option.{slice_get_within, get_or_from_slice_get}
use Rattle.script_reader.specs.Laws.{AreToldApart, ContainLinesAbove, FollowLinesAbove, HaveSmallNumbers}
use Rattle.script_reader.specs.Script.{IsScript}
use Rattle.script_reader.specs.Sessions.{is_said_by}
use Rattle.script_reader.specs.declared.line.Line.{Line}

count_grows : (p : Line → Bool) (lines : List Line) (i j : ℕ) (l m : Line) → slice_get lines i ≡ Some l → slice_get lines j ≡ Some m → p l ≡ true → p m ≡ true → i < j
    → count_by p (take (i + 1) lines) < count_by p (take (j + 1) lines)
count_grows p lines i j l m at_l at_m passes passes_m before =
    let here = count_by_more_yes p lines j m (slice_get_within lines j m at_m) (ap p (get_or_from_slice_get lines j m m at_m) ∙ passes_m) in
    let front : take (i + 1) (take j lines) ≡ take (i + 1) lines = take-take (i + 1) j lines (omega arith) in
    let more : count_by p (take (i + 1) (take j lines)) ≤ count_by p (take j lines) = sum_by-take-le _ (take j lines) (i + 1) in
    omega (arith, here, more, ap (count_by p) front)

module _ (lines : List Line) (rules : IsScript lines) where
  place_grows : (i j : ℕ) (l m : Line) → slice_get lines i ≡ Some l → slice_get lines j ≡ Some m → l.session ≡ m.session → i < j → l.place < m.place
  place_grows i j l m at_l at_m same before =
      let more = count_grows (is_said_by l.session) lines i j l m at_l at_m (eq-eqb _ _ refl) (eq-eqb _ _ (sym same)) before in
      let counts : count_by (is_said_by l.session) (take (j + 1) lines) ≡ count_by (is_said_by m.session) (take (j + 1) lines) = ap (λ s. count_by (is_said_by s) (take (j + 1) lines)) same in
      omega (arith, more, counts, rules.placed i l at_l, rules.placed j m at_m)

  pub told_apart : AreToldApart lines
  told_apart i j l m at_l at_m same places = ⊎_elim
      (λ equal. equal)
      (λ apart. ⊎_elim (λ before. absurd (omega (arith, place_grows i j l m at_l at_m same before))) (λ behind. absurd (omega (arith, place_grows j i m l at_m at_l (sym same) behind))) apart)
      (cases_order i j)

  pub numbers_small : HaveSmallNumbers lines
  numbers_small k l h =
      let session = rules.known k l h in
      let within = slice_get_within lines k l h in
      let few : length lines ≤ 65536 = rules.few in
      (omega arith, omega (arith, rules.placed k l h, count_by-le-length (is_said_by l.session) (take (k + 1) lines), length-take (k + 1) lines))

  pub above_contained : ContainLinesAbove lines
  above_contained k l j h contained = (rules.following k l h).above j contained

  pub above : FollowLinesAbove lines
  above k l i j h at = above_contained k l j h (i, slice_get_within l.follows i j at, get_or_from_slice_get l.follows i j j at)
