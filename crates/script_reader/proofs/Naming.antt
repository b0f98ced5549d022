-- The lines that are named in front of a text, one after another.
use Rattle.std.proofs.Common.{◌≡◌, ℕ, zero, suc, ◌+◌, ◌-◌, ◌<◌, ◌≤◌, true, false, cond, List, [], ◌∷◌, ◌++◌, length, drop, take, Option, Some, None, arith, refl, ap, sym, ◌∙◌, subst, ⊎_elim, append-nil, append_assoc, codes}
use Rattle.std.specs.Prelude.{if◌then◌else◌}
use Rattle.std.specs.List.{All, prefix_len, take_while}
use Rattle.std.specs.Str.{bytes_eq}
use Rattle.std.proofs.Math.ListN.{drop_of_length-le}
use Rattle.std.proofs.lemmas.Bool.{cases_lt, false≢true}
use Rattle.std.proofs.lemmas.List.{length-drop, drop-drop}
use Rattle.std.proofs.lemmas.List.Elements.{All-nil, All-cons}
use Rattle.std.proofs.lemmas.Option.{same_Some}
use Rattle.script_reader.specs.Pieces.{past, is_gap, is_in_word, is_before_point, first_word, behind_word, names_a_line, naming, named_by, named_in, line_above, session_of, place_of}
use Rattle.script_reader.specs.Told.{named_before}
use Rattle.script_reader.specs.declared.line.Line.{Line}
use Rattle.script_reader.specs.declared.named.Named.{Named}
use Rattle.script_reader.proofs.Lasts.{line_within}

-- ---- what stands behind a name
-- Bytes are what is left of others behind at least one.
record IsBehind (bytes rest : List ℕ) : Type 0 where
  over : ℕ
  is : rest ≡ drop (suc over) bytes

behind_some : (bytes : List ℕ) → (over : ℕ) × (behind_word bytes ≡ drop over bytes) × (prefix_len is_in_word bytes ≤ over)
behind_some bytes =
    let word = prefix_len is_in_word bytes in
    let gap = prefix_len is_gap (drop word bytes) in
    (word + gap, drop-drop gap word bytes, omega arith)

in_word_first : (c : ℕ) (bytes : List ℕ) → names_a_line (c ∷ bytes) ≡ true → 1 ≤ prefix_len is_in_word (c ∷ bytes)
in_word_first c bytes names =
    elim (is_in_word c) as (λ b. bytes_eq (take (cond b (1 + prefix_len is_in_word bytes) 0) (c ∷ bytes)) (codes "after") ≡ true → 1 ≤ cond b (1 + prefix_len is_in_word bytes) 0) [
      | true ↦ λ e. omega arith
      | false ↦ λ e. absurd (false≢true e)
    ] names

behind_two : (c : ℕ) (bytes : List ℕ) → names_a_line (c ∷ bytes) ≡ true → IsBehind (c ∷ bytes) (behind_word (behind_word (c ∷ bytes)))
behind_two c bytes names =
    let one = behind_some (c ∷ bytes) in
    let two = behind_some (behind_word (c ∷ bytes)) in
    let first = in_word_first c bytes names in
    let over : ℕ = one.0 + two.0 - 1 in
    let more : one.0 + two.0 ≡ suc over = omega (arith, one.2, first) in
    record {
      over = over;
      is = two.1 ∙ ap (drop two.0) one.1 ∙ drop-drop two.0 one.0 (c ∷ bytes) ∙ ap (λ n. drop n (c ∷ bytes)) more;
    }

drop_back : (bytes : List ℕ) (k : ℕ) → drop (length bytes - length (drop k bytes)) bytes ≡ drop k bytes
drop_back bytes k = ⊎_elim
    (λ past_end.
    let all : length bytes ≤ length bytes - length (drop k bytes) = omega (arith, length-drop k bytes, past_end) in
    drop_of_length-le bytes all ∙ sym (drop_of_length-le bytes (omega (arith, past_end))))
    (λ within.
    let same : length bytes - length (drop k bytes) ≡ k = omega (arith, length-drop k bytes, within) in
    ap (λ n. drop n bytes) same)
    (cases_lt (length bytes) k)

inside_is : (above : List Line) (inside : ℕ) (bytes : List ℕ) → named_in above inside bytes ≡ named_in above 0 (drop inside bytes)
inside_is above zero bytes = refl
inside_is above (suc inside) [] = refl
inside_is above (suc inside) (c ∷ bytes) = inside_is above inside bytes

-- ---- one name after another
pub named_one : (above : List Line) (bytes : List ℕ) → names_a_line bytes ≡ true
    → named_in above 0 bytes ≡ naming (named_by above (first_word (behind_word bytes))) (named_in above 0 (behind_word (behind_word bytes)))
named_one above [] names = absurd (false≢true names)
named_one above (c ∷ bytes) names =
    let position = named_by above (first_word (behind_word (c ∷ bytes))) in
    let rest = behind_word (behind_word (c ∷ bytes)) in
    let behind = behind_two c bytes names in
    let left : drop (length bytes - length rest) bytes ≡ rest =
    ap (λ (r : List ℕ). drop (length bytes - length r) bytes) behind.is ∙ drop_back bytes behind.over ∙ sym behind.is in
    ap (λ b. if b then naming position (named_in above (length bytes - length rest) bytes) else Some (record { lines = []; text = c ∷ bytes })) names
    ∙ ap (naming position) (inside_is above (length bytes - length rest) bytes ∙ ap (named_in above 0) left)

pub named_none : (above : List Line) (bytes : List ℕ) → names_a_line bytes ≡ false → named_in above 0 bytes ≡ Some (record { lines = []; text = bytes })
named_none above [] names = refl
named_none above (c ∷ bytes) names =
    let rest = behind_word (behind_word (c ∷ bytes)) in
    ap (λ b. if b then naming (named_by above (first_word (behind_word (c ∷ bytes)))) (named_in above (length bytes - length rest) bytes) else Some (record { lines = []; text = c ∷ bytes })) names

-- What stands behind a name is shorter.
pub behind_shorter : (bytes : List ℕ) → names_a_line bytes ≡ true → length (behind_word (behind_word bytes)) < length bytes
behind_shorter [] names = absurd (false≢true names)
behind_shorter (c ∷ bytes) names =
    let behind = behind_two c bytes names in
    omega (arith, ap length behind.is, length-drop (suc behind.over) (c ∷ bytes))

before_one : (lines : List ℕ) (position : ℕ) (found : Option Named) → named_before lines (naming (Some position) found) ≡ named_before (lines ++ position ∷ []) found
before_one lines position None = refl
before_one lines position (Some named) = let e = append_assoc lines (position ∷ []) named.lines in (λ i. Some (record { lines = sym e i; text = named.text }))

module _ (above : List Line) (lines rest line : List ℕ) (so_far : named_before lines (named_in above 0 rest) ≡ named_in above 0 line) where
  pub named_more : (position : ℕ) → names_a_line rest ≡ true → named_by above (first_word (behind_word rest)) ≡ Some position
      → named_before (lines ++ position ∷ []) (named_in above 0 (behind_word (behind_word rest))) ≡ named_in above 0 line
  named_more position names is =
      sym (before_one lines position (named_in above 0 (behind_word (behind_word rest))))
      ∙ ap (λ p. named_before lines (naming p (named_in above 0 (behind_word (behind_word rest))))) (sym is)
      ∙ ap (named_before lines) (sym (named_one above rest names))
      ∙ so_far

  pub named_bad : names_a_line rest ≡ true → named_by above (first_word (behind_word rest)) ≡ None → None ≡ named_in above 0 line
  named_bad names is =
      ap (λ p. named_before lines (naming p (named_in above 0 (behind_word (behind_word rest))))) (sym is)
      ∙ ap (named_before lines) (sym (named_one above rest names))
      ∙ so_far

  pub named_end : names_a_line rest ≡ false → Some (record { lines = lines; text = rest }) ≡ named_in above 0 line
  named_end names =
      (λ i. Some (record { lines = sym (append-nil lines) i; text = rest }))
      ∙ ap (named_before lines) (sym (named_none above rest names))
      ∙ so_far

-- ---- the lines that are named stand above
above_within : (above : List Line) (session place : Option ℕ) (k : ℕ) → line_above above session place ≡ Some k → k < length above
above_within above None place k e = absurd (cc)
above_within above (Some session) None k e = absurd (cc)
above_within above (Some session) (Some place) k e = line_within session above (place - 1) k e

abbrev AllAbove : List Line → List ℕ → Type 0
AllAbove above list = All (λ k. k < length above) list

naming_within : (above : List Line) (position : Option ℕ) (found : Option Named) (named : Named) → ((k : ℕ) → position ≡ Some k → k < length above) → ((m : Named) → found ≡ Some m → AllAbove above m.lines)
    → naming position found ≡ Some named → AllAbove above named.lines
naming_within above None found named one rest e = absurd (cc)
naming_within above (Some position) None named one rest e = absurd (cc)
naming_within above (Some position) (Some more) named one rest e =
    let same : position ∷ more.lines ≡ named.lines = ap (λ (n : Named). n.lines) (same_Some _ named e) in
    subst (AllAbove above) same (All-cons (λ k. k < length above) position more.lines (one position refl) (rest more refl))

pub named_within : (above : List Line) (inside : ℕ) (bytes : List ℕ) (named : Named) → named_in above inside bytes ≡ Some named → AllAbove above named.lines
named_within above inside [] named e =
    let same : [] ≡ named.lines = ap (λ (n : Named). n.lines) (same_Some _ named e) in
    subst (AllAbove above) same (All-nil (λ k. k < length above))
named_within above (suc inside) (c ∷ bytes) named e = named_within above inside bytes named e
named_within above zero (c ∷ bytes) named e =
    let rest = behind_word (behind_word (c ∷ bytes)) in
    let word = first_word (behind_word (c ∷ bytes)) in
    elim (names_a_line (c ∷ bytes)) as (λ b. (if b then naming (named_by above word) (named_in above (length bytes - length rest) bytes) else Some (record { lines = []; text = c ∷ bytes })) ≡ Some named → AllAbove above named.lines) [
      | true ↦ naming_within above (named_by above word) (named_in above (length bytes - length rest) bytes) named
          (above_within above (session_of (take_while is_before_point word)) (place_of (drop 1 (past is_before_point word))))
          (λ m f. named_within above (length bytes - length rest) bytes m f)
      | false ↦ λ f.
          let same : [] ≡ named.lines = ap (λ (n : Named). n.lines) (same_Some _ named f) in
          subst (AllAbove above) same (All-nil (λ k. k < length above))
    ] e
