-- What stands in a quoted name.
use Rattle.std.proofs.Common.{◌≡◌, refl, ℕ, Bool, true, List, [], ◌∷◌, ap, subst, inl, inr}
use Rattle.std.specs.Prelude.{not, ◌&&◌}
use Rattle.std.specs.List.{list_all, onto_first, slice_split}
use Rattle.std.proofs.lemmas.Bool.{and_from, and_parts, cases_Bool, eqb-true, false≢true}
use Rattle.std.proofs.lemmas.List.Splits.{slice_split-cons_yes, slice_split-cons_no}
use Rattle.sql_tokens.specs.Forms.{is_dot, is_double_quote, is_segment, is_segment_byte, is_quoted_name}

-- the byte is no double quote
abbrev pub is_other : ℕ → Bool
is_other c = not (is_double_quote c)

abbrev AreBytes : List (List ℕ) → Type 0
AreBytes parts = list_all (list_all is_segment_byte) parts ≡ true

segment-bytes : (part : List ℕ) → is_segment part ≡ true → list_all is_segment_byte part ≡ true
segment-bytes [] h = absurd (false≢true h)
segment-bytes (c ∷ cs) h = h

segments-bytes : (parts : List (List ℕ)) → list_all is_segment parts ≡ true → AreBytes parts
segments-bytes [] h = refl
segments-bytes (part ∷ parts) h =
    let both = and_parts (is_segment part) (list_all is_segment parts) h in
    and_from (list_all is_segment_byte part) (list_all (list_all is_segment_byte) parts) (segment-bytes part both.0) (segments-bytes parts both.1)

first-bytes : (c : ℕ) (parts : List (List ℕ)) → AreBytes (onto_first c parts) → (is_segment_byte c ≡ true) × AreBytes parts
first-bytes c [] h = ((and_parts (is_segment_byte c) true (and_parts (is_segment_byte c && true) true h).0).0, refl)
first-bytes c (part ∷ parts) h =
    let both = and_parts (is_segment_byte c && list_all is_segment_byte part) (list_all (list_all is_segment_byte) parts) h in
    let first = and_parts (is_segment_byte c) (list_all is_segment_byte part) both.0 in
    (first.0, and_from (list_all is_segment_byte part) (list_all (list_all is_segment_byte) parts) first.1 both.1)

bytes-other : (name : List ℕ) → AreBytes (slice_split is_dot name) → list_all is_other name ≡ true
bytes-other [] h = refl
bytes-other (c ∷ cs) h =
    elim (cases_Bool (is_dot c)) [
      | inl dot ↦
          let rest : AreBytes ([] ∷ slice_split is_dot cs) = subst AreBytes (slice_split-cons_yes is_dot c cs dot) h in
          and_from (is_other c) (list_all is_other cs) (ap is_other (eqb-true c 46 dot)) (bytes-other cs rest)
      | inr other ↦
          let parts = first-bytes c (slice_split is_dot cs) (subst AreBytes (slice_split-cons_no is_dot c cs other) h) in
          and_from (is_other c) (list_all is_other cs) (and_parts _ _ parts.0).1 (bytes-other cs parts.1)
    ]

-- no double quote stands in a quoted name
pub name-other : (name : List ℕ) → is_quoted_name name ≡ true → list_all is_other name ≡ true
name-other name h = bytes-other name (segments-bytes (slice_split is_dot name) (and_parts _ _ h).1)
