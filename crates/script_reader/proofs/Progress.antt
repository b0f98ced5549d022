-- Piece by piece, what is left decides as all of them did.
use Rattle.std.proofs.Common.{◌≡◌, ℕ, ◌+◌, ◌<◌, ◌≤◌, inl, inr, List, [], ◌∷◌, ◌++◌, length, drop, Some, None, Result, Ok, Err, get_or, arith, refl, ap, sym, ◌∙◌, ⊎_elim}
use Rattle.std.specs.List.{slice_split}
use Rattle.std.proofs.lemmas.List.{at_drop_more, at_drop_all, length_push}
use Rattle.std.proofs.lemmas.Bool.{cases_lt, lt-ltb, le-ltb}
use Rattle.std.proofs.lemmas.Str.{IsUtf8-nil}
use Rattle.script_reader.specs.Pieces.{Said, nothing, statement, bad, said, said_alone, with_names, stated, named_in, pieces_of, is_line_feed, most_lines}
use Rattle.script_reader.specs.Reader.{script_of, read_from, line_behind}
use Rattle.script_reader.specs.Script.{most_script_bytes}
use Rattle.script_reader.specs.Told.{IsWithoutEnd}
use Rattle.script_reader.specs.declared.line.Line.{Line}
use Rattle.script_reader.specs.declared.named.Named.{Named}
use Rattle.script_reader.specs.declared.script_fault.ScriptFault.{ScriptFault}
use Rattle.script_reader.specs.declared.why.Why.{Why}
use Rattle.script_reader.specs.declared.why.Why.TheVariants.{Size, Lines, After}
use Rattle.script_reader.proofs.Ends.{dropped_end, kept_end}
use Rattle.script_reader.proofs.Saying.{said_lines, said_nothing, said_whole}

-- What the pieces behind one come to, from what that one says.
abbrev pub read_behind : ℕ → List Line → List (List ℕ) → Said → Result (List Line) ScriptFault
read_behind number above pieces nothing = read_from (number + 1) above pieces
read_behind number above pieces (statement session named text) = read_from (number + 1) (above ++ line_behind above session named text ∷ []) pieces
read_behind number above pieces (bad reason) = Err (record { line = number; why = reason })

pub read_one : (number : ℕ) (above : List Line) (piece : List ℕ) (pieces : List (List ℕ)) {next : Said} → said number above piece ≡ next → read_from number above (piece ∷ pieces) ≡ read_behind number above pieces next
read_one number above piece pieces e = by (said number above piece) ∙ ap (read_behind number above pieces) e where
  by : (s : Said) → elim s [ nothing ↦ read_from (number + 1) above pieces | statement session named text ↦ read_from (number + 1) (above ++ line_behind above session named text ∷ []) pieces | bad reason ↦ Err (record { line = number; why = reason }) ]
      ≡ read_behind number above pieces s
  by nothing = refl
  by (statement session named text) = refl
  by (bad reason) = refl

-- So many pieces are read, and these are the lines that they made.
pub record IsReading (pieces : List (List ℕ)) (read number : ℕ) (draft : List Line) : Type 0 where
  pub numbered : number ≡ read
  pub few : length draft ≤ number
  pub within : number ≤ most_lines
  pub rest : read_from (number + 1) draft (drop read pieces) ≡ read_from 1 [] pieces

pub reading_starts : (pieces : List (List ℕ)) (draft : List Line) → draft ≡ [] → IsReading pieces 0 0 draft
reading_starts pieces draft none = record {
  numbered = refl;
  few = omega (arith, ap length none);
  within = omega arith;
  rest = ap (λ lines. read_from 1 lines pieces) none;
}

module _ (pieces : List (List ℕ)) (read number : ℕ) (draft : List Line) (reading : IsReading pieces read number draft) (piece : List ℕ) (within : read < length pieces) (is : piece ≡ get_or pieces read piece) where
  left : drop read pieces ≡ piece ∷ drop (read + 1) pieces
  left = at_drop_more (λ ps. ps) pieces read piece within ∙ ap (λ p. p ∷ drop (read + 1) pieces) (sym is)

  rest_from : {next : Said} → said (number + 1) draft piece ≡ next → read_behind (number + 1) draft (drop (read + 1) pieces) next ≡ read_from 1 [] pieces
  rest_from e = sym (read_one (number + 1) draft piece (drop (read + 1) pieces) e) ∙ ap (λ ps. read_from (number + 1) draft ps) (sym left) ∙ reading.rest

  -- A piece that is no fault for its number is one of those that there may be.
  number_within : (said_alone (number + 1) piece ≡ bad Lines → ⊥) → number + 1 ≤ most_lines
  number_within fine = ⊎_elim
      (λ many. absurd (fine (said_lines (number + 1) piece many)))
      (λ few. few)
      (cases_lt most_lines (number + 1))

  pub IsReading-nothing : said_alone (number + 1) piece ≡ nothing → IsReading pieces (read + 1) (number + 1) draft
  IsReading-nothing e = record {
    numbered = ap (λ n. n + 1) reading.numbered;
    few = omega (arith, reading.few);
    within = number_within (λ many. let same = sym e ∙ many in absurd (cc));
    rest = rest_from (ap (with_names draft) e);
  }

  pub IsReading-statement : (session : ℕ) (rest : List ℕ) (named : Named) (more : List Line) → said_alone (number + 1) piece ≡ statement session [] rest → named_in draft 0 rest ≡ Some named
      → more ≡ draft ++ line_behind draft session named.lines named.text ∷ [] → IsReading pieces (read + 1) (number + 1) more
  IsReading-statement session rest named more e names pushed =
      record {
        numbered = ap (λ n. n + 1) reading.numbered;
        few = omega (arith, reading.few, ap length pushed, length_push draft (line_behind draft session named.lines named.text));
        within = number_within (λ many. let same = sym e ∙ many in absurd (cc));
        rest = ap (λ lines. read_from (number + 1 + 1) lines (drop (read + 1) pieces)) pushed ∙ rest_from (ap (with_names draft) e ∙ ap (stated session) names);
      }

  fault_here : (why : Why) → said (number + 1) draft piece ≡ bad why → read_from 1 [] pieces ≡ Err (record { line = number + 1; why = why })
  fault_here why e = sym (rest_from e)

  pub fault_there : (why : Why) → said_alone (number + 1) piece ≡ bad why → read_from 1 [] pieces ≡ Err (record { line = number + 1; why = why })
  fault_there why e = fault_here why (ap (with_names draft) e)

  pub fault_of_name : (session : ℕ) (rest : List ℕ) → said_alone (number + 1) piece ≡ statement session [] rest → named_in draft 0 rest ≡ None → read_from 1 [] pieces ≡ Err (record { line = number + 1; why = After })
  fault_of_name session rest e names = fault_here After (ap (with_names draft) e ∙ ap (stated session) names)

-- At the end, what was made is what all pieces come to.
module _ (pieces : List (List ℕ)) (read number : ℕ) (draft : List Line) (reading : IsReading pieces read number draft) (all : read ≡ length pieces) where
  none_left : drop read pieces ≡ []
  none_left = at_drop_all (λ ps. ps) pieces read (omega arith)

  pub all_read : read_from 1 [] pieces ≡ Ok draft
  all_read = sym reading.rest ∙ ap (λ ps. read_from (number + 1) draft ps) none_left

-- No bytes come to no line.
empty_read : read_from 1 [] ([] ∷ []) ≡ Ok []
empty_read = read_one 1 [] [] [] (ap (with_names []) (said_whole 1 [] (omega arith) (omega arith) ∙ said_nothing [] IsUtf8-nil refl))

-- The pieces are those of the bytes without a line feed that ends them.
same_read : (bytes body : List ℕ) → IsWithoutEnd bytes body → read_from 1 [] (pieces_of bytes) ≡ read_from 1 [] (slice_split is_line_feed body)
same_read bytes body (inl e) = ap (λ bs. read_from 1 [] (pieces_of bs)) e ∙ ap (λ ps. read_from 1 [] ps) (dropped_end body)
same_read bytes body (inr h) = by bytes h.1 ∙ ap (λ bs. read_from 1 [] (slice_split is_line_feed bs)) (sym h.0) where
  by : (bytes : List ℕ) → ((front : List ℕ) → bytes ≡ front ++ 10 ∷ [] → ⊥) → read_from 1 [] (pieces_of bytes) ≡ read_from 1 [] (slice_split is_line_feed bytes)
  by [] none = sym empty_read
  by (x ∷ more) none = ap (λ ps. read_from 1 [] ps) (kept_end x more none)

-- Too many bytes.
pub script_of_long : (bytes : List ℕ) → most_script_bytes < length bytes → script_of bytes ≡ Err (record { line = 0; why = Size })
script_of_long bytes long = let e = lt-ltb most_script_bytes (length bytes) long in rw e refl

-- A script is short enough.
pub short_if_good : (bytes : List ℕ) (lines : List Line) → script_of bytes ≡ Ok lines → length bytes ≤ most_script_bytes
short_if_good bytes lines good = ⊎_elim
    (λ long. let bad = script_of_long bytes long in absurd (cc))
    (λ short. short)
    (cases_lt most_script_bytes (length bytes))

-- Bytes that are not too many come to what their pieces do.
pub script_of_split : (bytes body : List ℕ) → IsWithoutEnd bytes body → length bytes ≤ most_script_bytes → script_of bytes ≡ read_from 1 [] (slice_split is_line_feed body)
script_of_split bytes body without short =
    let e = le-ltb most_script_bytes (length bytes) short in
    rw (e, same_read bytes body without) refl
