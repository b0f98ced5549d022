-- The function from bytes to their script or fault, and the relations, are one.
use Rattle.std.proofs.Common.{◌≡◌, ℕ, suc, ◌+◌, ◌<◌, ◌≤◌, Bool, true, false, List, [], ◌∷◌, ◌++◌, length, take, Result, Ok, Err, arith, refl, ap, sym, ◌∙◌, subst, append-nil, append_assoc}
use Rattle.std.specs.Prelude.{◌↔◌, count_by, nat_lt}
use Rattle.std.proofs.lemmas.Bool.{ltb-true, ltb-false, eq-eqb}
use Rattle.std.proofs.lemmas.List.{take-append-le, take_all, length_push, length-append}
use Rattle.std.proofs.lemmas.List.Sums.{count_by_more_yes}
use Rattle.std.proofs.lemmas.Option.{get_or_from_slice_get}
use Rattle.script_reader.specs.Pieces.{nothing, statement, bad, said, pieces_of, most_lines}
use Rattle.script_reader.specs.Reader.{script_of, read_from, line_behind}
use Rattle.script_reader.specs.Script.{most_script_bytes, IsScript, Follows, MakeLines, none_left, no_line, one_line, IsScriptOf, HasFault, too_many, bad_piece}
use Rattle.script_reader.specs.Sessions.{is_said_by}
use Rattle.script_reader.specs.declared.line.Line.{Line}
use Rattle.script_reader.specs.declared.script_fault.ScriptFault.{ScriptFault}
use Rattle.script_reader.specs.declared.why.Why as why
use Rattle.script_reader.proofs.Behind.{behind_follows, is_behind}
use Rattle.script_reader.proofs.Lasts.{at_length}
use Rattle.script_reader.proofs.Progress.{read_one, script_of_long, short_if_good}
use Rattle.script_reader.proofs.Rules.{Keeps, Keeps-nil, Keeps_push, said_known, IsScript-from_Keeps}

-- ---- what is read is made
-- There are fewer lines than the number of the next piece, and no more than there may be.
record AreFew (number : ℕ) (lines : List Line) : Type 0 where
  below : length lines < number
  few : length lines ≤ most_lines

few_next : (number : ℕ) (lines : List Line) → AreFew number lines → AreFew (number + 1) lines
few_next number lines few = record { below = omega (arith, few.below); few = few.few }

few_more : (number : ℕ) (lines : List Line) (line : Line) → AreFew number lines → number ≤ most_lines → AreFew (number + 1) (lines ++ line ∷ [])
few_more number lines line few within = record {
  below = omega (arith, few.below, length_push lines line);
  few = omega (arith, few.below, within, length_push lines line);
}

-- The lines are those above, and more that the pieces make; and they keep the rules.
record Made (number : ℕ) (above : List Line) (pieces : List (List ℕ)) (lines : List Line) : Type 0 where
  more : List Line
  is : lines ≡ above ++ more
  makes : MakeLines number above pieces more
  keeps : Keeps lines
  few : length lines ≤ most_lines

made : (number : ℕ) (above : List Line) (pieces : List (List ℕ)) (lines : List Line) → Keeps above → AreFew number above → read_from number above pieces ≡ Ok lines → Made number above pieces lines
made number above [] lines keeps few read =
    let same : above ≡ lines = cc in
    subst (Made number above []) same (record { more = []; is = sym (append-nil above); makes = none_left; keeps = keeps; few = few.few })
made number above (piece ∷ pieces) lines keeps few read =
    elim (said number above piece) as (λ s. said number above piece ≡ s → Made number above (piece ∷ pieces) lines) [
      | nothing ↦ λ says. quiet says (made (number + 1) above pieces lines keeps (few_next number above few) (sym (read_one number above piece pieces says) ∙ read))
      | statement session named text ↦ λ says.
          let known = said_known number above piece session named text says in
          loud session named text says
          (made (number + 1) (above ++ line_behind above session named text ∷ []) pieces lines (Keeps_push above session named text keeps known.known)
          (few_more number above (line_behind above session named text) few known.small) (sym (read_one number above piece pieces says) ∙ read))
      | bad reason ↦ λ says. let e = sym (read_one number above piece pieces says) ∙ read in absurd (cc)
    ] refl
  where
    quiet : said number above piece ≡ nothing → Made (number + 1) above pieces lines → Made number above (piece ∷ pieces) lines
    quiet says m = record { more = m.more; is = m.is; makes = no_line says m.makes; keeps = m.keeps; few = m.few }

    loud : (session : ℕ) (named text : List ℕ) → said number above piece ≡ statement session named text → Made (number + 1) (above ++ line_behind above session named text ∷ []) pieces lines → Made number above (piece ∷ pieces) lines
    loud session named text says m =
        let new = line_behind above session named text in
        let known = said_known number above piece session named text says in
        record {
          more = new ∷ m.more;
          is = m.is ∙ append_assoc above (new ∷ []) m.more;
          makes = one_line says (behind_follows above session named text known.stand) m.makes;
          keeps = m.keeps;
          few = m.few;
        }

-- The first bad piece, and the lines that the pieces in front of it make.
record Stops (number : ℕ) (above : List Line) (pieces : List (List ℕ)) (fault : ScriptFault) : Type 0 where
  front : List (List ℕ)
  behind : List (List ℕ)
  piece : List ℕ
  more : List Line
  is : pieces ≡ front ++ piece ∷ behind
  makes : MakeLines number above front more
  keeps : Keeps (above ++ more)
  few : length (above ++ more) ≤ most_lines
  says : said (number + length front) (above ++ more) piece ≡ bad fault.why
  numbered : fault.line ≡ number + length front

stops : (number : ℕ) (above : List Line) (pieces : List (List ℕ)) (fault : ScriptFault) → Keeps above → AreFew number above → read_from number above pieces ≡ Err fault → Stops number above pieces fault
stops number above [] fault keeps few read = absurd (cc)
stops number above (piece ∷ pieces) fault keeps few read =
    elim (said number above piece) as (λ s. said number above piece ≡ s → Stops number above (piece ∷ pieces) fault) [
      | nothing ↦ λ says. quiet says (stops (number + 1) above pieces fault keeps (few_next number above few) (sym (read_one number above piece pieces says) ∙ read))
      | statement session named text ↦ λ says.
          let known = said_known number above piece session named text says in
          loud session named text says
          (stops (number + 1) (above ++ line_behind above session named text ∷ []) pieces fault (Keeps_push above session named text keeps known.known)
          (few_more number above (line_behind above session named text) few known.small) (sym (read_one number above piece pieces says) ∙ read))
      | bad reason ↦ λ says. here reason says (sym (read_one number above piece pieces says) ∙ read)
    ] refl
  where
    quiet : said number above piece ≡ nothing → Stops (number + 1) above pieces fault → Stops number above (piece ∷ pieces) fault
    quiet says s =
        let numbers : number + 1 + length s.front ≡ number + length (piece ∷ s.front) = omega arith in
        record {
          front = piece ∷ s.front;
          behind = s.behind;
          piece = s.piece;
          more = s.more;
          is = ap (λ ps. piece ∷ ps) s.is;
          makes = no_line says s.makes;
          keeps = s.keeps;
          few = s.few;
          says = subst (λ n. said n (above ++ s.more) s.piece ≡ bad fault.why) numbers s.says;
          numbered = omega (arith, s.numbered);
        }

    loud : (session : ℕ) (named text : List ℕ) → said number above piece ≡ statement session named text → Stops (number + 1) (above ++ line_behind above session named text ∷ []) pieces fault → Stops number above (piece ∷ pieces) fault
    loud session named text says s =
        let new = line_behind above session named text in
        let known = said_known number above piece session named text says in
        let regroup : (above ++ new ∷ []) ++ s.more ≡ above ++ new ∷ s.more = append_assoc above (new ∷ []) s.more in
        let numbers : number + 1 + length s.front ≡ number + length (piece ∷ s.front) = omega arith in
        record {
          front = piece ∷ s.front;
          behind = s.behind;
          piece = s.piece;
          more = new ∷ s.more;
          is = ap (λ ps. piece ∷ ps) s.is;
          makes = one_line says (behind_follows above session named text known.stand) s.makes;
          keeps = subst Keeps regroup s.keeps;
          few = omega (arith, s.few, ap length regroup);
          says = subst (λ n. said n (above ++ new ∷ s.more) s.piece ≡ bad fault.why) numbers (subst (λ ls. said (number + 1 + length s.front) ls s.piece ≡ bad fault.why) regroup s.says);
          numbered = omega (arith, s.numbered);
        }

    here : (reason : why.Why) → said number above piece ≡ bad reason → ◌≡◌ {A = Result (List Line) ScriptFault} (Err (record { line = number; why = reason })) (Err fault) → Stops number above (piece ∷ pieces) fault
    here reason says e =
        let same : record { line = number; why = reason } ≡ fault = cc in
        subst (λ (f : ScriptFault). Stops number above (piece ∷ pieces) f) same
        (record {
          front = [];
          behind = pieces;
          piece = piece;
          more = [];
          is = refl;
          makes = none_left;
          keeps = subst Keeps (sym (append-nil above)) keeps;
          few = omega (arith, few.few, ap length (append-nil above));
          says = subst (λ ls. said (number + 0) ls piece ≡ bad reason) (sym (append-nil above)) (at_zero reason says);
          numbered = omega arith;
        })
      where
        at_zero : (reason : why.Why) → said number above piece ≡ bad reason → said (number + 0) above piece ≡ bad reason
        at_zero reason says = let e : number + 0 ≡ number = omega arith in ap (λ n. said n above piece) e ∙ says

-- ---- what is made is read
-- A line that keeps the rules behind others, and follows exactly those that it has to, is the one that its statement makes.
next_line : (before : List Line) (line : Line) (more : List Line) (named : List ℕ) → IsScript (before ++ line ∷ more) → Follows before named line → line ≡ line_behind before line.session named line.text
next_line before line more named rules follows =
    let lines = before ++ line ∷ more in
    let at = at_length before line more in
    let own = is_said_by line.session in
    let front : take (length before) lines ≡ before = take-append-le (length before) before (line ∷ more) (omega arith) ∙ take_all (length before) before (omega arith) in
    let within : length before < length lines = omega (arith, length-append before (line ∷ more)) in
    let itself : count_by own (take (length before + 1) lines) ≡ count_by own (take (length before) lines) + 1 =
    count_by_more_yes own lines (length before) line within (ap own (get_or_from_slice_get lines (length before) line line at) ∙ eq-eqb line.session line.session refl) in
    let place = rules.placed (length before) line at ∙ itself ∙ ap (λ ls. count_by own ls + 1) front in
    let rule = rules.following (length before) line at in
    is_behind before line named place follows rule.above rule.ascending

read_past : {number : ℕ} {above : List Line} {front : List (List ℕ)} {more : List Line} → MakeLines number above front more → (pieces : List (List ℕ)) → IsScript (above ++ more)
    → read_from number above (front ++ pieces) ≡ read_from (number + length front) (above ++ more) pieces
read_past {number} {above} none_left pieces rules =
    let e : number ≡ number + 0 = omega arith in
    ap (λ n. read_from n above pieces) e ∙ ap (λ ls. read_from (number + 0) ls pieces) (sym (append-nil above))
read_past {number} {above} (no_line {lines = more} {piece = piece} {pieces = rest} says makes) pieces rules =
    let e : number + 1 + length rest ≡ number + suc (length rest) = omega arith in
    read_one number above piece (rest ++ pieces) says ∙ read_past makes pieces rules ∙ ap (λ n. read_from n (above ++ more) pieces) e
read_past {number} {above} (one_line {lines = more} {piece = piece} {named = named} {pieces = rest} {line = line} says follows makes) pieces rules =
    let e : number + 1 + length rest ≡ number + suc (length rest) = omega arith in
    let regroup : (above ++ line ∷ []) ++ more ≡ above ++ line ∷ more = append_assoc above (line ∷ []) more in
    read_one number above piece (rest ++ pieces) says
    ∙ ap (λ l. read_from (number + 1) (above ++ l ∷ []) (rest ++ pieces)) (sym (next_line above line more named rules follows))
    ∙ read_past makes pieces (subst IsScript (sym regroup) rules)
    ∙ ap (λ n. read_from n ((above ++ line ∷ []) ++ more) pieces) e
    ∙ ap (λ ls. read_from (number + suc (length rest)) ls pieces) regroup

-- ---- both ways
few_first : AreFew 1 []
few_first = record { below = omega arith; few = omega arith }

-- The bytes are not too many.
short_is : (bytes : List ℕ) → length bytes ≤ most_script_bytes → script_of bytes ≡ read_from 1 [] (pieces_of bytes)
short_is bytes short = by (nat_lt most_script_bytes (length bytes)) refl where
  by : (long : Bool) → nat_lt most_script_bytes (length bytes) ≡ long → script_of bytes ≡ read_from 1 [] (pieces_of bytes)
  by true e = absurd (omega (arith, ltb-true _ _ e))
  by false e = rw e refl

pub read_is_script : (bytes : List ℕ) (lines : List Line) → script_of bytes ≡ Ok lines → IsScriptOf bytes lines
read_is_script bytes lines h =
    let short = short_if_good bytes lines h in
    let m = made 1 [] (pieces_of bytes) lines Keeps-nil few_first (sym (short_is bytes short) ∙ h) in
    record {
      short = short;
      made = subst (λ ls. MakeLines 1 [] (pieces_of bytes) ls) (sym m.is) m.makes;
      keeps = IsScript-from_Keeps lines m.keeps m.few;
    }

pub script_is_read : (bytes : List ℕ) (lines : List Line) → IsScriptOf bytes lines → script_of bytes ≡ Ok lines
script_is_read bytes lines is =
    short_is bytes is.short
    ∙ ap (λ ps. read_from 1 [] ps) (sym (append-nil (pieces_of bytes)))
    ∙ read_past is.made [] is.keeps

pub read_has_fault : (bytes : List ℕ) (fault : ScriptFault) → script_of bytes ≡ Err fault → HasFault bytes fault
read_has_fault bytes fault h = by (nat_lt most_script_bytes (length bytes)) refl where
  by : (long : Bool) → nat_lt most_script_bytes (length bytes) ≡ long → HasFault bytes fault
  by true e =
      let same : record { line = 0; why = why.TheVariants.Size } ≡ fault = same_fault _ _ (sym (script_of_long bytes (ltb-true _ _ e)) ∙ h) in
      subst (λ (f : ScriptFault). HasFault bytes f) same (too_many (ltb-true _ _ e))
    where
      same_fault : (a b : ScriptFault) → ◌≡◌ {A = Result (List Line) ScriptFault} (Err a) (Err b) → a ≡ b
      same_fault a b same = cc
  by false e =
      let short : length bytes ≤ most_script_bytes = omega (arith, ltb-false _ _ e) in
      let s = stops 1 [] (pieces_of bytes) fault Keeps-nil few_first (sym (short_is bytes short) ∙ h) in
      let numbered : length s.front + 1 ≡ fault.line = omega (arith, s.numbered) in
      let at : 1 + length s.front ≡ length s.front + 1 = omega arith in
      subst (λ n. HasFault bytes (record { line = n; why = fault.why })) numbered
      (bad_piece s.front s.behind s.piece s.more fault.why short s.is s.makes (IsScript-from_Keeps s.more s.keeps s.few) (ap (λ n. said n s.more s.piece) (sym at) ∙ s.says))

pub fault_is_read : (bytes : List ℕ) (fault : ScriptFault) → HasFault bytes fault → script_of bytes ≡ Err fault
fault_is_read bytes fault (too_many long) = script_of_long bytes long
fault_is_read bytes fault (bad_piece front behind piece above reason short is makes rules says) =
    let e : 1 + length front ≡ length front + 1 = omega arith in
    short_is bytes short
    ∙ ap (λ ps. read_from 1 [] ps) is
    ∙ read_past makes (piece ∷ behind) rules
    ∙ ap (λ n. read_from n above (piece ∷ behind)) e
    ∙ read_one (length front + 1) above piece behind says

pub script_both_ways : (bytes : List ℕ) (lines : List Line) → (script_of bytes ≡ Ok lines) ↔ IsScriptOf bytes lines
script_both_ways bytes lines = (read_is_script bytes lines, script_is_read bytes lines)

pub fault_both_ways : (bytes : List ℕ) (fault : ScriptFault) → (script_of bytes ≡ Err fault) ↔ HasFault bytes fault
fault_both_ways bytes fault = (read_has_fault bytes fault, fault_is_read bytes fault)

-- The script that bytes are keeps the rules.
pub rules_kept : (bytes : List ℕ) (lines : List Line) → script_of bytes ≡ Ok lines → IsScript lines
rules_kept bytes lines h = (read_is_script bytes lines h).keeps

-- The same, of what pieces come to.
pub rules_of_pieces : (pieces : List (List ℕ)) (lines : List Line) → read_from 1 [] pieces ≡ Ok lines → IsScript lines
rules_of_pieces pieces lines h = let m = made 1 [] pieces lines Keeps-nil few_first h in IsScript-from_Keeps lines m.keeps m.few
