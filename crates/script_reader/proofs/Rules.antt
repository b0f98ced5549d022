-- What a reader makes of bytes keeps the rules of a script.
use Rattle.std.proofs.Common.{◌≡◌, ℕ, zero, suc, ◌<◌, ◌≤◌, Bool, true, false, cond, ◌⊎◌, inl, inr, List, [], ◌∷◌, ◌++◌, length, take, Option, Some, None, not, arith, refl, ap, sym, ◌∙◌, subst, ⊎_elim}
use Rattle.std.specs.Prelude.{◌||◌, ◌↔◌, nat_lt, slice_get}
use Rattle.std.specs.List.{All, list_all}
use Rattle.std.specs.Str.{is_utf8}
use Rattle.std.proofs.lemmas.Bool.{ltb-false}
use Rattle.std.proofs.lemmas.List.{take-append-le, take_all}
use Rattle.script_reader.specs.Pieces.{Said, nothing, statement, bad, said, said_alone, with_names, stated, named_in, spoken, session_of, is_blank, is_remark, statement_in, past, is_gap, most_lines, most_line_bytes, first_word, behind_word}
use Rattle.script_reader.specs.Reader.{line_behind}
use Rattle.script_reader.specs.Script.{IsScript}
use Rattle.script_reader.specs.Sessions.{IsSession}
use Rattle.script_reader.proofs.Behind.{placed_behind, follows_behind}
use Rattle.script_reader.proofs.Naming.{named_within}
use Rattle.script_reader.proofs.Numbers.{session_known, session_written}
use Rattle.script_reader.specs.declared.line.Line.{Line}
use Rattle.script_reader.specs.declared.named.Named.{Named}
use Rattle.script_reader.specs.declared.why.Why.TheVariants.{Lines, Long, Utf8}

-- ---- what holds of a piece that says a statement
spoken_known : (found : Option ℕ) (rest : List ℕ) (session : ℕ) (named text : List ℕ) → spoken found rest ≡ statement session named text → found ≡ Some session
spoken_known None rest session named text h = absurd (cc)
spoken_known (Some one) rest session named text h = let same : one ≡ session = cc in ap Some same

chosen : (many long utf8 quiet : Bool) (other : Said) (session : ℕ) (named text : List ℕ) → cond many (bad Lines) (cond long (bad Long) (cond (not utf8) (bad Utf8) (cond quiet nothing other))) ≡ statement session named text
    → (many ≡ false) × (other ≡ statement session named text)
chosen true long utf8 quiet other session named text h = absurd (cc)
chosen false true utf8 quiet other session named text h = absurd (cc)
chosen false false false quiet other session named text h = absurd (cc)
chosen false false true true other session named text h = absurd (cc)
chosen false false true false other session named text h = (refl, h)

pub alone_known : (number : ℕ) (piece : List ℕ) (session : ℕ) (named rest : List ℕ) → said_alone number piece ≡ statement session named rest → IsSession session × (number ≤ most_lines)
alone_known number piece session named rest h =
    let bytes = past is_gap piece in
    let is = chosen (nat_lt most_lines number) (nat_lt most_line_bytes (length piece)) (is_utf8 piece) (list_all is_blank piece || is_remark piece) (statement_in bytes) session named rest h in
    let found = spoken_known (session_of (first_word bytes)) (behind_word bytes) session named rest is.1 in
    (session_known (first_word bytes) session found, omega (arith, ltb-false most_lines number is.0))

-- The session is one that there is, the number is not too large, and the lines that are named stand above.
pub record IsKnown (number : ℕ) (above : List Line) (session : ℕ) (named : List ℕ) : Type 0 where
  pub known : IsSession session
  pub small : number ≤ most_lines
  pub stand : All (λ k. k < length above) named

named_known : (above : List Line) (one session : ℕ) (found : Option Named) (named text : List ℕ) → ((m : Named) → found ≡ Some m → All (λ k. k < length above) m.lines) → stated one found ≡ statement session named text
    → (one ≡ session) × All (λ k. k < length above) named
named_known above one session None named text rest h = absurd (cc)
named_known above one session (Some m) named text rest h =
    let same : one ≡ session = cc in
    let names : m.lines ≡ named = cc in
    let P : List ℕ → Type 0 = λ list. All (λ k. k < length above) list in
    (same, subst P names (rest m refl))

pub said_known : (number : ℕ) (above : List Line) (piece : List ℕ) (session : ℕ) (named text : List ℕ) → said number above piece ≡ statement session named text → IsKnown number above session named
said_known number above piece session named text h = by (said_alone number piece) refl h where
  by : (s : Said) → said_alone number piece ≡ s → with_names above s ≡ statement session named text → IsKnown number above session named
  by nothing e said-is = absurd (cc)
  by (bad reason) e said-is = absurd (cc)
  by (statement one none rest) e said-is =
      let alone = alone_known number piece one none rest e in
      let names = named_known above one session (named_in above 0 rest) named text (λ m f. named_within above 0 rest m f) said-is in
      record { known = subst IsSession names.0 alone.0; small = alone.1; stand = names.1 }

-- ---- the sessions are those whose numbers can be written
pub sessions_written : (session : ℕ) → IsSession session ↔ ((word : List ℕ) × (session_of word ≡ Some session))
sessions_written session = (session_written session, λ w. session_known w.0 session w.1)

-- ---- one more line
get_push : {A : Type 0} (xs : List A) (y x : A) (k : ℕ) → slice_get (xs ++ y ∷ []) k ≡ Some x → ((k < length xs) × (slice_get xs k ≡ Some x)) ⊎ ((k ≡ length xs) × (x ≡ y))
get_push [] y x zero h = inr (refl, cc)
get_push [] y x (suc k) h = absurd (cc)
get_push (z ∷ xs) y x zero h = inl (omega arith, h)
get_push (z ∷ xs) y x (suc k) h = ⊎_elim (λ before. inl (omega arith, before.1)) (λ last. inr (ap suc last.0, last.1)) (get_push xs y x k h)

-- ---- the lines that a reader makes
-- Each line is the one that its statement makes behind those before it, by a session that there is, and names lines above it.
pub record Keeps (lines : List Line) : Type 0 where
  pub behind : (k : ℕ) (line : Line) → slice_get lines k ≡ Some line → (named : List ℕ) × (line ≡ line_behind (take k lines) line.session named line.text)
  pub known : (k : ℕ) (line : Line) → slice_get lines k ≡ Some line → IsSession line.session

pub Keeps-nil : Keeps []
Keeps-nil = record { behind = λ k line h. absurd (cc); known = λ k line h. absurd (cc) }

abbrev IsMade : List Line → Line → Type 0
IsMade before line = (named : List ℕ) × (line ≡ line_behind before line.session named line.text)

pub Keeps_push : (lines : List Line) (session : ℕ) (named text : List ℕ) → Keeps lines → IsSession session → Keeps (lines ++ line_behind lines session named text ∷ [])
Keeps_push lines session named text keeps known =
    let new = line_behind lines session named text in
    record {
      behind = λ k line h. ⊎_elim
          (λ before. subst (λ ls. IsMade ls line) (sym (take-append-le k lines (new ∷ []) (omega arith))) (keeps.behind k line before.1))
          (λ last.
          let front : take k (lines ++ new ∷ []) ≡ lines = take-append-le k lines (new ∷ []) (omega arith) ∙ take_all k lines (omega arith) in
          subst (λ ls. IsMade ls line) (sym front) (subst (λ (l : Line). IsMade lines l) (sym last.1) (named, refl)))
          (get_push lines new line k h);
      known = λ k line h. ⊎_elim
          (λ before. keeps.known k line before.1)
          (λ last. subst (λ (l : Line). IsSession l.session) (sym last.1) known)
          (get_push lines new line k h);
    }

-- Such lines, if there are not too many, are a script's.
pub IsScript-from_Keeps : (lines : List Line) → Keeps lines → length lines ≤ most_lines → IsScript lines
IsScript-from_Keeps lines keeps few = record {
  known = keeps.known;
  placed = λ at line stands. let made = keeps.behind at line stands in placed_behind lines at line stands made.0 made.1;
  following = λ at line stands. let made = keeps.behind at line stands in follows_behind lines at line stands made.0 made.1;
  few = few;
}
