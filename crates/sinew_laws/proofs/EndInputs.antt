-- What was read of a source that tells its bytes, and what it is: one input, a script or none, with one run.
use Rattle.std.proofs.Common.{◌≡◌, ◌≢◌, ℕ, ◌+◌, ◌≤◌, List, [], ◌∷◌, ◌++◌, length, take, drop, Option, Some, None, Result, Ok, Err, ◌⊎◌, inl, inr, refl, sym, ap, ◌∙◌, subst, arith}
use Rattle.std.proofs.lemmas.List.{append-nil, length-append, length-take-le, append_assoc, take-append-drop}
use Rattle.sinew_io.specs.Told.{Took}
use Rattle.script_reader.specs.Reader.{script_of}
use Rattle.script_reader.specs.Script.{most_script_bytes}
use Rattle.script_reader.specs.declared.line.Line.{Line}
use Rattle.script_reader.specs.declared.script_fault.ScriptFault.{ScriptFault}
use Rattle.commit_core.specs.Commits.{texts_of}
use Rattle.commit_core.specs.declared.entry.Entry.{Entry}
use Rattle.sinew_app.specs.Laws.{HasOneSerialRun}
use Rattle.sinew_app.specs.Outcome.{WasRead, WasRun, TookFront}
use Rattle.sinew_app.specs.Printing.{printing}
use Rattle.sinew_app.specs.Run.{Run, IsSerial, texts_at}
use Rattle.sinew_app.proofs.Ends.{all_bad}
use Rattle.sinew_laws.specs.Ends.{WhereTold, IsFrontOf}

-- ---- what bytes are

pub one_script : (r : Result (List Line) ScriptFault) (a b : List Line) → r ≡ Ok a → r ≡ Ok b → a ≡ b
one_script (Ok lines) a b e f = cc
one_script (Err fault) a b e f = absurd (cc)

pub one_fault : (r : Result (List Line) ScriptFault) (a b : ScriptFault) → r ≡ Err a → r ≡ Err b → a ≡ b
one_fault (Ok lines) a b e f = absurd (cc)
one_fault (Err fault) a b e f = cc

script_or_fault : (r : Result (List Line) ScriptFault) (lines : List Line) (fault : ScriptFault) → r ≡ Ok lines → r ≡ Err fault → ⊥
script_or_fault (Ok lines) a fault e f = absurd (cc)
script_or_fault (Err fault) a b e f = absurd (cc)

-- ---- what was read

-- Where nothing is left all was given.
pub all_given : (left after input : List ℕ) → left ≡ input ++ after → after ≡ [] → left ≡ input
all_given left after input gave none = gave ∙ (ap (λ (rest : List ℕ). input ++ rest) none ∙ append-nil input)

-- Two fronts of one length are one, and so is what is behind them.
pub one_front : (a b x y : List ℕ) → length a ≡ length b → a ++ x ≡ b ++ y → (a ≡ b) × (x ≡ y)
one_front [] [] x y l e = (refl, e)
one_front [] (q ∷ b) x y l e = absurd (omega arith)
one_front (p ∷ a) [] x y l e = absurd (omega arith)
one_front (p ∷ a) (q ∷ b) x y l e =
    let rest = one_front a b x y (omega arith) (cc) in
    (cc, rest.1)

-- One of two readings ended below the limit, the other above it.
cannot : (a b x : List ℕ) → length a ≤ most_script_bytes → length b ≡ most_script_bytes + 1 → a ≡ b ++ x → ⊥
cannot a b x few many e = omega (arith, few, many, ap (λ (l : List ℕ). length l) e, length-append b x)

-- The input has all that there was, within the limit, or is one byte longer than that.
abbrev Ended : List ℕ → List ℕ → Type 0
Ended input after = ((length input ≤ most_script_bytes) × (after ≡ [])) ⊎ (length input ≡ most_script_bytes + 1)

one_input : (left a b x y : List ℕ) → left ≡ a ++ x → left ≡ b ++ y → Ended a x → Ended b y → (a ≡ b) × (x ≡ y)
one_input left a b x y ga gb (inl short) (inl also) = (sym (all_given left x a ga short.1) ∙ all_given left y b gb also.1, short.1 ∙ sym also.1)
one_input left a b x y ga gb (inl short) (inr long) = absurd (cannot a b y short.0 long (sym (all_given left x a ga short.1) ∙ gb))
one_input left a b x y ga gb (inr long) (inl short) = absurd (cannot b a x short.0 long (sym (all_given left y b gb short.1) ∙ ga))
one_input left a b x y ga gb (inr long) (inr also) = one_front a b x y (long ∙ sym also) (sym ga ∙ gb)

-- Two readings of one source read one input and leave the same.
pub one_reading : (left a b x y : List ℕ) → WasRead (Some left) (Some x) a → WasRead (Some left) (Some y) b → (a ≡ b) × (x ≡ y)
one_reading left a b x y ra rb = one_input left a b x y ra.gave rb.gave ra.whole rb.whole

-- A script that was read to its end was not read as bytes that are none.
pub never_both : (left input bytes : List ℕ) (after : Option (List ℕ)) (lines : List Line) (fault : ScriptFault) → left ≡ input →
    script_of input ≡ Ok lines → WasRead (Some left) after bytes → script_of bytes ≡ Err fault → ⊥
never_both left input bytes after lines fault same script read bad =
    script_or_fault (script_of left) lines fault (ap script_of same ∙ script) (all_bad left after fault bytes read bad)

-- ---- what was run and written

-- An input has one run: it prints one text, and its store has one list of texts.
pub runs_alike : ((lines : List Line) → HasOneSerialRun lines) → (input : List ℕ) (la lb : List Line) (ra rb : Run) (one other : List Entry) →
    WasRun input la ra one → WasRun input lb rb other → (printing la ra ≡ printing lb rb) × (texts_of one ≡ texts_of other)
runs_alike law input la lb ra rb one other a b =
    let lines : la ≡ lb = one_script (script_of input) la lb a.script b.script in
    let run : ra ≡ rb = law lb ra rb (subst (λ (ls : List Line). IsSerial ls ra) lines a.serial) b.serial in (
      ap (λ (ls : List Line). printing ls ra) lines ∙ ap (λ (r : Run). printing lb r) run,
      a.store ∙ (ap (λ (ls : List Line). texts_at ls ra.order) lines ∙ (ap (λ (r : Run). texts_at lb r.order) run ∙ sym b.store)),
    )

-- Behind fewer than all bytes of an output there are some.
some_left : (n : ℕ) (output : List ℕ) → n + 1 ≤ length output → drop n output ≢ []
some_left n output few none =
    let parts : length output ≡ length (take n output) + length (drop n output) =
    ap (λ (bytes : List ℕ). length bytes) (sym (take-append-drop n output)) ∙ length-append (take n output) (drop n output) in
    let short : length (take n output) ≡ n = length-take-le n output (omega (arith, few)) in
    let empty : length (drop n output) ≡ 0 = ap (λ (bytes : List ℕ). length bytes) none in
    omega (arith, few, parts, short, empty)

-- What a sink took of a text whose writing broke off is a front of what it takes of the text, and not all of that.
a_front : (before one other output : List ℕ) → TookFront (Some before) (Some one) output → other ≡ before ++ output → IsFrontOf one other
a_front before one other output front whole =
    let n = front.0 in
    let joined : other ≡ (before ++ take n output) ++ drop n output =
    whole ∙ (ap (λ (bytes : List ℕ). before ++ bytes) (sym (take-append-drop n output)) ∙ sym (append_assoc before (take n output) (drop n output))) in
    let behind : other ≡ one ++ drop n output = joined ∙ ap (λ (bytes : List ℕ). bytes ++ drop n output) (sym front.2) in
    (drop n output, behind, some_left n output front.1)

-- A sink that tells its bytes in the end told them before.
pub took_alike : (before one other : Option (List ℕ)) (a b : List ℕ) → a ≡ b → Took before one a → Took before other b → WhereTold (λ x y. x ≡ y) one other
took_alike None (Some one) (Some other) a b same took too = absurd took
took_alike (Some before) (Some one) (Some other) a b same took too = took ∙ (ap (λ (bytes : List ℕ). before ++ bytes) same ∙ sym too)
took_alike before (Some one) None a b same took too = tt
took_alike before None other a b same took too = tt

pub took_front : (before one other : Option (List ℕ)) (output text : List ℕ) → output ≡ text → TookFront before one output → Took before other text → WhereTold IsFrontOf one other
took_front None (Some one) (Some other) output text same front took = absurd took
took_front (Some before) (Some one) (Some other) output text same front took =
    a_front before one other output front (took ∙ ap (λ (bytes : List ℕ). before ++ bytes) (sym same))
took_front before (Some one) None output text same front took = tt
took_front before None other output text same front took = tt
