-- How a run ends: in its printing or in the line of a refusal, written whole or broken off.
use Rattle.std.proofs.Common.{◌≡◌, ℕ, ◌<◌, List, [], ◌++◌, length, ltb, true, Option, Some, None, Result, Ok, Err, ◌⊎◌, inl, inr, ⊎_elim, refl, sym, ap, ◌∙◌, subst, arith}
use Rattle.std.proofs.lemmas.Bool.{lt-ltb}
use Rattle.std.proofs.lemmas.List.{append-nil, length-append}
use Rattle.std.specs.Result.{IfOk, IsOkAnd}
use Rattle.std.specs.declared.alloc.AllocError.{AllocError}
use Rattle.sinew_io.specs.Count.{HasCause, Rose}
use Rattle.sinew_io.specs.Whole.{WritesAll, IsFailure}
use Rattle.sinew_io.specs.declared.written.Written.{Written}
use Rattle.sinew_io.specs.declared.written.Written.TheVariants as written
use Rattle.script_reader.specs.Reader.{script_of}
use Rattle.script_reader.specs.Script.{most_script_bytes}
use Rattle.script_reader.specs.declared.line.Line.{Line}
use Rattle.script_reader.specs.declared.script_fault.ScriptFault.{ScriptFault}
use Rattle.script_reader.specs.declared.why.Why as why
use Rattle.commit_core.specs.declared.entry.Entry.{Entry}
use Rattle.sinew_app.specs.Input.{GaveScript, GaveNoScript}
use Rattle.sinew_app.specs.Outcome.{IsDone, IsRefused, IsBroken, in_printing, in_refusal, IsDecided, WasRead}
use Rattle.sinew_app.specs.Printing.{refusal_text}
use Rattle.sinew_app.specs.Status.{status_after}
use Rattle.sinew_app.specs.Sure.{PrintsRun, PrintsRefusal}
use Rattle.sinew_app.specs.Written.{WritesRun}
use Rattle.sinew_app.specs.declared.status.Status.{Status}
use Rattle.sinew_app.specs.declared.status.Status.TheVariants as status_of

pub broken_printing : (r : Result Written AllocError) (left_before left_after taken_before taken_after : Option (List ℕ)) (lines : List Line) (commits : List Entry) (status : Status) →
    status ≡ status_after status_of.Done r → GaveScript left_before left_after lines →
    IfOk r (λ w. WritesRun w taken_before taken_after lines commits) → status ≡ status_of.Write →
    IsBroken left_before left_after taken_before taken_after commits
broken_printing (Ok written.Done) lb la tb ta lines commits status is gave wrote broke = absurd (cc)
broken_printing (Ok (written.Failed n)) lb la tb ta lines commits status is gave wrote broke =
    in_printing gave.input lines wrote.run gave.gave gave.whole
    (record { script = gave.script; serial = wrote.serial; store = wrote.store })
    (n, omega (arith, wrote.wrote.0), wrote.wrote.1)
broken_printing (Err e) lb la tb ta lines commits status is gave wrote broke = absurd (cc)

pub refused : (r : Result Written AllocError) (left_before left_after taken_before taken_after : Option (List ℕ)) (fault : ScriptFault) (commits : List Entry) (status : Status) →
    status ≡ status_after status_of.Script r → GaveNoScript left_before left_after fault →
    IfOk r (λ w. WritesAll w taken_before taken_after (refusal_text fault)) → commits ≡ [] → status ≡ status_of.Script →
    IsRefused left_before left_after taken_before taken_after commits
refused (Ok written.Done) lb la tb ta fault commits status is gave wrote none whole =
    record { input = gave.input; read = gave.read; fault = fault; bad = gave.bad; took = wrote; store = none }
refused (Ok (written.Failed n)) lb la tb ta fault commits status is gave wrote none whole = absurd (cc)
refused (Err e) lb la tb ta fault commits status is gave wrote none whole = absurd (cc)

pub broken_refusal : (r : Result Written AllocError) (left_before left_after taken_before taken_after : Option (List ℕ)) (fault : ScriptFault) (commits : List Entry) (status : Status) →
    status ≡ status_after status_of.Script r → GaveNoScript left_before left_after fault →
    IfOk r (λ w. WritesAll w taken_before taken_after (refusal_text fault)) → commits ≡ [] → status ≡ status_of.Write →
    IsBroken left_before left_after taken_before taken_after commits
broken_refusal (Ok written.Done) lb la tb ta fault commits status is gave wrote none broke = absurd (cc)
broken_refusal (Ok (written.Failed n)) lb la tb ta fault commits status is gave wrote none broke =
    in_refusal gave.input fault gave.read gave.bad (n, omega (arith, wrote.0), wrote.1) none
broken_refusal (Err e) lb la tb ta fault commits status is gave wrote none broke = absurd (cc)

-- The fault of more bytes than a script may have.
abbrev too_long : ScriptFault
too_long = record { line = 0; why = why.TheVariants.Size }

script-long : (input : List ℕ) → most_script_bytes < length input → script_of input ≡ Err too_long
script-long input long =
    let over : ltb most_script_bytes (length input) ≡ true = lt-ltb most_script_bytes (length input) long in
    rw over refl

-- What was read of a source that tells its bytes decides of all of them.
pub all_bad : (text : List ℕ) (left_after : Option (List ℕ)) (fault : ScriptFault) (input : List ℕ) → WasRead (Some text) left_after input →
    script_of input ≡ Err fault → script_of text ≡ Err fault
all_bad text None fault input read bad = absurd read.gave
all_bad text (Some left) fault input read bad =
    ⊎_elim
    (λ none. ap script_of (read.gave ∙ (ap (λ (l : List ℕ). input ++ l) none.1 ∙ append-nil input)) ∙ bad)
    (λ long.
    let fault-is : Err too_long ≡ Err fault = sym (script-long input (omega arith)) ∙ bad in
    script-long text (omega (arith, ap (λ (l : List ℕ). length l) read.gave, length-append input left)) ∙ fault-is)
    read.whole

settled : (r : Result Written AllocError) (before now : ℕ) (status : Status) → status ≡ status_after status_of.Script r →
    HasCause before now (IsOkAnd r IsFailure) → (Rose before now → ⊥) → (status ≡ status_of.Script) ⊎ (status ≡ status_of.Memory)
settled (Ok written.Done) before now status is cause calm = inl is
settled (Ok (written.Failed n)) before now status is cause calm = absurd (calm (cause.failed tt))
settled (Err e) before now status is cause calm = inr is

pub decided : (r : Result Written AllocError) (input : List ℕ) (left_before left_after : Option (List ℕ)) (fault : ScriptFault) (before now : ℕ) (status : Status) →
    status ≡ status_after status_of.Script r → GaveNoScript left_before left_after fault →
    HasCause before now (IsOkAnd r IsFailure) → left_before ≡ Some input → (Rose before now → ⊥) → IsDecided (script_of input) status
decided r input lb la fault before now status is gave cause told calm =
    let read : WasRead (Some input) la gave.input = subst (λ (l : Option (List ℕ)). WasRead l la gave.input) told gave.read in
    subst (λ (s : Result (List Line) ScriptFault). IsDecided s status) (sym (all_bad input la fault gave.input read gave.bad)) (settled r before now status is cause calm)

-- Over devices that cannot fail the text itself is what was read.
pub prints_run : (text left : List ℕ) (taken_before taken_after : Option (List ℕ)) (commits : List Entry) →
    IsDone (Some text) (Some left) taken_before taken_after commits → PrintsRun text left taken_before taken_after commits
prints_run text left tb ta commits done =
    let text-is : text ≡ done.input = done.gave ∙ (ap (λ (l : List ℕ). done.input ++ l) done.whole ∙ append-nil done.input) in
    record {
      whole = done.whole;
      lines = done.lines;
      run = done.run;
      ran = record { script = ap script_of text-is ∙ done.ran.script; serial = done.ran.serial; store = done.ran.store };
      took = done.took;
    }

pub prints_refusal : (text left : List ℕ) (taken_before taken_after : Option (List ℕ)) (commits : List Entry) →
    IsRefused (Some text) (Some left) taken_before taken_after commits → PrintsRefusal text left taken_before taken_after commits
prints_refusal text left tb ta commits refused =
    record {
      input = refused.input;
      read = refused.read;
      fault = refused.fault;
      bad = all_bad text (Some left) refused.fault refused.input refused.read refused.bad;
      took = refused.took;
      store = refused.store;
    }

pub never_rose : Rose 0 0 → ⊥
never_rose rose = absurd (omega arith)
