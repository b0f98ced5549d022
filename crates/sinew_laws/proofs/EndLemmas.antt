-- How a run ends, and how no other run of its input does.
use Rattle.std.proofs.Common.{◌≡◌, ◌≢◌, ℕ, List, Option, Some, Err, ◌⊎◌, ⊎_elim, sym, ap, ◌∙◌, subst}
use Rattle.script_reader.specs.Reader.{script_of}
use Rattle.script_reader.specs.declared.line.Line.{Line}
use Rattle.script_reader.specs.declared.script_fault.ScriptFault.{ScriptFault}
use Rattle.commit_core.specs.Commits.{texts_of}
use Rattle.commit_core.specs.declared.entry.Entry.{Entry}
use Rattle.sinew_app.specs.Laws.{HasOneSerialRun}
use Rattle.sinew_app.specs.Outcome.{IsDone, IsRefused, IsBroken, in_printing, in_refusal, WasRun}
use Rattle.sinew_app.specs.Printing.{printing, refusal_text}
use Rattle.sinew_app.specs.Run.{Run}
use Rattle.sinew_app.specs.declared.status.Status.{Status}
use Rattle.sinew_app.specs.declared.status.Status.TheVariants as status_of
use Rattle.sinew_laws.specs.Ends.{WhereTold, IsFrontOf, LeavesOneEnd, LeavesOneRefusal, LeavesItsCommits}
use Rattle.sinew_laws.proofs.EndInputs.{one_fault, all_given, one_reading, never_both, runs_alike, took_alike, took_front}

-- ---- done or refused, twice

-- What was run of an input that is all that a source had was run of the latter.
run_of : (left input : List ℕ) (lines : List Line) (run : Run) (commits : List Entry) → left ≡ input → WasRun input lines run commits → WasRun left lines run commits
run_of left input lines run commits same ran = subst (λ (bytes : List ℕ). WasRun bytes lines run commits) (sym same) ran

pub one_end : ((lines : List Line) → HasOneSerialRun lines) → LeavesOneEnd
one_end law left la lb taken ta tb one other a b =
    let of-a = run_of left a.input a.lines a.run one (all_given left la a.input a.gave a.whole) a.ran in
    let of-b = run_of left b.input b.lines b.run other (all_given left lb b.input b.gave b.whole) b.ran in
    let same = runs_alike law left a.lines b.lines a.run b.run one other of-a of-b in
    (a.whole ∙ sym b.whole, took_alike taken ta tb (printing a.lines a.run) (printing b.lines b.run) same.0 a.took b.took, same.1)

-- Readings of one source that are no script have one fault.
refused_alike : (a b : List ℕ) (one other : ScriptFault) → a ≡ b → script_of a ≡ Err one → script_of b ≡ Err other → one ≡ other
refused_alike a b one other same bad-a bad-b = one_fault (script_of a) one other bad-a (ap script_of same ∙ bad-b)

pub one_refusal : LeavesOneRefusal
one_refusal left la lb taken ta tb one other a b =
    let same = one_reading left a.input b.input la lb a.read b.read in
    let fault : a.fault ≡ b.fault = refused_alike a.input b.input a.fault b.fault same.0 a.bad b.bad in
    (same.1, took_alike taken ta tb (refusal_text a.fault) (refusal_text b.fault) (ap refusal_text fault) a.took b.took, a.store ∙ sym b.store)

-- ---- broken off

pub front_of_done : ((lines : List Line) → HasOneSerialRun lines) → (left left_one left_other : List ℕ) (taken taken_one taken_other : Option (List ℕ)) (one other : List Entry) →
    IsBroken (Some left) (Some left_one) taken taken_one one → IsDone (Some left) (Some left_other) taken taken_other other →
    (left_one ≡ left_other) × WhereTold IsFrontOf taken_one taken_other × (texts_of one ≡ texts_of other)
front_of_done law left la lb taken ta tb one other (in_printing input lines run gave none ran front) done =
    let of-a = run_of left input lines run one (all_given left la input gave none) ran in
    let of-b = run_of left done.input done.lines done.run other (all_given left lb done.input done.gave done.whole) done.ran in
    let same = runs_alike law left lines done.lines run done.run one other of-a of-b in
    (none ∙ sym done.whole, took_front taken ta tb (printing lines run) (printing done.lines done.run) same.0 front done.took, same.1)
front_of_done law left la lb taken ta tb one other (in_refusal input fault read bad front none) done =
    absurd (never_both left done.input input (Some la) done.lines fault (all_given left lb done.input done.gave done.whole) done.ran.script read bad)

pub front_of_refused : (left left_one left_other : List ℕ) (taken taken_one taken_other : Option (List ℕ)) (one other : List Entry) →
    IsBroken (Some left) (Some left_one) taken taken_one one → IsRefused (Some left) (Some left_other) taken taken_other other →
    (left_one ≡ left_other) × WhereTold IsFrontOf taken_one taken_other × (texts_of one ≡ texts_of other)
front_of_refused left la lb taken ta tb one other (in_printing input lines run gave none ran front) refused =
    absurd (never_both left input refused.input (Some lb) lines refused.fault (all_given left la input gave none) ran.script refused.read refused.bad)
front_of_refused left la lb taken ta tb one other (in_refusal input fault read bad front none) refused =
    let same = one_reading left input refused.input la lb read refused.read in
    let fault-is : refused.fault ≡ fault = refused_alike refused.input input refused.fault fault (sym same.0) refused.bad bad in
    (same.1, took_front taken ta tb (refusal_text fault) (refusal_text refused.fault) (ap refusal_text (sym fault-is)) front refused.took, ap texts_of (none ∙ sym refused.store))

pub one_break : ((lines : List Line) → HasOneSerialRun lines) → LeavesItsCommits
one_break law left la lb taken ta tb one other (in_printing a lines-a run-a gave-a none-a ran-a front-a) (in_printing b lines-b run-b gave-b none-b ran-b front-b) =
    let of-a = run_of left a lines-a run-a one (all_given left la a gave-a none-a) ran-a in
    let of-b = run_of left b lines-b run-b other (all_given left lb b gave-b none-b) ran-b in
    (none-a ∙ sym none-b, (runs_alike law left lines-a lines-b run-a run-b one other of-a of-b).1)
one_break law left la lb taken ta tb one other (in_printing a lines-a run-a gave-a none-a ran-a front-a) (in_refusal b fault-b read-b bad-b front-b none-b) =
    absurd (never_both left a b (Some lb) lines-a fault-b (all_given left la a gave-a none-a) ran-a.script read-b bad-b)
one_break law left la lb taken ta tb one other (in_refusal a fault-a read-a bad-a front-a none-a) (in_printing b lines-b run-b gave-b none-b ran-b front-b) =
    absurd (never_both left b a (Some la) lines-b fault-a (all_given left lb b gave-b none-b) ran-b.script read-a bad-a)
one_break law left la lb taken ta tb one other (in_refusal a fault-a read-a bad-a front-a none-a) (in_refusal b fault-b read-b bad-b front-b none-b) =
    ((one_reading left a b la lb read-a read-b).1, ap texts_of (none-a ∙ sym none-b))

-- ---- decided

-- No device failed.
abbrev pub Calm : Status → Type 0
Calm status = (status ≢ status_of.Read) × (status ≢ status_of.Write) × (status ≢ status_of.Words)

calm_done : (status : Status) → status ≡ status_of.Done → Calm status
calm_done status is = (λ e. absurd (cc), λ e. absurd (cc), λ e. absurd (cc))

calm_script : (status : Status) → status ≡ status_of.Script → Calm status
calm_script status is = (λ e. absurd (cc), λ e. absurd (cc), λ e. absurd (cc))

calm_memory : (status : Status) → status ≡ status_of.Memory → Calm status
calm_memory status is = (λ e. absurd (cc), λ e. absurd (cc), λ e. absurd (cc))

pub calm : (status : Status) → ((status ≡ status_of.Done) ⊎ (status ≡ status_of.Memory)) ⊎ ((status ≡ status_of.Script) ⊎ (status ≡ status_of.Memory)) → Calm status
calm status is = ⊎_elim (λ good. ⊎_elim (calm_done status) (calm_memory status) good) (λ bad. ⊎_elim (calm_script status) (calm_memory status) bad) is

pub only_memory : (status : Status) → (status ≡ status_of.Done) ⊎ (status ≡ status_of.Memory) → (status ≡ status_of.Script) ⊎ (status ≡ status_of.Memory) → status ≡ status_of.Memory
only_memory status good bad = ⊎_elim (λ done. ⊎_elim (λ script. absurd (cc)) (λ memory. memory) bad) (λ memory. memory) good
