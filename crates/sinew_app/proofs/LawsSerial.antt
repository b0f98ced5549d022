-- A script has a serial run: each line is answered over the commits before it.
use Rattle.std.proofs.Common.{ℕ, zero, suc, ◌+◌, ◌<◌, ◌≤◌, List, [], length, take, refl, sym, subst, add-one, arith}
use Rattle.std.proofs.lemmas.List.{take_all}
use Rattle.std.proofs.lemmas.Option.{get_or_from_slice_get}
use Rattle.script_reader.specs.Script.{IsScript}
use Rattle.script_reader.specs.declared.line.Line.{Line}
use Rattle.commit_core.specs.OneWrite.{told_over, with_entry}
use Rattle.commit_core.specs.Replies.{Told, reply_at}
use Rattle.commit_core.specs.declared.entry.Entry.{Entry}
use Rattle.commit_core.specs.declared.reply.Reply.{Reply}
use Rattle.sinew_app.specs.Laws.{HasSerialRun}
use Rattle.sinew_app.specs.Run.{Run, IsSerial}
use Rattle.sinew_app.specs.Step.{with_reply}
use Rattle.sinew_app.proofs.Growth.{Stored, turn}
use Rattle.sinew_app.proofs.LawsOneRun.{there}

-- A serial run of lines, with the commits of its order.
record Made (lines : List Line) : Type 0 where
  run : Run
  commits : List Entry
  stored : Stored lines run commits

start : Stored [] (record { order = []; answers = [] }) []
start = record {
  serial = record {
    legal = record {
      answered = refl;
      once = λ i j k e f. absurd (cc);
      stands = λ k reply e sure. absurd (cc);
      committed = λ i k e. absurd (cc);
      other = λ k reply e out. absurd (cc);
      later = λ j k p line before after e f g h. absurd (cc);
    };
    numbers = λ k reply e. absurd (cc);
  };
  counted = refl;
  stored = refl;
}

-- One more line, answered over the commits.
one_more : (lines : List Line) → IsScript lines → (n : ℕ) → n < length lines → Made (take n lines) → Made (take (n + 1) lines)
one_more lines rules n l made =
    let here = there lines n l in
    let line = here.0 in
    let told : Told = told_over made.commits line.text in
    let new : List Entry = with_entry told.accepted made.commits (record { caller = 0; text = line.text }) in
    let reply : Reply = reply_at (length new) told in
    record {
      run = with_reply made.run n reply;
      commits = new;
      stored = turn 0 lines lines n line line.text made.run (with_reply made.run n reply) made.commits new reply rules refl l
          (sym (get_or_from_slice_get lines n line line here.1)) refl made.stored (record { commits = refl; replied = refl }) refl;
    }

made : (lines : List Line) → IsScript lines → (n : ℕ) → n ≤ length lines → Made (take n lines)
made lines rules zero l = record { run = record { order = []; answers = [] }; commits = []; stored = start }
made lines rules (suc n) l =
    subst (λ (m : ℕ). Made (take m lines)) (add-one n) (one_more lines rules n (omega arith) (made lines rules n (omega arith)))

pub serial_run : (lines : List Line) → IsScript lines → HasSerialRun lines
serial_run lines rules =
    let all = made lines rules (length lines) (omega arith) in
    (all.run, subst (λ (ls : List Line). IsSerial ls all.run) (take_all (length lines) lines (omega arith)) all.stored.serial)
