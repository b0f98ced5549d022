use Rattle.std.proofs.Common.{rules, ◌≡◌, ◌+◌, ◌<◌, [], arith, sym, ◌∙◌, ap, subst, length, get_or, Ok, Err}
use Rattle.std.specs.List.{slice_split}
use Rattle.std.proofs.lemmas.Iterator.Splits.{YieldsList-from_slice_split}
use Rattle.std.proofs.lemmas.Iterator.Consumers.{YieldsList-turn, YieldsList-end}
use Rattle.std.proofs.lemmas.List.{length_push}
use borrow.Author.Tests.{tests}
use Rattle.script_reader.specs.Pieces.{is_line_feed}
use Rattle.script_reader.specs.Reader.{read_from}
use Rattle.script_reader.specs.Script.{IsScript}
use Rattle.script_reader.proofs.Progress.{IsReading-nothing, IsReading-statement, fault_there, fault_of_name, all_read}
use Rattle.script_reader.proofs.Rules.{alone_known}
use Rattle.script_reader.proofs.Naming.{named_within}
use Rattle.script_reader.proofs.ScriptOf.{rules_of_pieces}
use Rattle.script_reader.proofs.reading.read_pieces.Goals as goal
use Rattle.script_reader.proofs.reading.read_pieces.Goals.{In-Some, In-None}

-- The piece of this turn is the next of the pieces.
turn : (c : In-Some) → (length c.loop-piece.yielded < length (slice_split is_line_feed c.args.body.now)) × (c.in-Some.piece.now ≡ get_or (slice_split is_line_feed c.args.body.now) (length c.loop-piece.yielded) c.in-Some.piece.now)
turn c =
    YieldsList-turn (YieldsList-from_slice_split _ is_line_feed c.args.body.now (cc) (cc) (cc) (λ x b q k. search (rules, tests))) c.loop-piece.yielded _ c.loop-piece.yielded_by _ _ c.in-Some.piece c.in-Some.is c.next.ensures.steps

done : (c : In-None) → length c.loop-piece.yielded ≡ length (slice_split is_line_feed c.args.body.now)
done c =
    (YieldsList-end (YieldsList-from_slice_split _ is_line_feed c.args.body.now (cc) (cc) (cc) (λ x b q k. search (rules, tests))) c.loop-piece.yielded _ c.loop-piece.yielded_by _ _ c.in-None.is c.next.ensures.steps).1

read_is : (c : In-None) → read_from 1 [] (slice_split is_line_feed c.args.body.now) ≡ Ok c.loop-piece.draft
read_is c = all_read (slice_split is_line_feed c.args.body.now) _ _ _ c.loop-piece.invariant.2 (done c)

pub overflow_add-number : goal.overflow_add-number
overflow_add-number c = omega (arith, c.loop-piece.invariant.2.within)

pub loop-piece-preserved-in-Ok-None : goal.loop-piece-preserved-in-Ok-None
loop-piece-preserved-in-Ok-None c =
    let t = turn (goal.at.loop-piece-preserved-in-Ok-None c).In-Some in
    let told = rw c.in-Ok-None.field-0-is at c.in-Ok-None.ensures in
    (search rules, search rules, rw (length_push c.loop-piece.yielded c.in-Some.piece) (IsReading-nothing _ _ _ _ c.loop-piece.invariant.2 _ t.0 t.1 (sym told.exact)))

pub push-requires-clause-known : goal.push-requires-clause-known
push-requires-clause-known c =
    let told = rw c.in-Ok-Some.field-0-is at c.in-Ok-Some.ensures in
    (alone_known (c.loop-piece.number + 1) c.in-Some.piece.now c.in-Ok-Some.statement.session [] c.in-Ok-Some.statement.rest.now (sym told.exact)).0

pub push-requires-clause-above : goal.push-requires-clause-above
push-requires-clause-above c = named_within c.loop-piece.draft 0 c.in-Ok-Some.statement.rest.now c.in-Some-2.named (sym c.in_ok-named-in-Ok-Some.ensures.exact ∙ c.in-Some-2.is)

pub push-requires-clause-room : goal.push-requires-clause-room
push-requires-clause-room c =
    let told = rw c.in-Ok-Some.field-0-is at c.in-Ok-Some.ensures in
    let within = (alone_known (c.loop-piece.number + 1) c.in-Some.piece.now c.in-Ok-Some.statement.session [] c.in-Ok-Some.statement.rest.now (sym told.exact)).1 in
    omega (arith, within, c.loop-piece.invariant.2.few)

pub loop-piece-preserved : goal.loop-piece-preserved
loop-piece-preserved c =
    let t = turn (goal.at.loop-piece-preserved c).In-Some in
    let told = rw c.in-Ok-Some.field-0-is at c.in-Ok-Some.ensures in
    let names = sym c.in_ok-named-in-Ok-Some.ensures.exact ∙ c.in-Some-2.is in (
      search rules,
      search rules,
      rw (length_push c.loop-piece.yielded c.in-Some.piece)
          (IsReading-statement _ _ _ _ c.loop-piece.invariant.2 _ t.0 t.1 c.in-Ok-Some.statement.session c.in-Ok-Some.statement.rest.now c.in-Some-2.named c.in_ok-draft-in-Some-2.draft (sym told.exact) names
          c.in_ok-draft-in-Some-2.ensures.ok),
    )

pub returns-in-None-2-clause-bad : goal.returns-in-None-2-clause-bad
returns-in-None-2-clause-bad c =
    let t = turn (goal.at.returns-in-None-2-clause-bad c).In-Some in
    let told = rw c.in-Ok-Some.field-0-is at c.in-Ok-Some.ensures in
    let names = sym c.in_ok-named-in-Ok-Some.ensures.exact ∙ c.in-None-2.is in
    λ f is. fault_of_name _ _ _ _ c.loop-piece.invariant.2 _ t.0 t.1 c.in-Ok-Some.statement.session c.in-Ok-Some.statement.rest.now (sym told.exact) names ∙ ap Err (cc)

pub returns-in-Err-clause-bad : goal.returns-in-Err-clause-bad
returns-in-Err-clause-bad c =
    let t = turn (goal.at.returns-in-Err-clause-bad c).In-Some in
    λ f is. fault_there _ _ _ _ c.loop-piece.invariant.2 _ t.0 t.1 _ (sym c.in-Err.ensures.exact) ∙ ap Err (cc)

pub new-requires-2 : goal.new-requires-2
new-requires-2 c = subst IsScript (sym c.into_lines.ensures.exact) (rules_of_pieces (slice_split is_line_feed c.args.body.now) _ (read_is (goal.at.new-requires-2 c).In-None))

pub returns-clause-ok : goal.returns-clause-ok
returns-clause-ok c = read_is (goal.at.returns-clause-ok c).In-None ∙ ap Ok (cc)
