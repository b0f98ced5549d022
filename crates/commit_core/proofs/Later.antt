-- What is not accepted leaves the state as it is, and readings go on agreeing.
use Rattle.std.proofs.Common.{◌≡◌, ℕ, ◌≤◌, false, List, ◌++◌, length, take, refl, sym, ap, ◌∙◌, arith, length-append}
use Rattle.std.proofs.lemmas.List.{take-append-le}
use Rattle.query_meaning.specs.Plans.{rows_under}
use Rattle.commit_core.specs.State.{State}
use Rattle.commit_core.specs.Query.{documents_asked}
use Rattle.commit_core.specs.Write.{Effect, accepted, range, full, effect_of}
use Rattle.commit_core.specs.Plan.{Plan, refused, read, write, plan_of}
use Rattle.commit_core.specs.Replies.{told_effect, told_plan, told_of, state_left, state_behind, next_state, state_after}
use Rattle.commit_core.specs.Agreement.{ReadingOf, Agrees}

effect_unchanged : (state : State) (effect : Effect) → (told_effect effect).accepted ≡ false → state_left state effect ≡ state
effect_unchanged state (accepted after rows) h = absurd (cc)
effect_unchanged state range h = refl
effect_unchanged state full h = refl

plan_unchanged : (state : State) (plan : Plan) → (told_plan plan state).accepted ≡ false → state_behind plan state ≡ state
plan_unchanged state (refused line) h = refl
plan_unchanged state (read question) h = refl
plan_unchanged state (write change) h = effect_unchanged state (effect_of change state) h

pub unchanged : (text : List ℕ) (state : State) → (told_of text state).accepted ≡ false → next_state state text ≡ state
unchanged text state h = plan_unchanged state (plan_of text) h

pub agrees_front : (reading : ReadingOf) (texts others : List (List ℕ)) → Agrees reading texts → reading.at ≤ length others → take reading.at others ≡ take reading.at texts → Agrees reading others
agrees_front reading texts others agrees reached same =
    record {
      question = agrees.question;
      planned = agrees.planned;
      reached = reached;
      each = agrees.each;
      serve = agrees.serve;
      found = λ rows h. agrees.found rows h ∙ ap (λ front. rows_under reading.references agrees.question (documents_asked agrees.question (state_after front))) (sym same);
    }

pub agrees_later : (reading : ReadingOf) (texts later : List (List ℕ)) → Agrees reading texts → Agrees reading (texts ++ later)
agrees_later reading texts later agrees =
    agrees_front reading texts (texts ++ later) agrees (omega (arith, agrees.reached, length-append texts later)) (take-append-le reading.at texts later agrees.reached)
