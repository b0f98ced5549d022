-- The reply to a text over a state, and the state after commits.
use Rattle.std.specs.Prelude.{ℕ, List, Bool, true, false, codes, fold}
use Rattle.commit_core.specs.State.{State, opening}
use Rattle.exec_finish.specs.Answer.{line, ok_line}
use Rattle.commit_core.specs.Query.{answer_of}
use Rattle.commit_core.specs.Write.{Effect, accepted, range, full, effect_of}
use Rattle.commit_core.specs.Plan.{Plan, refused, read, write, plan_of}
use Rattle.commit_core.specs.declared.reply.Reply.{Reply}

-- What a text is told over a state: whether it is an accepted write, and lines.
pub record Told : Type 0 where
  pub accepted : Bool
  pub body : List ℕ

-- The line for a load after which the store would hold too much.
abbrev pub full_line : List ℕ
full_line = line (codes "! full")

-- What a write is told for its effect.
abbrev pub told_effect : Effect → Told
told_effect (accepted state rows) = record { accepted = true; body = ok_line rows }
told_effect range = record { accepted = false; body = line (codes "! range") }
told_effect full = record { accepted = false; body = full_line }

-- What a plan is told over a state.
abbrev pub told_plan : Plan → State → Told
told_plan (refused refusal) state = record { accepted = false; body = refusal }
told_plan (read question) state = record { accepted = false; body = answer_of question state }
told_plan (write change) state = told_effect (effect_of change state)

-- What a text is told over a state.
abbrev pub told_of : List ℕ → State → Told
told_of text state = told_plan (plan_of text) state

-- The reply: the commits that it counts, and what was told.
abbrev pub reply_at : ℕ → Told → Reply
reply_at number told = record { at = number; accepted = told.accepted; body = told.body }

-- The state that an effect leaves where there was one.
abbrev pub state_left : State → Effect → State
state_left state (accepted after rows) = after
state_left state range = state
state_left state full = state

-- The state that a plan leaves.
abbrev pub state_behind : Plan → State → State
state_behind (refused refusal) state = state
state_behind (read question) state = state
state_behind (write change) state = state_left state (effect_of change state)

-- The state after one more text.
abbrev pub next_state : State → List ℕ → State
next_state state text = state_behind (plan_of text) state

-- The state after commits of texts, from the opening one on.
abbrev pub state_after : List (List ℕ) → State
state_after texts = fold next_state opening texts
