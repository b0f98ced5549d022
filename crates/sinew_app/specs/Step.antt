-- One step of a run of lines one after another.
use Rattle.std.specs.Prelude.{ℕ, [], ◌∷◌, ◌++◌, List, Bool, if◌then◌else◌}
use Rattle.commit_core.specs.declared.reply.Reply.{Reply}
use Rattle.sinew_app.specs.Run.{Run}

-- The order with one more line, where its reply is that of a commit.
abbrev pub order_with : Bool → List ℕ → ℕ → List ℕ
order_with accepted order position = if accepted then order ++ position ∷ [] else order

-- The run with the reply to one more line.
abbrev pub with_reply : Run → ℕ → Reply → Run
with_reply run position reply =
    record { order = order_with reply.accepted run.order position; answers = run.answers ++ reply ∷ [] }
