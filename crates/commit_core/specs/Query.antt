-- What a question means over a state.
use Rattle.std.specs.Prelude.{ℕ, List, map}
use Rattle.doc_values.specs.Doc.{Fields}
use Rattle.sql_tree.specs.declared.select.Select.{Select}
use Rattle.query_meaning.specs.Question.{answer_among}
use Rattle.commit_core.specs.State.{State, documents_at}

-- The documents of each table of a question, in the order of their rows.
abbrev pub documents_asked : Select → State → List (List Fields)
documents_asked s state = map (λ t. documents_at t.collection state) s.tables

-- The answer to a question over a state.
abbrev pub answer_of : Select → State → List ℕ
answer_of s state = answer_among s (documents_asked s state)
