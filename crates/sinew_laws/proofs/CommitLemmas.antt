-- What a write leaves, and what readings that agree with commits hold.
use Rattle.std.proofs.Common.{◌≡◌, ℕ, List, length, take, Some, false, sym, ap, ◌∙◌}
use Rattle.doc_values.specs.declared.col_ref.ColRef.{ColRef}
use Rattle.sql_tree.specs.declared.select.Select.{Select}
use Rattle.row_columns.specs.Contents.{Cells}
use Rattle.query_meaning.specs.Plans.{rows_under}
use Rattle.query_meaning.specs.Question.{answer_among}
use Rattle.commit_core.specs.State.{State}
use Rattle.commit_core.specs.Query.{documents_asked}
use Rattle.commit_core.specs.Plan.{Plan, read, plan_of}
use Rattle.commit_core.specs.Replies.{told_of, told_plan, reply_at, state_after}
use Rattle.commit_core.specs.OneWrite.{IsWrite, told_over}
use Rattle.commit_core.specs.Agreement.{ReadingOf, Agrees}
use Rattle.commit_core.specs.declared.entry.Entry.{Entry}
use Rattle.commit_core.specs.declared.reply.Reply.{Reply}
use Rattle.commit_core.proofs.Agreements.{same_question, length-asked}

-- Two writes of one text over the same commits leave the same.
pub one_write : (caller : ℕ) (text : List ℕ) (old one other : List Entry) (first second : Reply) →
    IsWrite caller text old one first → IsWrite caller text old other second → (one ≡ other) × (first ≡ second)
one_write caller text old one other first second a b =
    let same : one ≡ other = a.commits ∙ sym b.commits in
    (same, a.replied ∙ (ap (λ (entries : List Entry). reply_at (length entries) (told_over old text)) same ∙ sym b.replied))

-- What is read for a question under references over commits.
abbrev read_after : List (List ColRef) → Select → List (List ℕ) → List (List Cells)
read_after references question texts = rows_under references question (documents_asked question (state_after texts))

-- What two readings of one text ask.
one_question : (a b : ReadingOf) (texts others : List (List ℕ)) (of-a : Agrees a texts) (of-b : Agrees b others) → a.text ≡ b.text → of-a.question ≡ of-b.question
one_question a b texts others of-a of-b same_text =
    same_question b.text of-a.question of-b.question (sym (ap plan_of same_text) ∙ of-a.planned) of-b.planned

-- Readings that agree, of one text under the same references at one number over commits that begin alike, have read the same.
pub one_reading : (a b : ReadingOf) (texts others : List (List ℕ)) (one other : List (List Cells)) → Agrees a texts → Agrees b others →
    a.text ≡ b.text → a.references ≡ b.references → a.at ≡ b.at → take a.at texts ≡ take a.at others → a.rows ≡ Some one → b.rows ≡ Some other → one ≡ other
one_reading a b texts others one other of-a of-b same_text same_references same_number same_front rows-a rows-b =
    let asked = one_question a b texts others of-a of-b same_text in
    of-a.found one rows-a
    ∙ ((λ i. read_after (same_references i) (asked i) (take a.at texts))
    ∙ (ap (λ (front : List (List ℕ)). read_after b.references of-b.question front) (same_front ∙ ap (λ (number : ℕ). take number others) same_number) ∙ sym (of-b.found other rows-b)))

-- A question is told its answer.
told_answer : (text : List ℕ) (question : Select) (state : State) → plan_of text ≡ read question → told_of text state ≡ record { accepted = false; body = answer_among question (documents_asked question state) }
told_answer text question state planned = ap (λ (plan : Plan). told_plan plan state) planned

-- Readings that agree, of one text under the same references, that have read the same are told the same.
pub one_answer : (a b : ReadingOf) (texts others : List (List ℕ)) (rows : List (List Cells)) → Agrees a texts → Agrees b others →
    a.text ≡ b.text → a.references ≡ b.references → a.rows ≡ Some rows → b.rows ≡ Some rows →
    told_of a.text (state_after (take a.at texts)) ≡ told_of b.text (state_after (take b.at others))
one_answer a b texts others rows of-a of-b same_text same_references rows-a rows-b =
    let asked = one_question a b texts others of-a of-b same_text in
    let before = state_after (take a.at texts) in
    let after = state_after (take b.at others) in
    let many : (state : State) → length (documents_asked of-b.question state) ≡ length b.references = λ state. length-asked of-b.question state ∙ sym of-b.each in
    let read_alike : rows_under b.references of-b.question (documents_asked of-b.question before) ≡ rows_under b.references of-b.question (documents_asked of-b.question after) =
    sym (λ i. read_after (same_references i) (asked i) (take a.at texts)) ∙ sym (of-a.found rows rows-a) ∙ of-b.found rows rows-b in
    told_answer a.text of-a.question before of-a.planned
    ∙ (ap (λ (question : Select). record { accepted = false; body = answer_among question (documents_asked question before) }) asked
    ∙ (ap (λ (body : List ℕ). record { accepted = false; body = body }) (of-b.serve (documents_asked of-b.question before) (documents_asked of-b.question after) (many before) (many after) read_alike)
    ∙ sym (told_answer b.text of-b.question after of-b.planned)))
