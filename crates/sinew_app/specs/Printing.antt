-- What is printed of a script and a run, and of bytes that are no script.
use Rattle.std.specs.Prelude.{ℕ, ◌+◌, List, [], ◌∷◌, ◌++◌, length, codes, decimal, Option, Some, None, slice_get}
use Rattle.script_reader.specs.declared.line.Line.{Line}
use Rattle.script_reader.specs.declared.script_fault.ScriptFault.{ScriptFault}
use Rattle.script_reader.specs.Why.{word_of}
use Rattle.exec_finish.specs.Answer.{line}
use Rattle.commit_core.specs.declared.reply.Reply.{Reply}
use Rattle.sinew_app.specs.Run.{Run}

-- A line of a script is named by its session and its place.
abbrev pub name_of : Line → List ℕ
name_of l = decimal l.session ++ (codes "." ++ decimal l.place)

-- The name of a line, if there is one.
abbrev pub name_in : Option Line → List ℕ
name_in None = []
name_in (Some l) = name_of l

-- An answer: the line's name with its number of commits, and the lines of the reply.
abbrev pub reply_text : Line → Reply → List ℕ
reply_text l reply = line (codes "#" ++ (name_of l ++ (codes " @" ++ decimal reply.at))) ++ reply.body

-- The answers, in the order of the script.
abbrev pub replies_text : List Line → List Reply → List ℕ
replies_text [] replies = []
replies_text (l ∷ ls) [] = []
replies_text (l ∷ ls) (reply ∷ replies) = reply_text l reply ++ replies_text ls replies

-- A commit: its number, and the name of its line.
abbrev pub commit_text : ℕ → Option Line → List ℕ
commit_text number l = line (codes "= " ++ (decimal number ++ (codes " " ++ name_in l)))

-- The commits, numbered on from the number given.
abbrev pub commits_text : List Line → ℕ → List ℕ → List ℕ
commits_text lines number [] = []
commits_text lines number (k ∷ order) = commit_text number (slice_get lines k) ++ commits_text lines (number + 1) order

-- The last line: how many commits there are.
abbrev pub count_text : ℕ → List ℕ
count_text commits = line (codes ". " ++ decimal commits)

-- What is printed of a script and a run: the answers, the commits in their order, and how many there are.
abbrev pub printing : List Line → Run → List ℕ
printing lines run = replies_text lines run.answers ++ (commits_text lines 1 run.order ++ count_text (length run.order))

-- What is printed for bytes that are no script.
abbrev pub refusal_text : ScriptFault → List ℕ
refusal_text fault = line (codes "? script " ++ (decimal fault.line ++ (codes " " ++ word_of fault.why)))
