-- How the bytes of a script fall into pieces, and what one piece says.
use Rattle.std.specs.Prelude.{ℕ, suc, zero, ◌-◌, List, [], ◌∷◌, Bool, ◌||◌, ◌==◌, nat_eq, nat_lt, codes, not, length, drop, Option, Some, None, slice_get, if◌then◌else◌}
use Rattle.std.specs.List.{slice_split, take_while, list_all, starts_with}
use Rattle.std.specs.Str.{is_utf8, bytes_eq}
use Rattle.script_reader.specs.Sessions.{lines_of}
use Rattle.script_reader.specs.declared.line.Line.{Line}
use Rattle.script_reader.specs.declared.named.Named.{Named}
use Rattle.script_reader.specs.declared.why.Why as why
pub use Rattle.script_reader.specs.Words.{most_lines, is_gap, is_blank, past, is_in_word, first_word, behind_word, is_digit, number_behind, number_of, at_most, session_of, place_of}

-- The most bytes of a line: 1 MiB.
abbrev pub most_line_bytes : ℕ
most_line_bytes = 1048576

-- A line feed.
abbrev pub is_line_feed : ℕ → Bool
is_line_feed c = c == 10

-- The pieces without a last one that is empty.
abbrev pub without_empty_end : List (List ℕ) → List (List ℕ)
without_empty_end [] = []
without_empty_end (piece ∷ []) = if length piece == 0 then [] else piece ∷ []
without_empty_end (piece ∷ next ∷ more) = piece ∷ without_empty_end (next ∷ more)

-- The bytes cut at each line feed; what stands behind the last line feed is a piece if it is not empty.
abbrev pub pieces_of : List ℕ → List (List ℕ)
pieces_of bytes = without_empty_end (slice_split is_line_feed bytes)

-- What a piece says: nothing; a statement for a session, with the positions of the lines that it names and its text; or a fault.
pub data Said : Type 0 where
  nothing : Said
  statement : ℕ → List ℕ → List ℕ → Said
  bad : why.Why → Said

-- A remark begins with `#`, past spaces and tabs.
abbrev pub is_remark : List ℕ → Bool
is_remark piece = starts_with nat_eq (past is_gap piece) (35 ∷ [])

-- The position of the line above that has the place in the session.
abbrev pub line_above : List Line → Option ℕ → Option ℕ → Option ℕ
line_above above None place = None
line_above above (Some session) None = None
line_above above (Some session) (Some place) = slice_get (lines_of session above) (place - 1)

-- A byte before the point of a line's name.
abbrev pub is_before_point : ℕ → Bool
is_before_point c = not (c == 46)

-- The position of the line above that a word names: `s.k` is the k-th line of session s.
abbrev pub named_by : List Line → List ℕ → Option ℕ
named_by above word = line_above above (session_of (take_while is_before_point word)) (place_of (drop 1 (past is_before_point word)))

-- The word `after` stands first.
abbrev pub names_a_line : List ℕ → Bool
names_a_line bytes = bytes_eq (first_word bytes) (codes "after")

-- One more line is named in front of others; none where the word names none.
abbrev pub naming : Option ℕ → Option Named → Option Named
naming None more = None
naming (Some position) None = None
naming (Some position) (Some named) = Some (record { lines = position ∷ named.lines; text = named.text })

-- The lines that are named behind a session number, each by the word `after` and its name, and the text behind them; none where a word names no line above. Of the bytes the first so many still belong to a name that was read.
abbrev pub named_in : List Line → ℕ → List ℕ → Option Named
named_in above inside [] = Some (record { lines = []; text = [] })
named_in above (suc inside) (c ∷ bytes) = named_in above inside bytes
named_in above zero (c ∷ bytes) =
    if names_a_line (c ∷ bytes)
    then naming (named_by above (first_word (behind_word (c ∷ bytes)))) (named_in above (length bytes - length (behind_word (behind_word (c ∷ bytes)))) bytes)
    else Some (record { lines = []; text = c ∷ bytes })

-- A statement for a session, or the fault that there is no session.
abbrev pub spoken : Option ℕ → List ℕ → Said
spoken None rest = bad why.TheVariants.Session
spoken (Some session) rest = statement session [] rest

-- The session number stands first.
abbrev pub statement_in : List ℕ → Said
statement_in bytes = spoken (session_of (first_word bytes)) (behind_word bytes)

-- What a piece says by itself, if it is not too long: the lines that a statement names still stand in its text.
abbrev pub said_short : List ℕ → Said
said_short piece =
    if not (is_utf8 piece) then bad why.TheVariants.Utf8
    else if list_all is_blank piece || is_remark piece then nothing
    else statement_in (past is_gap piece)

-- What a piece of a number says by itself. The faults are asked for in this order.
abbrev pub said_alone : ℕ → List ℕ → Said
said_alone number piece =
    if nat_lt most_lines number then bad why.TheVariants.Lines
    else if nat_lt most_line_bytes (length piece) then bad why.TheVariants.Long
    else said_short piece

-- A statement for a session, with the lines that it names; or the fault that a word names no line above.
abbrev pub stated : ℕ → Option Named → Said
stated session None = bad why.TheVariants.After
stated session (Some named) = statement session named.lines named.text

-- The lines that a statement names, taken from the front of its text.
abbrev pub with_names : List Line → Said → Said
with_names above nothing = nothing
with_names above (statement session named rest) = stated session (named_in above 0 rest)
with_names above (bad reason) = bad reason

-- What a piece says, with its number and the lines above it.
abbrev pub said : ℕ → List Line → List ℕ → Said
said number above piece = with_names above (said_alone number piece)
