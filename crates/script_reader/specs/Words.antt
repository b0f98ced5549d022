-- The words of a piece, and the numbers that words write.
use Rattle.std.specs.Prelude.{ℕ, ◌+◌, ◌-◌, ◌*◌, List, [], ◌∷◌, Bool, ◌||◌, ◌&&◌, ◌==◌, nat_lt, nat_le, not, drop, Option, Some, None, if◌then◌else◌}
use Rattle.std.specs.List.{take_while, prefix_len}
use Rattle.script_reader.specs.Sessions.{most_sessions}

-- The most lines of a script, blank ones and remarks too.
abbrev pub most_lines : ℕ
most_lines = 65536

-- A space or a tab.
abbrev pub is_gap : ℕ → Bool
is_gap c = (c == 32) || (c == 9)

-- A space, a tab or a carriage return.
abbrev pub is_blank : ℕ → Bool
is_blank c = is_gap c || (c == 13)

-- The bytes from the first that does not pass on.
abbrev pub past : (ℕ → Bool) → List ℕ → List ℕ
past test bytes = drop (prefix_len test bytes) bytes

-- A byte of a word: a word ends at a space, a tab, a carriage return or the end of the piece.
abbrev pub is_in_word : ℕ → Bool
is_in_word c = not (is_blank c)

-- The word that stands first.
abbrev pub first_word : List ℕ → List ℕ
first_word bytes = take_while is_in_word bytes

-- What stands behind the word that stands first, past spaces and tabs.
abbrev pub behind_word : List ℕ → List ℕ
behind_word bytes = past is_gap (past is_in_word bytes)

-- A digit.
abbrev pub is_digit : ℕ → Bool
is_digit c = nat_le 48 c && nat_le c 57

-- The number that digits write behind those of a number; none where a byte is no digit.
abbrev pub number_behind : ℕ → List ℕ → Option ℕ
number_behind number [] = Some number
number_behind number (c ∷ digits) = if is_digit c then number_behind (number * 10 + (c - 48)) digits else None

-- The number from 1 on that a word writes in digits, the first of which is not 0.
abbrev pub number_of : List ℕ → Option ℕ
number_of [] = None
number_of (c ∷ digits) = if c == 48 then None else number_behind 0 (c ∷ digits)

-- The number, if it is at most another one.
abbrev pub at_most : ℕ → Option ℕ → Option ℕ
at_most most None = None
at_most most (Some number) = if nat_lt most number then None else Some number

-- The number of a session, as a word writes it.
abbrev pub session_of : List ℕ → Option ℕ
session_of word = at_most most_sessions (number_of word)

-- The place of a line in its session, as a word writes it.
abbrev pub place_of : List ℕ → Option ℕ
place_of word = at_most most_lines (number_of word)
