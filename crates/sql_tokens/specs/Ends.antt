-- What stands at the ends of bytes: white space, and a word.
use Rattle.std.specs.Prelude.{ℕ, List, drop, reverse}
use Rattle.std.specs.List.{take_while, prefix_len}
use Rattle.sql_tokens.specs.Forms.{is_space, is_word_byte}

-- The bytes from the first that is no white space on.
abbrev pub skip_space : List ℕ → List ℕ
skip_space bytes = drop (prefix_len is_space bytes) bytes

-- The bytes without white space at both ends.
abbrev pub trim : List ℕ → List ℕ
trim bytes = reverse (skip_space (reverse (skip_space bytes)))

-- The longest run of word bytes past the white space.
abbrev pub word_in : List ℕ → List ℕ
word_in bytes = take_while is_word_byte (skip_space bytes)

-- What follows that run.
abbrev pub behind_word : List ℕ → List ℕ
behind_word bytes = drop (prefix_len is_word_byte (skip_space bytes)) (skip_space bytes)
