-- Which texts are like a pattern.
use Rattle.std.specs.Prelude.{ℕ, Bool, true, false, ◌&&◌, ◌==◌, List, [], ◌∷◌, if◌then◌else◌}
use Rattle.std.specs.List.{list_any}
use Rattle.std.specs.Str.{chars}

-- `%`, which stands for any run of characters.
abbrev pub percent : ℕ
percent = 37

-- `_`, which stands for one character.
abbrev pub underscore : ℕ
underscore = 95

-- What is left of a text behind each of its fronts, the empty front first.
abbrev pub ends : List ℕ → List (List ℕ)
ends [] = [] ∷ []
ends (c ∷ cs) = (c ∷ cs) ∷ ends cs

-- A character of a pattern stands for one of a text: `_` for each, any other for itself.
abbrev pub stands_for : ℕ → ℕ → Bool
stands_for p c = if p == underscore then true else p == c

-- The text is one that the first character of a pattern stands for, and then one that passes.
abbrev pub begins_so : ℕ → (List ℕ → Bool) → List ℕ → Bool
begins_so p passes [] = false
begins_so p passes (c ∷ cs) = stands_for p c && passes cs

-- Characters are like a pattern: behind a `%` some end of them is like the rest; any other character takes one of them.
abbrev pub are_like : List ℕ → List ℕ → Bool
are_like [] [] = true
are_like [] (c ∷ cs) = false
are_like (p ∷ ps) cs = if p == percent then list_any (are_like ps) (ends cs) else begins_so p (are_like ps) cs

-- A text is like a pattern, by the characters of both.
abbrev pub is_like : List ℕ → List ℕ → Bool
is_like text pattern = are_like (chars pattern) (chars text)
