-- What callers see a store as.
use Rattle.std.specs.Prelude.{ℕ, List, map}
use Rattle.commit_core.specs.declared.entry.Entry.{Entry}

-- A store, as callers see it: the commits made so far.
pub record CoreOf : Type 0 where
  pub commits : List Entry

-- The texts of commits.
abbrev pub texts_of : List Entry → List (List ℕ)
texts_of entries = map (λ entry. entry.text) entries
