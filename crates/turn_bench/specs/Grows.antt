-- What a turn does to the entries.
use Rattle.std.specs.Prelude.{◌≡◌, ℕ, List, ◌++◌, All}
use Rattle.turn_bench.specs.declared.entry.Entry.{Entry}

-- Entries of this caller came behind those before
abbrev pub Grows : ℕ → List Entry → List Entry → Type 0
Grows caller before after = (new : List Entry) × (after ≡ before ++ new) × All (λ e. e.caller ≡ caller) new
