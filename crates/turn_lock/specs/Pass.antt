-- What a pass knows of the history that a lock hands on, and what each call makes of it. Callers import this file.
use Rattle.std.specs.Prelude.{◌≡◌, ℕ, ◌<◌, ◌≤◌, ◌⊎◌, ◌==◌, nat_lt, cond, List, [], ◌∷◌, ◌++◌, length, drop, filter, Option, Some, None, MatchOption, All}
use Rattle.atomic_table.specs.Seated.{TableId}

-- A log goes on from what was seen of it
abbrev pub Extends : {E : Type 0} → List E → List E → Type 0
Extends {E} seen log = (rest : List E) × (log ≡ seen ++ rest)

-- The entries of one caller, in their order
abbrev pub entries_of : {E : Type 0} → (E → ℕ) → ℕ → List E → List E
entries_of by caller log = filter (λ e. by e == caller) log

-- The longer of two lists, and the first where they are as long
abbrev pub longer : {E : Type 0} → List E → List E → List E
longer xs ys = cond (nat_lt (length xs) (length ys)) ys xs

-- A history fits what is known of it: it goes on from what was seen, and of each known caller it has the known entries, in order, and no others
pub record Fits {E : Type 0} (by : E → ℕ) (history seen : List E) (caller : ℕ) (mine : List E) (callers : List (ℕ × List E)) : Type 0 where
  pub goes_on : Extends seen history
  pub own : entries_of by caller history ≡ mine
  pub others : All (λ other. entries_of by other.0 history ≡ other.1) callers

-- What a pass knows: its lock, its caller number, the list that it has seen, its own entries, the callers that were given
-- back to it with their entries, and the number that it drew when it was refused a split
pub record Known (E : Type 0) : Type 0 where
  pub lock : TableId
  pub caller : ℕ
  pub seen : List E
  pub mine : List E
  pub others : List (ℕ × List E)
  pub drawn : Option ℕ

module _ {E : Type 0} where
  -- A history fits a pass
  abbrev pub FitsPass : (E → ℕ) → List E → Known E → Type 0
  FitsPass by history pass = Fits by history pass.seen pass.caller pass.mine pass.others

  -- The pass that a new lock gives: caller 0 has made all entries so far
  abbrev pub first_pass : TableId → List E → Known E
  first_pass lock log = record { lock = lock; caller = 0; seen = log; mine = log; others = []; drawn = None }

  -- A new caller that has seen what the pass has seen, and has made no entry
  abbrev pub new_pass : Known E → ℕ → Known E
  new_pass pass caller = record { lock = pass.lock; caller = caller; seen = pass.seen; mine = []; others = []; drawn = None }

  -- The pass before and after n was drawn for a split: it notes n. A pass that has noted a number keeps it, and else n is a later one than its own
  abbrev pub HasDrawn : Known E → Known E → ℕ → Type 0
  HasDrawn before after n = (after ≡ record before { drawn = Some n }) × ((before.drawn ≡ Some n) ⊎ ((before.drawn ≡ None) × (before.caller < n)))

  -- A split: where the number drawn is below the number of passes, it is the new caller's, and the pass is as before but for its
  -- note; else there is no new pass, and the pass notes the number
  abbrev pub Divides : ℕ → Known E → Known E → Option (Known E) → Type 0
  Divides passes before after made = MatchOption made
      ((n : ℕ) × (passes ≤ n) × HasDrawn before after n)
      (λ new. (new.caller < passes) × (new ≡ new_pass before new.caller) × (after ≡ record before { drawn = None })
      × ((before.drawn ≡ Some new.caller) ⊎ ((before.drawn ≡ None) × (before.caller < new.caller))))

  -- A history goes on from what a pass has seen, by entries of its caller
  abbrev pub AddsOwn : (E → ℕ) → List E → Known E → Type 0
  AddsOwn by history pass = (new : List E) × (history ≡ pass.seen ++ new) × All (λ e. by e ≡ pass.caller) new

  -- The pass after its turn has left a history: it has seen all of it, and the entries added are its own
  abbrev pub after_turn : Known E → List E → Known E
  after_turn pass history = record pass { seen = history; mine = pass.mine ++ drop (length pass.seen) history }

  -- The pass after another was given back to it: it has seen what both had seen, and knows the other's callers
  abbrev pub after_return : Known E → Known E → Known E
  after_return pass other = record pass { seen = longer pass.seen other.seen; others = pass.others ++ (other.caller, other.mine) ∷ other.others }
