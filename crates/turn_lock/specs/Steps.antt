-- What each kind of step tells the seat that makes it: the number found, and what the seat knows and holds after it.
use Rattle.std.specs.Prelude.{◌≡◌, ℕ, ◌%◌, ◌^◌, ◌<◌, ◌==◌, true, List, [], ◌∷◌, length, drop, Option, Some, None, MatchBool}
use Rattle.atomic_table.specs.Table.{Me, Step, rest}
use Rattle.atomic_table.specs.Seated.{TableId}
use Rattle.turn_lock.specs.declared.stage.Stage.TheVariants.{Idle, Waits, Called, Holds}
use Rattle.turn_lock.specs.declared.view.View.{View}
use Rattle.turn_lock.specs.Pass.{Extends, Fits, Known}
use Rattle.turn_lock.specs.Views.{ticket_of, at_stage, drawing, compared, holding, adding}

-- A seat of a lock: what it knows, and the slot if it has it
abbrev pub Sat : Type 0 → Type 0 → Type 0
Sat T E = Me (Option T) (View E)

module _ {E : Type 0} where
  -- A history fits what a seat knows
  abbrev pub FitsView : (E → ℕ) → List E → View E → Type 0
  FitsView by history v = Fits by history v.seen v.caller v.mine v.others

  -- What a pass with this seat knows
  abbrev pub known_of : TableId → View E → Known E
  known_of lock v = record { lock = lock; caller = v.caller; seen = v.seen; mine = v.mine; others = v.others; drawn = v.drawn }

  -- The numbers that a pass keeps beside its seat are those that the seat knows
  abbrev pub IsNumbered : View E → ℕ → ℕ → Option ℕ → Type 0
  IsNumbered v caller seen drawn = (v.live ≡ true) × (v.caller ≡ caller) × (length v.seen ≡ seen) × (v.drawn ≡ drawn)

module _ {T E : Type 0} where
  -- It has drawn a number, which is past its own
  abbrev pub Draws : Step (Option T) → Sat T E → ℕ → Sat T E → Type 0
  Draws s before n after = (after ≡ (drawing before.0 (Some n), before.1)) × (before.0.caller < n)

  -- It has compared the two lists that it has seen
  abbrev pub Compares : Step (Option T) → Sat T E → ℕ → Sat T E → Type 0
  Compares s before n after = (after ≡ (compared before.0, before.1)) × Extends before.0.seen (compared before.0).seen × Extends before.0.beside (compared before.0).seen

  -- It has drawn a ticket, of which the word gives the last 64 bits
  abbrev pub Queues : Step (Option T) → Sat T E → ℕ → Sat T E → Type 0
  Queues s before n after = (ticket : ℕ) × (ticket % 2 ^ 64 ≡ n) × (after ≡ (at_stage before.0 (Waits ticket), before.1))

  -- It has found that it is its turn, or not
  abbrev pub LooksUp : Step (Option T) → Sat T E → ℕ → Sat T E → Type 0
  LooksUp s before n after = MatchBool (n == ticket_of before.0.stage % 2 ^ 64)
      (after ≡ (at_stage before.0 (Called (ticket_of before.0.stage)), before.1))
      (after ≡ before)

  -- It has the slot with the value, whose history fits what it knew, and has seen all of it
  abbrev pub Takes : (T → List E) → (E → ℕ) → Step (Option T) → Sat T E → ℕ → Sat T E → Type 0
  Takes history by s before n after = (ticket : ℕ) × (x : T) × (after ≡ (holding before.0 ticket (history x), (0, Some x) ∷ []))
      × FitsView by (history x) before.0 × (n ≡ length (history x))

  -- The entries that the value in its hand has beyond the list seen are counted, and its own
  abbrev pub Adds : (T → List E) → Step (Option T) → Sat T E → ℕ → Sat T E → Type 0
  Adds history s before n after = (x : T) → before.1 ≡ (0, Some x) ∷ [] → after ≡ (adding before.0 (drop (length before.0.seen) (history x)), before.1)

  -- It has given the slot back, and passed the turn on
  abbrev pub PassesOn : Step (Option T) → Sat T E → ℕ → Sat T E → Type 0
  PassesOn s before n after = after ≡ (at_stage before.0 Idle, rest before.1)

  -- The first seat has taken the bare slot
  abbrev pub Opens : Step (Option T) → Sat T E → ℕ → Sat T E → Type 0
  Opens s before n after = (ticket : ℕ) × (after ≡ (at_stage before.0 (Holds ticket), (0, None) ∷ []))

-- A seat stands at this table, which is one under a lock
abbrev pub IsAt : TableId → TableId → Type 0
IsAt board seat = (seat ≡ board) × (board.words ≡ 4) × (board.slots ≡ 1)
