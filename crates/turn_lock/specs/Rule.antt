-- The rule of a lock: what holds of its words, of its slot and of what all seats know, between any two steps.
-- The words are the length of the history, the next caller number, the tickets drawn and the tickets served.
use Rattle.std.specs.Prelude.{◌≡◌, ℕ, ◌+◌, ◌%◌, ◌^◌, ◌<◌, ◌≤◌, nat_lt, cond, Bool, true, false, List, [], ◌∷◌, length, Option, Some, None, IfSome, All}
use mathlib.Core.Option.{some}
use lib.ListN.{get_elem?}
use Rattle.atomic_table.specs.Table.{State}
use Rattle.turn_lock.specs.declared.stage.Stage.{Stage}
use Rattle.turn_lock.specs.declared.stage.Stage.TheVariants.{Founds, Idle, Waits, Called, Holds}
use Rattle.turn_lock.specs.declared.view.View.{View}
use Rattle.turn_lock.specs.Pass.{Extends, entries_of}

-- Whose a caller number is to a seat: its own, one that it notes, or one that was given back to it
pub data Role : Type 0 where
  own : Role
  noted : Role
  returned : Role

-- How things stand
pub record Course (E : Type 0) : Type 0 where
  -- the history
  pub log : List E
  -- the next caller number
  pub made : ℕ
  -- the tickets drawn and those served
  pub drawn : ℕ
  pub served : ℕ
  -- which seat has a caller number, and as what
  pub owner : ℕ → ℕ × Role
  -- which seat has a ticket
  pub holder : ℕ → ℕ
  -- whether the value is out with a seat
  pub out : Bool

-- Whether a seat keeps the slot from the others
abbrev pub keeps_out : Stage → Bool
keeps_out Founds = true
keeps_out (Holds ticket) = true
keeps_out _ = false

-- How many tickets it has
abbrev pub has_ticket : Stage → ℕ
has_ticket Idle = 0
has_ticket _ = 1

-- 1 where a number below the number of passes is noted
abbrev pub in_reserve : ℕ → Option ℕ → ℕ
in_reserve passes None = 0
in_reserve passes (Some n) = cond (nat_lt n passes) 1 0

-- 1 of a seat that draws no more numbers: it was given back, or was refused a split
abbrev pub draws_no_more : ℕ → Bool → Option ℕ → ℕ
draws_no_more passes false drawn = 1
draws_no_more passes true None = 0
draws_no_more passes true (Some n) = cond (nat_lt n passes) 0 1

-- The sum of a number over all views
abbrev pub total : {V : Type 0} → (V → ℕ) → List V → ℕ
total f [] = 0
total f (v ∷ vs) = f v + total f vs

module _ {E : Type 0} where
  abbrev pub tickets_out : List (View E) → ℕ
  tickets_out views = total (λ v. has_ticket v.stage) views

  abbrev pub reserves : ℕ → List (View E) → ℕ
  reserves passes views = total (λ v. in_reserve passes v.drawn) views

  abbrev pub retired : ℕ → List (View E) → ℕ
  retired passes views = total (λ v. draws_no_more passes v.live v.drawn) views

  -- A seat has a caller number as this, and these are the caller's entries
  abbrev pub IsHeld : (E → ℕ) → Course E → ℕ → Role → ℕ → List E → Type 0
  IsHeld by now seat role caller entries = (caller < now.made) × (now.owner caller ≡ (seat, role)) × (entries_of by caller now.log ≡ entries)

  -- A seat has this ticket, which is not served yet
  abbrev pub IsTicket : Course E → ℕ → ℕ → Type 0
  IsTicket now seat ticket = (now.holder ticket ≡ seat) × (now.served ≤ ticket) × (ticket < now.drawn)

  -- What a seat knows by its stage. `bare` says that the slot is at home with nothing in it
  abbrev pub Stands : Course E → Type 0 → ℕ → List E → Stage → Type 0
  Stands now bare seat seen Founds = IsTicket now seat now.served × bare × (now.out ≡ true) × (seen ≡ now.log)
  Stands now bare seat seen Idle = Unit {0}
  Stands now bare seat seen (Waits ticket) = IsTicket now seat ticket
  Stands now bare seat seen (Called ticket) = IsTicket now seat ticket × (ticket ≡ now.served)
  Stands now bare seat seen (Holds ticket) = IsTicket now seat ticket × (ticket ≡ now.served) × (now.out ≡ true) × (seen ≡ now.log)

-- What a seat knows
pub record Knows {E : Type 0} (by : E → ℕ) (now : Course E) (bare : Type 0) (seat : ℕ) (v : View E) : Type 0 where
  pub stands : Stands now bare seat v.seen v.stage
  pub seen : Extends v.seen now.log
  pub beside : Extends v.beside now.log
  pub mine : v.live ≡ true → IsHeld by now seat own v.caller v.mine
  pub noted : IfSome v.drawn (λ n. IsHeld by now seat noted n [])
  pub others : All (λ other. IsHeld by now seat returned other.0 other.1) v.others

-- How many seats and numbers there are, of at most so many passes
pub record Counted {E : Type 0} (passes made : ℕ) (views : List (View E)) : Type 0 where
  pub few : passes < 2 ^ 32
  pub seats : length views + reserves passes views ≤ made
  pub room : length views + reserves passes views ≤ passes
  pub draws : made ≤ passes + retired passes views

-- The rule
pub record Kept {T E : Type 0} (history : T → List E) (by : E → ℕ) (passes : ℕ) (s : State (Option T) (View E)) : Type 0 where
  pub now : Course E
  pub words : s.words ≡ length now.log ∷ now.made ∷ now.drawn % 2 ^ 64 ∷ now.served % 2 ^ 64 ∷ []
  pub counted : Counted passes now.made s.views
  pub tickets : now.served + tickets_out s.views ≡ now.drawn
  pub unmade : (caller : ℕ) → now.made ≤ caller → entries_of by caller now.log ≡ []
  pub each : (seat : ℕ) (v : View E) → get_elem? s.views seat ≡ some v → Knows by now (s.homes ≡ some None ∷ []) seat v
  pub home : now.out ≡ false → (x : T) × (s.homes ≡ some (Some x) ∷ []) × (history x ≡ now.log)
  pub away : now.out ≡ true → (v : View E) × (get_elem? s.views (now.holder now.served) ≡ some v) × (keeps_out v.stage ≡ true)
