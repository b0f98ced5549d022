-- What each step makes of what a seat knows.
use Rattle.std.specs.Prelude.{ℕ, true, false, List, [], ◌∷◌, ◌++◌, Option, None, unwrap_or}
use Rattle.turn_lock.specs.declared.stage.Stage.{Stage}
use Rattle.turn_lock.specs.declared.stage.Stage.TheVariants.{Founds, Idle, Waits, Called, Holds}
use Rattle.turn_lock.specs.declared.view.View.{View}
use Rattle.turn_lock.specs.Pass.{longer}

-- The ticket that a seat has, 0 where it has none
abbrev pub ticket_of : Stage → ℕ
ticket_of Founds = 0
ticket_of Idle = 0
ticket_of (Waits ticket) = ticket
ticket_of (Called ticket) = ticket
ticket_of (Holds ticket) = ticket

module _ {E : Type 0} where
  -- The first seat of a lock whose value has this history
  abbrev pub founder : List E → View E
  founder log = record { live = true; caller = 0; drawn = None; seen = log; beside = []; mine = log; others = []; stage = Founds }

  -- A seat with a new number, which has seen a list and made no entry
  abbrev pub newcomer : ℕ → List E → View E
  newcomer caller seen = record { live = true; caller = caller; drawn = None; seen = seen; beside = []; mine = []; others = []; stage = Idle }

  -- A seat that was given back
  abbrev pub spent : View E
  spent = record { live = false; caller = 0; drawn = None; seen = []; beside = []; mine = []; others = []; stage = Idle }

  -- It is this far with its turn
  abbrev pub at_stage : View E → Stage → View E
  at_stage v stage = record v { stage = stage }

  -- It notes this number for a split
  abbrev pub drawing : View E → Option ℕ → View E
  drawing v drawn = record v { drawn = drawn }

  -- A split leaves it without its note
  abbrev pub divided : View E → View E
  divided v = drawing v None

  -- and makes a seat with the number noted
  abbrev pub divided_off : View E → View E
  divided_off v = newcomer (unwrap_or v.drawn 0) v.seen

  -- Another was given back to it: what that one had seen lies beside, and its callers are known
  abbrev pub taken_in : View E → View E → View E
  taken_in v other = record v { beside = other.seen; others = v.others ++ (other.caller, other.mine) ∷ other.others }

  -- Both lists were compared with the history, of which they are beginnings: it has seen the longer
  abbrev pub compared : View E → View E
  compared v = record v { seen = longer v.seen v.beside; beside = [] }

  -- It has the value, with all of its history
  abbrev pub holding : View E → ℕ → List E → View E
  holding v ticket history = record v { seen = history; stage = Holds ticket }

  -- It has added entries
  abbrev pub adding : View E → List E → View E
  adding v entries = record v { seen = v.seen ++ entries; mine = v.mine ++ entries }
