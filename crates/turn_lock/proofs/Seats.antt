-- What the seats know when one of them makes a step.
use Rattle.std.proofs.Common.{◌≡◌, ℕ, ◌%◌, ◌^◌, ◌<◌, ◌≤◌, ◌≢◌, Bool, true, false, cond, nat_lt, List, [], ◌∷◌, length, slice_index, slice_set, set, IfSome, Option, Some, None, refl, sym, ap, ◌∙◌, subst, ⊎_elim, arith, length-set}
use Rattle.std.proofs.lemmas.List.Elements.{All-weaker}
use Rattle.std.proofs.lemmas.Bool.Decides.{nat_tests}
use mathlib.Core.Logic.{dite}
use mathlib.Core.Option.{Option as Home, some, some-injective}
use native.Mathlib.Decide.{ℕ_discrete}
use lib.ListN.{get_elem?}
use Rattle.atomic_table.specs.Table.{State, Me, Act, Allows, Valid, homes_after, carried_after}
use Rattle.atomic_table.proofs.Lists.{at_set, set_else}
use Rattle.turn_lock.specs.declared.stage.Stage.{Stage}
use Rattle.turn_lock.specs.declared.stage.Stage.TheVariants.{Founds, Idle, Waits, Called, Holds}
use Rattle.turn_lock.specs.declared.view.View.{View}
use Rattle.turn_lock.specs.Pass.{Extends}
use Rattle.turn_lock.specs.Rule.{Role, own, noted, returned, Course, keeps_out, has_ticket, in_reserve, draws_no_more, tickets_out, retired, IsHeld, IsTicket, Stands, Knows, Counted, Kept}
use Rattle.turn_lock.proofs.Lists.{total_set, total_most, set_at}

-- a fact of each seat after one has changed
pub each_set : {V : Type 0} (P : ℕ → V → Type 0) (views : List V) (i : ℕ) (w : V) → P i w
    → ((j : ℕ) (v : V) → j ≢ i → get_elem? views j ≡ some v → P j v) → (j : ℕ) (v : V) → get_elem? (set views i w) j ≡ some v → P j v
each_set {V} P views i w mine others j v at =
    ⊎_elim (λ (t : (j ≡ i) × (w ≡ v)). subst (λ (x : ℕ × V). P x.0 x.1) (λ k. (sym t.0 k, t.1 k)) mine)
    (λ (t : (j ≢ i) × (get_elem? views j ≡ some v)). others j v t.0 t.1)
    (at_set views i j w v at)

-- the roles differ, and so does a seat with one from a seat with another
pub own_noted : own ≢ noted
own_noted e = cc

pub returned_noted : returned ≢ noted
returned_noted e = cc

pub noted_own : noted ≢ own
noted_own e = cc

pub returned_own : returned ≢ own
returned_own e = cc

abbrev pub as_role : ℕ → Role → ℕ × Role
as_role seat role = (seat, role)

pub apart_as : (i : ℕ) (a b : Role) → a ≢ b → as_role i a ≢ as_role i b
apart_as i a b apart e = apart (ap (λ (o : ℕ × Role). o.1) e)

pub apart_at : (j i : ℕ) (a b : Role) → j ≢ i → as_role j a ≢ as_role i b
apart_at j i a b apart e = apart (ap (λ (o : ℕ × Role). o.0) e)

pub ticket_most : (stage : Stage) → has_ticket stage ≤ 1
ticket_most Founds = omega arith
ticket_most Idle = omega arith
ticket_most (Waits t) = omega arith
ticket_most (Called t) = omega arith
ticket_most (Holds t) = omega arith

retired_by : (b : Bool) → cond b 0 1 ≤ 1
retired_by true = omega arith
retired_by false = omega arith

pub retired_most : (passes : ℕ) (live : Bool) (drawn : Option ℕ) → draws_no_more passes live drawn ≤ 1
retired_most passes false drawn = omega arith
retired_most passes true None = omega arith
retired_most passes true (Some n) = retired_by (nat_lt n passes)

abbrev pick : Bool → ℕ → ℕ → ℕ
pick b m n = cond b m n

reserve_below : (passes n : ℕ) → n < passes → (b : Bool) → nat_lt n passes ≡ b → (pick b 1 0 ≡ 1) × (pick b 0 1 ≡ 0)
reserve_below passes n lt true is = (refl, refl)
reserve_below passes n lt false is = absurd (grind (arith, nat_tests))

reserve_above : (passes n : ℕ) → passes ≤ n → (b : Bool) → nat_lt n passes ≡ b → (pick b 1 0 ≡ 0) × (pick b 0 1 ≡ 1)
reserve_above passes n le true is = absurd (grind (arith, nat_tests))
reserve_above passes n le false is = (refl, refl)

-- a number that is noted is in reserve where it is below the number of passes, and ends the drawing else
pub noted_below : (passes n : ℕ) → n < passes → (in_reserve passes (Some n) ≡ 1) × (draws_no_more passes true (Some n) ≡ 0)
noted_below passes n lt = reserve_below passes n lt (nat_lt n passes) refl

pub noted_above : (passes n : ℕ) → passes ≤ n → (in_reserve passes (Some n) ≡ 0) × (draws_no_more passes true (Some n) ≡ 1)
noted_above passes n le = reserve_above passes n le (nat_lt n passes) refl

module _ {E : Type 0} where
  pub few_tickets : (views : List (View E)) → tickets_out views ≤ length views
  few_tickets views = total_most (λ v. has_ticket v.stage) views (λ v. ticket_most v.stage)

  pub few_retired : (passes : ℕ) (views : List (View E)) → retired passes views ≤ length views
  few_retired passes views = total_most (λ v. draws_no_more passes v.live v.drawn) views (λ v. retired_most passes v.live v.drawn)

  -- numbers and seats are as before where the seat that changes notes what it noted
  pub counted_same : (passes made : ℕ) (views : List (View E)) (i : ℕ) (v w : View E) → get_elem? views i ≡ some v → w.live ≡ v.live → w.drawn ≡ v.drawn
      → Counted passes made views → Counted passes made (set views i w)
  counted_same passes made views i v w at live drawn c =
      let a = total_set (λ (u : View E). in_reserve passes u.drawn) views i v w at in
      let b = total_set (λ (u : View E). draws_no_more passes u.live u.drawn) views i v w at in
      let a' : in_reserve passes w.drawn ≡ in_reserve passes v.drawn = ap (in_reserve passes) drawn in
      let b' : draws_no_more passes w.live w.drawn ≡ draws_no_more passes v.live v.drawn = λ k. draws_no_more passes (live k) (drawn k) in
      let n = length-set views i w in
      let seats = c.seats in let room = c.room in let draws = c.draws in
      record { few = c.few; seats = omega arith; room = omega arith; draws = omega arith }

  -- who keeps the slot still does where the seat that changes keeps it if it did
  pub keeper_set : (views : List (View E)) (i : ℕ) (v w : View E) (k : ℕ) → get_elem? views i ≡ some v → (keeps_out v.stage ≡ true → keeps_out w.stage ≡ true)
      → (u : View E) × (get_elem? views k ≡ some u) × (keeps_out u.stage ≡ true)
      → (u : View E) × (get_elem? (set views i w) k ≡ some u) × (keeps_out u.stage ≡ true)
  keeper_set views i v w k at still kept = dite (ℕ_discrete k i)
      (λ same. (
        w,
        subst (λ (n : ℕ). get_elem? (set views i w) n ≡ some w) (sym same) (set_at views i v w at),
        still (subst (λ (u : View E). keeps_out u.stage ≡ true) (some-injective kept.0 v (sym kept.1 ∙ (ap (get_elem? views) same ∙ at))) kept.2),
      ))
      (λ other. (kept.0, set_else views i k w other ∙ kept.1, kept.2))

  -- a seat that keeps the slot has the ticket that is served
  pub keeper_has : (now : Course E) (bare : Type 0) (seat : ℕ) (seen : List E) (stage : Stage) → keeps_out stage ≡ true → Stands now bare seat seen stage → IsTicket now seat now.served
  keeper_has now bare seat seen Founds is k = k.0
  keeper_has now bare seat seen Idle is k = cc
  keeper_has now bare seat seen (Waits t) is k = cc
  keeper_has now bare seat seen (Called t) is k = cc
  keeper_has now bare seat seen (Holds t) is k = subst (IsTicket now seat) k.1 k.0

  -- while a seat has the ticket served, any other at most waits
  pub waiting : (now after : Course E) (bare bare' : Type 0) (i j : ℕ) (seen : List E) → j ≢ i → now.holder now.served ≡ i
      → ((t : ℕ) → IsTicket now j t → t ≢ now.served → IsTicket after j t)
      → (stage : Stage) → Stands now bare j seen stage → Stands after bare' j seen stage
  waiting now after bare bare' i j seen apart turn on Founds k = absurd (apart (sym k.0.0 ∙ turn))
  waiting now after bare bare' i j seen apart turn on Idle k = tt
  waiting now after bare bare' i j seen apart turn on (Waits t) k = on t k (λ same. apart (sym k.0 ∙ (ap now.holder same ∙ turn)))
  waiting now after bare bare' i j seen apart turn on (Called t) k = absurd (apart (sym k.0.0 ∙ (ap now.holder k.1 ∙ turn)))
  waiting now after bare bare' i j seen apart turn on (Holds t) k = absurd (apart (sym k.0.0 ∙ (ap now.holder k.1 ∙ turn)))

  -- any stage stays as it is where holders, tickets, slot and history do
  pub stands_on : (now after : Course E) (bare : Type 0) (seat : ℕ) (seen : List E) → now.out ≡ after.out → now.served ≡ after.served → now.log ≡ after.log
      → ((t : ℕ) → IsTicket now seat t → IsTicket after seat t)
      → (stage : Stage) → Stands now bare seat seen stage → Stands after bare seat seen stage
  stands_on now after bare seat seen out served log on Founds k = (subst (IsTicket after seat) served (on now.served k.0), k.1, sym out ∙ k.2, k.3 ∙ log)
  stands_on now after bare seat seen out served log on Idle k = tt
  stands_on now after bare seat seen out served log on (Waits t) k = on t k
  stands_on now after bare seat seen out served log on (Called t) k = (on t k.0, k.1 ∙ served)
  stands_on now after bare seat seen out served log on (Holds t) k = (on t k.0, k.1 ∙ served, sym out ∙ k.2, k.3 ∙ log)

module _ {E : Type 0} (by : E → ℕ) where
  pub noted_at : (now after : Course E) (seat : ℕ) → ((c : ℕ) (es : List E) → IsHeld by now seat noted c es → IsHeld by after seat noted c es)
      → (drawn : Option ℕ) → IfSome drawn (λ n. IsHeld by now seat noted n []) → IfSome drawn (λ n. IsHeld by after seat noted n [])
  noted_at now after seat held None k = tt
  noted_at now after seat held (Some n) k = held n [] k

  pub noted_on : (now after : Course E) (seat : ℕ) → ((role : Role) (c : ℕ) (es : List E) → IsHeld by now seat role c es → IsHeld by after seat role c es)
      → (drawn : Option ℕ) → IfSome drawn (λ n. IsHeld by now seat noted n []) → IfSome drawn (λ n. IsHeld by after seat noted n [])
  noted_on now after seat held drawn k = noted_at now after seat (held noted) drawn k

  -- what a seat knows, under another course
  pub knows_on : (now after : Course E) (bare bare' : Type 0) (seat : ℕ) (v : View E)
      → (Stands now bare seat v.seen v.stage → Stands after bare' seat v.seen v.stage)
      → ((xs : List E) → Extends xs now.log → Extends xs after.log)
      → ((role : Role) (c : ℕ) (es : List E) → IsHeld by now seat role c es → IsHeld by after seat role c es)
      → Knows by now bare seat v → Knows by after bare' seat v
  knows_on now after bare bare' seat v stands log held k = record {
    stands = stands k.stands;
    seen = log v.seen k.seen;
    beside = log v.beside k.beside;
    mine = λ live. held own v.caller v.mine (k.mine live);
    noted = noted_on now after seat held v.drawn k.noted;
    others = All-weaker (λ (o : ℕ × List E). IsHeld by now seat returned o.0 o.1) (λ o. IsHeld by after seat returned o.0 o.1) (λ o h. held returned o.0 o.1 h) v.others k.others;
  }

-- the words that a course has
abbrev pub words_of : {E : Type 0} → Course E → List ℕ
words_of now = length now.log ∷ now.made ∷ now.drawn % 2 ^ 64 ∷ now.served % 2 ^ 64 ∷ []

module _ {T E : Type 0} (history : T → List E) (by : E → ℕ) (passes : ℕ) where
  abbrev pub St : Type 0
  St = State (Option T) (View E)

  abbrev pub Seat : Type 0
  Seat = Me (Option T) (View E)

  -- what a step owes at these words
  abbrev pub Moves : List (Home (Option T)) → List (View E) → ℕ → Seat → ℕ → (ℕ → ℕ) → (ℕ → Seat → Type 0) → List ℕ → Type 0
  Moves homes views i me word f then ws = slice_index ws word < 18446744073709551616
      → (w : View E) × (a : Act (Option T)) × Valid homes me.1 a
      × Kept history by passes record { words = slice_set ws word (f (slice_index ws word)); homes = homes_after homes me.1 a; views = slice_set views i w }
      × then (slice_index ws word) (w, carried_after me.1 a)

  -- it is enough to keep the rule at the words of its course
  pub allowed : (slots i : ℕ) (me : Seat) (word : ℕ) (f : ℕ → ℕ) (then : ℕ → Seat → Type 0)
      → ((s : St) (r : Kept history by passes s) → length s.homes ≡ slots → get_elem? s.views i ≡ some me.0 → Moves s.homes s.views i me word f then (words_of r.now))
      → Allows (Kept history by passes) slots i me word f then
  allowed slots i me word f then go s r wide at = subst (Moves s.homes s.views i me word f then) (sym r.words) (go s r wide at)
