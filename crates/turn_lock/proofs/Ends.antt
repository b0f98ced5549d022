-- The rule holds when a lock is made, and tells of the value when it is closed.
use Rattle.std.proofs.Common.{◌≡◌, ℕ, zero, suc, ◌^◌, ◌<◌, true, false, List, [], ◌∷◌, length, All, Option, Some, None, refl, sym, ap, ◌∙◌, subst, arith}
use Rattle.std.proofs.lemmas.List.Elements.{All-weaker, All-nil}
use mathlib.Core.Option.{Option as Home, some, some-injective, some-ne-none}
use lib.ListN.{get_elem?}
use Rattle.atomic_table.specs.Table.{State, opening, Final, Seen}
use Rattle.turn_lock.specs.declared.stage.Stage.TheVariants.{Called}
use Rattle.turn_lock.specs.declared.view.View.{View}
use Rattle.turn_lock.specs.Pass.{Extends, entries_of}
use Rattle.turn_lock.specs.Rule.{own, returned, Course, IsHeld, Knows, Kept}
use Rattle.turn_lock.specs.Views.{founder}
use Rattle.turn_lock.specs.Steps.{FitsView}
use Rattle.turn_lock.proofs.Lists.{extends_itself, entries_own, entries_other}
use Rattle.turn_lock.proofs.Turns.{is_home}

-- what holds of the one seat of a list holds of each
only : {V : Type 0} (P : ℕ → V → Type 0) (w : V) → P 0 w → (i : ℕ) (v : V) → get_elem? (w ∷ []) i ≡ some v → P i v
only P w mine zero v at = subst (P 0) (some-injective w v at) mine
only P w mine (suc i) v at = absurd (some-ne-none v (sym at))

module _ {T E : Type 0} (history : T → List E) (by : E → ℕ) (passes : ℕ) where
  abbrev Rule : State (Option T) (View E) → Type 0
  Rule = Kept history by passes

  pub begins : (log : List E) → passes < 2 ^ 32 → 0 < passes → All (λ e. by e ≡ 0) log
      → Rule (opening (length log ∷ 1 ∷ 1 ∷ 0 ∷ []) (None ∷ []) (founder log))
  begins log few some_pass all =
      let now : Course E = record { log = log; made = 1; drawn = 1; served = 0; owner = λ _. (0, own); holder = λ _. 0; out = true } in
      let homes : List (Home (Option T)) = some None ∷ [] in
      let bare : Type 0 = homes ≡ some None ∷ [] in
      record {
        now = now;
        words = refl;
        counted = record { few = few; seats = omega arith; room = omega arith; draws = omega arith };
        tickets = refl;
        unmade = λ c le. entries_other by 0 c log (λ is. omega arith) all;
        each = only (Knows by now bare) (founder log) record {
          stands = ((refl, omega arith, omega arith), refl, refl, refl);
          seen = extends_itself log;
          beside = (log, refl);
          mine = λ _. (omega arith, refl, entries_own by 0 log all);
          noted = tt;
          others = All-nil (λ (o : ℕ × List E). IsHeld by now 0 returned o.0 o.1);
        };
        home = λ (e : true ≡ false). absurd cc;
        away = λ _. (founder log, refl, refl);
      }

  pub ends : (ws : List ℕ) (xs : List (Option T)) (i t : ℕ) (v : View E) → v.stage ≡ Called t → v.live ≡ true → Final (Seen Rule i v) ws xs
      → (x : T) × (get_elem? xs 0 ≡ some (Some x)) × FitsView by (history x) v
  ends ws xs i t v called live f =
      let s = f.0 in
      let r = f.1.0 in
      let at = f.1.1 in
      let now = r.now in
      let value = r.home (is_home history by passes s r i t v at called) in
      let mine = r.each i v at in (
        value.0,
        f.4 0 (Some value.0) (ap (λ hs. get_elem? hs 0) value.1),
        record {
          goes_on = subst (Extends v.seen) (sym value.2) mine.seen;
          own = ap (λ l. entries_of by v.caller l) value.2 ∙ (mine.mine live).2;
          others = All-weaker (λ (o : ℕ × List E). IsHeld by now i returned o.0 o.1) (λ o. entries_of by o.0 (history value.0) ≡ o.1)
              (λ o k. ap (λ l. entries_of by o.0 l) value.2 ∙ k.2) v.others mine.others;
        },
      )
