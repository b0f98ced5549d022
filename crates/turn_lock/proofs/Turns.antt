-- Tickets are drawn and served, and the value is taken and given back. Each step keeps the rule.
use Rattle.std.proofs.Common.{◌≡◌, ℕ, ◌+◌, ◌%◌, ◌^◌, ◌<◌, ◌≢◌, Bool, true, false, List, [], ◌∷◌, ◌++◌, length, set, drop, All, Option, Some, None, MatchBool, refl, sym, ap, ◌∙◌, subst, arith, length-append, eq-eqb, ne_eqb}
use Rattle.std.proofs.Math.Seq.{drop-append_seam}
use Rattle.std.proofs.lemmas.List.Elements.{All-weaker}
use mathlib.Core.Logic.{dite}
use mathlib.Core.Option.{Option as Home, some, none}
use native.Mathlib.Decide.{ℕ_discrete}
use lib.ListN.{get_elem?}
use Rattle.atomic_table.specs.Table.{State, Me, Act, step, keeps, takes, gives, homes_after, Allows}
use Rattle.atomic_table.proofs.Lists.{one_turn, set_again}
use Rattle.turn_lock.specs.declared.stage.Stage.TheVariants.{Founds, Idle, Waits, Called, Holds}
use Rattle.turn_lock.specs.declared.view.View.{View}
use Rattle.turn_lock.specs.Pass.{Extends, entries_of}
use Rattle.turn_lock.specs.Rule.{Role, own, noted, returned, Course, keeps_out, has_ticket, IsHeld, IsTicket, Stands, Knows, Kept}
use Rattle.turn_lock.specs.Views.{ticket_of, at_stage, holding, adding}
use Rattle.turn_lock.specs.Steps.{Queues, LooksUp, Takes, Adds, PassesOn, Opens}
use Rattle.turn_lock.proofs.Lists.{over, over_here, over_else, total_set, extends_itself, extends_more, set_at, entries_grown, entries_stay}
use Rattle.turn_lock.proofs.Seats.{each_set, few_tickets, counted_same, keeper_set, keeper_has, waiting, stands_on, noted_on, noted_at, knows_on, words_of, allowed, noted_own, returned_own, as_role, apart_as, apart_at}

is_false : (b : Bool) → (b ≡ true → ⊥) → b ≡ false
is_false true no_more = absurd (no_more refl)
is_false false no_more = refl

-- the value in a seat's hand
abbrev pub value_or : {T : Type 0} → T → Option T → T
value_or x None = x
value_or x (Some y) = y

abbrev in_hand : {T : Type 0} → T → List (ℕ × Option T) → T
in_hand x [] = x
in_hand x (y ∷ ys) = value_or x y.1

alone_is : {A : Type 0} (xs : List A) (a : A) → length xs ≡ 1 → set xs 0 a ≡ a ∷ []
alone_is [] a one = absurd (omega arith)
alone_is (x ∷ []) a one = refl
alone_is (x ∷ y ∷ xs) a one = absurd (omega arith)

module _ {T E : Type 0} (history : T → List E) (by : E → ℕ) (passes : ℕ) where
  abbrev Rule : State (Option T) (View E) → Type 0
  Rule = Kept history by passes

  -- a seat that is called finds the value at home
  pub is_home : (s : State (Option T) (View E)) (r : Rule s) (i t : ℕ) (v : View E) → get_elem? s.views i ≡ some v → v.stage ≡ Called t → r.now.out ≡ false
  is_home s r i t v at called = is_false r.now.out (λ out.
      let now = r.now in
      let mine = r.each i v at in
      let mine' = subst (Stands now (s.homes ≡ some None ∷ []) i v.seen) called mine.stands in
      let keeper = r.away out in
      let here : now.holder now.served ≡ i = ap now.holder (sym mine'.1) ∙ mine'.0.0 in
      let same : some keeper.0 ≡ some v = sym keeper.1 ∙ (ap (get_elem? s.views) here ∙ at) in
      let stage_of : Home (View E) → Bool = λ o. elim o [ none ↦ true | some u ↦ keeps_out u.stage ] in
      let e : true ≡ false = sym keeper.2 ∙ (ap stage_of same ∙ ap keeps_out called) in
      cc)

  pub queues : (slots i : ℕ) (me : Me (Option T) (View E)) → me.0.stage ≡ Idle → Allows Rule slots i me 2 (λ n. (n + 1) % 2 ^ 64) (Queues (step slots 2 1 0 none) me)
  queues slots i me idle = allowed history by passes slots i me 2 (λ n. (n + 1) % 2 ^ 64) (Queues (step slots 2 1 0 none) me) (λ s r wide at small.
      let now = r.now in
      let bare : Type 0 = s.homes ≡ some None ∷ [] in
      let d : ℕ = now.drawn in
      let w : View E = at_stage me.0 (Waits d) in
      let after : Course E = record now { drawn = d + 1; holder = over now.holder d i } in
      let mine = r.each i me.0 at in
      let t = total_set (λ (u : View E). has_ticket u.stage) s.views i me.0 w at in
      let none_yet : has_ticket me.0.stage ≡ 0 = ap has_ticket idle in
      let tickets = r.tickets in
      let on : (seat ticket : ℕ) → IsTicket now seat ticket → IsTicket after seat ticket =
      λ seat ticket h. let a = h.1 in let b = h.2 in (over_else now.holder d i ticket (λ is. omega arith) ∙ h.0, a, omega arith) in
      let up : (d % 18446744073709551616 + 1) % 18446744073709551616 ≡ (d + 1) % 18446744073709551616 = omega arith in (
        w,
        keeps,
        tt,
        record {
          now = after;
          words = ap (λ (m : ℕ). length now.log ∷ now.made ∷ m ∷ now.served % 2 ^ 64 ∷ []) up;
          counted = counted_same passes now.made s.views i me.0 w at refl refl r.counted;
          tickets = omega arith;
          unmade = r.unmade;
          each = each_set (Knows by after bare) s.views i w
              record {
                stands = (over_here now.holder d i, omega arith, omega arith);
                seen = mine.seen;
                beside = mine.beside;
                mine = mine.mine;
                noted = noted_on by now after i (λ role c es h. h) me.0.drawn mine.noted;
                others = mine.others;
              }
              (λ j v other there. knows_on by now after bare bare j v (stands_on now after bare j v.seen refl refl refl (on j) v.stage) (λ xs e. e) (λ role c es h. h) (r.each j v there));
          home = r.home;
          away = λ out.
              let k = r.away out in
              let first = keeper_has now bare (now.holder now.served) k.0.seen k.0.stage k.2 (r.each (now.holder now.served) k.0 k.1).stands in
              let lt = first.2 in
              subst (λ (m : ℕ). (u : View E) × (get_elem? (set s.views i w) m ≡ some u) × (keeps_out u.stage ≡ true)) (sym (over_else now.holder d i now.served (λ is. omega arith)))
              (keeper_set s.views i me.0 w (now.holder now.served) at (λ is. let e : false ≡ true = sym (ap keeps_out idle) ∙ is in cc) k);
        },
        (d, refl, refl),
      ))

  pub looks_up : (slots i t : ℕ) (me : Me (Option T) (View E)) → me.0.stage ≡ Waits t → Allows Rule slots i me 3 (λ n. n) (LooksUp (step slots 3 0 0 none) me)
  looks_up slots i t me waits = allowed history by passes slots i me 3 (λ n. n) (LooksUp (step slots 3 0 0 none) me) (λ s r wide at small.
      let now = r.now in
      let bare : Type 0 = s.homes ≡ some None ∷ [] in
      let n : ℕ = now.served % 18446744073709551616 in
      let mine = r.each i me.0 at in
      let ticket : ticket_of me.0.stage ≡ t = ap ticket_of waits in
      let w : View E = at_stage me.0 (Called (ticket_of me.0.stage)) in
      let P : Bool → Me (Option T) (View E) → Type 0 = λ b m. MatchBool b (m ≡ (w, me.1)) (m ≡ me) in
      dite (ℕ_discrete n (ticket_of me.0.stage % 18446744073709551616))
      (λ same.
      let h = subst (Stands now bare i me.0.seen) waits mine.stands in
      let a = h.1 in let b = h.2 in
      let few = few_tickets s.views in let room = r.counted.room in let most : passes < 4294967296 = r.counted.few in let tickets = r.tickets in
      let turn : now.served ≡ t = one_turn now.served t 18446744073709551616 a (omega arith) (same ∙ ap (λ (m : ℕ). m % 18446744073709551616) ticket) in
      let total_on = total_set (λ (u : View E). has_ticket u.stage) s.views i me.0 w at in
      let one : has_ticket me.0.stage ≡ 1 = ap has_ticket waits in (
        w,
        keeps,
        tt,
        record {
          now = now;
          words = refl;
          counted = counted_same passes now.made s.views i me.0 w at refl refl r.counted;
          tickets = omega arith;
          unmade = r.unmade;
          each = each_set (Knows by now bare) s.views i w
              record {
                stands = subst (λ (m : ℕ). IsTicket now i m × (m ≡ now.served)) (sym ticket) (h, sym turn);
                seen = mine.seen;
                beside = mine.beside;
                mine = mine.mine;
                noted = mine.noted;
                others = mine.others;
              }
              (λ j v other there. r.each j v there);
          home = r.home;
          away = λ out. keeper_set s.views i me.0 w (now.holder now.served) at (λ is. let e : false ≡ true = sym (ap keeps_out waits) ∙ is in cc) (r.away out);
        },
        subst (λ (b : Bool). P b (w, me.1)) (sym (eq-eqb n (ticket_of me.0.stage % 18446744073709551616) same)) refl,
      ))
      (λ differ. (
        me.0,
        keeps,
        tt,
        subst (λ (vs : List (View E)). Rule record { words = words_of now; homes = s.homes; views = vs }) (sym (set_again s.views i me.0 at))
            record { now = now; words = refl; counted = r.counted; tickets = r.tickets; unmade = r.unmade; each = r.each; home = r.home; away = r.away },
        subst (λ (b : Bool). P b me) (sym (ne_eqb n (ticket_of me.0.stage % 18446744073709551616) differ)) refl,
      )))

  -- the seat that has the ticket served, and keeps the slot
  holds_it : (views : List (View E)) (holder : ℕ → ℕ) (served i : ℕ) (v w : View E) → get_elem? views i ≡ some v → holder served ≡ i → keeps_out w.stage ≡ true
      → (u : View E) × (get_elem? (set views i w) (holder served) ≡ some u) × (keeps_out u.stage ≡ true)
  holds_it views holder served i v w at here is = (w, subst (λ (n : ℕ). get_elem? (set views i w) n ≡ some w) (sym here) (set_at views i v w at), is)

  pub takes_it : (slots i t : ℕ) (me : Me (Option T) (View E)) → me.0.stage ≡ Called t → me.0.live ≡ true → me.1 ≡ []
      → Allows Rule slots i me 0 (λ n. n) (Takes history by (step slots 0 0 0 none) me)
  takes_it slots i t me called live empty = allowed history by passes slots i me 0 (λ n. n) (Takes history by (step slots 0 0 0 none) me) (λ s r wide at small.
      let now = r.now in
      let bare : Type 0 = s.homes ≡ some None ∷ [] in
      let value = r.home (is_home s r i t me.0 at called) in
      let x : T = value.0 in
      let log_is : history x ≡ now.log = value.2 in
      let w : View E = holding me.0 t (history x) in
      let act : Act (Option T) = takes 0 (Some x) in
      let after : Course E = record now { out = true } in
      let bare' : Type 0 = homes_after s.homes me.1 act ≡ some None ∷ [] in
      let mine = r.each i me.0 at in
      let h = subst (Stands now bare i me.0.seen) called mine.stands in
      let here : now.holder now.served ≡ i = ap now.holder (sym h.1) ∙ h.0.0 in
      let total_on = total_set (λ (u : View E). has_ticket u.stage) s.views i me.0 w at in
      let one : has_ticket me.0.stage ≡ 1 = ap has_ticket called in
      let tickets = r.tickets in
      let own_held = mine.mine live in (
        w,
        act,
        ap (λ hs. get_elem? hs 0) value.1,
        record {
          now = after;
          words = refl;
          counted = counted_same passes now.made s.views i me.0 w at refl refl r.counted;
          tickets = omega arith;
          unmade = r.unmade;
          each = each_set (Knows by after bare') s.views i w
              record {
                stands = (h.0, h.1, refl, log_is);
                seen = subst (Extends (history x)) log_is (extends_itself (history x));
                beside = mine.beside;
                mine = mine.mine;
                noted = noted_on by now after i (λ role c es k. k) me.0.drawn mine.noted;
                others = mine.others;
              }
              (λ j v other there. knows_on by now after bare bare' j v (waiting now after bare bare' i j v.seen other here (λ n k _. k) v.stage) (λ xs e. e) (λ role c es k. k) (r.each j v there));
          home = λ (e : true ≡ false). absurd cc;
          away = λ _. holds_it s.views now.holder now.served i me.0 w at here refl;
        },
        (
          t,
          x,
          ap (λ cs. (w, (0, Some x) ∷ cs)) empty,
          record {
            goes_on = subst (Extends me.0.seen) (sym log_is) mine.seen;
            own = ap (λ l. entries_of by me.0.caller l) log_is ∙ own_held.2;
            others = All-weaker (λ (o : ℕ × List E). IsHeld by now i returned o.0 o.1) (λ o. entries_of by o.0 (history x) ≡ o.1) (λ o k. ap (λ l. entries_of by o.0 l) log_is ∙ k.2) me.0.others mine.others;
          },
          ap (λ l. length l) (sym log_is),
        ),
      ))

  pub opens : (slots i : ℕ) (me : Me (Option T) (View E)) → me.0.stage ≡ Founds → me.1 ≡ [] → Allows Rule slots i me 0 (λ n. n) (Opens (step slots 0 0 0 none) me)
  opens slots i me founds empty = allowed history by passes slots i me 0 (λ n. n) (Opens (step slots 0 0 0 none) me) (λ s r wide at small.
      let now = r.now in
      let bare : Type 0 = s.homes ≡ some None ∷ [] in
      let t : ℕ = now.served in
      let w : View E = at_stage me.0 (Holds t) in
      let act : Act (Option T) = takes 0 None in
      let bare' : Type 0 = homes_after s.homes me.1 act ≡ some None ∷ [] in
      let mine = r.each i me.0 at in
      let h = subst (Stands now bare i me.0.seen) founds mine.stands in
      let here : now.holder now.served ≡ i = h.0.0 in
      let total_on = total_set (λ (u : View E). has_ticket u.stage) s.views i me.0 w at in
      let one : has_ticket me.0.stage ≡ 1 = ap has_ticket founds in
      let tickets = r.tickets in (
        w,
        act,
        ap (λ hs. get_elem? hs 0) h.1,
        record {
          now = now;
          words = refl;
          counted = counted_same passes now.made s.views i me.0 w at refl refl r.counted;
          tickets = omega arith;
          unmade = r.unmade;
          each = each_set (Knows by now bare') s.views i w
              record {
                stands = (h.0, refl, h.2, h.3);
                seen = mine.seen;
                beside = mine.beside;
                mine = mine.mine;
                noted = mine.noted;
                others = mine.others;
              }
              (λ j v other there. knows_on by now now bare bare' j v (waiting now now bare bare' i j v.seen other here (λ n k _. k) v.stage) (λ xs e. e) (λ role c es k. k) (r.each j v there));
          home = λ home. let e : true ≡ false = sym h.2 ∙ home in absurd cc;
          away = λ _. holds_it s.views now.holder now.served i me.0 w at here refl;
        },
        (t, ap (λ cs. (w, (0, None) ∷ cs)) empty),
      ))

  -- entries that a seat adds while it holds the value: the history, the list seen and its own grow by them
  adds_these : (slots i t : ℕ) (me : Me (Option T) (View E)) (es : List E) (then : ℕ → Me (Option T) (View E) → Type 0) → me.0.stage ≡ Holds t → me.0.live ≡ true
      → All (λ e. by e ≡ me.0.caller) es → length (me.0.seen ++ es) < 18446744073709551616 → (n : ℕ) → n ≡ length es → ((m : ℕ) → then m (adding me.0 es, me.1))
      → Allows Rule slots i me 0 (λ m. (m + n) % 2 ^ 64) then
  adds_these slots i t me es then holds live all short n is told = allowed history by passes slots i me 0 (λ m. (m + n) % 2 ^ 64) then (λ s r wide at small.
      let now = r.now in
      let bare : Type 0 = s.homes ≡ some None ∷ [] in
      let w : View E = adding me.0 es in
      let after : Course E = record now { log = now.log ++ es } in
      let mine = r.each i me.0 at in
      let h = subst (Stands now bare i me.0.seen) holds mine.stands in
      let here : now.holder now.served ≡ i = ap now.holder (sym h.1) ∙ h.0.0 in
      let own_held = mine.mine live in
      let held : (seat : ℕ) (role : Role) (c : ℕ) (fs : List E) → as_role seat role ≢ as_role i own → IsHeld by now seat role c fs → IsHeld by after seat role c fs =
      λ seat role c fs apart k. (k.0, k.1, entries_stay by me.0.caller c now.log es (λ e. apart (sym k.1 ∙ (ap now.owner e ∙ own_held.1))) all ∙ k.2) in
      let total_on = total_set (λ (u : View E). has_ticket u.stage) s.views i me.0 w at in
      let tickets = r.tickets in
      let seen_is : me.0.seen ≡ now.log = h.3 in
      let same : length (me.0.seen ++ es) ≡ length (now.log ++ es) = ap (λ l. length (l ++ es)) seen_is in
      let split = length-append now.log es in
      let up : (length now.log + n) % 18446744073709551616 ≡ length (now.log ++ es) = omega arith in (
        w,
        keeps,
        tt,
        record {
          now = after;
          words = ap (λ (m : ℕ). m ∷ now.made ∷ now.drawn % 2 ^ 64 ∷ now.served % 2 ^ 64 ∷ []) up;
          counted = counted_same passes now.made s.views i me.0 w at refl refl r.counted;
          tickets = omega arith;
          unmade = λ c le. let lt = own_held.0 in entries_stay by me.0.caller c now.log es (λ e. omega arith) all ∙ r.unmade c le;
          each = each_set (Knows by after bare) s.views i w
              record {
                stands = subst (Stands after bare i w.seen) (sym holds) (h.0, h.1, h.2, ap (λ l. l ++ es) seen_is);
                seen = subst (λ l. Extends (l ++ es) (now.log ++ es)) (sym seen_is) (extends_itself (now.log ++ es));
                beside = extends_more me.0.beside now.log es mine.beside;
                mine = λ _. (own_held.0, own_held.1, entries_grown by me.0.caller now.log es all ∙ ap (λ l. l ++ es) own_held.2);
                noted = noted_at by now after i (λ c fs k. held i noted c fs (apart_as i noted own noted_own) k) me.0.drawn mine.noted;
                others = All-weaker (λ (o : ℕ × List E). IsHeld by now i returned o.0 o.1) (λ o. IsHeld by after i returned o.0 o.1)
                    (λ o k. held i returned o.0 o.1 (apart_as i returned own returned_own) k) me.0.others mine.others;
              }
              (λ j v other there. knows_on by now after bare bare j v (waiting now after bare bare i j v.seen other here (λ m k _. k) v.stage) (λ xs e. extends_more xs now.log es e)
              (λ role c fs k. held j role c fs (apart_at j i role own other) k) (r.each j v there));
          home = λ home. let e : true ≡ false = sym h.2 ∙ home in absurd cc;
          away = λ out. keeper_set s.views i me.0 w (now.holder now.served) at (λ e. e) (r.away out);
        },
        told (length now.log),
      ))

  pub adds : (slots i t : ℕ) (me : Me (Option T) (View E)) (x : T) (es : List E) → me.0.stage ≡ Holds t → me.0.live ≡ true → me.1 ≡ (0, Some x) ∷ []
      → history x ≡ me.0.seen ++ es → All (λ e. by e ≡ me.0.caller) es → length (history x) < 18446744073709551616 → (n : ℕ) → n ≡ length es
      → Allows Rule slots i me 0 (λ m. (m + n) % 2 ^ 64) (Adds history (step slots 0 n 0 none) me)
  adds slots i t me x es holds live has is all short n counts = adds_these slots i t me es (Adds history (step slots 0 n 0 none) me) holds live all
      (subst (λ (m : ℕ). m < 18446744073709551616) (ap (λ l. length l) is) short) n counts
      (λ m y there. let same : x ≡ y = ap (in_hand x) (sym has ∙ there) in
      let tail : es ≡ drop (length me.0.seen) (history y) = sym (drop-append_seam me.0.seen es) ∙ ap (λ l. drop (length me.0.seen) l) (sym is ∙ ap history same) in
      ap (λ l. (adding me.0 l, me.1)) tail)

  pub passes_on : (slots i t : ℕ) (me : Me (Option T) (View E)) (x : T) → slots ≡ 1 → me.0.stage ≡ Holds t → me.1 ≡ (0, Some x) ∷ [] → history x ≡ me.0.seen
      → Allows Rule slots i me 3 (λ n. (n + 1) % 2 ^ 64) (PassesOn (step slots 3 1 0 none) me)
  passes_on slots i t me x one_slot holds has is = allowed history by passes slots i me 3 (λ n. (n + 1) % 2 ^ 64) (PassesOn (step slots 3 1 0 none) me) (λ s r wide at small.
      let now = r.now in
      let bare : Type 0 = s.homes ≡ some None ∷ [] in
      let w : View E = at_stage me.0 Idle in
      let act : Act (Option T) = gives in
      let after : Course E = record now { served = now.served + 1; out = false } in
      let homes = homes_after s.homes me.1 act in
      let bare' : Type 0 = homes ≡ some None ∷ [] in
      let put : homes ≡ some (Some x) ∷ [] = ap (λ c. homes_after s.homes c act) has ∙ alone_is s.homes (some (Some x)) (wide ∙ one_slot) in
      let mine = r.each i me.0 at in
      let h = subst (Stands now bare i me.0.seen) holds mine.stands in
      let here : now.holder now.served ≡ i = ap now.holder (sym h.1) ∙ h.0.0 in
      let total_on = total_set (λ (u : View E). has_ticket u.stage) s.views i me.0 w at in
      let one : has_ticket me.0.stage ≡ 1 = ap has_ticket holds in
      let tickets = r.tickets in
      let m : ℕ = now.served in
      let up : (m % 18446744073709551616 + 1) % 18446744073709551616 ≡ (m + 1) % 18446744073709551616 = omega arith in (
        w,
        act,
        tt,
        record {
          now = after;
          words = ap (λ (n : ℕ). length now.log ∷ now.made ∷ now.drawn % 2 ^ 64 ∷ n ∷ []) up;
          counted = counted_same passes now.made s.views i me.0 w at refl refl r.counted;
          tickets = omega arith;
          unmade = r.unmade;
          each = each_set (Knows by after bare') s.views i w
              record {
                stands = tt;
                seen = mine.seen;
                beside = mine.beside;
                mine = mine.mine;
                noted = noted_on by now after i (λ role c es k. k) me.0.drawn mine.noted;
                others = mine.others;
              }
              (λ j v other there. knows_on by now after bare bare' j v
              (waiting now after bare bare' i j v.seen other here (λ n k differs. let le = k.1 in (k.0, omega arith, k.2)) v.stage) (λ xs e. e) (λ role c es k. k) (r.each j v there));
          home = λ _. (x, put, is ∙ h.3);
          away = λ (e : false ≡ true). absurd cc;
        },
        refl,
      ))

  -- the same of a seat that has just put the value into its slot
  pub adds_filled : (slots i t : ℕ) (me : Me (Option T) (View E)) (v : View E) (x : T) (es : List E) → me ≡ (v, (0, Some x) ∷ []) → v.stage ≡ Holds t → v.live ≡ true
      → history x ≡ v.seen ++ es → All (λ e. by e ≡ v.caller) es → length (history x) < 18446744073709551616 → (n : ℕ) → n ≡ length es
      → Allows Rule slots i me 0 (λ m. (m + n) % 2 ^ 64) (Adds history (step slots 0 n 0 none) me)
  adds_filled slots i t me v x es full holds live is all short n counts =
      subst (λ (m : Me (Option T) (View E)). Allows Rule slots i m 0 (λ k. (k + n) % 2 ^ 64) (Adds history (step slots 0 n 0 none) m)) (sym full)
      (adds slots i t (v, (0, Some x) ∷ []) x es holds live refl is all short n counts)

  -- and of one that has then counted what it added
  pub passes_on_added : (slots i t : ℕ) (me : Me (Option T) (View E)) (v : View E) (x : T) (es : List E) → me ≡ (adding v (drop (length v.seen) (history x)), (0, Some x) ∷ [])
      → slots ≡ 1 → v.stage ≡ Holds t → history x ≡ v.seen ++ es
      → Allows Rule slots i me 3 (λ n. (n + 1) % 2 ^ 64) (PassesOn (step slots 3 1 0 none) me)
  passes_on_added slots i t me v x es after one_slot holds is =
      let tail : drop (length v.seen) (history x) ≡ es = ap (λ l. drop (length v.seen) l) is ∙ drop-append_seam v.seen es in
      subst (λ (m : Me (Option T) (View E)). Allows Rule slots i m 3 (λ k. (k + 1) % 2 ^ 64) (PassesOn (step slots 3 1 0 none) m)) (sym after)
      (passes_on slots i t (adding v (drop (length v.seen) (history x)), (0, Some x) ∷ []) x one_slot holds refl (is ∙ ap (λ l. v.seen ++ l) (sym tail)))
