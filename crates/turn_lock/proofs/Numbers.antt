-- Caller numbers are drawn, given to new seats, and given back. Each step keeps the rule.
use Rattle.std.proofs.Common.{◌≡◌, ℕ, ◌+◌, ◌%◌, ◌^◌, ◌<◌, ◌≤◌, ◌≢◌, true, false, cond, eqb, List, [], ◌∷◌, ◌++◌, length, set, All, IfSome, Option, Some, None, unwrap_or, refl, sym, ap, ◌∙◌, subst, ⊎_elim, arith, length-set, length-append, le_refl, eq-eqb, ne_eqb}
use Rattle.std.proofs.lemmas.List.Elements.{All-append, All-cons, All-weaker, All-nil}
use mathlib.Core.Option.{some, none}
use native.Mathlib.Decide.{dec_le}
use lib.ListN.{get_elem?}
use Rattle.atomic_table.specs.Table.{State, Me, step, keeps, Allows, Splits, Joins}
use Rattle.atomic_table.proofs.Lists.{set_else, at_longer}
use Rattle.turn_lock.specs.declared.stage.Stage.TheVariants.{Idle}
use Rattle.turn_lock.specs.declared.view.View.{View}
use Rattle.turn_lock.specs.Rule.{Role, own, noted, returned, Course, keeps_out, has_ticket, in_reserve, draws_no_more, IsHeld, Stands, Knows, Counted, Kept}
use Rattle.turn_lock.specs.Views.{newcomer, spent, drawing, divided, divided_off, taken_in, compared}
use Rattle.turn_lock.specs.Steps.{Draws, Compares}
use Rattle.turn_lock.proofs.Lists.{over, over_here, over_else, below, at_push, total_set, total_push, longer_of}
use Rattle.turn_lock.proofs.Seats.{each_set, noted_below, noted_above, few_retired, retired_most, counted_same, noted_on, own_noted, returned_noted, as_role, apart_as, apart_at, keeper_set, knows_on, allowed}

-- a seat that draws a number notes it, in reserve where it is below the number of passes
drawn_more : {E : Type 0} (passes made : ℕ) (views : List (View E)) (i : ℕ) (v : View E) → get_elem? views i ≡ some v → v.live ≡ true → v.drawn ≡ None
    → Counted passes made views → Dec (passes ≤ made) → Counted passes (made + 1) (set views i (drawing v (Some made)))
drawn_more {E} passes made views i v at live none_yet c test =
    let w : View E = drawing v (Some made) in
    let a = total_set (λ (u : View E). in_reserve passes u.drawn) views i v w at in
    let b = total_set (λ (u : View E). draws_no_more passes u.live u.drawn) views i v w at in
    let a' : in_reserve passes v.drawn ≡ 0 = ap (in_reserve passes) none_yet in
    let b' : draws_no_more passes v.live v.drawn ≡ 0 = λ k. draws_no_more passes (live k) (none_yet k) in
    let w' : draws_no_more passes v.live (Some made) ≡ draws_no_more passes true (Some made) = λ k. draws_no_more passes (live k) (Some made) in
    let n = length-set views i w in
    let seats = c.seats in let room = c.room in let draws = c.draws in
    elim test [
      | yes above ↦ (let t = noted_above passes made above in record { few = c.few; seats = omega arith; room = omega arith; draws = omega arith })
      | no below ↦ (let t = noted_below passes made (omega arith) in record { few = c.few; seats = omega arith; room = omega arith; draws = omega arith })
    ]

module _ {T E : Type 0} (history : T → List E) (by : E → ℕ) (passes : ℕ) where
  abbrev Rule : State (Option T) (View E) → Type 0
  Rule = Kept history by passes

  pub few_made : (s : State (Option T) (View E)) (r : Rule s) → r.now.made + 1 < 18446744073709551616
  few_made s r = let a = few_retired passes s.views in let few : passes < 4294967296 = r.counted.few in let room = r.counted.room in let draws = r.counted.draws in omega arith

  pub draws : (slots i : ℕ) (me : Me (Option T) (View E)) → me.0.live ≡ true → me.0.drawn ≡ None
      → Allows Rule slots i me 1 (λ n. (n + 1) % 2 ^ 64) (Draws (step slots 1 1 0 none) me)
  draws slots i me live none_yet = allowed history by passes slots i me 1 (λ n. (n + 1) % 2 ^ 64) (Draws (step slots 1 1 0 none) me) (λ s r wide at small.
      let now = r.now in
      let n : ℕ = now.made in
      let w : View E = drawing me.0 (Some n) in
      let after : Course E = record now { made = n + 1; owner = over now.owner n (i, noted) } in
      let held : (seat : ℕ) (role : Role) (c : ℕ) (es : List E) → IsHeld by now seat role c es → IsHeld by after seat role c es =
      λ seat role c es h. let lt = h.0 in (omega arith, over_else now.owner n (i, noted) c (λ is. omega arith) ∙ h.1, h.2) in
      let mine = r.each i me.0 at in
      let few = few_made s r in
      let up : (n + 1) % 18446744073709551616 ≡ n + 1 = omega arith in
      let still = total_set (λ (u : View E). has_ticket u.stage) s.views i me.0 w at in
      let tickets = r.tickets in (
        w,
        keeps,
        tt,
        record {
          now = after;
          words = ap (λ (m : ℕ). length now.log ∷ m ∷ now.drawn % 2 ^ 64 ∷ now.served % 2 ^ 64 ∷ []) up;
          counted = drawn_more passes n s.views i me.0 at live none_yet r.counted (dec_le passes n);
          tickets = omega arith;
          unmade = λ c le. r.unmade c (omega arith);
          each = each_set (Knows by after (s.homes ≡ some None ∷ [])) s.views i w
              record {
                stands = mine.stands;
                seen = mine.seen;
                beside = mine.beside;
                mine = λ _. held i own me.0.caller me.0.mine (mine.mine live);
                noted = (omega arith, over_here now.owner n (i, noted), r.unmade n (le_refl n));
                others = All-weaker (λ (o : ℕ × List E). IsHeld by now i returned o.0 o.1) (λ o. IsHeld by after i returned o.0 o.1) (λ o h. held i returned o.0 o.1 h) me.0.others mine.others;
              }
              (λ j v other there. knows_on by now after (s.homes ≡ some None ∷ []) (s.homes ≡ some None ∷ []) j v (λ k. k) (λ xs e. e) (held j) (r.each j v there));
          home = r.home;
          away = λ out. keeper_set s.views i me.0 w (now.holder now.served) at (λ is. is) (r.away out);
        },
        (refl, (mine.mine live).0),
      ))

  pub divides : (i n : ℕ) (v : View E) → v.live ≡ true → v.drawn ≡ Some n → n < passes → Splits Rule i v (divided v) (divided_off v)
  divides i n v live note lt s r at =
      let now = r.now in
      let bare : Type 0 = s.homes ≡ some None ∷ [] in
      let w : View E = divided v in
      let new : View E = newcomer n v.seen in
      let views : List (View E) = set s.views i w in
      let at_end : ℕ = length views in
      let after : Course E = record now { owner = over now.owner n (at_end, own) } in
      let mine = r.each i v at in
      let drawn : IsHeld by now i noted n [] = subst (λ (o : Option ℕ). IfSome o (λ m. IsHeld by now i noted m [])) note mine.noted in
      let held : (seat : ℕ) (role : Role) (c : ℕ) (es : List E) → as_role seat role ≢ as_role i noted → IsHeld by now seat role c es → IsHeld by after seat role c es =
      λ seat role c es apart h. (h.0, over_else now.owner n (at_end, own) c (λ is. apart (sym h.1 ∙ (ap now.owner is ∙ drawn.1))) ∙ h.1, h.2) in
      let a = total_set (λ (u : View E). in_reserve passes u.drawn) s.views i v w at in
      let a' = total_push (λ (u : View E). in_reserve passes u.drawn) views new in
      let b = total_set (λ (u : View E). draws_no_more passes u.live u.drawn) s.views i v w at in
      let b' = total_push (λ (u : View E). draws_no_more passes u.live u.drawn) views new in
      let t = total_set (λ (u : View E). has_ticket u.stage) s.views i v w at in
      let t' = total_push (λ (u : View E). has_ticket u.stage) views new in
      let below_all = noted_below passes n lt in
      let was : in_reserve passes v.drawn ≡ in_reserve passes (Some n) = ap (in_reserve passes) note in
      let drew : draws_no_more passes v.live v.drawn ≡ draws_no_more passes true (Some n) = λ k. draws_no_more passes (live k) (note k) in
      let draws_on : draws_no_more passes v.live None ≡ 0 = ap (λ b. draws_no_more passes b None) live in
      let l = length-set s.views i w in
      let l' = length-append views (new ∷ []) in
      let seats = r.counted.seats in let room = r.counted.room in let drawing_on = r.counted.draws in let tickets = r.tickets in
      let kept : Rule record { words = s.words; homes = s.homes; views = views ++ new ∷ [] } = record {
        now = after;
        words = r.words;
        counted = record { few = r.counted.few; seats = omega arith; room = omega arith; draws = omega arith };
        tickets = omega arith;
        unmade = r.unmade;
        each = λ j u there. ⊎_elim
            (λ (old : get_elem? views j ≡ some u). each_set (Knows by after bare) s.views i w
            record {
              stands = mine.stands;
              seen = mine.seen;
              beside = mine.beside;
              mine = λ alive. held i own v.caller v.mine (apart_as i own noted own_noted) (mine.mine alive);
              noted = tt;
              others = All-weaker (λ (o : ℕ × List E). IsHeld by now i returned o.0 o.1) (λ o. IsHeld by after i returned o.0 o.1) (λ o h. held i returned o.0 o.1 (apart_as i returned noted returned_noted) h) v.others mine.others;
            }
            (λ k x other here. knows_on by now after bare bare k x (λ h. h) (λ xs e. e) (λ role c es h. held k role c es (apart_at k i role noted other) h) (r.each k x here))
            j u old)
            (λ (t : (j ≡ at_end) × (new ≡ u)). subst (λ (x : ℕ × View E). Knows by after bare x.0 x.1) (λ k. (sym t.0 k, t.1 k)) record {
              stands = tt;
              seen = mine.seen;
              beside = (now.log, refl);
              mine = λ _. (drawn.0, over_here now.owner n (at_end, own), drawn.2);
              noted = tt;
              others = All-nil (λ (o : ℕ × List E). IsHeld by after at_end returned o.0 o.1);
            })
            (at_push views new u j there);
        home = r.home;
        away = λ out. let k = keeper_set s.views i v w (now.holder now.served) at (λ is. is) (r.away out) in (k.0, at_longer views (new ∷ []) (now.holder now.served) k.0 k.1, k.2);
      } in
      subst (λ (m : ℕ). Rule record { words = s.words; homes = s.homes; views = views ++ newcomer m v.seen ∷ [] }) (sym (ap (λ (o : Option ℕ). unwrap_or o 0) note)) kept

  pub compares : (slots i : ℕ) (me : Me (Option T) (View E)) → me.0.stage ≡ Idle → Allows Rule slots i me 0 (λ n. n) (Compares (step slots 0 0 0 none) me)
  compares slots i me idle = allowed history by passes slots i me 0 (λ n. n) (Compares (step slots 0 0 0 none) me) (λ s r wide at small.
      let now = r.now in
      let w : View E = compared me.0 in
      let mine = r.each i me.0 at in
      let both = longer_of me.0.seen me.0.beside now.log mine.seen mine.beside in
      let t = total_set (λ (u : View E). has_ticket u.stage) s.views i me.0 w at in
      let tickets = r.tickets in
      let bare : Type 0 = s.homes ≡ some None ∷ [] in (
        w,
        keeps,
        tt,
        record {
          now = now;
          words = refl;
          counted = counted_same passes now.made s.views i me.0 w at refl refl r.counted;
          tickets = omega arith;
          unmade = r.unmade;
          each = each_set (Knows by now bare) s.views i w
              record {
                stands = subst (Stands now bare i w.seen) (sym idle) tt;
                seen = both.2;
                beside = (now.log, refl);
                mine = mine.mine;
                noted = mine.noted;
                others = mine.others;
              }
              (λ j v other there. r.each j v there);
          home = r.home;
          away = λ out. keeper_set s.views i me.0 w (now.holder now.served) at (λ is. is) (r.away out);
        },
        (refl, both.0, both.1),
      ))

  pub joins : (i : ℕ) (v : View E) (other : ℕ) (u : View E) → v.live ≡ true → u.live ≡ true → v.stage ≡ Idle → u.stage ≡ Idle
      → Joins Rule i v other u (taken_in v u) spent
  joins i v other u live live' idle idle' s r at apart there =
      let now = r.now in
      let bare : Type 0 = s.homes ≡ some None ∷ [] in
      let w : View E = taken_in v u in
      let views : List (View E) = set s.views i w in
      let there' : get_elem? s.views other ≡ some u = sym (set_else s.views i other w apart) ∙ there in
      let mine = r.each i v at in
      let its = r.each other u there' in
      let moved : ℕ × Role → ℕ × Role = λ o. cond (eqb o.0 other) (i, returned) o in
      let stays : (seat : ℕ) (role : Role) → seat ≢ other → moved (seat, role) ≡ (seat, role) = λ seat role ne. ap (λ b. cond b (i, returned) (seat, role)) (ne_eqb seat other ne) in
      let goes : (role : Role) → moved (other, role) ≡ (i, returned) = λ role. ap (λ b. cond b (i, returned) (other, role)) (eq-eqb other other refl) in
      let after : Course E = record now { owner = λ c. moved (now.owner c) } in
      let held : (seat : ℕ) (role : Role) (c : ℕ) (es : List E) → seat ≢ other → IsHeld by now seat role c es → IsHeld by after seat role c es =
      λ seat role c es ne h. (h.0, ap moved h.1 ∙ stays seat role ne, h.2) in
      let given : (role : Role) (c : ℕ) (es : List E) → IsHeld by now other role c es → IsHeld by after i returned c es =
      λ role c es h. (h.0, ap moved h.1 ∙ goes role, h.2) in
      let here : i ≢ other = λ e. apart (sym e) in
      let P : ℕ × List E → Type 0 = λ o. IsHeld by after i returned o.0 o.1 in
      let theirs : All P u.others = All-weaker (λ (o : ℕ × List E). IsHeld by now other returned o.0 o.1) P (λ o h. given returned o.0 o.1 h) u.others its.others in
      let ours : All P v.others = All-weaker (λ (o : ℕ × List E). IsHeld by now i returned o.0 o.1) P (λ o h. held i returned o.0 o.1 here h) v.others mine.others in
      let its_own : P (u.caller, u.mine) = given own u.caller u.mine (its.mine live') in
      let a = total_set (λ (x : View E). in_reserve passes x.drawn) s.views i v w at in
      let a' = total_set (λ (x : View E). in_reserve passes x.drawn) views other u spent there in
      let b = total_set (λ (x : View E). draws_no_more passes x.live x.drawn) s.views i v w at in
      let b' = total_set (λ (x : View E). draws_no_more passes x.live x.drawn) views other u spent there in
      let t = total_set (λ (x : View E). has_ticket x.stage) s.views i v w at in
      let t' = total_set (λ (x : View E). has_ticket x.stage) views other u spent there in
      let none_out : has_ticket u.stage ≡ 0 = ap has_ticket idle' in
      let most = retired_most passes u.live u.drawn in
      let l = length-set s.views i w in
      let l' = length-set views other spent in
      let seats = r.counted.seats in let room = r.counted.room in let drawing_on = r.counted.draws in let tickets = r.tickets in
      record {
        now = after;
        words = r.words;
        counted = record { few = r.counted.few; seats = omega arith; room = omega arith; draws = omega arith };
        tickets = omega arith;
        unmade = r.unmade;
        each = each_set (Knows by after bare) views other spent
            record {
              stands = tt;
              seen = (now.log, refl);
              beside = (now.log, refl);
              mine = λ (dead : false ≡ true). cc;
              noted = tt;
              others = All-nil (λ (o : ℕ × List E). IsHeld by after other returned o.0 o.1);
            }
            (λ j x ne at_j. each_set (λ k y. k ≢ other → Knows by after bare k y) s.views i w
            (λ _. record {
              stands = subst (Stands after bare i v.seen) (sym idle) tt;
              seen = mine.seen;
              beside = its.seen;
              mine = λ alive. held i own v.caller v.mine here (mine.mine alive);
              noted = noted_on by now after i (λ role c es h. held i role c es here h) v.drawn mine.noted;
              others = All-append P v.others ((u.caller, u.mine) ∷ u.others) ours (All-cons P (u.caller, u.mine) u.others its_own theirs);
            })
            (λ k y _ at_k not_other. knows_on by now after bare bare k y (λ h. h) (λ xs e. e) (λ role c es h. held k role c es not_other h) (r.each k y at_k))
            j x at_j ne);
        home = r.home;
        away = λ out. keeper_set views other u spent (now.holder now.served) there (λ is. let e : false ≡ true = sym (ap keeps_out idle') ∙ is in cc)
            (keeper_set s.views i v w (now.holder now.served) at (λ is. is) (r.away out));
      }
