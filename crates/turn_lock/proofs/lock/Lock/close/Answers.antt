use Rattle.std.proofs.Common.{◌≡◌, Some, Option, sym, ap, ◌∙◌, subst}
use mathlib.Core.Option.{some-injective}
use Rattle.turn_lock.specs.Pass.{Known, FitsPass}
use Rattle.turn_lock.specs.Steps.{known_of}
use Rattle.turn_lock.proofs.Turns.{value_or}
use Rattle.turn_lock.proofs.Ends.{ends}
use Rattle.turn_lock.proofs.lock.Lock.close.Goals as goal

pub unreachable-requires : goal.unreachable-requires
unreachable-requires g c =
    let w = c.wait.ensures.called in
    let e = ends _ _ _ _ _ _ w.0 _ (ap (λ m. m.0.stage) w.1) (ap (λ m. m.0.live) w.1 ∙ c.pass.invariant.0.0) c.close_with-closed.ensures.values.2 in
    c.in_default.not-Some e.0 (sym (some-injective (Some e.0) c.take-found.result (sym e.1 ∙ c.take-found.ensures.value)))

pub returns : goal.returns
returns g c =
    let w = c.wait.ensures.called in
    let e = ends _ _ _ _ _ _ w.0 _ (ap (λ m. m.0.stage) w.1) (ap (λ m. m.0.live) w.1 ∙ c.pass.invariant.0.0) c.close_with-closed.ensures.values.2 in
    let found : Some e.0 ≡ Some c.in-Some.value = some-injective (Some e.0) c.take-found.result (sym e.1 ∙ c.take-found.ensures.value) ∙ c.in-Some.is in
    let same : e.0 ≡ c.in-Some.value = ap (λ (o : Option g.row.T.Denot). value_or e.0 o) found in
    let id = c.pass.inside.seat.table_id in
    let pass = ap (λ m. known_of id m.0) w.1 ∙ c.pass.view_is in
    let F : g.row.T.Denot → Known g.row.T-Entry.Denot → Type 0 = λ x p. FitsPass g.T.Historied.caller_of (g.T.Historied.history x) p in
    record { fits = subst (λ x. F x c.args.pass) same (subst (F e.0) pass e.2) }
