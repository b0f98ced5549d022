use Rattle.std.proofs.Common.{ℕ, ◌<◌, Option, IfSome, length, slice_get, sym, ap, subst, ◌∙◌, arith}
use Rattle.row_versions.specs.History.{History, rows_of, newest}
use Rattle.row_versions.specs.Order.{IsLatest}
use Rattle.row_versions.specs.Stored.{no_place}
use Rattle.row_versions.proofs.EndPlaces.{few-ended}
use Rattle.row_versions.proofs.Rows.{rows-are, link-of, near-link}
use Rattle.row_versions.proofs.Together.{appended-together}
use Rattle.row_versions.proofs.versions.Versions.append.Goals as goal

pub overflow_sub-place : goal.overflow_sub-place
overflow_sub-place c = omega (arith, c.self.invariant.ends.counted, few-ended c.self.inside.list.versions, c.self.inside.ended.ok.0, c.len.ensures, c.len-place.ensures.exact)

pub note_last-requires-clause-within : goal.note_last-requires-clause-within
note_last-requires-clause-within c = let h = c.in_ok-reserve-2.ensures.items in omega (arith, c.requires.row, ap length h, rows-are c.self.inside.list.versions c.self.inside.lasts.items c.self.invariant.newest, ap (λ (h : History). rows_of h.versions) c.self.view_is)

pub push-requires : goal.push-requires
push-requires c =
    let link = c.last_of-before.ensures.exact ∙ ap (λ l. slice_get l c.args.row) (c.deref.ensures.value ∙ c.in_ok-reserve-2.ensures.items) in
    record {
      near = subst (λ (o : Option ℕ). IfSome o (λ place. place < no_place)) (sym link)
          (near-link c.args.row c.self.inside.list.versions (slice_get c.self.inside.lasts.items c.args.row) (link-of c.args.row c.self.inside.list.versions c.self.inside.lasts.items c.self.invariant.newest) c.self.invariant.kept.few);
    }

pub invariant_of-self-2 : goal.invariant_of-self-2
invariant_of-self-2 c =
    let versions = ap (λ (h : History). h.versions) c.self.view_is in
    let link = c.last_of-before.ensures.exact ∙ ap (λ l. slice_get l c.args.row) (c.deref.ensures.value ∙ c.in_ok-reserve-2.ensures.items) in
    appended-together c.self.inside.list c.push.new.self c.self.inside.lasts.items c.reserve-2.new.self.items c.note_last.new.lasts.items c.self.inside.ended.items c.reserve.new.self.items c.self.inside.horizon _ _ c.args.row c.args.commit c.len-place.result c.begun.result c.last_of-before.result c.self.invariant
    (subst (λ l. IsLatest c.args.commit l) (sym versions) c.requires.latest) (ap (newest c.args.row) versions ∙ c.requires.ended) (omega (arith, c.requires.row, ap rows_of versions)) c.len-place.ensures.exact c.if-place-eq-MOST_VERSIONS.false
    (omega (arith, c.in_ok-reserve.ensures.ok, c.in_ok-reserve.ensures.len, c.self.invariant.ends.counted, few-ended c.self.inside.list.versions, c.self.inside.ended.ok.0, c.len.ensures, c.len-place.ensures.exact))
    c.in_ok-push.ensures.ok c.begun.ensures.exact link c.in_ok-reserve-2.ensures.items c.note_last.ensures.exact c.in_ok-reserve.ensures.items
