use Rattle.std.proofs.Common.{◌≡◌, ◌∙◌, ℕ, List, [], ◌∷◌, ◌++◌, length, refl, sym, ap, subst}
use Rattle.commit_core.specs.Commits.{CoreOf, texts_of}
use Rattle.commit_core.specs.Plan.{Plan, write, plan_of}
use Rattle.commit_core.specs.Write.{loads}
use Rattle.commit_core.specs.Stored.{AreTrueTo}
use Rattle.commit_core.specs.declared.entry.Entry.{Entry}
use Rattle.commit_core.proofs.Truths.{true-kept}
use Rattle.commit_core.proofs.Written.{limits-fields, settled-now, load-true}
use Rattle.commit_core.proofs.store.Core.load.Goals as goal

pub load-requires-clause-limits : goal.load-requires-clause-limits
load-requires-clause-limits c = limits-fields c.args.documents.now (c.loads_are_light.ensures c.args.text.now c.args.collection.now c.args.documents.now c.requires).0

pub load-requires-clause-light : goal.load-requires-clause-light
load-requires-clause-light c = (c.loads_are_light.ensures c.args.text.now c.args.collection.now c.args.documents.now c.requires).1

pub load-requires-clause-settled : goal.load-requires-clause-settled
load-requires-clause-settled c =
    let now : c.now-now.result ≡ length c.self.inside.commits.items = c.now-now.ensures.exact ∙ ap (λ (x : CoreOf). length x.commits) (sym c.self.view_is) in
    settled-now c.self.inside.commits.items c.self.inside.collections c.now-now.result now c.self.invariant

pub invariant_of-self-in-Ok : goal.invariant_of-self-in-Ok
invariant_of-self-in-Ok c =
    let now : c.now-now.result ≡ length c.self.inside.commits.items = c.now-now.ensures.exact ∙ ap (λ (x : CoreOf). length x.commits) (sym c.self.view_is) in
    let planned : plan_of c.args.text.now ≡ write (loads c.text.result.now c.args.documents.now) = c.requires ∙ ap (λ (n : List ℕ). write (loads n c.args.documents.now)) (sym c.text.ensures.exact) in
    let is : c.push.new.self.items ≡ c.self.inside.commits.items ++ record { caller = c.args.caller; text = c.args.text.now } ∷ [] = rw (c.in_ok-push-in-Ok.ensures.items, c.in_ok-reserve.ensures.items, c.in_ok-copy.ensures.ok) refl in
    load-true c.self.inside.commits.items c.args.text.now c.text.result.now c.args.documents.now planned c.self.inside.collections c.self.invariant c.now-now.result now c.states_keep_the_rules.ensures c.args.caller c.load.new.self c.push.new.self.items c.in-Ok.ensures.within c.in-Ok.ensures.ok is

pub invariant_of-self-in-Err-Full : goal.invariant_of-self-in-Err-Full
invariant_of-self-in-Err-Full c =
    rw c.in_ok-reserve.ensures.items (true-kept c.rows_follow_their_documents.ensures.law (texts_of c.self.inside.commits.items) c.self.inside.collections c.load.new.self c.self.invariant c.in-Err-Full.ensures.kept)

pub invariant_of-self-in-Err-Memory : goal.invariant_of-self-in-Err-Memory
invariant_of-self-in-Err-Memory c =
    rw c.in_ok-reserve.ensures.items (true-kept c.rows_follow_their_documents.ensures.law (texts_of c.self.inside.commits.items) c.self.inside.collections c.load.new.self c.self.invariant c.in-Err-Memory.ensures.kept)
