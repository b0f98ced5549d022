use Rattle.std.proofs.Common.{◌≡◌, ◌+◌, ◌<◌, ◌≤◌, ℕ, length, refl, sym, ap, subst, ◌∙◌, arith}
use Rattle.row_versions.specs.History.{History}
use Rattle.layout_store.specs.RolledBack.{HasRolledBack}
use Rattle.write_plans.proofs.Added.{has-become, load-fits}
use Rattle.write_plans.proofs.Back.{few, unheld, taken-back, shows-stand}
use Rattle.write_plans.proofs.loading.load.Goals as goal

pub overflow_sub-versions : goal.overflow_sub-versions
overflow_sub-versions c =
    let h = ap (λ (x : History). length x.versions) c.versions-2.ensures.exact in
    let k = ap (λ (x : History). length x.versions) c.versions.ensures.exact in
    omega (arith, c.keeps_order.ensures.law.few, h, k)

pub add_all-requires-clause-room : goal.add_all-requires-clause-room
add_all-requires-clause-room c =
    let h = ap (λ (x : History). length x.versions) c.versions-2.ensures.exact in
    let k = ap (λ (x : History). length x.versions) c.versions.ensures.exact in
    omega (arith, c.keeps_order.ensures.law.few, h, k)

pub roll_back-requires-clause-within : goal.roll_back-requires-clause-within
roll_back-requires-clause-within c =
    let lt : c.args.now < c.args.now + 1 = omega arith in
    omega (arith, few c.roll_backs_show.ensures.law c.args.layout.now c.add_all.new.layout c.keeps_the_rules.ensures.law c.args.now (c.args.now + 1) c.requires.settled.latest lt c.add_all.ensures.undo, ap length c.catalog.ensures.exact)

pub roll_back-requires-clause-unheld : goal.roll_back-requires-clause-unheld
roll_back-requires-clause-unheld c = λ version id le.
    let lt : c.args.now < c.args.now + 1 = omega arith in
    unheld c.roll_backs_show.ensures.law c.args.layout.now c.add_all.new.layout c.keeps_the_rules.ensures.law c.args.now (c.args.now + 1) c.requires.settled.latest lt c.add_all.ensures.undo version id (omega (arith, le, ap length c.catalog.ensures.exact))

pub returns-in-Ok-clause-ok : goal.returns-in-Ok-clause-ok
returns-in-Ok-clause-ok c = has-become c.rows_follow_their_documents.ensures.law c.args.now c.args.documents.now c.args.layout.now c.add_all.new.layout c.requires.settled c.add_all.ensures.undo c.in-Ok.ensures.ok

pub returns-in-Ok-clause-within : goal.returns-in-Ok-clause-within
returns-in-Ok-clause-within c =
    let h = ap (λ (x : History). length x.versions) c.versions-2.ensures.exact in
    load-fits c.args.now c.args.documents.now c.args.layout.now c.in-Ok.ensures.within (let k = ap (λ (x : History). length x.versions) c.versions.ensures.exact in
    omega (arith, c.keeps_order.ensures.law.few, h, k))

pub returns-in-Err-clause-kept : goal.returns-in-Err-clause-kept
returns-in-Err-clause-kept c =
    let lt : c.args.now < c.args.now + 1 = omega arith in
    let left : c.len-attributes.result ≡ length c.args.layout.now.attributes = c.len-attributes.ensures.exact ∙ ap length c.catalog.ensures.exact in
    taken-back c.roll_backs_show.ensures.law c.args.layout.now c.add_all.new.layout c.keeps_the_rules.ensures.law c.args.now (c.args.now + 1) c.requires.settled.latest lt c.add_all.ensures.undo c.roll_back.new.self
    (subst (λ (n : ℕ). HasRolledBack (c.args.now + 1) n c.add_all.new.layout c.roll_back.new.self) left c.roll_back.ensures.exact)

pub returns-in-Err-clause-shows : goal.returns-in-Err-clause-shows
returns-in-Err-clause-shows c =
    let lt : c.args.now < c.args.now + 1 = omega arith in
    let left : c.len-attributes.result ≡ length c.args.layout.now.attributes = c.len-attributes.ensures.exact ∙ ap length c.catalog.ensures.exact in
    shows-stand c.args.layout.now c.roll_back.new.self
    (taken-back c.roll_backs_show.ensures.law c.args.layout.now c.add_all.new.layout c.keeps_the_rules.ensures.law c.args.now (c.args.now + 1) c.requires.settled.latest lt c.add_all.ensures.undo c.roll_back.new.self
    (subst (λ (n : ℕ). HasRolledBack (c.args.now + 1) n c.add_all.new.layout c.roll_back.new.self) left c.roll_back.ensures.exact))
