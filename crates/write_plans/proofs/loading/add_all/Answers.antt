use Rattle.std.proofs.Common.{Some, ◌≡◌, ◌⊎◌, ◌≤◌, ◌<◌, ℕ, Err, List, take, fold, inl, inr, length, map, refl, sym, ap, subst, ◌∙◌, arith}
use Rattle.std.proofs.lemmas.List.{length-map}
use Rattle.std.proofs.lemmas.Result.{err_from_is_err_and}
use Rattle.doc_values.specs.declared.kind.Kind.{Kind}
use Rattle.attr_catalog.specs.Attribute.{Attribute}
use Rattle.attr_catalog.specs.Catalog.{most_attributes}
use Rattle.row_versions.specs.History.{History, rows_of}
use Rattle.document_records.specs.Pairs.{with_fields}
use Rattle.document_records.specs.StoredDocument.{pairs_of}
use Rattle.layout_store.specs.declared.grow_fault.GrowFault.TheVariants.{Full}
use Rattle.layout_store.specs.Changes.{HasAppended}
use Rattle.layout_store.specs.Shows.{HasWritten}
use Rattle.write_plans.proofs.Folds.{too_many, take_all}
use Rattle.write_plans.proofs.Front.{can-begin, can-append}
use Rattle.write_plans.proofs.Added.{none-added, one-added}
use Rattle.write_plans.proofs.loading.add_all.Goals as goal

pub loop-place-init : goal.loop-place-init
loop-place-init c = record { undo = can-begin c.args.commit c.args.layout.now c.requires.latest; added = none-added c.args.commit c.args.documents.now c.args.layout.now }

pub loop-place-preserved : goal.loop-place-preserved
loop-place-preserved c =
    let row : c.rows-row.result ≡ rows_of c.loop-place.layout.history.versions = c.rows-row.ensures.exact ∙ ap (λ (h : History). rows_of h.versions) c.versions.ensures.exact in
    let appended = subst (λ (r : ℕ). HasAppended r c.args.commit c.get.result c.loop-place.layout c.add_lent.new.self) row c.in_ok-add_lent.ensures.ok in
    let written = subst (λ (r : ℕ). HasWritten c.args.commit r (Some c.get.result) c.loop-place.layout c.add_lent.new.self) row c.in_ok-add_lent.ensures.shows in
    record {
      undo = can-append c.roll_backs_show.ensures.law c.latest_stays.ensures.law (rows_of c.loop-place.layout.history.versions) c.args.commit c.get.result c.args.layout.now c.loop-place.layout c.add_lent.new.self c.loop-place.invariant.undo appended;
      added = one-added c.args.commit c.args.documents.now c.loop-place.place c.get.result c.args.layout.now c.loop-place.layout c.add_lent.new.self c.get.ensures.exact c.loop-place.invariant.added appended written;
    }

pub returns-in_err-add_lent-clause-full : goal.returns-in_err-add_lent-clause-full
returns-in_err-add_lent-clause-full c = λ e.
    let p = err_from_is_err_and c.from_residual.result c.from_residual.ensures.1 in
    let same : p.0 ≡ Full = cc in
    elim (c.in_err-add_lent.ensures.full (ap Err (sym p.2 ∙ same))) [
      | inl most ↦ absurd (omega (arith, c.loop-place.invariant.added.many, c.requires.room, most, c.loop-place-test.true))
      | inr wide ↦ too_many c.args.documents.now (pairs_of c.args.layout.now.attributes) (pairs_of c.loop-place.layout.attributes) c.loop-place.place most_attributes c.get.result c.get.ensures.exact c.loop-place.invariant.added.pairs wide
    ]

pub returns-clause-within : goal.returns-clause-within
returns-clause-within c =
    let n = c.args.documents.now in
    let i = c.loop-place.invariant.added in
    let whole : c.loop-place.place ≡ length c.args.documents.now = omega (arith, c.len-place-end.ensures.exact) in
    let pairs : pairs_of c.loop-place.layout.attributes ≡ fold with_fields (pairs_of c.args.layout.now.attributes) n = i.pairs ∙ ap (λ (k : ℕ). fold with_fields (pairs_of c.args.layout.now.attributes) (take k n)) whole ∙ ap (fold with_fields (pairs_of c.args.layout.now.attributes)) (take_all n) in
    let few : length c.loop-place.layout.attributes ≤ most_attributes = subst (λ (l : List Attribute). length l ≤ most_attributes) c.catalog.ensures.exact c.keeps_the_rules.ensures.few in
    omega (arith, ap length pairs, few, length-map c.loop-place.layout.attributes (λ (a : Attribute). let p : List ℕ × Kind = (a.name, a.kind) in p))
