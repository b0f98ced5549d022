use Rattle.std.proofs.Common.{◌≡◌, ℕ, ◌<◌, ◌≤◌, ◌&&◌, ◌∙◌, nat_le, Bool, true, Option, is_some, length, refl, ap, sym, arith, subst}
use Rattle.std.proofs.lemmas.Bool.Decides.{nat_tests}
use Rattle.doc_values.specs.declared.value.Value.{Value}
use Rattle.phys_columns.specs.Cells.{cell_at}
use Rattle.reservoir_record.specs.Finding.{value_of}
use Rattle.layout_store.specs.Storage.{either_side}
use Rattle.layout_store.specs.Changes.{AreChanged, lowered_if}
use Rattle.layout_store.specs.Documents.{count_below}
use Rattle.layout_store.specs.RolledBack.{held_in, lowered_by}
use Rattle.layout_store.proofs.Attributes.{changed-alike}
use Rattle.layout_store.proofs.Lists.{item-read}
use Rattle.layout_store.proofs.Recounted.{lowered-none, lowered-next, lower-left}
use Rattle.layout_store.proofs.Taken.{cleared-none, cleared-next, cell-held, cleared-all, stored-known, stored-apart, held-here}
use Rattle.layout_store.proofs.rolling.take_back.Goals as goal

pub loop-version-init : goal.loop-version-init
loop-version-init c = (lowered-none c.args.len (λ v id. is_some (held_in c.args.records.now c.args.columns.now.cells v id)) c.args.catalog.now, cleared-none c.args.len c.args.columns.now.cells)

pub lower_all-requires-clause-known : goal.lower_all-requires-clause-known
lower_all-requires-clause-known c = λ id bytes e.
    let k = c.loop-version.version in
    let lt : k < length c.args.records.now = omega (arith, c.loop-version-test.true) in
    let there = item-read c.args.records.now c.args.records.now k c.index-records-version.result refl lt c.index-records-version.is in
    let known = stored-known c.args.records.now c.args.columns.now.cells k c.index-records-version.result there (length c.args.catalog.now) (λ i b f. (c.requires.known k i b f).1) id bytes e in
    omega (arith, known, c.loop-version.invariant.0.many)

pub lower_all-requires-clause-apart : goal.lower_all-requires-clause-apart
lower_all-requires-clause-apart c = λ id bytes e.
    let k = c.loop-version.version in
    let lt : k < length c.args.records.now = omega (arith, c.loop-version-test.true) in
    let there = item-read c.args.records.now c.args.records.now k c.index-records-version.result refl lt c.index-records-version.is in
    c.loop-version.invariant.1.high k id (omega arith) ∙ stored-apart c.args.records.now c.args.columns.now.cells k c.index-records-version.result there (λ i b f. c.requires.apart k i b f) id bytes e

pub lower_all-requires-clause-counted : goal.lower_all-requires-clause-counted
lower_all-requires-clause-counted c = λ id a at sure.
    let k = c.loop-version.version in
    let lt : k < length c.args.records.now = omega (arith, c.loop-version-test.true) in
    let le : c.args.len ≤ k = c.loop-version.auto.version in
    let there = item-read c.args.records.now c.args.records.now k c.index-records-version.result refl lt c.index-records-version.is in
    let from : nat_le c.args.len k ≡ true = grind (arith, nat_tests) in
    let test : nat_le c.args.len k && is_some (held_in c.args.records.now c.args.columns.now.cells k id) ≡ true =
    (λ i. from i && is_some (held-here c.args.records.now c.args.columns.now.cells k c.index-records-version.result there id i)) ∙ sym (ap (λ (o : Option Value). is_some (either_side (value_of id c.index-records-version.result) o)) (c.loop-version.invariant.1.high k id (omega arith))) ∙ sure in
    lower-left (λ v i. nat_le c.args.len v && is_some (held_in c.args.records.now c.args.columns.now.cells v i)) k (length c.args.records.now) c.args.catalog.now c.loop-version.catalog c.loop-version.invariant.0 lt c.requires.held id a at test

pub lower_all-requires-clause-listed : goal.lower_all-requires-clause-listed
lower_all-requires-clause-listed c = λ id value e. c.requires.listed c.loop-version.version id value (sym (c.loop-version.invariant.1.high c.loop-version.version id (omega arith)) ∙ e)

pub lower_all-requires-clause-celled : goal.lower_all-requires-clause-celled
lower_all-requires-clause-celled c = λ id value e.
    let k = c.loop-version.version in
    let held = cell-held c.args.records.now c.args.columns.now.cells k id value (sym (c.loop-version.invariant.1.high k id (omega arith)) ∙ e) in
    omega (arith, (c.requires.known k id held.0 held.1).1, c.loop-version.invariant.0.many)

pub clear_cells-requires : goal.clear_cells-requires
clear_cells-requires c = record { listed = λ id value e. c.requires.listed c.loop-version.version id value (sym (c.loop-version.invariant.1.high c.loop-version.version id (omega arith)) ∙ e) }

pub loop-version-preserved : goal.loop-version-preserved
loop-version-preserved c =
    let k = c.loop-version.version in
    let lt : k < length c.args.records.now = omega (arith, c.loop-version-test.true) in
    let le : c.args.len ≤ k = c.loop-version.auto.version in
    let there = item-read c.args.records.now c.args.records.now k c.index-records-version.result refl lt c.index-records-version.is in
    let from : nat_le c.args.len k ≡ true = grind (arith, nat_tests) in
    let same : (id : ℕ) → is_some (either_side (value_of id c.index-records-version.result) (cell_at id k c.loop-version.columns.cells)) ≡ nat_le c.args.len k && is_some (held_in c.args.records.now c.args.columns.now.cells k id) =
    λ id. ap (λ (o : Option Value). is_some (either_side (value_of id c.index-records-version.result) o)) (c.loop-version.invariant.1.high k id (omega arith))
    ∙ sym (λ i. from i && is_some (held-here c.args.records.now c.args.columns.now.cells k c.index-records-version.result there id i)) in (
      lowered-next (λ v id. nat_le c.args.len v && is_some (held_in c.args.records.now c.args.columns.now.cells v id)) k c.args.catalog.now c.loop-version.catalog c.lower_all.new.catalog c.loop-version.invariant.0
          (changed-alike (λ id. lowered_if (is_some (either_side (value_of id c.index-records-version.result) (cell_at id k c.loop-version.columns.cells)))) (λ id. lowered_if (nat_le c.args.len k && is_some (held_in c.args.records.now c.args.columns.now.cells k id)))
          c.loop-version.catalog c.lower_all.new.catalog c.lower_all.ensures.exact (λ id a at. ap (λ (t : Bool). lowered_if t a) (same id))),
      cleared-next c.args.len k c.args.columns.now.cells c.loop-version.columns.cells c.clear_cells.new.columns.cells le c.loop-version.invariant.1 c.clear_cells.ensures.gone c.clear_cells.ensures.kept,
    )

pub returns : goal.returns
returns c =
    let whole : c.loop-version.version ≡ length c.args.records.now = omega (arith, c.loop-version-test.false, c.loop-version.auto.version-end c.requires.within) in
    record {
      exact = subst (λ (n : ℕ). AreChanged (λ id. lowered_by (count_below (λ (v : ℕ). nat_le c.args.len v && is_some (held_in c.args.records.now c.args.columns.now.cells v id)) n)) c.args.catalog.now c.loop-version.catalog) whole c.loop-version.invariant.0;
      gone = λ v id le. cleared-all c.args.records.now c.args.columns.now.cells c.loop-version.columns.cells c.args.len c.loop-version.version c.loop-version.invariant.1 (λ w i b e. omega (arith, (c.requires.known w i b e).0, whole)) v id le;
      kept = λ v id lt. c.loop-version.invariant.1.low v id lt;
    }
