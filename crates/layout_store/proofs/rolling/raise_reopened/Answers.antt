use Rattle.std.proofs.Common.{◌≡◌, ℕ, ◌<◌, ◌&&◌, ◌∙◌, Bool, true, is_some, length, refl, ap, sym, arith, subst}
use Rattle.phys_columns.specs.Cells.{cell_at}
use Rattle.reservoir_record.specs.Finding.{value_of}
use Rattle.layout_store.specs.Storage.{either_side}
use Rattle.layout_store.specs.Changes.{AreChanged}
use Rattle.layout_store.specs.Documents.{count_below}
use Rattle.layout_store.specs.RolledBack.{held_in, is_reopened, raised_by, raised_if}
use Rattle.layout_store.proofs.Attributes.{changed-alike}
use Rattle.layout_store.proofs.Lists.{item-read}
use Rattle.layout_store.proofs.Recounted.{raised-none, raised-next, raise-room}
use Rattle.layout_store.proofs.Taken.{cell-held, stored-known, stored-apart, test-here}
use Rattle.layout_store.proofs.rolling.raise_reopened.Goals as goal

pub loop-version-init : goal.loop-version-init
loop-version-init c = raised-none (λ v id. is_reopened c.args.commit c.args.versions.now.versions v && is_some (held_in c.args.records.now c.args.columns.now.cells v id)) c.args.catalog.now

pub raise_if_reopened-requires-clause-known : goal.raise_if_reopened-requires-clause-known
raise_if_reopened-requires-clause-known c =
    let k = c.loop-version.version in
    let lt : k < length c.args.records.now = omega (arith, c.loop-version-test.true, c.len-version-end.ensures.exact, c.requires.many) in
    let there = item-read c.args.records.now c.args.records.now k c.index-records-version.result refl lt c.index-records-version.is in
    stored-known c.args.records.now c.args.columns.now.cells k c.index-records-version.result there (length c.loop-version.catalog) (λ id bytes e. omega (arith, c.requires.known k id bytes e, c.loop-version.invariant.many))

pub raise_if_reopened-requires-clause-apart : goal.raise_if_reopened-requires-clause-apart
raise_if_reopened-requires-clause-apart c =
    let k = c.loop-version.version in
    let lt : k < length c.args.records.now = omega (arith, c.loop-version-test.true, c.len-version-end.ensures.exact, c.requires.many) in
    let there = item-read c.args.records.now c.args.records.now k c.index-records-version.result refl lt c.index-records-version.is in
    stored-apart c.args.records.now c.args.columns.now.cells k c.index-records-version.result there (λ id bytes e. c.requires.apart k id bytes e)

pub raise_if_reopened-requires-clause-room : goal.raise_if_reopened-requires-clause-room
raise_if_reopened-requires-clause-room c = λ back id a at sure.
    let k = c.loop-version.version in
    let lt : k < length c.args.records.now = omega (arith, c.loop-version-test.true, c.len-version-end.ensures.exact, c.requires.many) in
    let there = item-read c.args.records.now c.args.records.now k c.index-records-version.result refl lt c.index-records-version.is in
    let test : is_reopened c.args.commit c.args.versions.now.versions k && is_some (held_in c.args.records.now c.args.columns.now.cells k id) ≡ true =
    test-here c.args.records.now c.args.columns.now.cells k c.index-records-version.result there (is_reopened c.args.commit c.args.versions.now.versions k) id
    ∙ ap (λ (t : Bool). t && is_some (either_side (value_of id c.index-records-version.result) (cell_at id k c.args.columns.now.cells))) back ∙ sure in
    raise-room (λ v i. is_reopened c.args.commit c.args.versions.now.versions v && is_some (held_in c.args.records.now c.args.columns.now.cells v i)) k (length c.args.records.now) 2097152 c.args.catalog.now c.loop-version.catalog c.loop-version.invariant lt c.requires.room id a at test

pub raise_if_reopened-requires-clause-listed : goal.raise_if_reopened-requires-clause-listed
raise_if_reopened-requires-clause-listed c = c.requires.listed c.loop-version.version

pub raise_if_reopened-requires-clause-celled : goal.raise_if_reopened-requires-clause-celled
raise_if_reopened-requires-clause-celled c = λ id value e.
    let held = cell-held c.args.records.now c.args.columns.now.cells c.loop-version.version id value e in
    omega (arith, c.requires.known c.loop-version.version id held.0 held.1, c.loop-version.invariant.many)

pub loop-version-preserved : goal.loop-version-preserved
loop-version-preserved c =
    let k = c.loop-version.version in
    let lt : k < length c.args.records.now = omega (arith, c.loop-version-test.true, c.len-version-end.ensures.exact, c.requires.many) in
    let there = item-read c.args.records.now c.args.records.now k c.index-records-version.result refl lt c.index-records-version.is in
    let test : ℕ → ℕ → Bool = λ v id. is_reopened c.args.commit c.args.versions.now.versions v && is_some (held_in c.args.records.now c.args.columns.now.cells v id) in
    raised-next (λ v id. is_reopened c.args.commit c.args.versions.now.versions v && is_some (held_in c.args.records.now c.args.columns.now.cells v id)) k c.args.catalog.now c.loop-version.catalog c.raise_if_reopened.new.catalog c.loop-version.invariant
    (changed-alike (λ id. raised_if (is_reopened c.args.commit c.args.versions.now.versions k && is_some (either_side (value_of id c.index-records-version.result) (cell_at id k c.args.columns.now.cells)))) (λ id. raised_if (is_reopened c.args.commit c.args.versions.now.versions k && is_some (held_in c.args.records.now c.args.columns.now.cells k id)))
    c.loop-version.catalog c.raise_if_reopened.new.catalog c.raise_if_reopened.ensures.exact
    (λ id a at. ap (λ (t : Bool). raised_if t a) (sym (test-here c.args.records.now c.args.columns.now.cells k c.index-records-version.result there (is_reopened c.args.commit c.args.versions.now.versions k) id))))

pub returns : goal.returns
returns c =
    let whole : c.loop-version.version ≡ length c.args.records.now = omega (arith, c.loop-version-test.false, c.len-version-end.ensures.exact, c.requires.many) in
    record { exact = subst (λ (n : ℕ). AreChanged (λ id. raised_by (count_below (λ (v : ℕ). is_reopened c.args.commit c.args.versions.now.versions v && is_some (held_in c.args.records.now c.args.columns.now.cells v id)) n)) c.args.catalog.now c.loop-version.catalog) whole c.loop-version.invariant }
