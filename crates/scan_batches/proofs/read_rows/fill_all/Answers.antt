use Rattle.std.proofs.Common.{◌≡◌, ◌∙◌, ◌++◌, ◌+◌, ◌<◌, suc, length, map, take, get_or, set, Some, option_map, slice_get, sym, ap, arith}
use Rattle.std.proofs.lemmas.Option.{slice_get-map, slice_get_within}
use Rattle.doc_values.specs.declared.col_ref.ColRef.{ColRef}
use Rattle.scan_batches.specs.Filled.{put_behind}
use Rattle.scan_batches.specs.Reading.{values_for}
use Rattle.scan_batches.proofs.Behind.{put-none, put-next}
use Rattle.scan_batches.proofs.Tests.{path-at}
use Rattle.scan_batches.proofs.read_rows.fill_all.Goals as goal

pub loop-place-init : goal.loop-place-init
loop-place-init c = sym (put-none c.args.columns.now)

pub fill-requires-clause-lawful : goal.fill-requires-clause-lawful
fill-requires-clause-lawful c =
    let col = path-at c.args.layout.now.attributes c.args.refs.now c.args.paths.now c.loop-place.place c.index-paths-place.result c.requires.paths c.loop-place-test.true c.index-paths-place.is in
    (col.column.name, col.column.want, col.lawful)

pub loop-place-preserved : goal.loop-place-preserved
loop-place-preserved c =
    let place = c.loop-place.place in
    let first = c.args.columns.now in
    let old = c.index-columns-place.result in
    let col = path-at c.args.layout.now.attributes c.args.refs.now c.args.paths.now place c.index-paths-place.result c.requires.paths c.loop-place-test.true c.index-paths-place.is in
    let made = λ (r : ColRef). map (values_for c.args.layout.now r) c.args.versions.now in
    let more = map made c.args.refs.now in
    let at : slice_get more place ≡ Some (made col.column) = slice_get-map made c.args.refs.now place ∙ ap (option_map made) col.there in
    let filled : c.fill.new.column ≡ old ++ made col.column = c.in_ok-fill.ensures.ok col.column col.lawful ∙ ap (λ xs. xs ++ made col.column) (sym c.index-columns-place.is) in
    let there : old ≡ get_or (put_behind first (take place more)) place old = c.index-columns-place.is ∙ ap (λ xs. get_or xs place old) c.loop-place.invariant in
    let long = slice_get_within c.args.refs.now place col.column col.there in
    let within : place < length first = omega (arith, long, c.requires.width) in
    let up : suc place ≡ place + 1 = omega arith in
    (λ i. set (c.loop-place.invariant i) place (filled i))
    ∙ put-next place first more old (made col.column) at within there
    ∙ ap (λ n. put_behind first (take n more)) up
