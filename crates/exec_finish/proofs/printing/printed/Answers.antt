use Rattle.std.proofs.Common.{◌<◌, ◌≡◌, All, get_or, map, flat_map, take, [], ◌∷◌, ◌++◌, sym, ap, ◌∙◌, subst, append-nil}
use Rattle.std.proofs.lemmas.List.{map_more}
use Rattle.std.proofs.lemmas.Grind.{flat_map-append}
use Rattle.std.proofs.lemmas.Option.{slice_get_within, get_or_from_slice_get}
use Rattle.sql_eval.specs.Widths.{CanEvaluate}
use Rattle.exec_finish.specs.Answer.{row_line}
use Rattle.exec_finish.specs.Numbered.{row_at}
use Rattle.exec_finish.specs.Plain.{plain_row}
use Rattle.exec_finish.proofs.printing.printed.Goals as goal

pub append_row-requires : goal.append_row-requires
append_row-requires c =
    let number = get_or c.args.numbers.now c.loop-number.number-index 0 in
    let tuple = c.get-tuple.result in
    subst (λ t. All (CanEvaluate t) c.args.plan.now.items) (get_or_from_slice_get c.args.tuples.now number tuple tuple c.get-tuple.ensures.exact) (c.requires.items number tuple (slice_get_within c.args.tuples.now number tuple c.get-tuple.ensures.exact))

pub loop-number-preserved : goal.loop-number-preserved
loop-number-preserved c columns =
    let p = c.args.plan.now in
    let row = row_at p c.args.tuples.now columns in
    let said = row_line c.args.star in
    let numbers = c.args.numbers.now in
    let i = c.loop-number.number-index in
    let number = get_or numbers i 0 in
    let here = sym (get_or_from_slice_get c.args.tuples.now number c.get-tuple.result [] c.get-tuple.ensures.exact) in
    c.in_ok-append_row.ensures.ok
    ∙ (λ j. c.loop-number.invariant columns j ++ said (plain_row p.star p.items [] (here j)))
    ∙ ap (λ text. flat_map said (map row (take i numbers)) ++ text) (sym (append-nil (said (row number))))
    ∙ sym (flat_map-append said (map row (take i numbers)) (row number ∷ []))
    ∙ ap (flat_map said) (sym (map_more row numbers i 0 c.loop-number-test.true))
