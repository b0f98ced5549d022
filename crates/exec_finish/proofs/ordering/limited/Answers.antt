use Rattle.std.proofs.Common.{◌∙◌, map, sym, ap}
use Rattle.std.proofs.lemmas.List.{take-map}
use Rattle.exec_finish.specs.Answer.{limited}
use Rattle.exec_finish.proofs.ordering.limited.Goals as goal

pub returns-in-Some-clause-ok : goal.returns-in-Some-clause-ok
returns-in-Some-clause-ok c row =
    let numbers = c.args.numbers.items in
    ap (map row) c.truncate.ensures.items ∙ sym (take-map row c.in-Some.limit numbers) ∙ ap (λ limit. limited limit (map row numbers)) (sym c.in-Some.is)
