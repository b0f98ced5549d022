use Rattle.std.proofs.Common.{rules}
use Rattle.std.proofs.lemmas.List.Sorted.{answers_always}
use Rattle.phys_columns.proofs.Searched.{here, searched}
use Rattle.phys_columns.proofs.column.place.Goals as goal

pub returns-then-pages-guess : goal.returns-then-pages-guess
returns-then-pages-guess c = record { exact = (c.if-guess-pages.true, here c.args.pages.now c.args.number _ _ c.requires c.if-guess-pages.true c.if-pages-guess.true) }

pub returns : goal.returns
returns c =
    let facts = c.binary_search_by_key.ensures in
    let by_key = facts.position (λ page. page.number) (answers_always _ _ _ (λ f a r g called. search rules)) in
    record { exact = searched c.args.pages.now c.args.number c.binary_search_by_key.result c.requires facts.bound by_key }
