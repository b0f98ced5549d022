use Rattle.std.proofs.Common.{rules, of_calls}
use Rattle.std.proofs.lemmas.Fn.{always_returns_same}
use Rattle.std.specs.Ordering.{nat_cmp}
use Rattle.std.specs.Cmp.Lexicographic.{slice_cmp}
use Rattle.doc_values.specs.Spans.{text_at}
use Rattle.doc_values.proofs.Packs.{found_in}
use Rattle.doc_values.proofs.unpacking.place.Goals as goal

-- the closure compares the name of a field
pub returns-clause-exact : goal.returns-clause-exact
returns-clause-exact c =
    let facts = c.binary_search_by.ensures in
    let by_name = facts.position (λ f. slice_cmp nat_cmp (text_at c.args.texts.now f.name) c.args.name.now) (always_returns_same _ _ _ (λ a r f k. search (rules, of_calls))) in
    found_in c.args.texts.now c.args.name.now c.args.fields.now c.requires _ facts.bound by_name
