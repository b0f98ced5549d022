use Rattle.std.proofs.Common.{◌≡◌, true, is_lt, nat_cmp}
use Rattle.std.specs.Cmp.Lexicographic.{slice_cmp}
use Rattle.doc_values.specs.Spans.{text_at}
use Rattle.doc_values.proofs.Packs.{last_fits}
use Rattle.doc_values.proofs.unpacking.place_for.Goals as goal

pub returns-in-Some-clause-exact : goal.returns-in-Some-clause-exact
returns-in-Some-clause-exact c =
    let last = c.in-Some.last.now in
    let above : true ≡ is_lt (slice_cmp nat_cmp (text_at c.args.texts.now last.name) c.args.name.now) = rw c.text_in.ensures.exact at c.if-lt.ensures in
    last_fits c.args.texts.now c.args.name.now c.args.fields.now c.requires last c.in-Some.ensures.item.3.0 c.in-Some.ensures.item.1 above
