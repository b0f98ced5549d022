use Rattle.std.proofs.Common.{nat_le, sym, ◌∙◌}
use Rattle.serde_json.specs.Data.{depth}
use Rattle.serde_json.specs.View.{view}
use Rattle.doc_flatten.specs.Tree.{has_integers}
use Rattle.doc_flatten.proofs.Arrays.{has_float-integers}
use Rattle.doc_flatten.proofs.Tests.{both_true}
use Rattle.doc_flatten.proofs.plain.compact_text.Goals as goal

pub returns-clause-ok : goal.returns-clause-ok
returns-clause-ok c =
    let d = view c.args.tree.now in
    let plain = both_true (nat_le (depth d) c.args.levels) (has_integers d) (sym c.if-not-is_plain.ensures.exact) in
    c.from.ensures ∙ c.in_ok-to_string.ensures.text (has_float-integers d plain.1)
