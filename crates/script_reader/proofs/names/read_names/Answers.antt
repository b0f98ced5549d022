use Rattle.std.proofs.Common.{rules, ◌≡◌, true, false, sym, ap, ◌∙◌, Some}
use Rattle.script_reader.specs.Pieces.{behind_word, first_word, named_by, names_a_line}
use Rattle.script_reader.proofs.Naming.{named_more, named_end}
use Rattle.script_reader.proofs.names.read_names.Goals as goal

pub names-preserved : goal.names-preserved
names-preserved c =
    let rest = c.names.rest.now in
    let names : names_a_line rest ≡ true = search rules in
    let name : c.in-Some.name.now ≡ first_word (behind_word rest) = search rules in
    let behind : c.in-Some.behind.now ≡ behind_word (behind_word rest) = search rules in
    let found : named_by c.args.above.now (first_word (behind_word rest)) ≡ Some c.in-Some-line_named.position = ap (named_by c.args.above.now) (sym name) ∙ sym c.in-Some-line_named.ensures.exact in
    let items = c.in_ok-push.ensures.items in
    (search rules, rw (behind, items) (named_more c.args.above.now c.names.lines.items rest c.args.line.now c.names.invariant.1 c.in-Some-line_named.position names found))

pub returns : goal.returns
returns c =
    let rest = c.names.rest.now in
    let none : names_a_line rest ≡ false = search rules in
    record {
      exact = (λ i. Some (record { lines = c.from_vec.ensures.exact i; text = c.in_ok-of.ensures.ok i }))
          ∙ named_end c.args.above.now c.names.lines.items rest c.args.line.now c.names.invariant.1 none;
    }
