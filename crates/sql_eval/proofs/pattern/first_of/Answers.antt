use Rattle.std.proofs.Common.{◌≡◌, ◌++◌, encode_utf8, sym, ap, ◌∙◌}
use Rattle.std.proofs.lemmas.Str.{chars_past_char}
use Rattle.sql_eval.proofs.pattern.first_of.Goals as goal

pub returns-clause-exact : goal.returns-clause-exact
returns-clause-exact c =
    let first = c.in_ok-first.first in
    let e : c.args.text.now ≡ encode_utf8 first ++ c.as_str.result.now = sym c.chars-chars.ensures.rest ∙ c.in_ok-first.ensures.steps.0 ∙ ap (λ t. encode_utf8 first ++ t) (sym c.as_str.ensures) in
    chars_past_char _ _ first c.utf8.text e
