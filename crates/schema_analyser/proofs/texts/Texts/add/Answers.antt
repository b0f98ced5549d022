use Rattle.std.proofs.Common.{◌∙◌, ap, map, string_bytes, sym}
use Rattle.std.specs.Str.{bytes_eq}
use Rattle.schema_analyser.specs.Different.{with_different}
use Rattle.schema_analyser.proofs.Differing.{text_there, text_put}
use Rattle.schema_analyser.proofs.texts.Texts.add.Goals as goal

pub returns-then-contains-clause-ok : goal.returns-then-contains-clause-ok
returns-then-contains-clause-ok c =
    rw (← c.self.view_is) (text_there c.self.inside.set.keys c.args.text.now (sym c.contains.ensures ∙ c.if-contains.true))

pub returns-clause-ok : goal.returns-clause-ok
returns-clause-ok c =
    ap (map string_bytes) c.in_ok-insert.ensures.keys
    ∙ text_put c.self.inside.set.keys c.in_ok-copy.copy c.args.text.now c.in_ok-copy.ensures.ok
    ∙ ap (λ ks. with_different bytes_eq ks c.args.text.now) c.self.view_is
