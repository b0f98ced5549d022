use Rattle.std.proofs.Common.{◌∙◌, ap, ◌++◌, ◌∷◌, [], position, map}
use Rattle.std.specs.Str.{bytes_eq}
use Rattle.attr_catalog.proofs.NamesKept.{seen, inserted-seen}
use Rattle.attr_catalog.proofs.names.Names.push.Goals as goal

pub returns-clause-ok : goal.returns-clause-ok
returns-clause-ok c =
    ap (λ es. map seen es) c.in_ok-insert.ensures.entries
    ∙ inserted-seen c.self.inside.entries.entries c.in_ok-text.text c.args.kinds c.args.name.now c.in_ok-text.ensures.ok (ap (position (λ n. bytes_eq c.args.name.now n.0)) c.self.view_is ∙ c.requires)
    ∙ ap (λ l. l ++ (c.args.name.now, c.args.kinds) ∷ []) c.self.view_is
