use Rattle.std.proofs.Common.{◌∙◌, ap}
use Rattle.json.specs.Token.{string}
use Rattle.doc_values.proofs.Written.{appends_token}
use Rattle.exec_finish.proofs.lent_text.spell_text.Goals as goal

pub returns : goal.returns
returns c = record { ok = appends_token _ _ _ _ _ (string c.args.string.now) (c.string-done.ensures.room.0 ∙ c.new-writer.ensures.before ∙ ap (λ v. v.items) c.replace.ensures.value) c.into_inner.ensures.items c.new-writer.ensures.tokens _ c.string-done.ensures.ok }
