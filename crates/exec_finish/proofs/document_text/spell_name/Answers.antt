use Rattle.std.proofs.Common.{◌∙◌, ap}
use Rattle.json.specs.Token.{key}
use Rattle.doc_values.proofs.Written.{appends_token}
use Rattle.exec_finish.proofs.document_text.spell_name.Goals as goal

pub returns : goal.returns
returns c = record { ok = appends_token _ _ _ _ _ (key c.args.name.now) (c.key-done.ensures.room.0 ∙ c.new-writer.ensures.before ∙ ap (λ v. v.items) c.replace.ensures.value) c.into_inner.ensures.items c.new-writer.ensures.tokens _ c.key-done.ensures.ok }
