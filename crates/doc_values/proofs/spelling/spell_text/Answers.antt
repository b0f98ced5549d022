use Rattle.std.proofs.Common.{◌∙◌}
use Rattle.json.specs.Token.{string}
use Rattle.doc_values.proofs.Written.{appends_token, leaves_bytes}
use Rattle.doc_values.proofs.spelling.spell_text.Goals as goal

pub returns-clause-ok : goal.returns-clause-ok
returns-clause-ok c = appends_token _ _ _ _ _ (string c.args.text.now) (c.string-done.ensures.room.0 ∙ c.writer_over-writer.ensures.before) c.into_inner.ensures.items c.writer_over-writer.ensures.tokens _ c.string-done.ensures.ok

pub returns-clause-memory : goal.returns-clause-memory
returns-clause-memory c = leaves_bytes _ _ _ _ _ (string c.args.text.now) (c.string-done.ensures.room.0 ∙ c.writer_over-writer.ensures.before) c.into_inner.ensures.items c.writer_over-writer.ensures.tokens _ c.string-done.ensures.err
