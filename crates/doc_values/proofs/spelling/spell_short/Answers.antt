use Rattle.std.proofs.Common.{◌∙◌, to_z-of_z}
use Rattle.std.specs.Fmt.{signed_decimal}
use Rattle.json.specs.Token.{number}
use Rattle.doc_values.proofs.Written.{appends_token, leaves_bytes}
use Rattle.doc_values.proofs.spelling.spell_short.Goals as goal

pub returns-clause-ok : goal.returns-clause-ok
returns-clause-ok c = appends_token _ _ _ _ _ (number (signed_decimal c.args.number)) (c.i64-done.ensures.room.0 ∙ c.writer_over-writer.ensures.before) c.into_inner.ensures.items c.writer_over-writer.ensures.tokens _ (rw (to_z-of_z c.ranges.number) at c.i64-done.ensures.ok)

pub returns-clause-memory : goal.returns-clause-memory
returns-clause-memory c = leaves_bytes _ _ _ _ _ (number (signed_decimal c.args.number)) (c.i64-done.ensures.room.0 ∙ c.writer_over-writer.ensures.before) c.into_inner.ensures.items c.writer_over-writer.ensures.tokens _ c.i64-done.ensures.err
