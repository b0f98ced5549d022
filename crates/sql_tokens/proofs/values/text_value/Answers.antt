use Rattle.std.proofs.Common.{◌≡◌, ◌∙◌, refl, arith, ap, sym}
use Rattle.std.specs.Prelude.{length, string_bytes}
use Rattle.std.proofs.lemmas.Result.{IfOk-weaker}
use Rattle.sql_tokens.specs.Forms.{doubled}
use Rattle.sql_tokens.specs.Values.{between_quotes, text_value}
use Rattle.sql_tokens.specs.declared.token_sort.TokenSort.TheVariants.{Text}
use Rattle.sql_tokens.proofs.Cuts.{IsCharBoundary-behind_first}
use Rattle.sql_tokens.proofs.Texts.{between-quotes, text_value-between}
use Rattle.sql_tokens.proofs.Replaced.{replaced}
use Rattle.sql_tokens.proofs.values.text_value.Goals as goal

pub range-requires-clause-start_boundary : goal.range-requires-clause-start_boundary
range-requires-clause-start_boundary c = λ _. IsCharBoundary-behind_first Text c.args.token.now c.utf8.token (omega (arith, ap length c.requires.1)) c.requires

pub returns : goal.returns
returns c =
    let inner : c.range.result.now ≡ doubled c.requires.0 = c.range.ensures.value ∙ ap between_quotes c.requires.1 ∙ between-quotes 39 (doubled c.requires.0) in
    let meant : text_value c.args.token.now ≡ c.requires.0 = ap text_value c.requires.1 ∙ text_value-between c.requires.0 in
    record { ok = IfOk-weaker _ _ _ (λ t h. replaced h.0 _ c.requires.0 c.range.result.now (string_bytes t) refl inner h.1 ∙ sym meant) c.replace.ensures.ok }
