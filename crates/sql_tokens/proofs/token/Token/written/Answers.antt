use Rattle.sql_tokens.proofs.Cuts.{IsCharBoundary-from, IsCharBoundary-to}
use Rattle.sql_tokens.proofs.token.Token.written.Goals as goal

pub range-requires-clause-start_boundary : goal.range-requires-clause-start_boundary
range-requires-clause-start_boundary c = λ _. IsCharBoundary-from c.args.text.now c.args.self.now c.requires

pub range-requires-clause-end_boundary : goal.range-requires-clause-end_boundary
range-requires-clause-end_boundary c = IsCharBoundary-to c.args.text.now c.args.self.now c.requires c.utf8.text
