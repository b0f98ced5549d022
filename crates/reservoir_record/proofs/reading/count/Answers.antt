use Rattle.std.proofs.Common.{◌∙◌, sym, subst, arith}
use Rattle.reservoir_record.specs.Words.{word_at, IsWholeTable}
use Rattle.reservoir_record.proofs.Checked.{table_of, count_is}
use Rattle.reservoir_record.proofs.reading.count.Goals as goal

pub word-requires : goal.word-requires
word-requires c = let t : IsWholeTable c.args.bytes.now (word_at c.args.bytes.now 0) = table_of c.args.bytes.now c.requires in omega (arith, t.room)

pub returns-clause-exact : goal.returns-clause-exact
returns-clause-exact c = λ fields s. c.word.ensures.exact ∙ count_is c.args.bytes.now fields s

pub returns-clause-table : goal.returns-clause-table
returns-clause-table c = subst (IsWholeTable c.args.bytes.now) (sym c.word.ensures.exact) (table_of c.args.bytes.now c.requires)
