use Rattle.std.proofs.Common.{rules}
use Rattle.std.proofs.lemmas.Iterator.Splits.{YieldsList-from_slice_split}
use Rattle.std.proofs.lemmas.Iterator.Search.{all_from_yields_List}
use borrow.Author.Tests.{tests}
use Rattle.sql_tokens.specs.Forms.{is_dot, is_segment}
use Rattle.sql_tokens.proofs.lengths.has_segments.Goals as goal

pub returns : goal.returns
returns c =
    record {
      exact = all_from_yields_List is_segment _ _ _ c.all.ensures.ran
          (YieldsList-from_slice_split _ is_dot c.args.name.now (cc) (cc) (cc) (λ x b q k. search (rules, tests)))
          (λ x b q k. search (rules, tests));
    }
