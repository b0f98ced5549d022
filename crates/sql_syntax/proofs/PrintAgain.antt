-- What is printed of an expression spells it, within as many levels.
use Rattle.std.proofs.Common.{ℕ, zero, suc, List}
use Rattle.sql_tree.specs.declared.term.Term.{Term}
use Rattle.sql_grammar.specs.declared.terminal.Terminal.{Terminal}
use Rattle.sql_syntax.specs.declared.print_tightness.Tightness.TheVariants as tight
use Rattle.sql_grammar.specs.Expression.{Inside, Expression, most_levels}
use Rattle.sql_syntax.specs.PrintingTerm.{printed}
use Rattle.sql_syntax.proofs.PrintPlaces.{widen}
use Rattle.sql_syntax.proofs.PrintLevels.{ruled_inside}
use Rattle.sql_syntax.proofs.PrintParts.{Each, Written}
use Rattle.sql_syntax.proofs.PrintPlaced.{Improves, none_looser}
use Rattle.sql_syntax.proofs.PrintLeaves.{Fitting}
use Rattle.sql_syntax.proofs.PrintExpressions.{expr_prints, expr_again, level_again}

module _ (Fits : Terminal → Type 0) (fitting : Fitting Fits) where
  improves_none : Improves Fits (Inside zero)
  unfolding Inside
  improves_none = record { again = λ p t a d f. absurd d; opened = λ t a d f. absurd d }

  improves_more : (levels : ℕ) → Improves Fits (Inside levels) → Improves Fits (Inside (suc levels))
  unfolding Inside
  improves_more levels inner = record {
    again = λ p t a d f. level_again Fits fitting (Inside levels) inner p t a d f;
    opened = λ t a d f. (let p = expr_prints Fits fitting (Inside levels) inner t a d f in record {
      rule = p.rule;
      bare = p.bare;
      is = p.is;
      spells = ruled_inside levels p.rule t p.bare p.spells;
      inside = widen (Inside levels) t p.bare p.rule tight.Expr (none_looser p.rule) p.spells;
      fits = p.fits;
    });
  }

  improves : (levels : ℕ) → Improves Fits (Inside levels)
  improves zero = improves_none
  improves (suc levels) = improves_more levels (improves levels)

  -- What is printed of an expression spells it.
  pub expression_again : (t : Term) (a : List Terminal) → Expression t a → Each Fits a → Written Fits Expression t (printed t tight.Expr)
  expression_again = expr_again Fits fitting (Inside most_levels) (improves most_levels)
