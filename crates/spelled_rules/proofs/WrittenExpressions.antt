-- Each term that terminals spell is written, where no numeral is too great.
use Rattle.std.proofs.Common.{ℕ, zero, suc, true, false, List, [], ◌∷◌, ◌++◌}
use Rattle.sql_tree.specs.declared.term.Term.{Term}
use Rattle.sql_grammar.specs.declared.mark.Mark.TheVariants as marks
use Rattle.sql_grammar.specs.declared.terminal.Terminal.{Terminal}
use Rattle.sql_grammar.specs.declared.terminal.Terminal.TheVariants as terminal
use Rattle.sql_grammar.specs.Terminals.{sign_of, only}
use Rattle.sql_grammar.specs.Nodes.{addend, sum_node, product_node, and_node, or_node}
use Rattle.sql_grammar.specs.Languages.{Language, Listed, plain}
use Rattle.sql_grammar.specs.Expression as e
use Rattle.sql_grammar.specs.Expression.{Place, Column, Primary, Unary, Product, Sum, Behind, Test, Neg, Conj, Expr, Level, Inside, Expression, most_levels}
use Rattle.spelled_rules.proofs.WrittenTerms.{IsTerm, IsMember, AreListed, number_written, text_written, bool_written, null_written, column_written, wanted_written, not_written, compare_written, is_null_written, among_written, between_written, like_written, sum_written, product_written, minus_written, and_written, or_written}
use Rattle.spelled_rules.proofs.WrittenChains.{AreSmall, front_small, back_small, chain_holds}

a_column : (t : Term) (all : List Terminal) → Column t all → IsTerm t
a_column t all (e.Column.column {r = r} p) = column_written r

module _ (Inner : Place → Language Term) (inside : (p : Place) (t : Term) (all : List Terminal) → AreSmall all → Inner p t all → IsTerm t) where
  a_primary : (t : Term) (all : List Terminal) → AreSmall all → Primary Inner t all → IsTerm t
  a_primary t all small (e.numeral {n = n}) = number_written n small.0
  a_primary t all small (e.text {t = s}) = text_written s
  a_primary t all small e.truth = bool_written true
  a_primary t all small e.falsehood = bool_written false
  a_primary t all small e.null = null_written
  a_primary t all small (e.reference p) = a_column t all p
  a_primary t all small (e.wanted {k = k} {r = r} h p) = wanted_written k r
  a_primary t all small (e.brackets {a = a} p) = inside e.expr t a (front_small a (terminal.Mark marks.Close ∷ []) small.1) p

  a_unary : (t : Term) (all : List Terminal) → AreSmall all → Unary Inner t all → IsTerm t
  a_unary t all small (e.minus {t = u} {a = a} p) = minus_written u (inside e.unary u a small.1 p)
  a_unary t all small (e.primary p) = a_primary t all small p

  a_product : (t : Term) (all : List Terminal) → AreSmall all → Product Inner t all → IsTerm t
  a_product t all small p = chain_holds (only marks.Star) plain (Unary Inner) IsTerm IsTerm a_unary (λ s x h. h) product_node IsTerm product_written t all small p

  a_sum : (t : Term) (all : List Terminal) → AreSmall all → Sum Inner t all → IsTerm t
  a_sum t all small p = chain_holds sign_of addend (Product Inner) IsTerm IsMember a_product (λ s x h. h) sum_node IsTerm sum_written t all small p

  what_is_listed : (ts : List Term) (all : List Terminal) → AreSmall all → Listed (Inner e.expr) ts all → AreListed ts
  what_is_listed ts all small p = chain_holds (only marks.Comma) plain (Inner e.expr) IsTerm IsTerm (inside e.expr) (λ s x h. h) (λ x xs. x ∷ xs) AreListed (λ x xs h hs. (h, hs)) ts all small p

  what_is_behind : (t u : Term) (all : List Terminal) → AreSmall all → IsTerm t → Behind Inner t u all → IsTerm u
  what_is_behind t u all small h e.nothing = h
  what_is_behind t u all small h (e.compare {op = op} {u = x} {a = a} is p) = compare_written op t x h (a_sum x a small.1 p)
  what_is_behind t u all small h (e.is_null {negated = negated} n) = is_null_written t negated h
  what_is_behind t u all small h (e.among {negated = negated} {n = n} {ts = ts} {a = a} d p) =
      among_written t ts negated h (what_is_listed ts a (front_small a (terminal.Mark marks.Close ∷ []) (back_small n (terminal.Mark marks.In ∷ terminal.Mark marks.Open ∷ (a ++ terminal.Mark marks.Close ∷ [])) small).1.1) p)
  what_is_behind t u all small h (e.between {negated = negated} {n = n} {low = low} {high = high} {a = a} {b = b} d p q) =
      let ends = (back_small n (terminal.Mark marks.Between ∷ (a ++ terminal.Mark marks.And ∷ b)) small).1 in
      between_written t low high negated h (a_sum low a (front_small a (terminal.Mark marks.And ∷ b) ends) p) (a_sum high b (back_small a (terminal.Mark marks.And ∷ b) ends).1 q)
  what_is_behind t u all small h (e.like {negated = negated} {p = s} d) = like_written t s negated h

  a_test : (t : Term) (all : List Terminal) → AreSmall all → Test Inner t all → IsTerm t
  a_test t all small (e.Test.test {t = u} {a = a} {b = b} p q) = what_is_behind u t b (back_small a b small) (a_sum u a (front_small a b small) p) q

  a_neg : (t : Term) (all : List Terminal) → AreSmall all → Neg Inner t all → IsTerm t
  a_neg t all small (e.not {t = u} {a = a} p) = not_written u (inside e.neg u a small.1 p)
  a_neg t all small (e.Neg.test p) = a_test t all small p

  a_conj : (t : Term) (all : List Terminal) → AreSmall all → Conj Inner t all → IsTerm t
  a_conj t all small p = chain_holds (only marks.And) plain (Neg Inner) IsTerm IsTerm a_neg (λ s x h. h) and_node IsTerm and_written t all small p

  an_expr : (t : Term) (all : List Terminal) → AreSmall all → Expr Inner t all → IsTerm t
  an_expr t all small p = chain_holds (only marks.Or) plain (Conj Inner) IsTerm IsTerm a_conj (λ s x h. h) or_node IsTerm or_written t all small p

  a_level : (p : Place) (t : Term) (all : List Terminal) → AreSmall all → Level Inner p t all → IsTerm t
  a_level e.expr t all small p = an_expr t all small p
  a_level e.neg t all small p = a_neg t all small p
  a_level e.unary t all small p = a_unary t all small p
  a_level e.column t all small p = a_column t all p

inside_written : (levels : ℕ) (p : Place) (t : Term) (all : List Terminal) → AreSmall all → Inside levels p t all → IsTerm t
unfolding Inside
inside_written zero p t all small i = elim i [ ]
inside_written (suc levels) p t all small i = a_level (Inside levels) (inside_written levels) p t all small i

pub expression_written : (t : Term) (all : List Terminal) → AreSmall all → Expression t all → IsTerm t
expression_written t all small p = an_expr (Inside most_levels) (inside_written most_levels) t all small p
