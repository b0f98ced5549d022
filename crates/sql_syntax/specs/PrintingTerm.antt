-- The terminals that are printed of a term, as a fold.
use Rattle.std.specs.Prelude.{List, [], ◌∷◌, ◌++◌, map, Bool, true, false}
use Rattle.sql_tree.specs.declared.agg_call.AggCall.TheVariants as calls
use Rattle.sql_tree.specs.declared.addend.Addend.{Addend}
use Rattle.sql_tree.specs.declared.term.Term.{Term, fold-Term}
use Rattle.sql_tree.specs.declared.term.Term.TheOpen.{Term-F, Addend-F}
use Rattle.sql_grammar.specs.declared.mark.Mark.TheVariants as marks
use Rattle.sql_grammar.specs.declared.terminal.Terminal.{Terminal}
use Rattle.sql_grammar.specs.declared.terminal.Terminal.TheVariants as terminal
use Rattle.sql_syntax.specs.declared.print_tightness.Tightness.{Tightness}
use Rattle.sql_syntax.specs.declared.print_tightness.Tightness.TheVariants as tight
use Rattle.sql_syntax.specs.Printing.{Printed, PrintedAddend, made_by, bracketed, joined_by, all_at, reference_printed, call_printed, kind_word, call_word, mark_of, denial_printed, truth_mark, sum_printed}

-- One node, where each part is printed as its place asks.
abbrev pub node_printed : Term-F Printed PrintedAddend → Printed
node_printed (Term-F.Number n) = made_by tight.Primary (terminal.Number n ∷ [])
node_printed (Term-F.Text t) = made_by tight.Primary (terminal.Text t ∷ [])
node_printed (Term-F.Bool b) = made_by tight.Primary (terminal.Mark (truth_mark b) ∷ [])
node_printed Term-F.Null = made_by tight.Primary (terminal.Mark marks.Null ∷ [])
node_printed (Term-F.Column r) = made_by tight.Primary (reference_printed r)
node_printed (Term-F.Wanted k r) = made_by tight.Primary (call_printed (kind_word k) (reference_printed r))
node_printed (Term-F.Or ts) = made_by tight.Expr (joined_by marks.Or (all_at tight.Conj ts))
node_printed (Term-F.And ts) = made_by tight.Conj (joined_by marks.And (all_at tight.Neg ts))
node_printed (Term-F.Not t) = made_by tight.Neg (terminal.Mark marks.Not ∷ t tight.Neg)
node_printed (Term-F.Compare op t u) = made_by tight.Neg (t tight.Sum ++ terminal.Mark (mark_of op) ∷ u tight.Sum)
node_printed (Term-F.IsNull t negated) = made_by tight.Neg (t tight.Sum ++ terminal.Mark marks.Is ∷ (denial_printed negated ++ terminal.Mark marks.Null ∷ []))
node_printed (Term-F.Among t ts negated) = made_by tight.Neg (t tight.Sum ++ (denial_printed negated ++ terminal.Mark marks.In ∷ bracketed (joined_by marks.Comma (all_at tight.Expr ts))))
node_printed (Term-F.Between t low high negated) = made_by tight.Neg (t tight.Sum ++ (denial_printed negated ++ terminal.Mark marks.Between ∷ (low tight.Sum ++ terminal.Mark marks.And ∷ high tight.Sum)))
node_printed (Term-F.Like t pattern negated) = made_by tight.Neg (t tight.Sum ++ (denial_printed negated ++ terminal.Mark marks.Like ∷ terminal.Text pattern ∷ []))
node_printed (Term-F.AnyOf t r) = made_by tight.Neg (t tight.Sum ++ terminal.Mark marks.Equal ∷ terminal.Mark marks.Any ∷ bracketed (reference_printed r))
node_printed (Term-F.Sum ms) = made_by tight.Sum (sum_printed ms)
node_printed (Term-F.Product ts) = made_by tight.Product (joined_by marks.Star (all_at tight.Unary ts))
node_printed (Term-F.Minus t) = made_by tight.Unary (terminal.Mark marks.Minus ∷ t tight.Unary)
node_printed Term-F.CountAll = made_by tight.Primary (call_printed (call_word calls.Count) (terminal.Mark marks.Star ∷ []))
node_printed (Term-F.Aggregate call t) = made_by tight.Primary (call_printed (call_word call) (t tight.Expr))

-- A member of a sum.
abbrev pub addend_printed : Addend-F Printed PrintedAddend → PrintedAddend
addend_printed m = (m.minus, m.term)

-- What is printed of a term, by the rule that its place asks for.
abbrev pub printed : Term → Printed
printed = fold-Term Printed PrintedAddend node_printed addend_printed

-- What is printed of terms at places that ask for a rule.
abbrev pub at_places : Tightness → List Term → List (List Terminal)
at_places asked ts = map (λ t. printed t asked) ts

-- A member of a sum with what is printed of its term.
abbrev pub member_printed : Addend → PrintedAddend
member_printed m = (m.minus, printed m.term)

-- One level of a term: whether it is IN, BETWEEN or LIKE.
abbrev pub in_between_or_like_step : Term-F Bool (Unit {0}) → Bool
in_between_or_like_step (Term-F.Among t ts negated) = true
in_between_or_like_step (Term-F.Between t low high negated) = true
in_between_or_like_step (Term-F.Like t pattern negated) = true
in_between_or_like_step _ = false

-- A term is IN, BETWEEN or LIKE.
abbrev pub is_in_between_or_like : Term → Bool
is_in_between_or_like = fold-Term Bool (Unit {0}) in_between_or_like_step (λ _. tt)
