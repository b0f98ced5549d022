-- The test that the first terminals spell, as a function, and what is made of tests.
use Rattle.std.specs.Prelude.{ℕ, zero, suc, List, ◌∷◌, Bool, true, false, Option, Some, None}
use Rattle.doc_values.specs.declared.compare_op.CompareOp.{CompareOp}
use Rattle.sql_tree.specs.declared.term.Term.{Term}
use Rattle.sql_tree.specs.declared.term.Term.TheVariants as term
use Rattle.sql_grammar.specs.declared.mark.Mark.TheVariants as marks
use Rattle.sql_grammar.specs.declared.terminal.Terminal.{Terminal}
use Rattle.sql_grammar.specs.declared.terminal.Terminal.TheVariants as terminal
use Rattle.sql_grammar.specs.Terminals.{comparison_of, only}
use Rattle.sql_grammar.specs.Nodes.{and_node, or_node}
use Rattle.sql_grammar.specs.Languages.{plain}
use Rattle.sql_grammar.specs.Expression.{Place, expr, neg, unary, column, most_levels}
use Rattle.sql_grammar.specs.Reader.{Found, Reader, ◌>>=◌, takes, expect, closed, denial_in, joins_in, chain_in, listed_in}
use Rattle.sql_grammar.specs.ExpressionReader.{column_in, unary_in, sum_in}

-- [NOT] LIKE text, behind LIKE.
unfoldable pub pattern_in : Term → Bool → Reader Term
pattern_in t negated (terminal.Text p ∷ rest) = Some (term.Like t p negated, rest)
pattern_in t negated _ = None

-- Nothing stands behind the sum, if no NOT does.
abbrev pub nothing_by : Term → Bool → Reader Term
nothing_by t true all = None
nothing_by t false all = Some (t, all)

-- [NOT] LIKE text, behind the NOT.
abbrev pub like_by : Term → Bool → List Terminal → Option (List Terminal) → Found Term
like_by t negated all (Some rest) = pattern_in t negated rest
like_by t negated all None = nothing_by t negated all

-- sum AND sum, behind BETWEEN.
unfoldable pub range_in : (Place → Reader Term) → Term → Bool → Reader Term
range_in inner t negated all =
    sum_in inner all >>= λ low rest. expect marks.And rest >>= λ _ rest. sum_in inner rest >>= λ high rest. Some (term.Between t low high negated, rest)

-- [NOT] BETWEEN sum AND sum, behind the NOT.
abbrev pub between_by : (Place → Reader Term) → Term → Bool → List Terminal → Option (List Terminal) → Found Term
between_by inner t negated all (Some rest) = range_in inner t negated rest
between_by inner t negated all None = like_by t negated all (takes marks.Like all)

-- ( expr {, expr} ), behind IN.
unfoldable pub among_in : (Place → Reader Term) → Term → Bool → Reader Term
among_in inner t negated all =
    expect marks.Open all >>= λ _ rest. listed_in (inner expr) rest >>= λ ts rest. closed (term.Among t ts negated) rest

-- [NOT] IN ( expr {, expr} ), behind the NOT.
abbrev pub in_by : (Place → Reader Term) → Term → Bool → List Terminal → Option (List Terminal) → Found Term
in_by inner t negated all (Some rest) = among_in inner t negated rest
in_by inner t negated all None = between_by inner t negated all (takes marks.Between all)

-- What a NOT may stand before.
unfoldable pub denied_in : (Place → Reader Term) → Term → Bool × List Terminal → Found Term
denied_in inner t d = in_by inner t d.0 d.1 (takes marks.In d.1)

-- [NOT] NULL, behind IS.
unfoldable pub null_in : Term → Bool × List Terminal → Found Term
null_in t d = expect marks.Null d.1 >>= λ _ rest. Some (term.IsNull t d.0, rest)

-- IS [NOT] NULL.
abbrev pub is_by : (Place → Reader Term) → Term → List Terminal → Option (List Terminal) → Found Term
is_by inner t all (Some rest) = null_in t (denial_in rest)
is_by inner t all None = denied_in inner t (denial_in all)

-- cmp sum.
abbrev pub compare_by : (Place → Reader Term) → Term → List Terminal → Found CompareOp → Found Term
compare_by inner t all (Some p) = sum_in inner p.1 >>= λ u rest. Some (term.Compare p.0 t u, rest)
compare_by inner t all None = is_by inner t all (takes marks.Is all)

-- What stands behind a sum.
unfoldable pub behind_in : (Place → Reader Term) → Term → Reader Term
behind_in inner t all = compare_by inner t all (joins_in comparison_of all)

-- test.
unfoldable pub test_in : (Place → Reader Term) → Reader Term
test_in inner all = sum_in inner all >>= behind_in inner

-- neg, behind a NOT or with none.
abbrev pub neg_by : (Place → Reader Term) → List Terminal → Option (List Terminal) → Found Term
neg_by inner all (Some rest) = inner neg rest >>= λ t rest. Some (term.Not t, rest)
neg_by inner all None = test_in inner all

-- neg.
unfoldable pub neg_in : (Place → Reader Term) → Reader Term
neg_in inner all = neg_by inner all (takes marks.Not all)

-- conj.
unfoldable pub conj_in : (Place → Reader Term) → Reader Term
conj_in inner = chain_in (only marks.And) plain and_node (neg_in inner)

-- expr.
unfoldable pub expr_in : (Place → Reader Term) → Reader Term
expr_in inner = chain_in (only marks.Or) plain or_node (conj_in inner)

-- What each place asks for.
abbrev pub level_in : (Place → Reader Term) → Place → Reader Term
level_in inner expr = expr_in inner
level_in inner neg = neg_in inner
level_in inner unary = unary_in inner
level_in inner column = column_in

-- What may stand where so many levels may still be opened.
unfoldable pub inside_in : ℕ → Place → Reader Term
inside_in zero place all = None
inside_in (suc levels) place all = level_in (inside_in levels) place all

-- expr, where no level is open.
abbrev pub expression_in : Reader Term
expression_in = expr_in (inside_in most_levels)
