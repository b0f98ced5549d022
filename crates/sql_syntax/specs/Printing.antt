-- The terminals that are printed of an expression.
use Rattle.std.specs.Prelude.{ℕ, List, [], ◌∷◌, ◌++◌, map, Bool, nat_lt, codes, Option, Some, None, if◌then◌else◌}
use Rattle.doc_values.specs.declared.kind.Kind.{Kind}
use Rattle.doc_values.specs.declared.kind.Kind.TheVariants as kinds
use Rattle.doc_values.specs.declared.compare_op.CompareOp.{CompareOp}
use Rattle.doc_values.specs.declared.compare_op.CompareOp.TheVariants as ops
use Rattle.sql_tree.specs.declared.agg_call.AggCall.{AggCall}
use Rattle.sql_tree.specs.declared.agg_call.AggCall.TheVariants as calls
use Rattle.sql_tree.specs.declared.reference.Ref.{Ref}
use Rattle.sql_grammar.specs.declared.mark.Mark.{Mark}
use Rattle.sql_grammar.specs.declared.mark.Mark.TheVariants as marks
use Rattle.sql_grammar.specs.declared.terminal.Terminal.{Terminal}
use Rattle.sql_grammar.specs.declared.terminal.Terminal.TheVariants as terminal
use Rattle.sql_syntax.specs.declared.print_tightness.Tightness.{Tightness}
use Rattle.sql_syntax.specs.declared.print_tightness.Tightness.TheVariants as tight

-- The place of a rule in their order, from the loosest.
abbrev pub strength : Tightness → ℕ
strength tight.Expr = 0
strength tight.Conj = 1
strength tight.Neg = 2
strength tight.Sum = 3
strength tight.Product = 4
strength tight.Unary = 5
strength tight.Primary = 6

-- What the one rule makes stands in brackets where the other is asked for.
abbrev pub looser : Tightness → Tightness → Bool
looser own asked = nat_lt (strength own) (strength asked)

-- What is printed of a part, by the rule that its place asks for.
abbrev pub Printed : Type 0
Printed = Tightness → List Terminal

-- In brackets.
abbrev pub bracketed : List Terminal → List Terminal
bracketed ts = terminal.Mark marks.Open ∷ (ts ++ terminal.Mark marks.Close ∷ [])

-- What is printed of a part that one rule makes: in brackets where a tighter one is asked for.
abbrev pub made_by : Tightness → List Terminal → Printed
made_by own ts asked = if looser own asked then bracketed ts else ts

-- Each part behind a mark.
abbrev pub each_behind : Mark → List (List Terminal) → List Terminal
each_behind mark [] = []
each_behind mark (ts ∷ more) = terminal.Mark mark ∷ (ts ++ each_behind mark more)

-- The parts with a mark between them.
abbrev pub joined_by : Mark → List (List Terminal) → List Terminal
joined_by mark [] = []
joined_by mark (ts ∷ more) = ts ++ each_behind mark more

-- An alias before a name.
abbrev pub qualifier_printed : Option (List ℕ) → List Terminal
qualifier_printed None = []
qualifier_printed (Some w) = terminal.Word w ∷ terminal.Mark marks.Dot ∷ []

-- A column.
abbrev pub reference_printed : Ref → List Terminal
reference_printed r = qualifier_printed r.qualifier ++ terminal.Quoted r.name ∷ []

-- A word before brackets.
abbrev pub call_printed : List ℕ → List Terminal → List Terminal
call_printed word ts = terminal.Word word ∷ bracketed ts

-- The word that asks for a kind; the kinds of which none does have one too.
abbrev pub kind_word : Kind → List ℕ
kind_word kinds.Int = codes "INT"
kind_word kinds.Text = codes "TEXT"
kind_word kinds.Bool = codes "BOOL"
kind_word kinds.Array = codes "ARRAY"
kind_word _ = codes "OBJECT"

-- The word of an aggregate.
abbrev pub call_word : AggCall → List ℕ
call_word calls.Count = codes "COUNT"
call_word calls.Sum = codes "SUM"
call_word calls.Min = codes "MIN"
call_word calls.Max = codes "MAX"

-- A comparison.
abbrev pub mark_of : CompareOp → Mark
mark_of ops.Eq = marks.Equal
mark_of ops.Ne = marks.NotEqual
mark_of ops.Lt = marks.Less
mark_of ops.Le = marks.LessEqual
mark_of ops.Gt = marks.Greater
mark_of ops.Ge = marks.GreaterEqual

-- NOT, where something is denied.
abbrev pub denial_printed : Bool → List Terminal
denial_printed negated = if negated then terminal.Mark marks.Not ∷ [] else []

-- A truth value.
abbrev pub truth_mark : Bool → Mark
truth_mark value = if value then marks.True else marks.False

-- A member of a sum: whether it is taken away, and the term.
abbrev pub PrintedAddend : Type 0
PrintedAddend = Bool × Printed

-- Members of a sum behind others.
abbrev pub addends_printed : List PrintedAddend → List Terminal
addends_printed [] = []
addends_printed (m ∷ ms) = terminal.Mark (if m.0 then marks.Minus else marks.Plus) ∷ (m.1 tight.Product ++ addends_printed ms)

-- A sum.
abbrev pub sum_printed : List PrintedAddend → List Terminal
sum_printed [] = []
sum_printed (m ∷ ms) = m.1 tight.Product ++ addends_printed ms

-- Parts at places that ask for a rule.
abbrev pub all_at : Tightness → List Printed → List (List Terminal)
all_at asked ps = map (λ p. p asked) ps
