-- Chains as terms: at least two members are one node, and one is itself.
use Rattle.std.specs.Prelude.{List, [], ◌∷◌, Bool, false}
use Rattle.sql_tree.specs.declared.addend.Addend.{Addend}
use Rattle.sql_tree.specs.declared.term.Term.{Term}
use Rattle.sql_tree.specs.declared.term.Term.TheVariants as term

-- A member of a sum.
abbrev pub addend : Bool → Term → Addend
addend minus t = record { minus = minus; term = t }

-- The sum of a term and what follows it.
abbrev pub sum_node : Term → List Addend → Term
sum_node t [] = t
sum_node t (m ∷ ms) = term.Sum (addend false t ∷ m ∷ ms)

-- The product of a term and those that follow it.
abbrev pub product_node : Term → List Term → Term
product_node t [] = t
product_node t (u ∷ us) = term.Product (t ∷ u ∷ us)

-- A term and those that follow it, joined by AND.
abbrev pub and_node : Term → List Term → Term
and_node t [] = t
and_node t (u ∷ us) = term.And (t ∷ u ∷ us)

-- A term and those that follow it, joined by OR.
abbrev pub or_node : Term → List Term → Term
or_node t [] = t
or_node t (u ∷ us) = term.Or (t ∷ u ∷ us)
