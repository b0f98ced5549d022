-- The rules of expressions by tightness: what a tight rule makes a looser one makes too.
use Rattle.std.proofs.Common.{◌≡◌, List, [], false, refl, subst, append-nil}
use Rattle.sql_tree.specs.declared.term.Term.{Term}
use Rattle.sql_grammar.specs.declared.terminal.Terminal.{Terminal}
use Rattle.sql_syntax.specs.declared.print_tightness.Tightness.{Tightness}
use Rattle.sql_syntax.specs.declared.print_tightness.Tightness.TheVariants as tight
use Rattle.sql_grammar.specs.Languages.{Language, none, Chain, chain}
use Rattle.sql_grammar.specs.Expression.{Place, Primary, Unary, primary, Product, Sum, nothing, Test, Neg, Conj, Expr}
use Rattle.sql_syntax.specs.Printing.{looser}

-- What a rule makes.
abbrev pub Ruled : Tightness → (Place → Language Term) → Language Term
Ruled tight.Expr = Expr
Ruled tight.Conj = Conj
Ruled tight.Neg = Neg
Ruled tight.Sum = Sum
Ruled tight.Product = Product
Ruled tight.Unary = Unary
Ruled tight.Primary = Primary

-- A chain of one part.
pub alone : {S A M N : Type 0} {joins : _} {make : S → A → M} {node : A → List M → N} {Part : Language A} (x : A) (a : List Terminal) → Part x a → Chain joins make node Part (node x []) a
alone {joins} {make} {node} {Part} x a p = subst (Chain joins make node Part (node x [])) (append-nil a) (chain p none)

module _ (Inner : Place → Language Term) (t : Term) (a : List Terminal) where
  as_unary : (r : Tightness) → looser r tight.Unary ≡ false → Ruled r Inner t a → Unary Inner t a
  as_unary tight.Primary h d = primary d
  as_unary tight.Unary h d = d
  as_unary _ h d = absurd (cc)

  as_product : (r : Tightness) → looser r tight.Product ≡ false → Ruled r Inner t a → Product Inner t a
  as_product tight.Product h d = d
  as_product tight.Unary h d = alone t a (as_unary tight.Unary refl d)
  as_product tight.Primary h d = alone t a (as_unary tight.Primary refl d)
  as_product _ h d = absurd (cc)

  as_sum : (r : Tightness) → looser r tight.Sum ≡ false → Ruled r Inner t a → Sum Inner t a
  as_sum tight.Sum h d = d
  as_sum tight.Product h d = alone t a (as_product tight.Product refl d)
  as_sum tight.Unary h d = alone t a (as_product tight.Unary refl d)
  as_sum tight.Primary h d = alone t a (as_product tight.Primary refl d)
  as_sum _ h d = absurd (cc)

  sum_as_neg : Sum Inner t a → Neg Inner t a
  sum_as_neg d = subst (Neg Inner t) (append-nil a) (Neg.test (Test.test d nothing))

  as_neg : (r : Tightness) → looser r tight.Neg ≡ false → Ruled r Inner t a → Neg Inner t a
  as_neg tight.Expr h d = absurd (cc)
  as_neg tight.Conj h d = absurd (cc)
  as_neg tight.Neg h d = d
  as_neg tight.Sum h d = sum_as_neg (as_sum tight.Sum refl d)
  as_neg tight.Product h d = sum_as_neg (as_sum tight.Product refl d)
  as_neg tight.Unary h d = sum_as_neg (as_sum tight.Unary refl d)
  as_neg tight.Primary h d = sum_as_neg (as_sum tight.Primary refl d)

  as_conj : (r : Tightness) → looser r tight.Conj ≡ false → Ruled r Inner t a → Conj Inner t a
  as_conj tight.Expr h d = absurd (cc)
  as_conj tight.Conj h d = d
  as_conj tight.Neg h d = alone t a (as_neg tight.Neg refl d)
  as_conj tight.Sum h d = alone t a (as_neg tight.Sum refl d)
  as_conj tight.Product h d = alone t a (as_neg tight.Product refl d)
  as_conj tight.Unary h d = alone t a (as_neg tight.Unary refl d)
  as_conj tight.Primary h d = alone t a (as_neg tight.Primary refl d)

  as_expr : (r : Tightness) → Ruled r Inner t a → Expr Inner t a
  as_expr tight.Expr d = d
  as_expr tight.Conj d = alone t a (as_conj tight.Conj refl d)
  as_expr tight.Neg d = alone t a (as_conj tight.Neg refl d)
  as_expr tight.Sum d = alone t a (as_conj tight.Sum refl d)
  as_expr tight.Product d = alone t a (as_conj tight.Product refl d)
  as_expr tight.Unary d = alone t a (as_conj tight.Unary refl d)
  as_expr tight.Primary d = alone t a (as_conj tight.Primary refl d)

  as_primary : (r : Tightness) → looser r tight.Primary ≡ false → Ruled r Inner t a → Primary Inner t a
  as_primary tight.Primary h d = d
  as_primary _ h d = absurd (cc)

  -- What a rule makes each rule makes that is not tighter.
  pub widen : (r p : Tightness) → looser r p ≡ false → Ruled r Inner t a → Ruled p Inner t a
  widen r tight.Expr h d = as_expr r d
  widen r tight.Conj h d = as_conj r h d
  widen r tight.Neg h d = as_neg r h d
  widen r tight.Sum h d = as_sum r h d
  widen r tight.Product h d = as_product r h d
  widen r tight.Unary h d = as_unary r h d
  widen r tight.Primary h d = as_primary r h d
