-- Lists of terminals that all fit, and chains and lists whose parts are written anew.
use Rattle.std.proofs.Common.{◌≡◌, List, [], ◌∷◌, ◌++◌, map, Bool, true, false, Option, Some, refl, if◌then◌else◌}
use denote.Enum.Bare.{true_same}
use Rattle.sql_tree.specs.declared.addend.Addend.{Addend}
use Rattle.sql_tree.specs.declared.term.Term.{Term}
use Rattle.sql_grammar.specs.contracts.mark.Mark.{the_type}
use Rattle.sql_grammar.specs.declared.mark.Mark.{Mark}
use Rattle.sql_grammar.specs.declared.mark.Mark.TheVariants as marks
use Rattle.sql_grammar.specs.declared.terminal.Terminal.{Terminal}
use Rattle.sql_grammar.specs.declared.terminal.Terminal.TheVariants as terminal
use Rattle.sql_syntax.specs.declared.print_tightness.Tightness.TheVariants as tight
use Rattle.sql_grammar.specs.Terminals.{only, same_mark, sign_of}
use Rattle.sql_grammar.specs.Nodes.{addend}
use Rattle.sql_grammar.specs.Languages.{Language, Members, none, more, chain, Listed, plain}
use Rattle.sql_syntax.specs.Printing.{each_behind, joined_by, addends_printed}
use Rattle.sql_syntax.specs.PrintingTerm.{printed, member_printed}

-- Every terminal fits.
abbrev pub Each : (Terminal → Type 0) → List Terminal → Type 0
Each Fits [] = Unit {0}
Each Fits (t ∷ ts) = Fits t × Each Fits ts

module _ (Fits : Terminal → Type 0) where
  pub each_append : (a b : List Terminal) → Each Fits a → Each Fits b → Each Fits (a ++ b)
  each_append [] b f g = g
  each_append (t ∷ a) b f g = (f.0, each_append a b f.1 g)

  pub each_front : (a b : List Terminal) → Each Fits (a ++ b) → Each Fits a
  each_front [] b f = tt
  each_front (t ∷ a) b f = (f.0, each_front a b f.1)

  pub each_back : (a b : List Terminal) → Each Fits (a ++ b) → Each Fits b
  each_back [] b f = f
  each_back (t ∷ a) b f = each_back a b f.1

-- What is written is spelled so, and each of its terminals fits.
pub record Written {A : Type 0} (Fits : Terminal → Type 0) (Spelled : Language A) (x : A) (a : List Terminal) : Type 0 where
  pub spells : Spelled x a
  pub fits : Each Fits a

-- What a language has can be written anew.
abbrev pub WritesAgain : {A : Type 0} → (Terminal → Type 0) → Language A → (A → List Terminal) → Type 0
WritesAgain {A} Fits Part write = (x : A) (a : List Terminal) → Part x a → Each Fits a → Written Fits Part x (write x)

-- A mark joins by itself.
pub only-self : (m : Mark) → only m m ≡ Some tt
unfolding same_mark
only-self m = rw (true_same the_type m m refl)

sign_again : (minus : Bool) → sign_of (if minus then marks.Minus else marks.Plus) ≡ Some minus
sign_again true = refl
sign_again false = refl

module _ (Fits : Terminal → Type 0) (marks_fit : (m : Mark) → Fits (terminal.Mark m)) where
  pub behind_again : {A : Type 0} {joins : Mark → Option (Unit {0})} {Part : Language A} (mark : Mark) (write : A → List Terminal) → joins mark ≡ Some tt → WritesAgain Fits Part write
      → (xs : List A) (a : List Terminal) → Members joins plain Part xs a → Each Fits a → Written Fits (Members joins plain Part) xs (each_behind mark (map write xs))
  behind_again mark write joint again [] [] none f = record { spells = none; fits = tt }
  behind_again mark write joint again xs a (more {x} {xs = ys} {a = b} {b = c} e p ms) f =
      let one = again x b p (each_front Fits b c f.1) in
      let others = behind_again mark write joint again ys c ms (each_back Fits b c f.1) in
      record { spells = more joint one.spells others.spells; fits = (marks_fit mark, each_append Fits (write x) (each_behind mark (map write ys)) one.fits others.fits) }

  pub listed_again : {A : Type 0} {Part : Language A} (write : A → List Terminal) → WritesAgain Fits Part write → WritesAgain Fits (Listed Part) (λ xs. joined_by marks.Comma (map write xs))
  listed_again write again xs a (chain {x} {xs = ys} {a = b} {b = c} p ms) f =
      let one = again x b p (each_front Fits b c f) in
      let others = behind_again marks.Comma write (only-self marks.Comma) again ys c ms (each_back Fits b c f) in
      record { spells = chain one.spells others.spells; fits = each_append Fits (write x) (each_behind marks.Comma (map write ys)) one.fits others.fits }

  pub addends_again : {Part : Language Term} → WritesAgain Fits Part (λ t. printed t tight.Product)
      → (ms : List Addend) (a : List Terminal) → Members sign_of addend Part ms a → Each Fits a → Written Fits (Members sign_of addend Part) ms (addends_printed (map member_printed ms))
  addends_again again [] [] none f = record { spells = none; fits = tt }
  addends_again again ms a (more {s} {x} {xs = ns} {a = b} {b = c} e p others) f =
      let one = again x b p (each_front Fits b c f.1) in
      let rest = addends_again again ns c others (each_back Fits b c f.1) in
      record { spells = more (sign_again s) one.spells rest.spells; fits = (marks_fit (if s then marks.Minus else marks.Plus), each_append Fits (printed x tight.Product) (addends_printed (map member_printed ns)) one.fits rest.fits) }
