-- What spells what, and the shapes that rules are made of.
use Rattle.std.specs.Prelude.{◌≡◌, List, [], ◌∷◌, ◌++◌, Bool, true, false, Option, Some, None}
use Rattle.sql_grammar.specs.declared.mark.Mark.{Mark}
use Rattle.sql_grammar.specs.declared.mark.Mark.TheVariants as marks
use Rattle.sql_grammar.specs.declared.terminal.Terminal.{Terminal}
use Rattle.sql_grammar.specs.declared.terminal.Terminal.TheVariants as terminal
use Rattle.sql_grammar.specs.Terminals.{only}

-- A language says which lists of terminals spell which things.
abbrev pub Language : Type 0 → Type 1
Language M = M → List Terminal → Type 0

-- {mark part}: each part behind a mark that joins it to what stands before.
pub data Members {S A M : Type 0} (joins : Mark → Option S) (make : S → A → M) (Part : Language A) : List M → List Terminal → Type 0 where
  none : Members joins make Part [] []
  more : {mark : Mark} {s : S} {x : A} {xs : List M} {a b : List Terminal} → joins mark ≡ Some s → Part x a → Members joins make Part xs b → Members joins make Part (make s x ∷ xs) (terminal.Mark mark ∷ (a ++ b))

-- part {mark part}: one node of all the members.
pub data Chain {S A M N : Type 0} (joins : Mark → Option S) (make : S → A → M) (node : A → List M → N) (Part : Language A) : N → List Terminal → Type 0 where
  chain : {x : A} {xs : List M} {a b : List Terminal} → Part x a → Members joins make Part xs b → Chain joins make node Part (node x xs) (a ++ b)

-- [NOT]: whether it stands there.
pub data Denial : Bool → List Terminal → Type 0 where
  affirmed : Denial false []
  denied : Denial true (terminal.Mark marks.Not ∷ [])

-- A member as it is.
abbrev pub plain : {A : Type 0} → Unit {0} → A → A
plain _ x = x

-- part {, part}: the list of the parts.
abbrev pub Listed : {A : Type 0} → Language A → Language (List A)
Listed Part = Chain (only marks.Comma) plain (λ x xs. x ∷ xs) Part

-- [mark part]: nothing, or a part behind a mark that announces it.
pub data Optional {A : Type 0} (mark : Mark) (Part : Language A) : Option A → List Terminal → Type 0 where
  absent : Optional mark Part None []
  present : {x : A} {a : List Terminal} → Part x a → Optional mark Part (Some x) (terminal.Mark mark ∷ a)
