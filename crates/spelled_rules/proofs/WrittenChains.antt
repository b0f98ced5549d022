-- What holds of each part that is spelled holds of the chain, where no numeral is too great.
use Rattle.std.proofs.Common.{◌≡◌, true, List, [], ◌∷◌, ◌++◌, Option}
use Rattle.std.specs.Prelude.{nat_le}
use Rattle.std.specs.List.{AllByRecursion as EachIs}
use Rattle.sql_grammar.specs.declared.mark.Mark.{Mark}
use Rattle.sql_grammar.specs.declared.terminal.Terminal.{Terminal}
use Rattle.sql_grammar.specs.declared.terminal.Terminal.TheVariants as terminal
use Rattle.sql_grammar.specs.Languages.{Language, Members, none, more, Chain, chain}

-- A numeral is at most 2 to the 63.
abbrev pub IsSmall : Terminal → Type 0
IsSmall (terminal.Number n) = nat_le n 9223372036854775808 ≡ true
IsSmall _ = Unit {0}

-- No numeral is greater.
abbrev pub AreSmall : List Terminal → Type 0
AreSmall all = EachIs IsSmall all

pub front_small : (a b : List Terminal) → AreSmall (a ++ b) → AreSmall a
front_small [] b small = tt
front_small (x ∷ a) b small = (small.0, front_small a b small.1)

pub back_small : (a b : List Terminal) → AreSmall (a ++ b) → AreSmall b
back_small [] b small = small
back_small (x ∷ a) b small = back_small a b small.1

module _ {S A M : Type 0} (joins : Mark → Option S) (make : S → A → M) (Part : Language A) (P : A → Type 0) (Q : M → Type 0) (each : (x : A) (a : List Terminal) → AreSmall a → Part x a → P x) (makes : (s : S) (x : A) → P x → Q (make s x)) where
  members_hold : (xs : List M) (a : List Terminal) → AreSmall a → Members joins make Part xs a → EachIs Q xs
  members_hold [] [] small none = tt
  members_hold xs all small (more {s = s} {x = x} {xs = ys} {a = a} {b = b} e p ms) =
      (makes s x (each x a (front_small a b small.1) p), members_hold ys b (back_small a b small.1) ms)

  pub chain_holds : {N : Type 0} (node : A → List M → N) (R : N → Type 0) → ((x : A) (xs : List M) → P x → EachIs Q xs → R (node x xs)) → (y : N) (a : List Terminal) → AreSmall a → Chain joins make node Part y a → R y
  chain_holds node R nodes y all small (chain {x = x} {xs = xs} {a = a} {b = b} p ms) =
      nodes x xs (each x a (front_small a b small) p) (members_hold xs b (back_small a b small) ms)
