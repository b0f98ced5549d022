-- Marks: which are the same, how tightly each binds what stands before it, and what it opens.
use Rattle.std.proofs.Common.{◌≡◌, ℕ, ◌<◌, ◌≤◌, List, [], ◌∷◌, Bool, true, false, Option, Some, None, refl, sym, ap, rules, arith}
use denote.Enum.Bare.{same_true, true_same}
use Rattle.sql_grammar.specs.contracts.mark.Mark.{the_type}
use Rattle.sql_grammar.specs.declared.mark.Mark.{Mark}
use Rattle.sql_grammar.specs.declared.mark.Mark.TheVariants as marks
use Rattle.sql_grammar.specs.declared.terminal.Terminal.{Terminal}
use Rattle.sql_grammar.specs.declared.terminal.Terminal.TheVariants as terminal
use Rattle.sql_grammar.specs.Terminals.{same_mark, only}
use Rattle.sql_grammar.specs.Reader.{takes, joins_in, joins_by}

pub same_mark-true : (m n : Mark) → same_mark m n ≡ true → m ≡ n
unfolding same_mark
same_mark-true m n e = same_true the_type (search rules) m n e

pub same_mark-self : (m : Mark) → same_mark m m ≡ true
unfolding same_mark
same_mark-self m = true_same the_type m m refl

-- How tightly what a mark begins binds what stands before it: a list, a name or direction, OR, AND, a test, a sum, a product, a dot or call.
abbrev pub mark_binds : Mark → ℕ
mark_binds marks.Comma = 1
mark_binds marks.As = 2
mark_binds marks.Asc = 2
mark_binds marks.Desc = 2
mark_binds marks.Or = 3
mark_binds marks.And = 4
mark_binds marks.Not = 5
mark_binds marks.Is = 5
mark_binds marks.In = 5
mark_binds marks.Between = 5
mark_binds marks.Like = 5
mark_binds marks.Equal = 5
mark_binds marks.NotEqual = 5
mark_binds marks.Less = 5
mark_binds marks.LessEqual = 5
mark_binds marks.Greater = 5
mark_binds marks.GreaterEqual = 5
mark_binds marks.Plus = 6
mark_binds marks.Minus = 6
mark_binds marks.Star = 7
mark_binds marks.Open = 8
mark_binds marks.Dot = 8
mark_binds _ = 0

-- The same of a terminal.
abbrev pub binds : Terminal → ℕ
binds (terminal.Word w) = 2
binds (terminal.Quoted q) = 0
binds (terminal.Number n) = 0
binds (terminal.Text t) = 0
binds (terminal.Mark mark) = mark_binds mark

-- What begins with no terminal that binds so tightly.
abbrev pub Stops : ℕ → List Terminal → Type 0
Stops k [] = Unit {0}
Stops k (t ∷ ts) = binds t < k

pub Stops-weaken : (j k : ℕ) (ts : List Terminal) → j ≤ k → Stops j ts → Stops k ts
Stops-weaken j k [] h s = tt
Stops-weaken j k (t ∷ ts) h s = omega arith

pub takes-at : (m : Mark) (rest : List Terminal) → takes m (terminal.Mark m ∷ rest) ≡ Some rest
unfolding takes
takes-at m rest = rw same_mark-self

takes-mark : (m n : Mark) (rest ts : List Terminal) (b : Bool) → same_mark m n ≡ b → takes m (terminal.Mark n ∷ ts) ≡ Some rest → (terminal.Mark n ∷ ts) ≡ (terminal.Mark m ∷ rest)
unfolding takes
takes-mark m n rest ts true e h = let same = same_mark-true m n e in let found = rw e at h in cc
takes-mark m n rest ts false e h = let found = rw e at h in cc

pub takes-found : (m : Mark) (all rest : List Terminal) → takes m all ≡ Some rest → all ≡ terminal.Mark m ∷ rest
unfolding takes
takes-found m [] rest h = cc
takes-found m (terminal.Word w ∷ ts) rest h = cc
takes-found m (terminal.Quoted w ∷ ts) rest h = cc
takes-found m (terminal.Number w ∷ ts) rest h = cc
takes-found m (terminal.Text w ∷ ts) rest h = cc
takes-found m (terminal.Mark n ∷ ts) rest h = takes-mark m n rest ts (same_mark m n) refl h

pub takes-none : (m : Mark) (o : Option (List Terminal)) (all : List Terminal) → takes m all ≡ o → ((rest : List Terminal) → all ≡ terminal.Mark m ∷ rest → ⊥) → takes m all ≡ None
takes-none m (Some rest) all e h = absurd (h rest (takes-found m all rest e))
takes-none m None all e h = e

pub takes-stop : (m : Mark) (k : ℕ) (rest : List Terminal) → k ≤ mark_binds m → Stops k rest → takes m rest ≡ None
takes-stop m k [] h s = takes-none m (takes m []) [] refl (λ rest e. cc)
takes-stop m k (t ∷ ts) h s = takes-none m (takes m (t ∷ ts)) (t ∷ ts) refl (λ rest e. let same : t ≡ terminal.Mark m = cc in let bound : binds t ≡ mark_binds m = ap binds same in omega arith)

-- The marks that join bind so tightly.
pub record Binds {S : Type 0} (k : ℕ) (joins : Mark → Option S) : Type 0 where
  pub binds_so : (mark : Mark) (s : S) → joins mark ≡ Some s → mark_binds mark ≡ k

only-so : (m n : Mark) (b : Bool) (s : Unit {0}) → same_mark m n ≡ b → only m n ≡ Some s → mark_binds n ≡ mark_binds m
only-so m n true s e h = ap mark_binds (sym (same_mark-true m n e))
only-so m n false s e h = let found = rw e at h in absurd (cc)

pub only-binds : (m : Mark) → Binds (mark_binds m) (only m)
only-binds m = record { binds_so = λ n s h. only-so m n (same_mark m n) s refl h }

pub record Joined {S : Type 0} (joins : Mark → Option S) (s : S) (all rest : List Terminal) : Type 0 where
  pub mark : Mark
  pub joins_so : joins mark ≡ Some s
  pub first : all ≡ terminal.Mark mark ∷ rest

-- What is found is one thing.
pub same-found : {A : Type 0} (x y : A) (a b : List Terminal) → ◌≡◌ {A = Option (A × List Terminal)} (Some (x, a)) (Some (y, b)) → (x ≡ y) × (a ≡ b)
same-found {A} x y a b h = let pair : ◌≡◌ {A = A × List Terminal} (x, a) (y, b) = cc in (ap (λ (p : A × List Terminal). p.0) pair, ap (λ (p : A × List Terminal). p.1) pair)

joined-by : {S : Type 0} (joins : Mark → Option S) (s : S) (mark : Mark) (ts rest : List Terminal) (o : Option S) → joins mark ≡ o → joins_by ts o ≡ Some (s, rest) → Joined joins s (terminal.Mark mark ∷ ts) rest
joined-by joins s mark ts rest None e h = absurd (cc)
joined-by joins s mark ts rest (Some r) e h = let same = same-found r s ts rest h in let s_is = same.0 in let rest_is = same.1 in record { mark = mark; joins_so = cc; first = cc }

pub joins-found : {S : Type 0} (joins : Mark → Option S) (s : S) (all rest : List Terminal) → joins_in joins all ≡ Some (s, rest) → Joined joins s all rest
unfolding joins_in
joins-found joins s [] rest h = absurd (cc)
joins-found joins s (terminal.Word w ∷ ts) rest h = absurd (cc)
joins-found joins s (terminal.Quoted w ∷ ts) rest h = absurd (cc)
joins-found joins s (terminal.Number w ∷ ts) rest h = absurd (cc)
joins-found joins s (terminal.Text w ∷ ts) rest h = absurd (cc)
joins-found joins s (terminal.Mark mark ∷ ts) rest h = joined-by joins s mark ts rest (joins mark) refl h

pub joins-at : {S : Type 0} (joins : Mark → Option S) (s : S) (mark : Mark) (rest : List Terminal) → joins mark ≡ Some s → joins_in joins (terminal.Mark mark ∷ rest) ≡ Some (s, rest)
unfolding joins_in
joins-at joins s mark rest e = rw e

joins-none : {S : Type 0} (joins : Mark → Option S) (all : List Terminal) (o : Option (S × List Terminal)) → joins_in joins all ≡ o → ((s : S) (rest : List Terminal) → Joined joins s all rest → ⊥) → joins_in joins all ≡ None
joins-none joins all (Some p) e h = absurd (h p.0 p.1 (joins-found joins p.0 all p.1 e))
joins-none joins all None e h = e

joined-stop : {S : Type 0} (joins : Mark → Option S) (j k : ℕ) (s : S) (rest after : List Terminal) → k ≤ j → Binds j joins → Stops k rest → Joined joins s rest after → ⊥
joined-stop joins j k s [] after h b stop found = let no = found.first in cc
joined-stop joins j k s (t ∷ ts) after h b stop found = let first = found.first in let same : t ≡ terminal.Mark found.mark = cc in let bound : binds t ≡ mark_binds found.mark = ap binds same in let so = b.binds_so found.mark s found.joins_so in omega arith

pub joins-stop : {S : Type 0} (joins : Mark → Option S) (j k : ℕ) (rest : List Terminal) → k ≤ j → Binds j joins → Stops k rest → joins_in joins rest ≡ None
joins-stop joins j k rest h b stop = joins-none joins rest (joins_in joins rest) refl (λ s after found. joined-stop joins j k s rest after h b stop found)

-- Another mark comes first.
pub takes-other : (m n : Mark) (ts : List Terminal) → (n ≡ m → ⊥) → takes m (terminal.Mark n ∷ ts) ≡ None
takes-other m n ts h = takes-none m (takes m (terminal.Mark n ∷ ts)) (terminal.Mark n ∷ ts) refl (λ rest e. h (cc))
