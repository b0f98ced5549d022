-- What ties a function that reads to the language that it reads.
use Rattle.std.proofs.Common.{◌≡◌, ℕ, ◌≤◌, List, ◌∷◌, ◌++◌, Bool, true, false, Option, Some, None, if◌then◌else◌, refl, subst, ap, ◌∙◌}
use Rattle.sql_grammar.specs.declared.mark.Mark.{Mark}
use Rattle.sql_grammar.specs.declared.mark.Mark.TheVariants as marks
use Rattle.sql_grammar.specs.declared.terminal.Terminal.{Terminal}
use Rattle.sql_grammar.specs.declared.terminal.Terminal.TheVariants as terminal
use Rattle.sql_grammar.specs.Languages.{Language}
use Rattle.sql_grammar.specs.Reader.{Found, Reader, ◌>>=◌, takes, expect, expect_by, closed}
use Rattle.sql_grammar.proofs.Marks.{Stops, Stops-weaken, takes-found, takes-at, same-found}

-- All that is read: a front that the language has, and the rest.
pub record Front {A : Type 0} (Spelled : Language A) (x : A) (all rest : List Terminal) : Type 0 where
  pub front : List Terminal
  pub spells : Spelled x front
  pub split : all ≡ front ++ rest

-- A reader gives what a front spells, and each front where what follows binds less.
pub record Reads {A : Type 0} (k : ℕ) (reader : Reader A) (Spelled : Language A) : Type 0 where
  pub sound : (all : List Terminal) (x : A) (rest : List Terminal) → reader all ≡ Some (x, rest) → Front Spelled x all rest
  pub complete : (x : A) (front rest : List Terminal) → Spelled x front → Stops k rest → reader (front ++ rest) ≡ Some (x, rest)

pub Reads-weaken : {A : Type 0} (j k : ℕ) (reader : Reader A) (Spelled : Language A) → j ≤ k → Reads k reader Spelled → Reads j reader Spelled
Reads-weaken j k reader Spelled h r = record {
  sound = r.sound;
  complete = λ x front rest s stop. r.complete x front rest s (Stops-weaken j k rest h stop);
}

-- What a step found before the next one.
pub record Step {A B : Type 0} (o : Found A) (next : A → Reader B) (y : B) (rest : List Terminal) : Type 0 where
  pub x : A
  pub after : List Terminal
  pub first : o ≡ Some (x, after)
  pub second : next x after ≡ Some (y, rest)

pub bind-found : {A B : Type 0} (o : Found A) (next : A → Reader B) (y : B) (rest : List Terminal) → (o >>= next) ≡ Some (y, rest) → Step o next y rest
bind-found None next y rest h = absurd (cc)
bind-found (Some p) next y rest h = record { x = p.0; after = p.1; first = refl; second = h }

pub bind-at : {A B : Type 0} (o : Found A) (next : A → Reader B) (x : A) (after : List Terminal) → o ≡ Some (x, after) → (o >>= next) ≡ next x after
bind-at o next x after e = rw e

-- A test that had to pass.
pub passed : {A : Type 0} (b : Bool) (o : Option A) (y : A) → (if b then o else None) ≡ Some y → (b ≡ true) × (o ≡ Some y)
passed true o y h = (refl, h)
passed false o y h = absurd (cc)

pub refused : {A : Type 0} (b : Bool) (o : Option A) (y : A) → (if b then None else o) ≡ Some y → (b ≡ false) × (o ≡ Some y)
refused false o y h = (refl, h)
refused true o y h = absurd (cc)

expect-by : (o : Option (List Terminal)) (x : Unit {0}) (rest : List Terminal) → expect_by o ≡ Some (x, rest) → o ≡ Some rest
expect-by None x rest h = cc
expect-by (Some ts) x rest h = ap Some (same-found tt x ts rest h).1

pub expect-found : (mark : Mark) (all : List Terminal) (x : Unit {0}) (rest : List Terminal) → expect mark all ≡ Some (x, rest) → all ≡ terminal.Mark mark ∷ rest
unfolding expect
expect-found mark all x rest h = takes-found mark all rest (expect-by (takes mark all) x rest h)

pub expect-at : (mark : Mark) (rest : List Terminal) → expect mark (terminal.Mark mark ∷ rest) ≡ Some (tt, rest)
unfolding expect
expect-at mark rest = rw takes-at

-- A front with what it spells, where what was found is given by an equation.
pub fronted : {A : Type 0} (Spelled : Language A) (x y : A) (all front after rest : List Terminal) → Spelled x front → all ≡ front ++ after → ◌≡◌ {A = Found A} (Some (x, after)) (Some (y, rest)) → Front Spelled y all rest
fronted Spelled x y all front after rest s e h = let same = same-found x y after rest h in record {
  front = front;
  spells = subst (λ z. Spelled z front) same.0 s;
  split = e ∙ ap (λ r. front ++ r) same.1;
}

pub closed-found : {A : Type 0} (x y : A) (all rest : List Terminal) → closed x all ≡ Some (y, rest) → (x ≡ y) × (all ≡ terminal.Mark marks.Close ∷ rest)
closed-found x y all rest h =
    let step = bind-found (expect marks.Close all) (λ _ rest. Some (x, rest)) y rest h in
    let same = same-found x y step.after rest step.second in
    let first = expect-found marks.Close all step.x step.after step.first in
    (same.0, first ∙ ap (λ r. terminal.Mark marks.Close ∷ r) same.1)

pub closed-at : {A : Type 0} (x : A) (rest : List Terminal) → closed x (terminal.Mark marks.Close ∷ rest) ≡ Some (x, rest)
closed-at x rest = rw expect-at
