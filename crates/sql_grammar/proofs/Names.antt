-- Names and references.
use Rattle.std.proofs.Common.{◌≡◌, ℕ, List, [], ◌∷◌, ◌++◌, true, Option, Some, None, refl, arith}
use Rattle.sql_tree.specs.declared.reference.Ref.{Ref}
use Rattle.sql_tree.specs.declared.term.Term.{Term}
use Rattle.sql_tree.specs.declared.term.Term.TheVariants as term
use Rattle.sql_grammar.specs.declared.mark.Mark.TheVariants as marks
use Rattle.sql_grammar.specs.declared.terminal.Terminal.{Terminal}
use Rattle.sql_grammar.specs.declared.terminal.Terminal.TheVariants as terminal
use Rattle.sql_grammar.specs.Terminals.{is_name, is_alias}
use Rattle.sql_grammar.specs.Reader.{◌>>=◌, takes}
use Rattle.sql_grammar.specs.Expression as e
use Rattle.sql_grammar.specs.Expression.{Name, Reference, Column}
use Rattle.sql_grammar.specs.ExpressionReader.{name_in, reference_by, reference_from, reference_in, column_in, unqualified, qualified}
use Rattle.sql_grammar.proofs.Marks.{Stops, takes-found, takes-at, takes-stop}
use Rattle.sql_grammar.proofs.Reading.{Front, Reads, bind-found, passed, fronted}

pub name-sound : (all : List Terminal) (x : List ℕ) (rest : List Terminal) → name_in all ≡ Some (x, rest) → Front Name x all rest
unfolding name_in
name-sound [] x rest h = absurd (cc)
name-sound (terminal.Word w ∷ ts) x rest h = let p = passed (is_name w) (Some (w, ts)) (x, rest) h in fronted Name w x (terminal.Word w ∷ ts) (terminal.Word w ∷ []) ts rest (e.word p.0) refl p.1
name-sound (terminal.Quoted q ∷ ts) x rest h = fronted Name q x (terminal.Quoted q ∷ ts) (terminal.Quoted q ∷ []) ts rest e.quoted refl h
name-sound (terminal.Number n ∷ ts) x rest h = absurd (cc)
name-sound (terminal.Text n ∷ ts) x rest h = absurd (cc)
name-sound (terminal.Mark n ∷ ts) x rest h = absurd (cc)

pub name-complete : (x : List ℕ) (front rest : List Terminal) → Name x front → name_in (front ++ rest) ≡ Some (x, rest)
unfolding name_in
name-complete x front rest (e.word h) = rw h
name-complete x front rest e.quoted = refl

from-by : (w : List ℕ) (ts : List Terminal) (o : Option (List Terminal)) (r : Ref) (rest : List Terminal) → takes marks.Dot ts ≡ o → reference_by w ts o ≡ Some (r, rest) → Front Reference r (terminal.Word w ∷ ts) rest
from-by w ts None r rest d h = let p = passed (is_name w) (Some (unqualified w, ts)) (r, rest) h in fronted Reference (unqualified w) r (terminal.Word w ∷ ts) (terminal.Word w ∷ []) ts rest (e.bare (e.word p.0)) refl p.1
from-by w ts (Some us) r rest d h =
    let dot = takes-found marks.Dot ts us d in
    let p = passed (is_alias w) (name_in us >>= λ n rest. Some (qualified w n, rest)) (r, rest) h in
    let step = bind-found (name_in us) (λ n rest. Some (qualified w n, rest)) r rest p.1 in
    let n = name-sound us step.x step.after step.first in
    fronted Reference (qualified w step.x) r (terminal.Word w ∷ ts) (terminal.Word w ∷ terminal.Mark marks.Dot ∷ n.front) step.after rest (e.qualified p.0 n.spells) (let split = n.split in cc) step.second

pub from-sound : (w : List ℕ) (ts : List Terminal) (r : Ref) (rest : List Terminal) → reference_from w ts ≡ Some (r, rest) → Front Reference r (terminal.Word w ∷ ts) rest
unfolding reference_from
from-sound w ts r rest h = from-by w ts (takes marks.Dot ts) r rest refl h

pub from-bare : (w : List ℕ) (rest : List Terminal) → is_name w ≡ true → Stops 8 rest → reference_from w rest ≡ Some (unqualified w, rest)
unfolding reference_from
from-bare w rest h stop = let none : takes marks.Dot rest ≡ None = takes-stop marks.Dot 8 rest (omega arith) stop in rw (none, h)

pub from-qualified : (w n : List ℕ) (a rest : List Terminal) → is_alias w ≡ true → Name n a → reference_from w (terminal.Mark marks.Dot ∷ (a ++ rest)) ≡ Some (qualified w n, rest)
unfolding reference_from
from-qualified w n a rest h p = let named = name-complete n a rest p in rw (takes-at marks.Dot (a ++ rest), h, named)

reference-sound : (all : List Terminal) (x : Ref) (rest : List Terminal) → reference_in all ≡ Some (x, rest) → Front Reference x all rest
unfolding reference_in
reference-sound [] x rest h = absurd (cc)
reference-sound (terminal.Word w ∷ ts) x rest h = from-sound w ts x rest h
reference-sound (terminal.Quoted q ∷ ts) x rest h = fronted Reference (unqualified q) x (terminal.Quoted q ∷ ts) (terminal.Quoted q ∷ []) ts rest (e.bare e.quoted) refl h
reference-sound (terminal.Number n ∷ ts) x rest h = absurd (cc)
reference-sound (terminal.Text n ∷ ts) x rest h = absurd (cc)
reference-sound (terminal.Mark n ∷ ts) x rest h = absurd (cc)

reference-complete : (x : Ref) (front rest : List Terminal) → Reference x front → Stops 8 rest → reference_in (front ++ rest) ≡ Some (x, rest)
unfolding reference_in
reference-complete x front rest (e.bare (e.word {w} h)) stop = from-bare w rest h stop
reference-complete x front rest (e.bare e.quoted) stop = refl
reference-complete x front rest (e.qualified {w} {n} {a} h p) stop = from-qualified w n a rest h p

pub reference-reads : Reads 8 reference_in Reference
reference-reads = record { sound = reference-sound; complete = reference-complete }

column-sound : (all : List Terminal) (x : Term) (rest : List Terminal) → column_in all ≡ Some (x, rest) → Front Column x all rest
unfolding column_in
column-sound all x rest h =
    let step = bind-found (reference_in all) (λ r rest. Some (term.Column r, rest)) x rest h in
    let f = reference-sound all step.x step.after step.first in
    fronted Column (term.Column step.x) x all f.front step.after rest (Column.column f.spells) f.split step.second

column-complete : (x : Term) (front rest : List Terminal) → Column x front → Stops 8 rest → column_in (front ++ rest) ≡ Some (x, rest)
unfolding column_in
column-complete x front rest (Column.column {r} {a} p) stop = let found = reference-complete r a rest p stop in rw found

pub column-reads : Reads 8 column_in Column
column-reads = record { sound = column-sound; complete = column-complete }
