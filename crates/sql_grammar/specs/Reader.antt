-- Functions that read what the first terminals spell, and give it with the terminals behind.
use Rattle.std.specs.Prelude.{ℕ, zero, suc, List, [], ◌∷◌, Bool, true, false, length, Option, Some, None, if◌then◌else◌}
use Rattle.sql_grammar.specs.declared.mark.Mark.{Mark}
use Rattle.sql_grammar.specs.declared.mark.Mark.TheVariants as marks
use Rattle.sql_grammar.specs.declared.terminal.Terminal.{Terminal}
use Rattle.sql_grammar.specs.declared.terminal.Terminal.TheVariants as terminal
use Rattle.sql_grammar.specs.Terminals.{same_mark, only}
use Rattle.sql_grammar.specs.Languages.{plain}

-- What is read, and the terminals behind it, if anything is.
abbrev pub Found : Type 0 → Type 0
Found A = Option (A × List Terminal)

-- A function that reads from the front of a list of terminals.
abbrev pub Reader : Type 0 → Type 0
Reader A = List Terminal → Found A

infixl 10 ◌>>=◌
-- Reads on behind what was found.
abbrev pub ◌>>=◌ : {A B : Type 0} → Found A → (A → Reader B) → Found B
None >>= next = None
(Some p) >>= next = next p.0 p.1

-- What is behind this mark, if it comes first.
unfoldable pub takes : Mark → List Terminal → Option (List Terminal)
takes mark [] = None
takes mark (terminal.Mark found ∷ rest) = if same_mark mark found then Some rest else None
takes mark (_ ∷ rest) = None

-- This mark, found or not.
abbrev pub expect_by : Option (List Terminal) → Found (Unit {0})
expect_by (Some rest) = Some (tt, rest)
expect_by None = None

-- This mark.
unfoldable pub expect : Mark → Reader (Unit {0})
expect mark all = expect_by (takes mark all)

-- A thing, and the bracket that closes behind it.
abbrev pub closed : {A : Type 0} → A → Reader A
closed x all = expect marks.Close all >>= λ _ rest. Some (x, rest)

-- Whether a mark came first, and what is behind it.
abbrev pub first_by : List Terminal → Option (List Terminal) → Bool × List Terminal
first_by all (Some rest) = (true, rest)
first_by all None = (false, all)

-- [NOT].
unfoldable pub denial_in : List Terminal → Bool × List Terminal
denial_in all = first_by all (takes marks.Not all)

-- What a mark joins by, and what is behind it.
abbrev pub joins_by : {S : Type 0} → List Terminal → Option S → Found S
joins_by rest (Some s) = Some (s, rest)
joins_by rest None = None

-- What a mark that comes first joins by.
unfoldable pub joins_in : {S : Type 0} → (Mark → Option S) → Reader S
joins_in joins [] = None
joins_in joins (terminal.Mark mark ∷ rest) = joins_by rest (joins mark)
joins_in joins (_ ∷ rest) = None

-- {mark part}, where what joins the next part is found or not; the rest of the parts is read by more.
abbrev pub members_by : {S A M : Type 0} → (S → A → M) → Reader A → Reader (List M) → List Terminal → Found S → Found (List M)
members_by make part more all (Some p) = part p.1 >>= λ x rest. more rest >>= λ xs rest. Some (make p.0 x ∷ xs, rest)
members_by make part more all None = Some ([], all)

-- {mark part}, in so many turns at most; each turn takes a terminal, so their number is enough.
unfoldable pub members_in : {S A M : Type 0} → (Mark → Option S) → (S → A → M) → Reader A → ℕ → Reader (List M)
members_in joins make part zero all = Some ([], all)
members_in joins make part (suc turns) all = members_by make part (members_in joins make part turns) all (joins_in joins all)

-- part {mark part}.
unfoldable pub chain_in : {S A M N : Type 0} → (Mark → Option S) → (S → A → M) → (A → List M → N) → Reader A → Reader N
chain_in joins make node part all = part all >>= λ x rest. members_in joins make part (length rest) rest >>= λ xs rest. Some (node x xs, rest)

-- part {, part}.
abbrev pub listed_in : {A : Type 0} → Reader A → Reader (List A)
listed_in part = chain_in (only marks.Comma) plain (λ x xs. x ∷ xs) part

-- [mark part], behind the mark or with none.
abbrev pub optional_by : {A : Type 0} → Reader A → List Terminal → Option (List Terminal) → Found (Option A)
optional_by part all (Some rest) = part rest >>= λ x rest. Some (Some x, rest)
optional_by part all None = Some (None, all)

-- [mark part].
unfoldable pub optional_in : {A : Type 0} → Mark → Reader A → Reader (Option A)
optional_in mark part all = optional_by part all (takes mark all)
