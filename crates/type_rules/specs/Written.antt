-- What these rules need of a statement that a text spells.
use Rattle.std.specs.Prelude.{◌≡◌, ℕ, nat_le, Bool, true, false, ◌&&◌, List, [], ◌∷◌, length, None}
use Rattle.std.specs.List.{list_all}
use Rattle.sql_tree.specs.declared.addend.Addend.{Addend}
use Rattle.sql_tree.specs.declared.table.Table.{Table}
use Rattle.sql_tree.specs.declared.select.Select.{Select}
use Rattle.sql_tree.specs.declared.statement.Statement as statement
use Rattle.sql_tree.specs.declared.term.Term.{Term}
use Rattle.sql_tree.specs.declared.term.Term.TheOpen.{Term-F}
use Rattle.sql_tree.specs.declared.term.Term.TheFolds.{fold-Term, fold-Addend}
use Rattle.type_rules.specs.Places.{places_of}

-- At least so many parts, each of them written.
abbrev pub at_least : ℕ → List Bool → Bool
at_least few parts = nat_le few (length parts) && list_all (λ p. p) parts

-- One level of a term that a text spells: a chain has two members at least, a list of IN one, a numeral is at most 2 to the 63. Aggregates and ANY are not written yet.
abbrev pub written_step : Term-F Bool Bool → Bool
written_step (Term-F.Number n) = nat_le n 9223372036854775808
written_step (Term-F.Or ps) = at_least 2 ps
written_step (Term-F.And ps) = at_least 2 ps
written_step (Term-F.Not p) = p
written_step (Term-F.Compare op p q) = p && q
written_step (Term-F.IsNull p negated) = p
written_step (Term-F.Among p ps negated) = p && at_least 1 ps
written_step (Term-F.Between p low high negated) = (p && low) && high
written_step (Term-F.Like p pattern negated) = p
written_step (Term-F.Sum ps) = at_least 2 ps
written_step (Term-F.Product ps) = at_least 2 ps
written_step (Term-F.Minus p) = p
written_step (Term-F.AnyOf p r) = false
written_step Term-F.CountAll = false
written_step (Term-F.Aggregate call p) = false
written_step _ = true

-- Whether a text may spell a term.
abbrev pub is_written : Term → Bool
is_written = fold-Term Bool Bool written_step (λ a. a.term)

-- The same of a member of a sum.
abbrev pub is_written_in : Addend → Bool
is_written_in = fold-Addend Bool Bool written_step (λ a. a.term)

-- What each question that a text spells has: one table, which nothing joins or groups, and terms that are written.
pub record IsQuestion (s : Select) : Type 0 where
  pub table : Table
  pub tables : s.tables ≡ table ∷ []
  pub joins : s.joins ≡ []
  pub grouping : s.grouping ≡ []
  pub having : s.having ≡ None
  pub terms : list_all (λ p. is_written p.term) (places_of s) ≡ true

-- What each statement that a text spells has. Updates and deletions are not written yet.
abbrev pub IsWritten : statement.Statement → Type 0
IsWritten (statement.TheVariants.Load collection json) = Unit {0}
IsWritten (statement.TheVariants.Select s) = IsQuestion s
IsWritten (statement.TheVariants.Update collection sets test) = ⊥
IsWritten (statement.TheVariants.Delete collection test) = ⊥
