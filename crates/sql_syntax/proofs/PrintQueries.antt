-- What is printed of a question spells it.
use Rattle.std.proofs.Common.{ℕ, List, ◌∷◌, ◌++◌, map, Bool, Option, sym, subst, append-nil}
use Rattle.sql_tree.specs.declared.item.Item.{Item}
use Rattle.sql_tree.specs.declared.key.Key.{Key}
use Rattle.sql_tree.specs.declared.select.Select.{Select}
use Rattle.sql_tree.specs.declared.table.Table.{Table}
use Rattle.sql_tree.specs.declared.term.Term.{Term}
use Rattle.sql_grammar.specs.declared.mark.Mark.{Mark}
use Rattle.sql_grammar.specs.declared.mark.Mark.TheVariants as marks
use Rattle.sql_grammar.specs.declared.terminal.Terminal.{Terminal}
use Rattle.sql_grammar.specs.declared.terminal.Terminal.TheVariants as terminal
use Rattle.sql_grammar.specs.Languages.{Optional, absent, present, chain}
use Rattle.sql_grammar.specs.Expression.{Expression}
use Rattle.sql_grammar.specs.Query.{Alias, announced, AnItem, item, ATable, table, Direction, ascending, descending, AKey, key, parts, Keys, keys, keys_of, Numeral, numeral, Distinct, all, distinct, Tail, ATail, tail, Question, star, select}
use Rattle.sql_syntax.specs.Printing.{joined_by}
use Rattle.sql_syntax.specs.PrintingQuery.{expression_printed, alias_printed, item_printed, table_printed, behind_printed, direction_printed, distinct_printed, key_printed, keys_printed, limit_printed, question_printed}
use Rattle.sql_syntax.proofs.PrintParts.{Each, each_append, each_front, each_back, Written, listed_again}
use Rattle.sql_syntax.proofs.PrintLeaves.{Fitting}
use Rattle.sql_syntax.proofs.PrintAgain.{expression_again}

module _ (Fits : Terminal → Type 0) (fitting : Fitting Fits) where
  alias_again : (n : Option (List ℕ)) (a : List Terminal) → Alias n a → Each Fits a → Written Fits Alias n (alias_printed n)
  alias_again n a Alias.none f = record { spells = Alias.none; fits = tt }
  alias_again n a (announced e) f = record { spells = announced e; fits = f }
  alias_again n a (Alias.bare e) f = record { spells = announced e; fits = (fitting.mark marks.As, f) }

  item_again : (i : Item) (a : List Terminal) → AnItem i a → Each Fits a → Written Fits AnItem i (item_printed i)
  item_again i a (item {t} {n} {a = b} {b = c} d e) f =
      let first = expression_again Fits fitting t b d (each_front Fits b c f) in
      let last = alias_again n c e (each_back Fits b c f) in
      record { spells = item first.spells last.spells; fits = each_append Fits (expression_printed t) (alias_printed n) first.fits last.fits }

  table_again : (t : Table) (a : List Terminal) → ATable t a → Each Fits a → Written Fits ATable t (table_printed t)
  table_again t a (table {w} {n} {a = b} e d) f =
      let last = alias_again n b d f.1 in
      record { spells = table e last.spells; fits = (f.0, last.fits) }

  direction_again : (d : Bool) (a : List Terminal) → Direction d a → Written Fits Direction d (direction_printed d)
  direction_again d a Direction.none = record { spells = Direction.none; fits = tt }
  direction_again d a ascending = record { spells = Direction.none; fits = tt }
  direction_again d a descending = record { spells = descending; fits = (fitting.mark marks.Desc, tt) }

  key_again : (k : Key) (a : List Terminal) → AKey k a → Each Fits a → Written Fits AKey k (key_printed k)
  key_again k a (key {t} {d} {a = b} {b = c} e p q) f =
      let first = expression_again Fits fitting t b p (each_front Fits b c f) in
      let last = direction_again d c q in
      record { spells = key e first.spells last.spells; fits = each_append Fits (expression_printed t) (direction_printed d) first.fits last.fits }

  test_again : (mark : Mark) (t : Option Term) (a : List Terminal) → Optional mark Expression t a → Each Fits a → Written Fits (Optional mark Expression) t (behind_printed mark t)
  test_again mark t a absent f = record { spells = absent; fits = tt }
  test_again mark t a (present {x} {a = b} d) f =
      let again = expression_again Fits fitting x b d f.1 in
      record { spells = present again.spells; fits = (fitting.mark mark, again.fits) }

  keys_again : (ks : Option (List Key)) (a : List Terminal) → Optional marks.Order Keys ks a → Each Fits a → Written Fits (Optional marks.Order Keys) ks (keys_printed (keys_of ks))
  keys_again ks a absent f = record { spells = absent; fits = tt }
  keys_again ks a (present (keys (parts {a = b} few (chain {x} {xs} p ms)))) f =
      let again = listed_again Fits fitting.mark key_printed key_again (x ∷ xs) b (chain p ms) f.1.1 in
      record { spells = present (keys (parts few again.spells)); fits = (fitting.mark marks.Order, (fitting.mark marks.By, again.fits)) }

  limit_again : (l : Option ℕ) (a : List Terminal) → Optional marks.Limit Numeral l a → Each Fits a → Written Fits (Optional marks.Limit Numeral) l (limit_printed l)
  limit_again l a absent f = record { spells = absent; fits = tt }
  limit_again l a (present numeral) f = record { spells = present numeral; fits = f }

  -- What stands behind the table.
  abbrev end_printed : Tail → List Terminal
  end_printed l = behind_printed marks.Where l.test ++ (keys_printed (keys_of l.keys) ++ limit_printed l.limit)

  tail_again : (l : Tail) (a : List Terminal) → ATail l a → Each Fits a → Written Fits ATail l (end_printed l)
  tail_again l a (tail {t} {ks} {l = n} {a = b} {b = c} {c = d} p q r) f =
      let test = test_again marks.Where t b p (each_front Fits b (c ++ d) f) in
      let rest = each_back Fits b (c ++ d) f in
      let order = keys_again ks c q (each_front Fits c d rest) in
      let limit = limit_again n d r (each_back Fits c d rest) in
      record {
        spells = tail test.spells order.spells limit.spells;
        fits = each_append Fits (behind_printed marks.Where t) (keys_printed (keys_of ks) ++ limit_printed n) test.fits (each_append Fits (keys_printed (keys_of ks)) (limit_printed n) order.fits limit.fits);
      }

  distinct_again : (d : Bool) (a : List Terminal) → Distinct d a → Written Fits Distinct d (distinct_printed d)
  distinct_again d a all = record { spells = all; fits = tt }
  distinct_again d a distinct = record { spells = distinct; fits = (fitting.mark marks.Distinct, tt) }

  -- What is printed of a question spells it.
  pub question_again : (s : Select) (a : List Terminal) → Question s a → Each Fits a → Written Fits Question s (question_printed s)
  question_again s a (star {d} {t} {l} {a = b} {b = c} {c = e} p q r) f =
      let single = distinct_printed d in
      let behind = each_back Fits b (terminal.Mark marks.Star ∷ terminal.Mark marks.From ∷ (c ++ e)) f.1 in
      let from = table_again t c q (each_front Fits c e behind.1.1) in
      let last = tail_again l e r (each_back Fits c e behind.1.1) in
      let first = distinct_again d b p in
      let whole = table_printed t ++ end_printed l in
      subst (λ ts. Written Fits Question s (terminal.Mark marks.Select ∷ (single ++ terminal.Mark marks.Star ∷ terminal.Mark marks.From ∷ (ts ++ end_printed l)))) (sym (append-nil (table_printed t))) (record {
        spells = star first.spells from.spells last.spells;
        fits = (fitting.mark marks.Select, each_append Fits single (terminal.Mark marks.Star ∷ terminal.Mark marks.From ∷ whole) first.fits (fitting.mark marks.Star, (fitting.mark marks.From, each_append Fits (table_printed t) (end_printed l) from.fits last.fits)));
      })
  question_again s a (select {d} {is} {t} {l} {a = b} {b = c} {c = g} {e} p (parts few items) q r) f =
      let single = distinct_printed d in
      let shown = joined_by marks.Comma (map item_printed is) in
      let behind = each_back Fits b (c ++ terminal.Mark marks.From ∷ (g ++ e)) f.1 in
      let asked = listed_again Fits fitting.mark item_printed item_again is c items (each_front Fits c (terminal.Mark marks.From ∷ (g ++ e)) behind) in
      let ending = (each_back Fits c (terminal.Mark marks.From ∷ (g ++ e)) behind).1 in
      let from = table_again t g q (each_front Fits g e ending) in
      let last = tail_again l e r (each_back Fits g e ending) in
      let first = distinct_again d b p in
      let whole = table_printed t ++ end_printed l in
      subst (λ ts. Written Fits Question s (terminal.Mark marks.Select ∷ (single ++ (shown ++ terminal.Mark marks.From ∷ (ts ++ end_printed l))))) (sym (append-nil (table_printed t))) (record {
        spells = select first.spells (parts few asked.spells) from.spells last.spells;
        fits = (fitting.mark marks.Select, each_append Fits single (shown ++ terminal.Mark marks.From ∷ whole) first.fits (each_append Fits shown (terminal.Mark marks.From ∷ whole) asked.fits (fitting.mark marks.From, each_append Fits (table_printed t) (end_printed l) from.fits last.fits)));
      })
