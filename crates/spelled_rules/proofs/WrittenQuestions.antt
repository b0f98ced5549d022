-- Each question that terminals spell is one of which the rules may be asked, where no numeral is too great.
use Rattle.std.proofs.Common.{◌≡◌, ℕ, Bool, true, false, List, [], ◌∷◌, ◌++◌, map, Option, Some, None, refl}
use Rattle.std.specs.Prelude.{IfSome, option_and_then, unwrap_or}
use Rattle.std.specs.List.{list_all, AllByRecursion as EachIs}
use Rattle.std.proofs.lemmas.Bool.{and_from, cond_both}
use Rattle.sql_tree.specs.declared.item.Item.{Item}
use Rattle.sql_tree.specs.declared.key.Key.{Key}
use Rattle.sql_tree.specs.declared.select.Select.{Select}
use Rattle.sql_tree.specs.declared.table.Table.{Table}
use Rattle.sql_tree.specs.declared.term.Term.{Term}
use Rattle.sql_grammar.specs.declared.mark.Mark.TheVariants as marks
use Rattle.sql_grammar.specs.declared.terminal.Terminal.{Terminal}
use Rattle.sql_grammar.specs.declared.terminal.Terminal.TheVariants as terminal
use Rattle.sql_grammar.specs.Terminals.{only}
use Rattle.sql_grammar.specs.Languages.{Language, Listed, Optional, absent, present, plain}
use Rattle.sql_grammar.specs.Expression.{Expression}
use Rattle.sql_grammar.specs.Query as q
use Rattle.sql_grammar.specs.Query.{AnItem, AKey, AtMost, Keys, Tail, ATail, keys_of, question, Question}
use Rattle.type_rules.specs.Places.{has_alias, lone_name, term_named, key_term, PlacedTerm, free, condition}
use Rattle.type_rules.specs.Written.{is_written, IsQuestion}
use Rattle.spelled_rules.proofs.WrittenTerms.{IsTerm}
use Rattle.spelled_rules.proofs.WrittenChains.{AreSmall, front_small, back_small, chain_holds}
use Rattle.spelled_rules.proofs.WrittenExpressions.{expression_written}

-- A text may spell the term of the item, of the key, of the place.
abbrev IsItem : Item → Type 0
IsItem i = IsTerm i.expr

abbrev IsKey : Key → Type 0
IsKey k = IsTerm k.expr

abbrev IsPlace : PlacedTerm → Type 0
IsPlace p = IsTerm p.term

all_listed : {A : Type 0} (Part : Language A) (P : A → Type 0) → ((x : A) (all : List Terminal) → AreSmall all → Part x all → P x) → (xs : List A) (all : List Terminal) → AreSmall all → AtMost (Listed Part) xs all → EachIs P xs
all_listed Part P each xs all small (q.parts fits p) = chain_holds (only marks.Comma) plain Part P P each (λ s x h. h) (λ x xs. x ∷ xs) (EachIs P) (λ x xs h hs. (h, hs)) xs all small p

an_item : (i : Item) (all : List Terminal) → AreSmall all → AnItem i all → IsItem i
an_item i all small (q.item {t = t} {a = a} {b = b} p n) = expression_written t a (front_small a b small) p

a_key : (k : Key) (all : List Terminal) → AreSmall all → AKey k all → IsKey k
a_key k all small (q.key {t = t} {a = a} {b = b} plainly p d) = expression_written t a (front_small a b small) p

a_test : (t : Option Term) (all : List Terminal) → AreSmall all → Optional marks.Where Expression t all → IfSome t IsTerm
a_test t all small absent = tt
a_test t all small (present {x = x} {a = a} p) = expression_written x a small.1 p

the_keys : (ks : Option (List Key)) (all : List Terminal) → AreSmall all → Optional marks.Order Keys ks all → EachIs IsKey (keys_of ks)
the_keys ks all small absent = tt
the_keys ks all small (present {x = x} p) = by_keys x _ small.1 p
  where
    by_keys : (ks : List Key) (all : List Terminal) → AreSmall all → Keys ks all → EachIs IsKey ks
    by_keys ks all small (q.keys {a = a} p) = all_listed AKey IsKey a_key ks a small.1 p

term_of_alias : (items : List Item) (name : List ℕ) → EachIs IsItem items → IfSome (term_named items name) IsTerm
term_of_alias [] name hs = tt
term_of_alias (i ∷ is) name hs = cond_both (has_alias name i) (Some i.expr) (term_named is name) (λ o. IfSome o IsTerm) (λ e. hs.0) (λ e. term_of_alias is name hs.1)

taken_or : (o : Option Term) (t : Term) → IfSome o IsTerm → IsTerm t → IsTerm (unwrap_or o t)
taken_or None t h k = k
taken_or (Some u) t h k = h

chosen : (items : List Item) (name : Option (List ℕ)) (t : Term) → EachIs IsItem items → IsTerm t → IsTerm (unwrap_or (option_and_then (term_named items) name) t)
chosen items None t hs h = h
chosen items (Some name) t hs h = taken_or (term_named items name) t (term_of_alias items name hs) h

places_append : (ps qs : List PlacedTerm) → EachIs IsPlace ps → EachIs IsPlace qs → EachIs IsPlace (ps ++ qs)
places_append [] qs hs ks = ks
places_append (p ∷ ps) qs hs ks = (hs.0, places_append ps qs hs.1 ks)

item_places : (is : List Item) → EachIs IsItem is → EachIs IsPlace (map free (map (λ i. i.expr) is))
item_places [] hs = tt
item_places (i ∷ is) hs = (hs.0, item_places is hs.1)

test_places : (t : Option Term) → IfSome t IsTerm → EachIs IsPlace (condition t)
test_places None h = tt
test_places (Some t) h = (h, tt)

key_places : (items : List Item) (ks : List Key) → EachIs IsItem items → EachIs IsKey ks → EachIs IsPlace (map free (map (key_term items) ks))
key_places items [] hs ls = tt
key_places items (k ∷ ks) hs ls = (chosen items (lone_name k.expr) k.expr hs ls.0, key_places items ks hs ls.1)

places_pass : (ps : List PlacedTerm) → EachIs IsPlace ps → list_all (λ p. is_written p.term) ps ≡ true
places_pass [] hs = refl
places_pass (p ∷ ps) hs = and_from (is_written p.term) (list_all (λ p. is_written p.term) ps) hs.0 (places_pass ps hs.1)

asked : (star distinct : Bool) (items : List Item) (from : Table) (ending : Tail) (all : List Terminal) → EachIs IsItem items → AreSmall all → ATail ending all → IsQuestion (question star distinct items from ending)
asked star distinct items from ending all hs small (q.tail {t = t} {ks = ks} {a = a} {b = b} {c = c} p r l) =
    let test = a_test t a (front_small a (b ++ c) small) p in
    let keys = the_keys ks b (front_small b c (back_small a (b ++ c) small)) r in
    let items_first = places_append (map free (map (λ (i : Item). i.expr) items)) (condition t) (item_places items hs) (test_places t test) in
    let places = places_append (map free (map (λ (i : Item). i.expr) items) ++ condition t) (map free (map (key_term items) (keys_of ks))) items_first (key_places items (keys_of ks) hs keys) in
    record { table = from; tables = refl; joins = refl; grouping = refl; having = refl; terms = places_pass ((map free (map (λ (i : Item). i.expr) items) ++ condition t) ++ map free (map (key_term items) (keys_of ks))) places }

pub question_written : (s : Select) (all : List Terminal) → AreSmall all → Question s all → IsQuestion s
question_written s all small (q.star {d = d} {t = t} {l = l} {a = a} {b = b} {c = c} once from ending) =
    let rest = (back_small a (terminal.Mark marks.Star ∷ terminal.Mark marks.From ∷ (b ++ c)) small.1).1.1 in
    asked true d [] t l c tt (back_small b c rest) ending
question_written s all small (q.select {d = d} {is = is} {t = t} {l = l} {a = a} {b = b} {c = c} {e = e} once items from ending) =
    let parts = back_small a (b ++ terminal.Mark marks.From ∷ (c ++ e)) small.1 in
    let rest = (back_small b (terminal.Mark marks.From ∷ (c ++ e)) parts).1 in
    asked false d is t l e (all_listed AnItem IsItem an_item is b (front_small b (terminal.Mark marks.From ∷ (c ++ e)) parts) items) (back_small c e rest) ending
