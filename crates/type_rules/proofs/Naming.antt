-- Items and their aliases, with one more item behind.
use Rattle.std.proofs.Common.{◌≡◌, ℕ, ◌+◌, ◌<◌, Bool, true, false, not, cond, ◌&&◌, ◌||◌, List, [], ◌∷◌, ◌++◌, length, take, drop, get_or, Option, Some, None, is_some, is_none, if◌then◌else◌, refl, sym, ap, ◌∙◌}
use Rattle.std.proofs.lemmas.List.{take_more, take-append-drop}
use Rattle.std.proofs.lemmas.Map.Text.{hash_map_updates_str}
use Rattle.std.specs.Borrow.{Bor}
use Rattle.std.specs.Option.{option_map_or, option_copied}
use Rattle.std.specs.List.{list_any}
use Rattle.std.specs.Str.{bytes_eq}
use Rattle.std.specs.Cmp.Lexicographic.{nat_list_eq_equiv, bytes_decides}
use Rattle.indexmap.specs.IndexMap.{IndexMap, get_by, UpdatesBy}
use Rattle.sql_tree.specs.declared.item.Item.{Item}
use Rattle.sql_tree.specs.declared.term.Term.{Term}
use Rattle.type_rules.specs.Places.{has_alias, term_named}
use Rattle.type_rules.specs.Names.{are_different, alias_list, item_aliases}
use Rattle.type_rules.specs.Aliased.{HasTerms}

abbrev either : Option Term → Option Term → Option Term
either None s = s
either (Some t) s = Some t

either_if : (b : Bool) (t : Term) (r s u : Option Term) → r ≡ either s u → (if b then Some t else r) ≡ either (if b then Some t else s) u
either_if true t r s u h = refl
either_if false t r s u h = h

-- The term of a name, where one more item stands behind.
named_behind : (is : List Item) (i : Item) (name : List ℕ) → term_named (is ++ i ∷ []) name ≡ either (term_named is name) (term_named (i ∷ []) name)
named_behind [] i name = refl
named_behind (x ∷ is) i name = either_if (has_alias name x) x.expr (term_named (is ++ i ∷ []) name) (term_named is name) (term_named (i ∷ []) name) (named_behind is i name)

some_if : (b : Bool) (t : Term) (r : Option Term) (c : Bool) → is_some r ≡ c → is_some (if b then Some t else r) ≡ (b || c)
some_if true t r c h = refl
some_if false t r c h = h

some_alias : (alias : Option (List ℕ)) (t : Term) (r : Option Term) (name : List ℕ) (xs : List (List ℕ)) → is_some r ≡ list_any (bytes_eq name) xs
    → is_some (if option_map_or (bytes_eq name) alias false then Some t else r) ≡ list_any (bytes_eq name) (alias_list alias ++ xs)
some_alias None t r name xs h = h
some_alias (Some a) t r name xs h = some_if (bytes_eq name a) t r (list_any (bytes_eq name) xs) h

-- A name has a term exactly where it is an alias.
named_among : (is : List Item) (name : List ℕ) → is_some (term_named is name) ≡ list_any (bytes_eq name) (item_aliases is)
named_among [] name = refl
named_among (i ∷ is) name = some_alias i.alias i.expr (term_named is name) name (item_aliases is) (named_among is name)

append : (xs ys zs : List (List ℕ)) → xs ++ (ys ++ zs) ≡ (xs ++ ys) ++ zs
append [] ys zs = refl
append (x ∷ xs) ys zs = ap (λ us. x ∷ us) (append xs ys zs)

nil_behind : (xs : List (List ℕ)) → xs ++ [] ≡ xs
nil_behind [] = refl
nil_behind (x ∷ xs) = ap (λ ys. x ∷ ys) (nil_behind xs)

aliases_append : (is js : List Item) → item_aliases (is ++ js) ≡ item_aliases is ++ item_aliases js
aliases_append [] js = refl
aliases_append (i ∷ is) js = ap (λ xs. alias_list i.alias ++ xs) (aliases_append is js) ∙ append (alias_list i.alias) (item_aliases is) (item_aliases js)

or_later : (a b c d : Bool) → b ≡ (c || d) → (a || b) ≡ ((a || c) || d)
or_later true b c d h = refl
or_later false b c d h = h

any_behind : (f : List ℕ → Bool) (xs : List (List ℕ)) (y : List ℕ) → list_any f (xs ++ y ∷ []) ≡ (list_any f xs || list_any f (y ∷ []))
any_behind f [] y = refl
any_behind f (x ∷ xs) y = or_later (f x) (list_any f (xs ++ y ∷ [])) (list_any f xs) (list_any f (y ∷ [])) (any_behind f xs y)

apart : (p e d l : Bool) → (not (p || (e || false)) && (d && not l)) ≡ ((not p && d) && not (e || l))
apart true e d l = refl
apart false true true l = refl
apart false true false l = refl
apart false false d l = refl

-- Names with one more behind are different where they are and it is none of them.
different_behind : (xs : List (List ℕ)) (a : List ℕ) → are_different (xs ++ a ∷ []) ≡ (are_different xs && not (list_any (bytes_eq a) xs))
different_behind [] a = refl
different_behind (x ∷ xs) a =
    ap (λ b. not b && are_different (xs ++ a ∷ [])) (any_behind (bytes_eq x) xs a)
    ∙ ap (λ b. not (list_any (bytes_eq x) xs || (bytes_eq x a || false)) && b) (different_behind xs a)
    ∙ apart (list_any (bytes_eq x) xs) (bytes_eq x a) (are_different xs) (list_any (bytes_eq a) xs)
    ∙ ap (λ b. (not (list_any (bytes_eq x) xs) && are_different xs) && not (b || list_any (bytes_eq a) xs)) (nat_list_eq_equiv.symm x a)

and_true : (b : Bool) → b ≡ (b && true)
and_true true = refl
and_true false = refl

and_false : (b : Bool) → (b && false) ≡ false
and_false true = refl
and_false false = refl

none_is : (r : Option Term) → not (is_some r) ≡ is_none r
none_is None = refl
none_is (Some t) = refl

-- The aliases of items and of one more, which has none.
pub different_without : (is : List Item) (i : Item) → i.alias ≡ None → are_different (item_aliases (is ++ i ∷ [])) ≡ (are_different (item_aliases is) && true)
different_without is i none =
    ap are_different (aliases_append is (i ∷ []) ∙ ap (λ x. item_aliases is ++ (alias_list x ++ [])) none ∙ nil_behind (item_aliases is)) ∙ and_true (are_different (item_aliases is))

-- The same of one more with an alias.
pub different_with : (is : List Item) (i : Item) (a : List ℕ) → i.alias ≡ Some a → are_different (item_aliases (is ++ i ∷ [])) ≡ (are_different (item_aliases is) && is_none (term_named is a))
different_with is i a some =
    ap are_different (aliases_append is (i ∷ []) ∙ ap (λ x. item_aliases is ++ (alias_list x ++ [])) some)
    ∙ different_behind (item_aliases is) a
    ∙ ap (λ b. are_different (item_aliases is) && b) (ap not (sym (named_among is a)) ∙ none_is (term_named is a))

either_none : (r : Option Term) → r ≡ either r None
either_none None = refl
either_none (Some t) = refl

-- A name keeps its term behind which an item without alias stands.
pub named_without : (is : List Item) (i : Item) (name : List ℕ) → i.alias ≡ None → term_named is name ≡ term_named (is ++ i ∷ []) name
named_without is i name none =
    either_none (term_named is name)
    ∙ sym (named_behind is i name ∙ ap (λ x. either (term_named is name) (if option_map_or (bytes_eq name) x false then Some i.expr else None)) none)

chosen : (b : Bool) (t : Term) (r : Option Term) → (b ≡ true → r ≡ None) → cond b (Some t) r ≡ either r (if b then Some t else None)
chosen true t r h = ap (λ s. either s (Some t)) (sym (h refl))
chosen false t r h = either_none r

-- The alias of one more item has its term, and each other name the term that it had.
pub named_with : (is : List Item) (i : Item) (a name : List ℕ) → i.alias ≡ Some a → term_named is a ≡ None → cond (bytes_eq a name) (Some i.expr) (term_named is name) ≡ term_named (is ++ i ∷ []) name
named_with is i a name some none =
    chosen (bytes_eq a name) i.expr (term_named is name) (λ same. ap (term_named is) (sym ((bytes_decides a name).0 same)) ∙ none)
    ∙ ap (λ b. either (term_named is name) (if b then Some i.expr else None)) (nat_list_eq_equiv.symm a name)
    ∙ sym (named_behind is i name ∙ ap (λ x. either (term_named is name) (if option_map_or (bytes_eq name) x false then Some i.expr else None)) some)

any_front : (f : List ℕ → Bool) (xs ys : List (List ℕ)) → list_any f xs ≡ true → list_any f (xs ++ ys) ≡ true
any_front f [] ys h = cc
any_front f (x ∷ xs) ys h = by (f x) (list_any f xs) (list_any f (xs ++ ys)) (any_front f xs ys) h
  where
    by : (a b c : Bool) → (b ≡ true → c ≡ true) → (a || b) ≡ true → (a || c) ≡ true
    by true b c up h = refl
    by false b c up h = up h

alike_front : (p q d e : Bool) → (p ≡ true → q ≡ true) → (d ≡ false → e ≡ false) → (not p && d) ≡ false → (not q && e) ≡ false
alike_front true q d e up down h = ap (λ b. not b && e) (up refl)
alike_front false q d e up down h = ap (λ b. not q && b) (down h) ∙ and_false (not q)

names_alike : (xs ys : List (List ℕ)) → are_different xs ≡ false → are_different (xs ++ ys) ≡ false
names_alike [] ys h = cc
names_alike (x ∷ xs) ys h = alike_front (list_any (bytes_eq x) xs) (list_any (bytes_eq x) (xs ++ ys)) (are_different xs) (are_different (xs ++ ys)) (any_front (bytes_eq x) xs ys) (names_alike xs ys) h

-- Where two of the first items are alike, two of all are.
pub items_alike : (is js : List Item) → are_different (item_aliases is) ≡ false → are_different (item_aliases (is ++ js)) ≡ false
items_alike is js h = ap are_different (aliases_append is js) ∙ names_alike (item_aliases is) (item_aliases js) h

-- The first items and the next.
goes_on : (items : List Item) (i : ℕ) (x : Item) → i < length items → x ≡ get_or items i x → take (i + 1) items ≡ take i items ++ x ∷ []
goes_on items i x inside is = take_more items i x inside ∙ ap (λ y. take i items ++ y ∷ []) (sym is)

-- Where one of the items is not new, two of them are alike.
pub all_alike : (items : List Item) (i : ℕ) (x : Item) (new : Bool) → i < length items → x ≡ get_or items i x → are_different (item_aliases (take i items ++ x ∷ [])) ≡ (are_different (item_aliases (take i items)) && new) → new ≡ false
    → are_different (item_aliases items) ≡ false
all_alike items i x new inside is one seen =
    ap (λ is. are_different (item_aliases is)) (sym (take-append-drop (i + 1) items))
    ∙ items_alike (take (i + 1) items) (drop (i + 1) items)
    (ap (λ is. are_different (item_aliases is)) (goes_on items i x inside is)
    ∙ one
    ∙ ap (λ b. are_different (item_aliases (take i items)) && b) seen
    ∙ and_false (are_different (item_aliases (take i items))))

copied_none : (o : Option (Bor Term)) → is_none (option_copied o) ≡ is_none o
copied_none None = refl
copied_none (Some t) = refl

copied_cond : (b : Bool) (t : Bor Term) (o : Option (Bor Term)) → option_copied (cond b (Some t) o) ≡ cond b (Some t.now) (option_copied o)
copied_cond true t o = refl
copied_cond false t o = refl

none_of : (o : Option (Bor Term)) → is_none o ≡ true → o ≡ None
none_of None h = refl
none_of (Some t) h = cc

none_if : (o : Option (Bor Term)) (new : Bool) → is_some o ≡ not new → is_none o ≡ new
none_if None true h = refl
none_if None false h = cc
none_if (Some t) true h = cc
none_if (Some t) false h = refl

module _ {S : Type 0} (m n : IndexMap (Bor (List ℕ)) (Bor Term) S) (before : List Item) (i : Item) where
  -- One more item without an alias.
  pub unnoted_terms : HasTerms m before → i.alias ≡ None → HasTerms m (before ++ i ∷ [])
  unnoted_terms has none = λ name. has name ∙ named_without before i name none

  -- One more item with an alias: it is new where the map had nothing at it.
  pub noted_new : (a : List ℕ) (old : Option (Bor Term)) (new : Bool) → HasTerms m before → i.alias ≡ Some a → old ≡ get_by (λ k. bytes_eq a k.now) m → is_some old ≡ not new
      → are_different (item_aliases (before ++ i ∷ [])) ≡ (are_different (item_aliases before) && new)
  noted_new a old new has some is seen =
      different_with before i a some
      ∙ ap (λ b. are_different (item_aliases before) && b) (ap is_none (sym (has a)) ∙ copied_none (get_by (λ k. bytes_eq a k.now) m) ∙ ap is_none (sym is) ∙ none_if old new seen)

  -- The map then has its term too.
  pub noted_terms : (a : List ℕ) (t : Bor Term) (old : Option (Bor Term)) (new : Bool) → HasTerms m before → i.alias ≡ Some a → t.now ≡ i.expr → old ≡ get_by (λ k. bytes_eq a k.now) m → is_some old ≡ not new → new ≡ true
      → UpdatesBy (λ x y. bytes_eq x.now y.now) (λ k. bytes_eq a k.now) m n (Some t) → HasTerms n (before ++ i ∷ [])
  noted_terms a t old new has some at is seen fresh updates = λ name.
      ap option_copied (hash_map_updates_str a m n (Some t) updates name)
      ∙ copied_cond (bytes_eq a name) t (get_by (λ k. bytes_eq name k.now) m)
      ∙ (λ j. cond (bytes_eq a name) (Some (at j)) (has name j))
      ∙ named_with before i a name some (sym (has a) ∙ ap option_copied (sym is ∙ none_of old (none_if old new seen ∙ fresh)))
