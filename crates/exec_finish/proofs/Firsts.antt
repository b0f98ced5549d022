-- A set of rows, to which each row is put in turn, holds the first of those that are alike.
use Rattle.std.proofs.Common.{◌≡◌, List, [], ◌∷◌, ◌++◌, Bool, true, false, cond, not, ◌||◌, ◌&&◌, filter, refl, sym, ap, ◌∙◌, append_assoc, append-nil}
use Rattle.std.specs.List.{list_any}
use Rattle.std.proofs.lemmas.List.Folds.{list_any-append}
use Rattle.indexmap.specs.IndexSet.{insert_all}
use Rattle.row_columns.specs.Contents.{Output}
use Rattle.exec_finish.specs.Distinct.{is_alike, distinct}
use Rattle.exec_finish.specs.SameRows.{is_alike_equivalence}

-- no row of those seen is alike
abbrev is_new : List Output → Output → Bool
is_new seen r = not (list_any (is_alike r) seen)

-- the row is not like this one
abbrev is_other : Output → Output → Bool
is_other r s = not (is_alike r s)

any_alike : (seen : List Output) (r s : Output) → is_alike r s ≡ true → list_any (is_alike r) seen ≡ list_any (is_alike s) seen
any_alike [] r s h = refl
any_alike (x ∷ seen) r s h = λ i. is_alike_equivalence.congr r s x h i || any_alike seen r s h i

-- rows like one that was seen need not be left out again
step_seen : (seen : List Output) (r d : Output) (ds : List Output) → list_any (is_alike r) seen ≡ true → (b : Bool) → is_alike r d ≡ b
    → filter (is_new seen) (filter (is_other r) ds) ≡ filter (is_new seen) ds → filter (is_new seen) (cond (not b) (d ∷ filter (is_other r) ds) (filter (is_other r) ds)) ≡ filter (is_new seen) (d ∷ ds)
step_seen seen r d ds h true e more =
    let old : list_any (is_alike d) seen ≡ true = sym (any_alike seen r d e) ∙ h in
    more ∙ sym (ap (λ t. cond (not t) (d ∷ filter (is_new seen) ds) (filter (is_new seen) ds)) old)
step_seen seen r d ds h false e more = ap (λ rest. cond (is_new seen d) (d ∷ rest) rest) more

left_out_once : (seen : List Output) (r : Output) → list_any (is_alike r) seen ≡ true → (ds : List Output) → filter (is_new seen) (filter (is_other r) ds) ≡ filter (is_new seen) ds
left_out_once seen r h [] = refl
left_out_once seen r h (d ∷ ds) =
    ap (λ b. filter (is_new seen) (cond (not b) (d ∷ filter (is_other r) ds) (filter (is_other r) ds))) refl
    ∙ step_seen seen r d ds h (is_alike r d) refl (left_out_once seen r h ds)

or_false : (a : Bool) → a || false ≡ a
or_false true = refl
or_false false = refl

not_either : (a b : Bool) → not (a || b) ≡ not b && not a
not_either true true = refl
not_either true false = refl
not_either false true = refl
not_either false false = refl

-- new beside one more is new, and other than that one
new_beside : (seen : List Output) (r d : Output) → is_new (seen ++ r ∷ []) d ≡ is_other r d && is_new seen d
new_beside seen r d =
    ap not (list_any-append (is_alike d) seen (r ∷ []) ∙ ap (λ b. list_any (is_alike d) seen || b) (or_false (is_alike d r) ∙ is_alike_equivalence.symm d r))
    ∙ not_either (list_any (is_alike d) seen) (is_alike r d)

step_new : (seen : List Output) (r d : Output) (ds : List Output) (other new : Bool) → is_new seen d ≡ new
    → filter (is_new seen) (filter (is_other r) ds) ≡ filter (is_new (seen ++ r ∷ [])) ds
    → filter (is_new seen) (cond other (d ∷ filter (is_other r) ds) (filter (is_other r) ds)) ≡ cond (other && new) (d ∷ filter (is_new (seen ++ r ∷ [])) ds) (filter (is_new (seen ++ r ∷ [])) ds)
step_new seen r d ds true new e more = λ i. cond (e i) (d ∷ more i) (more i)
step_new seen r d ds false new e more = more

both_left_out : (seen : List Output) (r : Output) (ds : List Output) → filter (is_new seen) (filter (is_other r) ds) ≡ filter (is_new (seen ++ r ∷ [])) ds
both_left_out seen r [] = refl
both_left_out seen r (d ∷ ds) =
    step_new seen r d ds (is_other r d) (is_new seen d) refl (both_left_out seen r ds)
    ∙ ap (λ b. cond b (d ∷ filter (is_new (seen ++ r ∷ [])) ds) (filter (is_new (seen ++ r ∷ [])) ds)) (sym (new_beside seen r d))

firsts : (seen rows : List Output) → insert_all is_alike seen rows ≡ seen ++ filter (is_new seen) (distinct rows)
firsts seen [] = sym (append-nil seen)
firsts seen (r ∷ rows) = by_seen (firsts seen rows) (firsts (seen ++ r ∷ []) rows) (list_any (is_alike r) seen) refl
  where
    by_seen : insert_all is_alike seen rows ≡ seen ++ filter (is_new seen) (distinct rows) → insert_all is_alike (seen ++ r ∷ []) rows ≡ (seen ++ r ∷ []) ++ filter (is_new (seen ++ r ∷ [])) (distinct rows)
        → (b : Bool) → list_any (is_alike r) seen ≡ b → insert_all is_alike (cond b seen (seen ++ r ∷ [])) rows ≡ seen ++ cond (not b) (r ∷ filter (is_new seen) (filter (is_other r) (distinct rows))) (filter (is_new seen) (filter (is_other r) (distinct rows)))
    by_seen old new true e = old ∙ ap (λ ds. seen ++ ds) (sym (left_out_once seen r e (distinct rows)))
    by_seen old new false e =
        new
        ∙ append_assoc seen (r ∷ []) (filter (is_new (seen ++ r ∷ [])) (distinct rows))
        ∙ ap (λ ds. seen ++ r ∷ ds) (sym (both_left_out seen r (distinct rows)))

all_new : (ds : List Output) → filter (is_new []) ds ≡ ds
all_new [] = refl
all_new (d ∷ ds) = ap (λ rest. d ∷ rest) (all_new ds)

pub insert_all-distinct : (rows : List Output) → insert_all is_alike [] rows ≡ distinct rows
insert_all-distinct rows = firsts [] rows ∙ all_new (distinct rows)
