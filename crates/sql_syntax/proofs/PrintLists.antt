-- Parts written one after another, with what stands between them.
use Rattle.std.proofs.Common.{◌≡◌, ℕ, zero, suc, ◌+◌, ◌<◌, List, [], ◌∷◌, ◌++◌, length, map, take, get_or, refl, sym, ap, ◌∙◌, arith, append_assoc}
use Rattle.std.proofs.lemmas.List.{take_more}
use Rattle.sql_grammar.specs.declared.mark.Mark.{Mark}
use Rattle.sql_grammar.specs.declared.terminal.Terminal.{Terminal}
use Rattle.sql_grammar.specs.declared.terminal.Terminal.TheVariants as terminal
use Rattle.sql_syntax.specs.Printing.{each_behind, joined_by}
use Rattle.sql_syntax.specs.PrintingText.{spaced, mark_before}
use Rattle.sql_syntax.proofs.PrintSpaced.{then_spaced}

behind_push : (mark : Mark) (yss : List (List Terminal)) (ys : List Terminal) → each_behind mark (yss ++ ys ∷ []) ≡ each_behind mark yss ++ (terminal.Mark mark ∷ (ys ++ []))
behind_push mark [] ys = refl
behind_push mark (zs ∷ yss) ys = ap (λ ts. terminal.Mark mark ∷ (zs ++ ts)) (behind_push mark yss ys) ∙ ap (λ ts. terminal.Mark mark ∷ ts) (sym (append_assoc zs (each_behind mark yss) (terminal.Mark mark ∷ (ys ++ []))))

append_none : (ys : List Terminal) → ys ++ [] ≡ ys
append_none [] = refl
append_none (t ∷ ts) = ap (λ us. t ∷ us) (append_none ts)

joined_push : (mark : Mark) (yss : List (List Terminal)) (ys : List Terminal) → joined_by mark (yss ++ ys ∷ []) ≡ joined_by mark yss ++ (mark_before mark (length yss) ++ ys)
joined_push mark [] ys = append_none ys
joined_push mark (zs ∷ yss) ys =
    ap (λ ts. zs ++ ts) (behind_push mark yss ys) ∙ sym (append_assoc zs (each_behind mark yss) (terminal.Mark mark ∷ (ys ++ [])))
    ∙ ap (λ ts. (zs ++ each_behind mark yss) ++ terminal.Mark mark ∷ ts) (append_none ys)

map_push : {A B : Type 0} (f : A → B) (xs : List A) (x : A) → map f (xs ++ x ∷ []) ≡ map f xs ++ f x ∷ []
map_push f [] x = refl
map_push f (y ∷ xs) x = ap (λ ys. f y ∷ ys) (map_push f xs x)

length_mapped : {A B : Type 0} (f : A → B) (xs : List A) (i : ℕ) → i < length xs → length (map f (take i xs)) ≡ i
length_mapped f [] i h = absurd (omega arith)
length_mapped f (x ∷ xs) zero h = refl
length_mapped f (x ∷ xs) (suc i) h = ap suc (length_mapped f xs i (omega arith))

-- One more part of a list, behind a mark where it is not the first.
pub list_step : {A : Type 0} (f : A → List Terminal) (mark : Mark) (start before middle after : List ℕ) (xs : List A) (i : ℕ) (x : A) → i < length xs → x ≡ get_or xs i x
    → before ≡ start ++ spaced (joined_by mark (map f (take i xs))) → middle ≡ before ++ spaced (mark_before mark i) → after ≡ middle ++ spaced (f x)
    → after ≡ start ++ spaced (joined_by mark (map f (take (i + 1) xs)))
list_step f mark start before middle after xs i x h is e1 e2 e3 =
    let shown = map f (take i xs) in
    let more : map f (take (i + 1) xs) ≡ shown ++ f x ∷ [] = ap (map f) (take_more xs i x h ∙ ap (λ y. take i xs ++ y ∷ []) (sym is)) ∙ map_push f (take i xs) x in
    let joined : joined_by mark (map f (take (i + 1) xs)) ≡ joined_by mark shown ++ (mark_before mark i ++ f x) =
    ap (joined_by mark) more ∙ joined_push mark shown (f x) ∙ ap (λ n. joined_by mark shown ++ (mark_before mark n ++ f x)) (length_mapped f xs i h) in
    then_spaced start before after (joined_by mark shown) (mark_before mark i ++ f x) e1 (then_spaced before middle after (mark_before mark i) (f x) e2 e3)
    ∙ ap (λ ts. start ++ spaced ts) (sym joined)
