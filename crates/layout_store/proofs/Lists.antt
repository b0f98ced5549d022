-- What is known of an item that is there.
use Rattle.std.proofs.Common.{◌≡◌, ℕ, ◌<◌, List, [], ◌∷◌, ◌++◌, length, length-append, get_or, Option, Some, None, IfSome, option_map, slice_get, refl, sym, ap, ◌∙◌, arith, subst}
use Rattle.row_versions.proofs.Places.{get-last}
use Rattle.std.proofs.lemmas.Option.{same_Some, none-some, slice_get_read}

pub if-some : {X : Type 0} (o : Option X) (P : X → Type 0) (x : X) → o ≡ Some x → IfSome o P → P x
if-some None P x e h = absurd (none-some x e)
if-some (Some y) P x e h = subst P (same_Some y x e) h

pub some-if : {X : Type 0} (o : Option X) (P : X → Type 0) → ((x : X) → o ≡ Some x → P x) → IfSome o P
some-if None P h = tt
some-if (Some y) P h = h y refl

-- what is read of a list
pub item-read : {X : Type 0} (seen xs : List X) (i : ℕ) (x : X) → seen ≡ xs → i < length xs → x ≡ get_or seen i x → slice_get xs i ≡ Some x
item-read seen xs i x same lt is = let there : slice_get seen i ≡ Some x = slice_get_read seen (length seen) i x refl (omega (arith, lt, ap length same)) is in ap (λ l. slice_get l i) (sym same) ∙ there

-- what is seen of an item
pub seen-of : {X Y : Type 0} (see : X → Y) (xs : List X) (i : ℕ) (x : X) (y : Y) → slice_get xs i ≡ Some x → option_map see (slice_get xs i) ≡ Some y → see x ≡ y
seen-of see xs i x y at e = same_Some (see x) y (sym (ap (option_map see) at) ∙ e)

pub if-there : {X : Type 0} (o : Option X) (P : X → Type 0) (x : X) → o ≡ Some x → P x → IfSome o P
if-there None P x e p = absurd (none-some x e)
if-there (Some y) P x e p = subst P (sym (same_Some y x e)) p

-- the item that was pushed
pub pushed-item : {X : Type 0} (xs : List X) (x : X) (ys : List X) (seen : List X) (i : ℕ) (y : X) → ys ≡ xs ++ x ∷ [] → i ≡ length xs → seen ≡ ys → y ≡ get_or seen i y → x ≡ y
pushed-item xs x ys seen i y pushed at same is =
    let lt : i < length ys = omega (arith, ap length pushed, length-append xs (x ∷ []), at) in
    let there = item-read seen ys i y same lt is in
    same_Some x y (sym (get-last xs x) ∙ ap (λ l. slice_get l (length xs)) (sym pushed) ∙ ap (slice_get ys) (sym at) ∙ there)
