-- The keys of two rows, compared one place after another.
use Rattle.std.proofs.Common.{◌≡◌, ℕ, zero, suc, ◌+◌, ◌<◌, List, [], ◌∷◌, Bool, true, false, true≢false, Ordering, Less, Equal, Greater, cond, map, drop, length, get_or, Option, Some, None, option_map, option_and_then, slice_get, refl, sym, ap, ◌∙◌, add-one}
use Rattle.std.specs.Ordering.{ordering_reverse, ordering_then, is_ne}
use Rattle.std.proofs.lemmas.List.{drop_more}
use Rattle.std.proofs.lemmas.Option.{slice_get-map}
use Rattle.row_columns.specs.Column.{Values}
use Rattle.row_columns.specs.Placed.{value_in}
use Rattle.doc_values.specs.declared.value.Value.{Value}
use Rattle.doc_values.specs.Order.{total_order}
use Rattle.sql_eval.specs.declared.key_plan.KeyPlan.{KeyPlan}
use Rattle.exec_finish.specs.Order.{first_key, other_keys, key_order}

-- the key at a place
abbrev pub key_at : List (Option Value) → ℕ → Option Value
key_at keys place = option_and_then (λ key. key) (slice_get keys place)

-- the key that columns have for a number
pub key_in : (number : ℕ) (columns : List Values) (place : ℕ) → option_and_then (value_in number) (slice_get columns place) ≡ key_at (map (value_in number) columns) place
key_in number columns place = sym (joined (slice_get columns place)) ∙ sym (ap (option_and_then (λ key. key)) (slice_get-map (value_in number) columns place))
  where
    joined : (o : Option Values) → option_and_then (λ key. key) (option_map (value_in number) o) ≡ option_and_then (value_in number) o
    joined None = refl
    joined (Some column) = refl

-- which keys are descending
abbrev pub directions : List KeyPlan → List Bool
directions keys = map (λ key. key.descending) keys

first_key-drop : (ks : List (Option Value)) (i : ℕ) → first_key (drop i ks) ≡ key_at ks i
first_key-drop [] zero = refl
first_key-drop [] (suc i) = refl
first_key-drop (k ∷ ks) zero = refl
first_key-drop (k ∷ ks) (suc i) = first_key-drop ks i

other_keys-drop : (ks : List (Option Value)) (i : ℕ) → other_keys (drop i ks) ≡ drop (suc i) ks
other_keys-drop [] zero = refl
other_keys-drop [] (suc i) = refl
other_keys-drop (k ∷ ks) zero = refl
other_keys-drop (k ∷ ks) (suc i) = other_keys-drop ks i

-- the order of what is left is that of the next key, and then of the others
pub key_order-more : (keys : List KeyPlan) (ks ls : List (Option Value)) (i : ℕ) (key : KeyPlan) → i < length keys → key ≡ get_or keys i key
    → key_order (directions (drop i keys)) (drop i ks) (drop i ls)
    ≡ ordering_then (cond key.descending (ordering_reverse (total_order (key_at ks i) (key_at ls i))) (total_order (key_at ks i) (key_at ls i))) (key_order (directions (drop (i + 1) keys)) (drop (i + 1) ks) (drop (i + 1) ls))
key_order-more keys ks ls i key h e =
    let next = drop_more keys i key h ∙ ap (λ k. k ∷ drop (i + 1) keys) (sym e) in
    let behind : (xs : List (Option Value)) → other_keys (drop i xs) ≡ drop (i + 1) xs = λ xs. other_keys-drop xs i ∙ ap (λ n. drop n xs) (sym (add-one i)) in
    ap (λ ps. key_order (directions ps) (drop i ks) (drop i ls)) next
    ∙ (λ j. let order = total_order (first_key-drop ks i j) (first_key-drop ls i j) in
    ordering_then (cond key.descending (ordering_reverse order) order) (key_order (directions (drop (i + 1) keys)) (behind ks j) (behind ls j)))

-- a key in which the rows differ decides
pub decided : (descending : Bool) (order rest : Ordering) → is_ne order ≡ true → ordering_then (cond descending (ordering_reverse order) order) rest ≡ cond descending (ordering_reverse order) order
decided true Less rest e = refl
decided true Equal rest e = absurd (true≢false (sym e))
decided true Greater rest e = refl
decided false Less rest e = refl
decided false Equal rest e = absurd (true≢false (sym e))
decided false Greater rest e = refl

-- a key in which they do not differ leaves it to the others
pub passed : (descending : Bool) (order rest : Ordering) → is_ne order ≡ false → ordering_then (cond descending (ordering_reverse order) order) rest ≡ rest
passed descending Less rest e = absurd (true≢false e)
passed true Equal rest e = refl
passed false Equal rest e = refl
passed descending Greater rest e = absurd (true≢false e)
