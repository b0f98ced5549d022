-- A function from an attribute and a version, seen as one map: what the map has, and how it changes as the function does.
use Rattle.std.proofs.Common.{◌≡◌, ◌≢◌, ◌<◌, ◌∙◌, ap, sym, refl, arith, ℕ, zero, suc, List, [], ◌∷◌, ◌++◌, true, false, cond, Option, Some, None, ◌⊎◌, inl, inr}
use Rattle.std.specs.Option.{option_map_or}
use Rattle.std.specs.declared.cmp.Ordering.TheVariants.{Less, Equal, Greater}
use Rattle.std.specs.Ordering.{nat_cmp, eq_by_cmp, is_eq}
use Rattle.std.specs.Cmp.{tied_itself}
use Rattle.std.specs.Cmp.Lexicographic.{slice_cmp, nat_list_cmp_total}
use Rattle.std.specs.FinMap as map
use Rattle.std.specs.FinMap.{IsAntisymmetric, find, same_map, get-from_entries, get-insert, get-remove, nat_cmp-IsAntisymmetric, slice_cmp-IsAntisymmetric}
use Rattle.std.proofs.lemmas.Bool.Decides.{eqb_tells, leb_tells}
use Rattle.doc_values.specs.declared.value.Value.{Value}
use Rattle.phys_columns.specs.Cells.{key_of, with_cell, without_cell}
use Rattle.phys_columns.specs.Laws.{PutsAlone, TakesAlone}
use Rattle.phys_columns.specs.Seen.{entries_of, entries_below, cells_of, IsWithin}

abbrev R : List ℕ → List ℕ → Rattle.std.specs.declared.cmp.Ordering.Ordering
R = slice_cmp nat_cmp

alone : IsAntisymmetric R
alone = slice_cmp-IsAntisymmetric nat_cmp-IsAntisymmetric

-- Whether two keys tie, and what that means.
tells : (q k : List ℕ) → ((eq_by_cmp R q k ≡ true) × (q ≡ k)) ⊎ ((eq_by_cmp R q k ≡ false) × (q ≢ k))
tells q k = elim (R q k) as (λ r. R q k ≡ r → ((is_eq r ≡ true) × (q ≡ k)) ⊎ ((is_eq r ≡ false) × (q ≢ k))) [
  | Less ↦ λ e. inr (refl, λ same. cc (tied_itself nat_list_cmp_total q))
  | Equal ↦ λ e. inl (refl, alone q k e)
  | Greater ↦ λ e. inr (refl, λ same. cc (tied_itself nat_list_cmp_total q))
] refl

not_found : (q : List ℕ) (e : List ℕ × Value) (es : List (List ℕ × Value)) → q ≢ e.0 → find R q (e ∷ es) ≡ find R q es
not_found q e es apart = elim (tells q e.0) [
  | inl same ↦ absurd (apart same.1)
  | inr differs ↦ ap (λ b. cond b (Some e.1) (find R q es)) differs.0
]

found : (q : List ℕ) (value : Value) (es : List (List ℕ × Value)) → find R q ((q, value) ∷ es) ≡ Some value
found q value es = elim (tells q q) [
  | inl same ↦ ap (λ b. cond b (Some value) (find R q es)) same.0
  | inr differs ↦ absurd (differs.1 refl)
]

front_none : (q : List ℕ) (xs ys : List (List ℕ × Value)) → find R q xs ≡ None → find R q (xs ++ ys) ≡ find R q ys
front_none q [] ys none = refl
front_none q (x ∷ xs) ys none = elim (tells q x.0) [
  | inl same ↦ absurd (let t : Some x.1 ≡ None = ap (λ b. cond b (Some x.1) (find R q xs)) (sym same.0) ∙ none in cc)
  | inr differs ↦ ap (λ b. cond b (Some x.1) (find R q (xs ++ ys))) differs.0 ∙ front_none q xs ys (sym (ap (λ b. cond b (Some x.1) (find R q xs)) differs.0) ∙ none)
]

front_some : (q : List ℕ) (value : Value) (xs ys : List (List ℕ × Value)) → find R q xs ≡ Some value → find R q (xs ++ ys) ≡ Some value
front_some q value [] ys some = cc
front_some q value (x ∷ xs) ys some = elim (tells q x.0) [
  | inl same ↦ ap (λ b. cond b (Some x.1) (find R q (xs ++ ys))) same.0 ∙ sym (ap (λ b. cond b (Some x.1) (find R q xs)) same.0) ∙ some
  | inr differs ↦ ap (λ b. cond b (Some x.1) (find R q (xs ++ ys))) differs.0 ∙ front_some q value xs ys (sym (ap (λ b. cond b (Some x.1) (find R q xs)) differs.0) ∙ some)
]

-- A key that is none of theirs is not found among the entries of an attribute.
none_of : (q : List ℕ) (id : ℕ) (values : ℕ → Option Value) (n : ℕ) → ((w : ℕ) → w < n → q ≢ key_of id w) → find R q (entries_of id values n) ≡ None
unfolding entries_of
none_of q id values zero apart = refl
none_of q id values (suc v) apart =
    let rest = none_of q id values v (λ w below. apart w (omega arith)) in
    elim (values v) as (λ o. find R q (option_map_or (λ value. (key_of id v, value) ∷ entries_of id values v) o (entries_of id values v)) ≡ None) [
      | None ↦ rest
      | Some value ↦ not_found q (key_of id v, value) (entries_of id values v) (apart v (omega arith)) ∙ rest
    ]

other_version : (id v w : ℕ) → v ≢ w → key_of id v ≢ key_of id w
other_version id v w apart same = apart (cc)

other_id : (i j v w : ℕ) → i ≢ j → key_of i v ≢ key_of j w
other_id i j v w apart same = apart (cc)

-- A version below the bound is found with its value.
value_of_one : (id : ℕ) (values : ℕ → Option Value) (n w : ℕ) → w < n → find R (key_of id w) (entries_of id values n) ≡ values w
unfolding entries_of
value_of_one id values zero w below = absurd (omega arith)
value_of_one id values (suc v) w below = elim (eqb_tells w v) [
  | inl same ↦ elim (values v) as (λ o. values v ≡ o → find R (key_of id w) (option_map_or (λ value. (key_of id v, value) ∷ entries_of id values v) o (entries_of id values v)) ≡ values w) [
    | None ↦ λ is. none_of (key_of id w) id values v (λ k under. other_version id w k (λ e. absurd (omega (arith, same.1, e)))) ∙ sym is ∙ ap values (sym same.1)
    | Some value ↦ λ is. ap (λ k. find R (key_of id w) ((key_of id k, value) ∷ entries_of id values v)) (sym same.1) ∙ found (key_of id w) value (entries_of id values v) ∙ sym is ∙ ap values (sym same.1)
  ] refl
  | inr differs ↦
      let rest = value_of_one id values v w (omega (arith, differs.1)) in
      elim (values v) as (λ o. find R (key_of id w) (option_map_or (λ value. (key_of id v, value) ∷ entries_of id values v) o (entries_of id values v)) ≡ values w) [
        | None ↦ rest
        | Some value ↦ not_found (key_of id w) (key_of id v, value) (entries_of id values v) (other_version id w v differs.1) ∙ rest
      ]
]

-- A key that is none of theirs is not found at all.
none_below : (q : List ℕ) (values : ℕ → ℕ → Option Value) (ids n : ℕ) → ((i w : ℕ) → i < ids → w < n → q ≢ key_of i w) → find R q (entries_below values ids n) ≡ None
unfolding entries_below
none_below q values zero n apart = refl
none_below q values (suc id) n apart = front_none q (entries_of id (values id) n) (entries_below values id n) (none_of q id (values id) n (λ w below. apart id w (omega arith) below)) ∙ none_below q values id n (λ i w under below. apart i w (omega arith) below)

-- An attribute and a version below the bounds are found with their value.
value_below : (values : ℕ → ℕ → Option Value) (ids n i w : ℕ) → i < ids → w < n → find R (key_of i w) (entries_below values ids n) ≡ values i w
unfolding entries_below
value_below values zero n i w under below = absurd (omega arith)
value_below values (suc id) n i w under below = elim (eqb_tells i id) [
  | inl same ↦
      let one : find R (key_of i w) (entries_of id (values id) n) ≡ values i w = ap (λ k. find R (key_of i w) (entries_of k (values k) n)) (sym same.1) ∙ value_of_one i (values i) n w below in
      elim (values i w) as (λ o. values i w ≡ o → find R (key_of i w) (entries_of id (values id) n ++ entries_below values id n) ≡ values i w) [
        | None ↦ λ is. front_none (key_of i w) (entries_of id (values id) n) (entries_below values id n) (one ∙ is) ∙ none_below (key_of i w) values id n (λ j v less inside. other_id i j w v (λ e. absurd (omega (arith, same.1, e)))) ∙ sym is
        | Some value ↦ λ is. front_some (key_of i w) value (entries_of id (values id) n) (entries_below values id n) (one ∙ is) ∙ sym is
      ] refl
  | inr differs ↦ front_none (key_of i w) (entries_of id (values id) n) (entries_below values id n) (none_of (key_of i w) id (values id) n (λ v less. other_id i id w v differs.1)) ∙ value_below values id n i w (omega (arith, differs.1)) below
]

-- What a map of these values has under a key.
read : (ℕ → ℕ → Option Value) → List ℕ → Option Value
read values [] = None
read values (i ∷ []) = None
read values (i ∷ w ∷ []) = values i w
read values (i ∷ w ∷ x ∷ q) = None

-- What the map of the function has in a cell.
pub get_cell : (values : ℕ → ℕ → Option Value) (ids n : ℕ) → IsWithin values ids n → (i w : ℕ) → map.get (cells_of values ids n) (key_of i w) ≡ values i w
unfolding cells_of
get_cell values ids n within i w =
    get-from_entries nat_list_cmp_total (entries_below values ids n) (key_of i w) ∙ (elim (leb_tells (suc i) ids) [
      | inl under ↦ elim (leb_tells (suc w) n) [
        | inl below ↦ value_below values ids n i w (omega (arith, under.1)) (omega (arith, below.1))
        | inr above ↦ missing (λ j v less inside e. let same : w ≡ v = (cc) in absurd (omega (arith, same, above.1))) (λ value is. absurd (omega (arith, above.1, (within i w value is).1)))
      ]
      | inr past ↦ missing (λ j v less inside e. let same : i ≡ j = (cc) in absurd (omega (arith, same, past.1))) (λ value is. absurd (omega (arith, past.1, (within i w value is).0)))
    ])
  where
    missing : ((j v : ℕ) → j < ids → v < n → key_of i w ≢ key_of j v) → ((value : Value) → values i w ≢ Some value) → find R (key_of i w) (entries_below values ids n) ≡ values i w
    missing apart never = none_below (key_of i w) values ids n apart ∙ sym (elim (values i w) as (λ o. ((value : Value) → o ≢ Some value) → o ≡ None) [ None ↦ λ h. refl | Some value ↦ λ h. absurd (h value refl) ] never)

get_read : (values : ℕ → ℕ → Option Value) (ids n : ℕ) → IsWithin values ids n → (q : List ℕ) → map.get (cells_of values ids n) q ≡ read values q
unfolding cells_of read
get_read values ids n within [] = get-from_entries nat_list_cmp_total (entries_below values ids n) [] ∙ none_below [] values ids n (λ i w under below same. cc)
get_read values ids n within (i ∷ []) = get-from_entries nat_list_cmp_total (entries_below values ids n) (i ∷ []) ∙ none_below (i ∷ []) values ids n (λ j w under below same. cc)
get_read values ids n within (i ∷ w ∷ []) = get_cell values ids n within i w
get_read values ids n within (i ∷ w ∷ x ∷ q) = get-from_entries nat_list_cmp_total (entries_below values ids n) (i ∷ w ∷ x ∷ q) ∙ none_below (i ∷ w ∷ x ∷ q) values ids n (λ j v under below same. cc)

read_same : (f g : ℕ → ℕ → Option Value) (q : List ℕ) → ((i w : ℕ) → q ≡ key_of i w → g i w ≡ f i w) → read g q ≡ read f q
unfolding read
read_same f g [] same = refl
read_same f g (i ∷ []) same = refl
read_same f g (i ∷ w ∷ []) same = same i w refl
read_same f g (i ∷ w ∷ x ∷ q) same = refl

-- Functions that agree are seen as one map.
pub same_cells : (f g : ℕ → ℕ → Option Value) (a b n : ℕ) → IsWithin f a n → IsWithin g b n → ((i w : ℕ) → g i w ≡ f i w) → cells_of g b n ≡ cells_of f a n
same_cells f g a b n within inside same = same_map nat_list_cmp_total alone _ _ (λ q. get_read g b n inside q ∙ read_same f g q (λ i w is. same i w) ∙ sym (get_read f a n within q))

-- A function that has another value at one place is seen as the map with that value put there.
pub put_cells : (f g : ℕ → ℕ → Option Value) (a b n id version : ℕ) (value : Value) → IsWithin f a n → IsWithin g b n → g id version ≡ Some value → ((i w : ℕ) → (i ≡ id → w ≡ version → ⊥) → g i w ≡ f i w) → cells_of g b n ≡ with_cell id version value (cells_of f a n)
unfolding read
put_cells f g a b n id version value within inside here kept = same_map nat_list_cmp_total alone _ _ (λ q. get_read g b n inside q ∙ at q ∙ sym (get-insert nat_list_cmp_total (cells_of f a n) (key_of id version) value q ∙ ap (cond (eq_by_cmp R q (key_of id version)) (Some value)) (get_read f a n within q)))
  where
    at : (q : List ℕ) → read g q ≡ cond (eq_by_cmp R q (key_of id version)) (Some value) (read f q)
    at q = elim (tells q (key_of id version)) [
      | inl same ↦ ap (read g) same.1 ∙ here ∙ sym (ap (λ b. cond b (Some value) (read f q)) same.0)
      | inr differs ↦ read_same f g q (λ i w is. kept i w (λ e h. differs.1 (cc))) ∙ sym (ap (λ b. cond b (Some value) (read f q)) differs.0)
    ]

-- A function that has no value at one place is seen as the map without that cell.
pub take_cells : (f g : ℕ → ℕ → Option Value) (a b n id version : ℕ) → IsWithin f a n → IsWithin g b n → g id version ≡ None → ((i w : ℕ) → (i ≡ id → w ≡ version → ⊥) → g i w ≡ f i w) → cells_of g b n ≡ without_cell id version (cells_of f a n)
unfolding read
take_cells f g a b n id version within inside here kept = same_map nat_list_cmp_total alone _ _ (λ q. get_read g b n inside q ∙ at q ∙ sym (get-remove nat_list_cmp_total (cells_of f a n) (key_of id version) q ∙ ap (cond (eq_by_cmp R q (key_of id version)) None) (get_read f a n within q)))
  where
    at : (q : List ℕ) → read g q ≡ cond (eq_by_cmp R q (key_of id version)) None (read f q)
    at q = elim (tells q (key_of id version)) [
      | inl same ↦ ap (read g) same.1 ∙ here ∙ sym (ap (λ b. cond b None (read f q)) same.0)
      | inr differs ↦ read_same f g q (λ i w is. kept i w (λ e h. differs.1 (cc))) ∙ sym (ap (λ b. cond b None (read f q)) differs.0)
    ]

-- Cells are a map.
pub puts_alone : PutsAlone
puts_alone cells id version value = (
  get-insert nat_list_cmp_total cells (key_of id version) value (key_of id version) ∙ (elim (tells (key_of id version) (key_of id version)) [
    | inl same ↦ ap (λ b. cond b (Some value) (map.get cells (key_of id version))) same.0
    | inr differs ↦ absurd (differs.1 refl)
  ]),
  λ i w apart. get-insert nat_list_cmp_total cells (key_of id version) value (key_of i w) ∙ (elim (tells (key_of i w) (key_of id version)) [
    | inl same ↦ absurd (let k = same.1 in apart (cc) (cc))
    | inr differs ↦ ap (λ b. cond b (Some value) (map.get cells (key_of i w))) differs.0
  ]),
)

pub takes_alone : TakesAlone
takes_alone cells id version = (
  get-remove nat_list_cmp_total cells (key_of id version) (key_of id version) ∙ (elim (tells (key_of id version) (key_of id version)) [
    | inl same ↦ ap (λ b. cond b None (map.get cells (key_of id version))) same.0
    | inr differs ↦ absurd (differs.1 refl)
  ]),
  λ i w apart. get-remove nat_list_cmp_total cells (key_of id version) (key_of i w) ∙ (elim (tells (key_of i w) (key_of id version)) [
    | inl same ↦ absurd (let k = same.1 in apart (cc) (cc))
    | inr differs ↦ ap (λ b. cond b None (map.get cells (key_of i w))) differs.0
  ]),
)
