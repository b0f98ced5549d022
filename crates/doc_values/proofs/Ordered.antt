-- The order of values is total, and tells apart those that differ.
use Rattle.std.proofs.Common.{◌≡◌, ℕ, ℤ, pos, List, [], Bool, true, false, Option, Some, None, Ordering, Less, Equal, Greater, nat_cmp, int_cmp, refl, sym, ap, subst}
use Rattle.std.specs.Ordering.{bool_cmp, on, then_cmp, ordering_then}
use Rattle.std.specs.Cmp.{IsTotalOrder, bool_cmp_total}
use Rattle.std.specs.Cmp.Lexicographic.{slice_cmp}
use Rattle.std.proofs.lemmas.Cmp.{nat_cmp_total, int_cmp_total, nat_list_cmp_total, on_total, then_total, tied_itself, int_ranked}
use Rattle.doc_values.specs.declared.value.Value.{Value}
use Rattle.doc_values.specs.declared.value.Value.TheVariants as value
use Rattle.doc_values.specs.Value.{kind_of}
use Rattle.doc_values.specs.Order.{rank, total_order, TellsApart}
use Rattle.doc_values.proofs.Places.{same_name}

-- ---- an order of the same answers, by the parts of a value one after another

place : Option Value → ℕ
place None = 5
place (Some v) = rank (kind_of v)

flag : Option Value → Bool
flag (Some (value.Bool b)) = b
flag v = false

number : Option Value → ℤ
number (Some (value.Int n)) = n
number v = pos 0

text : Option Value → List ℕ
text (Some (value.Text s)) = s
text (Some (value.Array s)) = s
text v = []

abbrev by_parts : Option Value → Option Value → Ordering
by_parts = then_cmp (on place nat_cmp) (then_cmp (on flag bool_cmp) (then_cmp (on number int_cmp) (on text (slice_cmp nat_cmp))))

by_parts_total : IsTotalOrder by_parts
by_parts_total = then_total (on_total place nat_cmp_total) (then_total (on_total flag bool_cmp_total) (then_total (on_total number int_cmp_total) (on_total text nat_list_cmp_total)))

then_nothing : (o : Ordering) → ordering_then o Equal ≡ o
then_nothing Less = refl
then_nothing Equal = refl
then_nothing Greater = refl

none_last : (v : Value) → by_parts None (Some v) ≡ Greater
unfolding place flag number text
none_last (value.Bool a) = refl
none_last (value.Int a) = refl
none_last (value.Text a) = refl
none_last (value.Array a) = refl
none_last value.Object = refl

some_first : (v : Value) → by_parts (Some v) None ≡ Less
unfolding place flag number text
some_first (value.Bool a) = refl
some_first (value.Int a) = refl
some_first (value.Text a) = refl
some_first (value.Array a) = refl
some_first value.Object = refl

values_by_parts : (a b : Value) → by_parts (Some a) (Some b) ≡ total_order (Some a) (Some b)
unfolding place flag number text
values_by_parts (value.Bool a) (value.Bool b) = then_nothing (bool_cmp a b)
values_by_parts (value.Int a) (value.Int b) = then_nothing (int_cmp a b)
values_by_parts (value.Text a) (value.Text b) = refl
values_by_parts (value.Array a) (value.Array b) = refl
values_by_parts value.Object value.Object = refl
values_by_parts a b = refl

by_parts_is : (a b : Option Value) → by_parts a b ≡ total_order a b
unfolding place flag number text
by_parts_is None None = refl
by_parts_is None (Some b) = none_last b
by_parts_is (Some a) None = some_first a
by_parts_is (Some a) (Some b) = values_by_parts a b

pub IsTotalOrder-total_order : IsTotalOrder total_order
IsTotalOrder-total_order = subst IsTotalOrder (λ i a b. by_parts_is a b i) by_parts_total

-- ---- alike is the same

same_bool : (a b : Bool) → bool_cmp a b ≡ Equal → a ≡ b
same_bool false false h = refl
same_bool false true h = absurd (cc)
same_bool true false h = absurd (cc)
same_bool true true h = refl

alike : (a b : Option Value) → total_order a b ≡ Equal → a ≡ b
alike None None h = refl
alike (Some (value.Bool a)) (Some (value.Bool b)) h = ap (λ x. Some (value.Bool x)) (same_bool a b h)
alike (Some (value.Int a)) (Some (value.Int b)) h = ap (λ n. Some (value.Int n)) (int_ranked a b Equal (sym h))
alike (Some (value.Text a)) (Some (value.Text b)) h = ap (λ s. Some (value.Text s)) (same_name a b h)
alike (Some (value.Array a)) (Some (value.Array b)) h = ap (λ s. Some (value.Array s)) (same_name a b h)
alike (Some value.Object) (Some value.Object) h = refl
alike a b h = absurd (cc)

pub tells_apart : TellsApart
tells_apart a b = (alike a b, λ e. subst (λ x. total_order a x ≡ Equal) e (tied_itself IsTotalOrder-total_order a))
