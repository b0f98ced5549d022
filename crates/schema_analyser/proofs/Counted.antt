-- What is met of values of one kind are their different values.
use Rattle.std.proofs.Common.{◌≡◌, ◌∙◌, ◌<◌, ◌+◌, ℕ, zero, suc, ℤ, Bool, true, false, cond, List, [], ◌∷◌, ◌++◌, map, length, max, Option, Some, None, option_and_then, unwrap_or, slice_get, refl, sym, ap, arith, zero-add}
use Rattle.std.specs.Prelude.{filter_map, fold, nat_eq}
use Rattle.std.specs.Bool.{beq}
use Rattle.std.specs.List.{list_any, cons_option}
use Rattle.std.specs.Option.{option_map_or}
use Rattle.std.specs.Ordering.{eq_by_cmp, is_eq, bool_cmp}
use Rattle.std.specs.Str.{bytes_eq}
use Rattle.std.proofs.lemmas.List.{length-map}
use Rattle.std.proofs.lemmas.Map.Text.{is_eq-slice_cmp}
use Rattle.std.proofs.lemmas.Option.{slice_get-get_or}
use Rattle.attr_catalog.specs.Attribute.{Attribute, fresh}
use Rattle.doc_values.specs.Doc.{Fields, value_at}
use Rattle.doc_values.specs.Order.{rank, same_kind, value_order}
use Rattle.doc_values.specs.Value.{kind_of}
use Rattle.doc_values.specs.declared.kind.Kind.{Kind}
use Rattle.doc_values.specs.declared.kind.Kind.TheVariants as kind
use Rattle.doc_values.specs.declared.value.Value.{Value}
use Rattle.doc_values.specs.declared.value.Value.TheVariants as value
use Rattle.layout_store.specs.Storage.{Storage}
use Rattle.layout_store.specs.Values.{value_wanted, if_wanted}
use Rattle.row_versions.specs.History.{rows_of}
use Rattle.shown_rows.specs.Rows.{Row, rows_at}
use Rattle.schema_analyser.specs.declared.choice.Choice.{Choice}
use Rattle.schema_analyser.specs.declared.limits.Limits.{Limits}
use Rattle.schema_analyser.specs.Choice.{home_by, home_over, choice_by, choice_over, AreChosen, AreBySurvey}
use Rattle.schema_analyser.specs.Different.{Different, none_met, met, many, with_different, different}
use Rattle.schema_analyser.specs.Survey.{Surveyed, values_in, values_of, tally_of, documents_between, HasTaken}
use Rattle.schema_analyser.specs.Tally.{Tallied, tallied, tallied_one, untallied}
use Rattle.schema_analyser.proofs.Differing.{with_seen}
use Rattle.schema_analyser.proofs.Shown.{between_all}

abbrev same : Value → Value → Bool
same = eq_by_cmp value_order

-- The different values of a kind that were met.
abbrev values_at : Kind → Different → List Value
values_at kind.Bool d = map value.Bool d.bools
values_at kind.Int d = map value.Int d.numbers
values_at kind.Text d = map value.Text d.texts
values_at kind.Array d = map value.Array d.arrays
values_at kind.Object d = cond d.object (value.Object ∷ []) []

alike : {A : Type 0} (p q : A → A → Bool) → ((a b : A) → p a b ≡ q a b) → (xs : List A) (x : A) → with_different p xs x ≡ with_different q xs x
alike p q h xs x = λ i. with_different (λ a b. h a b i) xs x

same_bools : (a b : Bool) → beq a b ≡ is_eq (bool_cmp a b)
same_bools true true = refl
same_bools true false = refl
same_bools false true = refl
same_bools false false = refl

object_here : (b : Bool) → value.Object ∷ [] ≡ with_different same (cond b (value.Object ∷ []) []) value.Object
object_here true = refl
object_here false = refl

-- one value more is met among those of its kind
met_here : (d : Different) (v : Value) → values_at (kind_of v) (met d v) ≡ with_different same (values_at (kind_of v) d) v
met_here d (value.Bool b) = ap (map value.Bool) (alike beq (λ x y. is_eq (bool_cmp x y)) same_bools d.bools b) ∙ with_seen same value.Bool d.bools b
met_here d (value.Int n) = with_seen same value.Int d.numbers n
met_here d (value.Text t) = ap (map value.Text) (alike bytes_eq (λ x y. same (value.Text x) (value.Text y)) (λ x y. sym (is_eq-slice_cmp x y)) d.texts t) ∙ with_seen same value.Text d.texts t
met_here d (value.Array t) = ap (map value.Array) (alike bytes_eq (λ x y. same (value.Array x) (value.Array y)) (λ x y. sym (is_eq-slice_cmp x y)) d.arrays t) ∙ with_seen same value.Array d.arrays t
met_here d value.Object = object_here d.object

one_or_none : (b : Bool) → length (cond b (value.Object ∷ []) []) ≡ cond b 1 0
one_or_none true = refl
one_or_none false = refl

-- what is met of one kind adds to no other
met_more : (d : Different) (v : Value) → many (met d v) + length (values_at (kind_of v) d) ≡ many d + length (values_at (kind_of v) (met d v))
met_more d (value.Bool b) = omega (arith, length-map d.bools value.Bool, length-map (with_different beq d.bools b) value.Bool)
met_more d (value.Int n) = omega (arith, length-map d.numbers value.Int, length-map (met d (value.Int n)).numbers value.Int)
met_more d (value.Text t) = omega (arith, length-map d.texts value.Text, length-map (with_different bytes_eq d.texts t) value.Text)
met_more d (value.Array t) = omega (arith, length-map d.arrays value.Array, length-map (with_different bytes_eq d.arrays t) value.Array)
met_more d value.Object = omega (arith, one_or_none d.object)

-- Only values of one kind were met, and they are these.
record AreMet (of : Kind) (d : Different) (values : List Value) : Type 0 where
  there : values_at of d ≡ values
  only : many d ≡ length values

met_next : (of : Kind) (d : Different) (values : List Value) (v : Value) → kind_of v ≡ of → AreMet of d values → AreMet of (met d v) (with_different same values v)
met_next of d values v k h =
    let here : values_at of (met d v) ≡ with_different same values v =
    ap (λ (x : Kind). values_at x (met d v)) (sym k) ∙ met_here d v ∙ ap (λ (x : Kind). with_different same (values_at x d) v) k ∙ ap (λ (vs : List Value). with_different same vs v) h.there in
    let more : many (met d v) + length (values_at of d) ≡ many d + length (values_at of (met d v)) = ap (λ (x : Kind). many (met d v) + length (values_at x d)) (sym k) ∙ met_more d v ∙ ap (λ (x : Kind). many d + length (values_at x (met d v))) k in
    record { there = here; only = omega (arith, more, ap length h.there, h.only, ap length here) }

same_kinds : (a b : Kind) → same_kind a b ≡ true → a ≡ b
same_kinds kind.Bool kind.Bool e = refl
same_kinds kind.Bool kind.Int e = absurd (cc)
same_kinds kind.Bool kind.Text e = absurd (cc)
same_kinds kind.Bool kind.Array e = absurd (cc)
same_kinds kind.Bool kind.Object e = absurd (cc)
same_kinds kind.Int kind.Bool e = absurd (cc)
same_kinds kind.Int kind.Int e = refl
same_kinds kind.Int kind.Text e = absurd (cc)
same_kinds kind.Int kind.Array e = absurd (cc)
same_kinds kind.Int kind.Object e = absurd (cc)
same_kinds kind.Text kind.Bool e = absurd (cc)
same_kinds kind.Text kind.Int e = absurd (cc)
same_kinds kind.Text kind.Text e = refl
same_kinds kind.Text kind.Array e = absurd (cc)
same_kinds kind.Text kind.Object e = absurd (cc)
same_kinds kind.Array kind.Bool e = absurd (cc)
same_kinds kind.Array kind.Int e = absurd (cc)
same_kinds kind.Array kind.Text e = absurd (cc)
same_kinds kind.Array kind.Array e = refl
same_kinds kind.Array kind.Object e = absurd (cc)
same_kinds kind.Object kind.Bool e = absurd (cc)
same_kinds kind.Object kind.Int e = absurd (cc)
same_kinds kind.Object kind.Text e = absurd (cc)
same_kinds kind.Object kind.Array e = absurd (cc)
same_kinds kind.Object kind.Object e = refl

-- a value that is wanted of a kind has it
wanted_kind : (of : Kind) (o : Option Value) (v : Value) → option_and_then (if_wanted (Some of)) o ≡ Some v → kind_of v ≡ of
wanted_kind of None v e = absurd (cc)
wanted_kind of (Some x) v e = by (same_kind (kind_of x) of) refl e
  where
    by : (b : Bool) → same_kind (kind_of x) of ≡ b → cond b (Some x) None ≡ Some v → kind_of v ≡ of
    by true t f = let one : x ≡ v = cc in ap kind_of (sym one) ∙ same_kinds (kind_of x) of t
    by false t f = absurd (cc)

met_by : (of : Kind) (rest : List Value) (d : Different) (values : List Value) (o : Option Value) → ((v : Value) → o ≡ Some v → kind_of v ≡ of) → AreMet of d values
    → ((e : Different) (ws : List Value) → AreMet of e ws → AreMet of (fold met e rest) (fold (with_different same) ws rest))
    → AreMet of (fold met d (cons_option o rest)) (fold (with_different same) values (cons_option o rest))
met_by of rest d values None k h more = more d values h
met_by of rest d values (Some v) k h more = more (met d v) (with_different same values v) (met_next of d values v (k v refl) h)

met_all : (name : List ℕ) (of : Kind) (documents : List Fields) (d : Different) (values : List Value) → AreMet of d values → AreMet of (fold met d (values_in name of documents)) (fold (with_different same) values (values_in name of documents))
met_all name of [] d values h = h
met_all name of (doc ∷ documents) d values h =
    met_by of (values_in name of documents) d values (value_wanted name (Some of) doc) (λ v e. wanted_kind of (value_at name doc) v e) h (λ e ws g. met_all name of documents e ws g)

none_yet : (of : Kind) → AreMet of none_met []
none_yet kind.Bool = record { there = refl; only = refl }
none_yet kind.Int = record { there = refl; only = refl }
none_yet kind.Text = record { there = refl; only = refl }
none_yet kind.Array = record { there = refl; only = refl }
none_yet kind.Object = record { there = refl; only = refl }

-- as many values are met of one kind as are different
pub many_different : (name : List ℕ) (of : Kind) (documents : List Fields) → many (fold met none_met (values_in name of documents)) ≡ length (different (values_in name of documents))
many_different name of documents = (met_all name of documents none_met [] (none_yet of)).only

-- a tally has as many documents more as values, and their values
pub tallied_parts : (t : Tallied) (values : List Value) → tallied t values ≡ record { count = t.count + length values; values = fold met t.values values }
tallied_parts t [] = let e : t.count ≡ t.count + 0 = omega arith in λ i. record { count = e i; values = t.values }
tallied_parts t (v ∷ values) =
    let e : t.count + 1 + length values ≡ t.count + suc (length values) = omega arith in
    tallied_parts (tallied_one t v) values ∙ (λ i. record { count = e i; values = fold met (met t.values v) values })

-- ---- the choice

chosen_one : (limits : Limits) (documents : List Fields) (count : ℕ) (a : Attribute) (id : ℕ) (t : Tallied) → count ≡ length documents → t ≡ tallied untallied (values_in a.name a.kind documents) → choice_by limits count id t ≡ choice_over limits documents id a
chosen_one limits documents count a id t docs e =
    let parts = e ∙ tallied_parts untallied (values_in a.name a.kind documents) in
    let held : t.count ≡ length (values_in a.name a.kind documents) = ap (λ (x : Tallied). x.count) parts ∙ zero-add (length (values_in a.name a.kind documents)) in
    let distinct : many t.values ≡ length (different (values_in a.name a.kind documents)) = ap (λ (x : Tallied). many x.values) parts ∙ many_different a.name a.kind documents in
    λ i. record { id = record { 0 = id }; home = home_by limits (docs i) (held i) (distinct i) }

counted_there : (ts : List Tallied) (id : ℕ) → id < length ts → slice_get ts id ≡ Some (tally_of id ts)
counted_there [] id lt = absurd (omega (arith, lt))
counted_there (t ∷ ts) zero lt = refl
counted_there (t ∷ ts) (suc id) lt = counted_there ts id (omega (arith, lt))

-- after a survey of all rows the choice is the one over the documents that are shown
pub chosen : (limits : Limits) (s : Storage) (n : ℕ) (survey : Surveyed) (choices : List Choice) → HasTaken s n 0 (rows_of s.history.versions) (record { rows = 0; documents = 0; tallies = [] }) survey → AreBySurvey limits survey choices
    → AreChosen limits s.attributes (map (λ (row : Row). row.document) (rows_at s n)) choices
chosen limits s n survey choices taken by = record {
  many = omega (arith, by.many, taken.many);
  each = λ id a there. each id a there;
}
  where
    documents : List Fields
    documents = map (λ (row : Row). row.document) (rows_at s n)

    all : documents_between s n 0 (rows_of s.history.versions) ≡ map (λ (row : Row). row.document) (rows_at s n)
    all = between_all s n (rows_of s.history.versions)

    within : (xs : List Attribute) (id : ℕ) (a : Attribute) → slice_get xs id ≡ Some a → id < length xs
    within [] id a e = absurd (cc)
    within (x ∷ xs) zero a e = omega arith
    within (x ∷ xs) (suc id) a e = omega (arith, within xs id a e)

    each : (id : ℕ) (a : Attribute) → slice_get s.attributes id ≡ Some a → slice_get choices id ≡ Some (choice_over limits (map (λ (row : Row). row.document) (rows_at s n)) id a)
    each id a there =
        let counted = counted_there survey.tallies id (omega (arith, within s.attributes id a there, taken.many)) in
        let count : survey.documents ≡ length (map (λ (row : Row). row.document) (rows_at s n)) = taken.documents ∙ zero-add (length (documents_between s n 0 (rows_of s.history.versions))) ∙ ap length all in
        let tally : tally_of id survey.tallies ≡ tallied untallied (values_in a.name a.kind (map (λ (row : Row). row.document) (rows_at s n))) =
        taken.tallies id
        ∙ ap (λ (o : Option Attribute). tallied untallied (option_map_or (λ (x : Attribute). values_in x.name x.kind (documents_between s n 0 (rows_of s.history.versions))) o [])) there
        ∙ ap (λ (ds : List Fields). tallied untallied (values_in a.name a.kind ds)) all in
        by.each id (tally_of id survey.tallies) counted ∙ ap Some (chosen_one limits (map (λ (row : Row). row.document) (rows_at s n)) survey.documents a id (tally_of id survey.tallies) count tally)
