-- What is counted of an attribute, one document after the other.
use Rattle.std.proofs.Common.{◌≡◌, ◌∙◌, ◌<◌, ◌≤◌, ◌+◌, ℕ, zero, suc, Bool, true, false, cond, List, [], ◌∷◌, ◌++◌, map, length, get_or, take, Option, Some, None, option_map, option_and_then, unwrap_or, slice_get, refl, sym, ap, append-nil, arith}
use Rattle.std.specs.Prelude.{filter_map, fold}
use Rattle.std.proofs.lemmas.List.{map-append, take_more}
use Rattle.std.proofs.lemmas.List.Elements.{filter_map-append}
use Rattle.std.proofs.lemmas.List.Sums.{fold-append}
use Rattle.doc_values.specs.Doc.{Fields, IsDocument, value_at}
use Rattle.doc_values.specs.Laws.{StaysDocument}
use Rattle.doc_values.specs.Order.{same_kind}
use Rattle.doc_values.specs.Value.{kind_of, IsStorable}
use Rattle.doc_values.specs.declared.kind.Kind.{Kind}
use Rattle.doc_values.specs.declared.value.Value.{Value}
use Rattle.row_versions.specs.declared.version_id.VersionId.{VersionId}
use Rattle.layout_store.specs.Values.{value_wanted, if_wanted}
use Rattle.schema_analyser.specs.Survey.{values_in, tally_of}
use Rattle.schema_analyser.specs.Tally.{Tallied, tallied, tallied_one, untallied}

-- a value of a document that is wanted is one that a document may hold
wanted_by : (name : List ℕ) (wanted : Option Kind) (d : Fields) (o : Option Value) (v : Value) → ((x : Value) → o ≡ Some x → IsStorable x) → option_and_then (if_wanted wanted) o ≡ Some v → IsStorable v
wanted_by name wanted d None v h e = absurd (cc)
wanted_by name None d (Some x) v h e = h v e
wanted_by name (Some of) d (Some x) v h e = by (same_kind (kind_of x) of) e
  where
    by : (b : Bool) → cond b (Some x) None ≡ Some v → IsStorable v
    by true f = h v f
    by false f = absurd (cc)

pub wanted_storable : StaysDocument → (d : Fields) → IsDocument d → (name : List ℕ) (wanted : Option Kind) (v : Value) → value_wanted name wanted d ≡ Some v → IsStorable v
wanted_storable stays d is name wanted v e = wanted_by name wanted d (value_at name d) v (stays d name is).2 e

-- The tally with what a document has, if it has something.
abbrev pub with_one : Tallied → Option Value → Tallied
with_one t None = t
with_one t (Some v) = tallied_one t v

one_wanted : (t : Tallied) (name : List ℕ) (of : Kind) (d : Fields) (o : Option Value) → o ≡ value_wanted name (Some of) d → with_one t o ≡ tallied t (values_in name of (d ∷ []))
one_wanted t name of d o e = by o ∙ ap (λ (x : Option Value). fold tallied_one t (filter_map (λ (y : Option Value). y) (x ∷ []))) e
  where
    by : (x : Option Value) → with_one t x ≡ fold tallied_one t (filter_map (λ (y : Option Value). y) (x ∷ []))
    by None = refl
    by (Some v) = refl

-- one version more is read
pub taken_more : (document : VersionId → Fields) (t0 t : Tallied) (name : List ℕ) (of : Kind) (versions : List VersionId) (i : ℕ) (d : VersionId) (o : Option Value) → i < length versions
    → o ≡ value_wanted name (Some of) (document (get_or versions i d))
    → t ≡ tallied t0 (values_in name of (map document (take i versions)))
    → with_one t o ≡ tallied t0 (values_in name of (map document (take (i + 1) versions)))
taken_more document t0 t name of versions i d o lt e so =
    one_wanted t name of (document (get_or versions i d)) o e
    ∙ ap (λ (x : Tallied). tallied x (values_in name of (document (get_or versions i d) ∷ []))) so
    ∙ sym (fold-append tallied_one t0 (values_in name of (map document (take i versions))) (values_in name of (document (get_or versions i d) ∷ [])))
    ∙ ap (fold tallied_one t0) (sym (filter_map-append (value_wanted name (Some of)) (map document (take i versions)) (document (get_or versions i d) ∷ [])))
    ∙ ap (λ (ds : List Fields). tallied t0 (values_in name of ds)) (sym (map-append document (take i versions) (get_or versions i d ∷ [])) ∙ ap (map document) (sym (take_more versions i d lt)))

-- a tally more that has counted nothing
pub pushed_same : (ts : List Tallied) (id : ℕ) → tally_of id (ts ++ untallied ∷ []) ≡ tally_of id ts
pushed_same [] zero = refl
pushed_same [] (suc id) = refl
pushed_same (t ∷ ts) zero = refl
pushed_same (t ∷ ts) (suc id) = pushed_same ts id
