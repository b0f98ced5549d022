-- Rows are alike exactly where their items and their documents are equal, so likeness is an equivalence and rows that are alike are fed alike.
use Rattle.std.proofs.Common.{◌≡◌, ℕ, List, [], Bool, true, false, ◌&&◌, Option, Some, None, Decides, unwrap_or, is_some, refl, sym, ap, true≢false, bytes_eq, flat_map, ◌++◌}
use Rattle.std.specs.Ordering.{eq_by_cmp}
use Rattle.std.specs.Option.{option_eq}
use Rattle.std.specs.Cmp.{IsEquivalence, Equal-is, first_so, second_so}
use Rattle.std.specs.Cmp.Lexicographic.{pointwise, pointwise_decides, bytes_decides, options_equiv}
use Rattle.std.proofs.lemmas.Cmp.{on_total, on_equiv, and_equiv, eq_by_cmp_equiv, lists_equiv, nat_list_eq_equiv}
use Rattle.doc_values.specs.declared.value.Value.{Value}
use Rattle.doc_values.specs.Doc.{Fields}
use Rattle.doc_values.specs.Order.{value_order, total_order}
use Rattle.doc_values.proofs.Ordered.{IsTotalOrder-total_order, tells_apart}
use Rattle.row_columns.specs.Contents.{Output}
use Rattle.exec_finish.specs.Distinct.{is_same_field, is_alike}
use Rattle.exec_finish.specs.Fed.{value_fed, field_fed, row_fed}

-- ---- the laws of an equivalence

-- Being the same field is an equivalence.
fields_equivalence : IsEquivalence is_same_field
fields_equivalence = and_equiv (on_equiv (λ f. f.0) nat_list_eq_equiv) (on_equiv (λ f. f.1) (eq_by_cmp_equiv (on_total Some IsTotalOrder-total_order)))

-- Being alike is an equivalence.
pub is_alike_equivalence : IsEquivalence is_alike
is_alike_equivalence = and_equiv (on_equiv (λ r. r.items) (lists_equiv (eq_by_cmp_equiv IsTotalOrder-total_order))) (on_equiv (λ r. r.doc) (options_equiv (lists_equiv fields_equivalence)))

-- ---- alike is equal

-- The order has two items equal exactly where they are.
items_decide : (a b : Option Value) → Decides (eq_by_cmp total_order a b) (a ≡ b)
items_decide a b =
    let o = Equal-is (total_order a b) in
    let t = tells_apart a b in
    (λ e. t.0 (o.0 e), λ e. o.1 (t.1 e))

-- The same of two values.
values_decide : (a b : Value) → Decides (eq_by_cmp value_order a b) (a ≡ b)
values_decide a b =
    let d = items_decide (Some a) (Some b) in
    (λ e. ap (λ o. unwrap_or o a) (d.0 e), λ e. d.1 (ap Some e))

-- Two tests that are true are true together.
both : (a b : Bool) → a ≡ true → b ≡ true → a && b ≡ true
both true b p q = q
both false b p q = p

-- Two fields are the same exactly where they are equal.
fields_decide : (f g : List ℕ × Value) → Decides (is_same_field f g) (f ≡ g)
fields_decide f g =
    let name = bytes_decides f.0 g.0 in
    let value = values_decide f.1 g.1 in (
      λ e i. (name.0 (first_so (bytes_eq f.0 g.0) (eq_by_cmp value_order f.1 g.1) e) i, value.0 (second_so (bytes_eq f.0 g.0) (eq_by_cmp value_order f.1 g.1) e) i),
      λ e. both (bytes_eq f.0 g.0) (eq_by_cmp value_order f.1 g.1) (name.1 (ap (λ p. p.0) e)) (value.1 (ap (λ p. p.1) e)),
    )

-- So are two documents, where there are any.
docs_decide : (a b : Option Fields) → Decides (option_eq (pointwise is_same_field) a b) (a ≡ b)
docs_decide None None = (λ e. refl, λ e. refl)
docs_decide None (Some b) = (λ e. absurd (true≢false (sym e)), λ e. absurd (true≢false (sym (ap is_some e))))
docs_decide (Some a) None = (λ e. absurd (true≢false (sym e)), λ e. absurd (true≢false (ap is_some e)))
docs_decide (Some a) (Some b) =
    let d = pointwise_decides fields_decide a b in
    (λ e. ap Some (d.0 e), λ e. d.1 (ap (λ o. unwrap_or o a) e))

-- Rows are alike exactly where their items and their documents are equal.
pub alike_decides : (r s : Output) → Decides (is_alike r s) ((r.items ≡ s.items) × (r.doc ≡ s.doc))
alike_decides r s =
    let items = pointwise_decides items_decide r.items s.items in
    let docs = docs_decide r.doc s.doc in
    let same = pointwise (eq_by_cmp total_order) r.items s.items in
    let same_doc = option_eq (pointwise is_same_field) r.doc s.doc in
    (λ e. (items.0 (first_so same same_doc e), docs.0 (second_so same same_doc e)), λ e. both same same_doc (items.1 e.0) (docs.1 e.1))

-- ---- rows that are alike are fed alike

-- Rows that are alike feed a hasher the same.
pub fed_alike : (r s : Output) → is_alike r s ≡ true → row_fed r ≡ row_fed s
fed_alike r s e =
    let same = (alike_decides r s).0 e in
    λ i. flat_map value_fed (same.0 i) ++ flat_map field_fed (unwrap_or (same.1 i) [])
