use Rattle.std.proofs.Common.{◌≡◌, ◌<◌, ◌≤◌, ℕ, List, length, get_or, ap, sym, subst, ◌∙◌, arith}
use Rattle.std.specs.Prelude.{MatchResult}
use Rattle.std.specs.List.{insert}
use Rattle.std.proofs.lemmas.List.Edits.{length-insert}
use Rattle.std.proofs.lemmas.List.Sorted.{searched}
use Rattle.layout_store.specs.Listed.{IsListed, Rises}
use Rattle.layout_store.proofs.Ascending.{rises-weakly, listed-stays, rises-more}
use Rattle.layout_store.proofs.cell_ids.CellIds.add.Goals as goal

pub invariant_of-self : goal.invariant_of-self
invariant_of-self c =
    let xs : List ℕ = c.self.inside.ids.items in
    let same : c.deref.result.now ≡ xs = c.deref.ensures.value in
    let rises : Rises c.deref.result.now = subst Rises (sym same) c.self.invariant in
    let found = searched c.deref.result.now c.args.id c.binary_search.result c.binary_search.ensures.position (rises-weakly c.deref.result.now rises) in
    let missing : (c.in-Err.place ≤ length c.deref.result.now) × ((k : ℕ) → k < c.in-Err.place → get_or c.deref.result.now k 0 < c.args.id) × ((k : ℕ) → c.in-Err.place ≤ k → k < length c.deref.result.now → c.args.id < get_or c.deref.result.now k 0) =
    subst (λ r. MatchResult r (λ i. (i < length c.deref.result.now) × (get_or c.deref.result.now i 0 ≡ c.args.id)) (λ i. (i ≤ length c.deref.result.now) × ((k : ℕ) → k < i → get_or c.deref.result.now k 0 < c.args.id) × ((k : ℕ) → i ≤ k → k < length c.deref.result.now → c.args.id < get_or c.deref.result.now k 0))) c.in-Err.is found in
    let within : c.in-Err.place ≤ length xs = omega (arith, missing.0, ap length same) in
    let now : Rises (insert c.deref.result.now c.in-Err.place c.args.id) = rises-more c.deref.result.now c.in-Err.place c.args.id missing.0 (length-insert c.deref.result.now c.in-Err.place c.args.id missing.0) rises missing.1 missing.2 in
    subst Rises (ap (λ (l : List ℕ). insert l c.in-Err.place c.args.id) same ∙ sym c.in_ok-insert.ensures.items) now

pub returns-in_ok-insert-clause-kept : goal.returns-in_ok-insert-clause-kept
returns-in_ok-insert-clause-kept c = λ i at.
    let xs : List ℕ = c.self.inside.ids.items in
    let was : IsListed i xs = subst (IsListed i) (sym c.self.view_is) at in
    let same : c.deref.result.now ≡ xs = c.deref.ensures.value in
    let rises : Rises c.deref.result.now = subst Rises (sym same) c.self.invariant in
    let found = searched c.deref.result.now c.args.id c.binary_search.result c.binary_search.ensures.position (rises-weakly c.deref.result.now rises) in
    let missing : (c.in-Err.place ≤ length c.deref.result.now) × ((k : ℕ) → k < c.in-Err.place → get_or c.deref.result.now k 0 < c.args.id) × ((k : ℕ) → c.in-Err.place ≤ k → k < length c.deref.result.now → c.args.id < get_or c.deref.result.now k 0) =
    subst (λ r. MatchResult r (λ i. (i < length c.deref.result.now) × (get_or c.deref.result.now i 0 ≡ c.args.id)) (λ i. (i ≤ length c.deref.result.now) × ((k : ℕ) → k < i → get_or c.deref.result.now k 0 < c.args.id) × ((k : ℕ) → i ≤ k → k < length c.deref.result.now → c.args.id < get_or c.deref.result.now k 0))) c.in-Err.is found in
    let within : c.in-Err.place ≤ length xs = omega (arith, missing.0, ap length same) in
    subst (IsListed i) (sym c.in_ok-insert.ensures.items) (listed-stays xs c.in-Err.place c.args.id within (length-insert xs c.in-Err.place c.args.id within) i was)
