use Rattle.std.proofs.Common.{ℕ, ◌<◌, List, ◌++◌, sym, ◌∙◌, subst}
use Rattle.std.specs.Prelude.{option_to_list}
use Rattle.std.specs.List.{Contains}
use Rattle.std.proofs.lemmas.List.Filters.{dedup_is}
use Rattle.std.proofs.lemmas.List.Kept.{Contains-dedup_nat, Contains-from_dedup}
use Rattle.std.proofs.lemmas.List.Sorted.{Contains-permutation, IsPermutation-sym}
use Rattle.std.proofs.lemmas.Map.Keys.{IsStrictlyIncreasing-dedup}
use Rattle.script_reader.proofs.Ascending.{Rises-from_increasing, is_ascending}
use Rattle.script_reader.proofs.draft.followed.Goals as goal

pub returns : goal.returns
returns c =
    let list : List ℕ = c.args.named ++ option_to_list c.args.last in
    let all-is = c.in_ok-follows.ensures.ok in
    let is = dedup_is _ _ _ c.dedup.ensures.filtered in
    let moved = c.sort_unstable.ensures.permutation in
    record {
      ok = c.from_vec.ensures.exact
          ∙ is_ascending c.dedup.new.self.items list c.args.lines (Rises-from_increasing _ (rw is (IsStrictlyIncreasing-dedup _ c.sort_unstable.ensures.sorted)))
          (λ k h.
          let found : Contains list k = subst (λ l. Contains l k) all-is (Contains-permutation _ _ k (IsPermutation-sym _ _ moved) (Contains-from_dedup _ _ k (rw is at h))) in
          (subst (λ n. n < c.args.lines) found.2 (c.requires found.0 k found.1), found))
          (λ k h. rw is (Contains-dedup_nat _ k (Contains-permutation _ _ k moved (subst (λ l. Contains l k) (sym all-is) h))));
    }
