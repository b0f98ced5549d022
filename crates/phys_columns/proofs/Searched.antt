-- What a binary search among the pages of a column finds.
use Rattle.std.proofs.Common.{◌≡◌, ◌<◌, ◌≤◌, ◌∙◌, ap, sym, subst, arith, ℕ, suc, List, length, None, MatchResult, Result, slice_get, slice_index_or, inl, inr}
use Rattle.std.specs.declared.result.Result.TheVariants.{Ok, Err}
use Rattle.std.specs.declared.cmp.Ordering.TheVariants.{Less, Equal, Greater}
use Rattle.std.specs.Ordering.{nat_cmp, ordering_index}
use Rattle.std.specs.Cmp.{ranked}
use Rattle.std.specs.List.Sorted.{IsBinarySearchResult, IsSearchInRange, IsNonDecreasingBy}
use Rattle.std.proofs.lemmas.Option.{slice_get-get_or, slice_get_cases, slice_get_within, get_or_from_slice_get}
use Rattle.std.proofs.lemmas.Bool.Decides.{leb_tells, nat_tests}
use Rattle.phys_columns.specs.declared.page.Page.{Page}
use Rattle.phys_columns.specs.Inside.{ArePages, FitsAt, page_at}
use Rattle.phys_columns.proofs.Paged.{found, fits_none, rises}

index_rises : (a b n : ℕ) → a ≤ b → ordering_index (nat_cmp a n) ≤ ordering_index (nat_cmp b n)
index_rises a b n less = grind (arith, nat_tests)

-- The numbers of the pages do not fall.
not_falling : (pages : List Page) (n : ℕ) → ArePages 0 pages → IsNonDecreasingBy (λ p. ordering_index (nat_cmp p.number n)) pages
not_falling pages n are i j d upto within = index_rises _ _ n (elim (leb_tells (suc i) j) [
  | inl before ↦
      let less = rises 0 pages are i j (slice_index_or pages i d) (slice_index_or pages j d) (omega (arith, before.1)) (slice_get-get_or pages i d (omega arith)) (slice_get-get_or pages j d within) in
      omega (arith, less)
  | inr behind ↦
      let same : i ≡ j = omega (arith, behind.1) in
      let n : (slice_index_or pages i d).number ≡ (slice_index_or pages j d).number = ap (λ (k : ℕ). (slice_index_or pages k d).number) same in
      omega (arith, n)
])

-- The page at a place, where the number there is the one that is looked for.
pub here : (pages : List Page) (n place : ℕ) (d : Page) → ArePages 0 pages → place < length pages → (slice_index_or pages place d).number ≡ n → slice_get pages place ≡ page_at n pages
here pages n place d are within is =
    let there = slice_get-get_or pages place d within in
    there ∙ sym (found 0 pages are place _ there) ∙ ap (λ m. page_at m pages) is

pub searched : (pages : List Page) (n : ℕ) (r : Result ℕ ℕ) → ArePages 0 pages → IsSearchInRange r (length pages) → IsBinarySearchResult (λ p. nat_cmp p.number n) pages r → MatchResult r (λ place. (place < length pages) × (slice_get pages place ≡ page_at n pages)) (λ place. (place ≤ length pages) × (page_at n pages ≡ None) × FitsAt n place pages)
searched pages n (Ok place) are range result = elim (slice_get_cases pages place).1 [
  | inl there ↦ (range, here pages n place there.0 are range (ranked _ n Equal (sym (result there.0))))
  | inr past ↦ absurd (omega (arith, past.0))
]
searched pages n (Err place) are range result =
    let parts = result (not_falling pages n are) in
    let fits : FitsAt n place pages = record {
      below = λ k p before is. let less = ranked _ n Less (sym (parts.0 k p (omega arith) before)) in subst (λ (q : Page). q.number < n) (get_or_from_slice_get pages k p p is) less;
      above = λ k p behind is. let more = ranked _ n Greater (sym (parts.1 k p behind (slice_get_within pages k p is))) in subst (λ (q : Page). n < q.number) (get_or_from_slice_get pages k p p is) more;
    } in
    (range, fits_none n place pages fits, fits)
