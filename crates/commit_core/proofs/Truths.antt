-- A store stays true to its commits.
use Rattle.std.proofs.Common.{◌≡◌, ◌∙◌, ℕ, zero, suc, ◌+◌, ◌<◌, ◌≤◌, nat_le, nat_lt, Bool, true, false, cond, List, [], ◌∷◌, ◌++◌, length, map, take, Option, Some, None, option_map, unwrap_or, slice_get, refl, sym, ap, subst, arith, length-append}
use Rattle.std.proofs.lemmas.Bool.{cond-true, cond-false, false≢true}
use Rattle.std.proofs.lemmas.Bool.Decides.{nat_tests}
use Rattle.std.proofs.lemmas.List.{length-map, take_all, take-append-le}
use Rattle.std.proofs.lemmas.Option.{same_Some, none-some, slice_get_within, slice_get-map}
use Rattle.std.proofs.lemmas.Slice.Eq.{bytes_eq-Decides}
use Rattle.row_versions.proofs.Places.{get-within, get-map}
use Rattle.shown_rows.specs.Rows.{Row, rows_at}
use Rattle.write_plans.specs.Becomes.{IsSettled, StandsAsBefore}
use Rattle.write_plans.proofs.Back.{pairs-stand}
use Rattle.shown_rows.specs.Follow.{RowsFollow}
use Rattle.row_versions.specs.History.{History, rows_of}
use Rattle.row_versions.specs.Order.{IsLatest}
use Rattle.row_versions.specs.declared.version.Version.{Version}
use Rattle.commit_core.specs.State.{Collection, State, IsState, is_named, collection_at}
use Rattle.commit_core.specs.Replies.{state_after}
use Rattle.commit_core.specs.Stored.{Stored, nothing_stored, stored_in, rows_in, rows_named, IsTrueTo, AreTrueTo, HasGone, stood, HaveBecome, IsAsBefore, AreAsBefore, AreSettled}
use Rattle.commit_core.proofs.Known.{unknown-before}

pub true-opening : AreTrueTo [] []
true-opening = record { newest = refl; each = λ i t at. absurd (none-some t at) }

pub true-settled : (texts : List (List ℕ)) (tables : List Stored) → AreTrueTo texts tables → AreSettled (length texts) tables
true-settled texts tables h i t at = (h.each i t at).settled

-- ---- what is left as it was

module _ (follow : RowsFollow) where
  kept-rows : (t u : Stored) → IsAsBefore t u → (n : ℕ) → rows_at u.storage n ≡ rows_at t.storage n
  kept-rows t u h n = follow.same t.storage u.storage n n (λ row. h.shows n row)

  kept-in : (n : ℕ) (t u : Stored) → IsAsBefore t u → stored_in n u ≡ stored_in n t
  kept-in n t u h =
      let rows = kept-rows t u h n in
      let pairs = pairs-stand t.storage u.storage h.storage in
      λ i. record { name = h.named i; rows = rows i; next_row = rows_of (h.storage.history i).versions; versions = length (h.storage.history i).versions; pairs = pairs i }

  kept-true : (texts : List (List ℕ)) (t u : Stored) → IsAsBefore t u → IsTrueTo texts t → IsTrueTo texts u
  kept-true texts t u h k = record {
    settled = record {
      latest = subst (λ (x : History). IsLatest (length texts) x.versions) (sym h.storage.history) k.settled.latest;
      horizon = subst (λ (x : History). x.horizon ≤ length texts) (sym h.storage.history) k.settled.horizon;
    };
    always = λ n low le.
        let same : u.storage.history.horizon ≡ t.storage.history.horizon = ap (λ (x : History). x.horizon) h.storage.history in
        kept-rows t u h n ∙ k.always n (omega arith) le ∙ ap (λ (name : List ℕ). rows_named name (state_after (take n texts))) (sym h.named);
  }

  kept-map : (n : ℕ) (before after : List Stored) → length after ≡ length before → ((i : ℕ) (t u : Stored) → slice_get before i ≡ Some t → slice_get after i ≡ Some u → IsAsBefore t u) → map (stored_in n) after ≡ map (stored_in n) before
  kept-map n [] [] many each = refl
  kept-map n [] (u ∷ after) many each = absurd (omega (arith, many))
  kept-map n (t ∷ before) [] many each = absurd (omega (arith, many))
  kept-map n (t ∷ before) (u ∷ after) many each =
      let first = kept-in n t u (each 0 t u refl refl) in
      let rest = kept-map n before after (omega (arith, many)) (λ i x y xt yt. each (suc i) x y xt yt) in
      λ i. first i ∷ rest i

  pub true-kept : (texts : List (List ℕ)) (before after : List Stored) → AreTrueTo texts before → AreAsBefore before after → AreTrueTo texts after
  true-kept texts before after h k = record {
    newest = kept-map (length texts) before after k.many k.each ∙ h.newest;
    each = λ i u at.
        let t = get-within before i (omega (arith, k.many, slice_get_within after i u at)) in
        kept-true texts t.0 u (k.each i t.0 u t.1 at) (h.each i t.0 t.1);
  }

-- ---- one commit more

-- the collection at a place of a state is found under its name
found_place : (state : State) → IsState state → (i : ℕ) (c : Collection) → slice_get state i ≡ Some c → collection_at c.name state ≡ Some c
found_place state h i c at = walk state i c (λ k d k_at same. h.names k i d c k_at at same) at
  where
    walk : (state : State) (i : ℕ) (c : Collection) → ((k : ℕ) (d : Collection) → slice_get state k ≡ Some d → d.name ≡ c.name → k ≡ i) → slice_get state i ≡ Some c → collection_at c.name state ≡ Some c
    walk [] i c apart at = absurd (none-some c at)
    walk (d ∷ more) zero c apart at =
        let same : d ≡ c = same_Some d c at in
        cond-true (is_named c.name d) (Some d) (collection_at c.name more) ((bytes_eq-Decides c.name d.name).1 (sym (ap (λ (x : Collection). x.name) same))) ∙ at
    walk (d ∷ more) (suc i) c apart at =
        cond-false (is_named c.name d) (Some d) (collection_at c.name more) (other (is_named c.name d) refl) ∙ walk more i c (λ k e k_at same. let up : suc k ≡ suc i = apart (suc k) e k_at same in omega arith) at
      where
        other : (t : Bool) → is_named c.name d ≡ t → is_named c.name d ≡ false
        other true e = let bad : zero ≡ suc i = apart zero d refl (sym ((bytes_eq-Decides c.name d.name).0 e)) in absurd (omega arith)
        other false e = e

none_named : (name : List ℕ) (state : State) → ((i : ℕ) (c : Collection) → slice_get state i ≡ Some c → c.name ≡ name → ⊥) → collection_at name state ≡ None
none_named name [] apart = refl
none_named name (d ∷ more) apart = cond-false (is_named name d) (Some d) (collection_at name more) (other (is_named name d) refl) ∙ none_named name more (λ i c at same. apart (suc i) c at same)
  where
    other : (t : Bool) → is_named name d ≡ t → is_named name d ≡ false
    other true e = absurd (apart 0 d refl (sym ((bytes_eq-Decides name d.name).0 e)))
    other false e = e

module _ (texts : List (List ℕ)) (text : List ℕ) (before after : List Stored) (h : AreTrueTo texts before) (state : IsState (state_after (texts ++ text ∷ []))) (k : HaveBecome (state_after (texts ++ text ∷ [])) (length texts) before after) where
  abbrev all : List (List ℕ)
  all = texts ++ text ∷ []

  long : length (texts ++ text ∷ []) ≡ length texts + 1
  long = length-append texts (text ∷ [])

  newest : map (stored_in (length all)) after ≡ state_after all
  newest = ap (λ n. map (stored_in n) after) long ∙ k.newest

  -- after all commits
  last : (i : ℕ) (t : Stored) → slice_get after i ≡ Some t → rows_at t.storage (length all) ≡ rows_named t.name (state_after all)
  last i t at =
      let c : slice_get (state_after all) i ≡ Some (stored_in (length all) t) = ap (λ (s : State). slice_get s i) (sym newest) ∙ slice_get-map (stored_in (length all)) after i ∙ ap (option_map (stored_in (length all))) at in
      sym (ap rows_in (found_place (state_after all) state i (stored_in (length all) t) c))

  stored_at : (i : ℕ) (t : Stored) → slice_get after i ≡ Some t → slice_get (state_after all) i ≡ Some (stored_in (length all) t)
  stored_at i t at = ap (λ (s : State). slice_get s i) (sym newest) ∙ slice_get-map (stored_in (length all)) after i ∙ ap (option_map (stored_in (length all))) at

  -- a collection that is new was unknown before
  unknown : (i : ℕ) (t : Stored) → slice_get after i ≡ Some t → slice_get before i ≡ None → collection_at t.name (state_after texts) ≡ None
  unknown i t at none = none_named t.name (state_after texts) (λ j c c_at named.
      let b = get-map (stored_in (length texts)) before j c (ap (λ (s : State). slice_get s j) h.newest ∙ c_at) in
      let u = get-within after j (omega (arith, k.longer, slice_get_within before j b.0 b.1)) in
      let is : stood before j u.0.name ≡ b.0 = ap (λ (o : Option Stored). unwrap_or o (nothing_stored u.0.name)) b.1 in
      let same : u.0.name ≡ t.name = (k.each j u.0 u.1).named ∙ ap (λ (x : Stored). x.name) is ∙ sym (ap (λ (x : Collection). x.name) b.2) ∙ named in
      let place : j ≡ i = state.names j i (stored_in (length all) u.0) (stored_in (length all) t) (stored_at j u.0 u.1) (stored_at i t at) same in
      none-some b.0 (sym none ∙ ap (slice_get before) (sym place) ∙ b.1))

  -- what stood there before was true
  true-stood : (i : ℕ) (t : Stored) → slice_get after i ≡ Some t → (n : ℕ) → (stood before i t.name).storage.history.horizon ≤ n → n ≤ length texts → (stood before i t.name).name ≡ t.name → rows_at (stood before i t.name).storage n ≡ rows_named t.name (state_after (take n texts))
  true-stood i t at n low le named = by (slice_get before i) refl
    where
      by : (o : Option Stored) → slice_get before i ≡ o → rows_at (stood before i t.name).storage n ≡ rows_named t.name (state_after (take n texts))
      by None none =
          let nothing : stood before i t.name ≡ nothing_stored t.name = ap (λ (o : Option Stored). unwrap_or o (nothing_stored t.name)) none in
          ap (λ (s : Stored). rows_at s.storage n) nothing ∙ sym (ap rows_in (unknown-before t.name texts n (unknown i t at none)))
      by (Some s) there =
          let is : stood before i t.name ≡ s = ap (λ (o : Option Stored). unwrap_or o (nothing_stored t.name)) there in
          ap (λ (x : Stored). rows_at x.storage n) is ∙ (h.each i s there).always n (subst (λ (x : Stored). x.storage.history.horizon ≤ n) is low) le
          ∙ ap (λ (name : List ℕ). rows_named name (state_after (take n texts))) (sym (ap (λ (x : Stored). x.name) is) ∙ named)

  always_by : (i : ℕ) (t : Stored) → slice_get after i ≡ Some t → (n : ℕ) → t.storage.history.horizon ≤ n → n ≤ length all → (b : Bool) → nat_le n (length texts) ≡ b → rows_at t.storage n ≡ rows_named t.name (state_after (take n all))
  always_by i t at n low le true e =
      let front : n ≤ length texts = grind (arith, nat_tests) in
      let gone = k.each i t at in
      gone.earlier n front ∙ true-stood i t at n (omega (arith, gone.horizon)) front (sym gone.named) ∙ ap (λ (ts : List (List ℕ)). rows_named t.name (state_after ts)) (sym (take-append-le n texts (text ∷ []) front))
  always_by i t at n low le false e =
      let past : length texts < n = grind (arith, nat_tests) in
      let whole : n ≡ length all = omega (arith, long) in
      ap (rows_at t.storage) whole ∙ last i t at ∙ ap (λ (ts : List (List ℕ)). rows_named t.name (state_after ts)) (sym (take_all n all (omega arith)))

  pub true-more : AreTrueTo (texts ++ text ∷ []) after
  true-more = record {
    newest = newest;
    each = λ i t at. record {
      settled = subst (λ n. IsSettled n t.storage) (sym long) (k.each i t at).settled;
      always = λ n low le. always_by i t at n low le (nat_le n (length texts)) refl;
    };
  }
