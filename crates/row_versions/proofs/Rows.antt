-- How many rows there are, and that only the rows of versions matter to links and last places.
use Rattle.std.proofs.Common.{◌≡◌, ℕ, zero, suc, ◌+◌, ◌<◌, ◌≤◌, ◌⊎◌, inl, inr, false, cond, List, [], ◌∷◌, ◌++◌, length, map, set, Option, Some, None, IfSome, is_some, option_map, slice_get, get_or, refl, sym, ap, subst, ◌∙◌, arith, length-append, length-set}
use Rattle.std.proofs.lemmas.List.{length-map}
use Rattle.std.proofs.lemmas.Bool.{cases_eq, cases_lt, cases_order}
use Rattle.std.proofs.lemmas.Option.{slice_get_within, slice_get_read}
use Rattle.row_versions.specs.declared.version.Version.{Version}
use Rattle.row_versions.specs.History.{version_at, most_versions, rows_of, newest, is_newest, reopened}
use Rattle.row_versions.specs.Order.{AreOrdered}
use Rattle.row_versions.specs.Inside.{AreOther, IsPlaceOfLast, IsLast, AreLinked, AreNewest, noted}
use Rattle.row_versions.specs.Stored.{no_place}
use Rattle.row_versions.proofs.Places.{get-front, get-last, get-push, get-set, get-set_same, get-set_other, get-within, get-map, position-none, position-at}
use Rattle.row_versions.proofs.Seen.{one-newest, ended-old, foreign-old}

pub if-some : {X : Type 0} (o : Option X) (P : X → Type 0) (x : X) → o ≡ Some x → IfSome o P → P x
if-some None P x e h = absurd (cc)
if-some (Some y) P x e h = let same : y ≡ x = cc in subst P same h

rows_bound : (xs : List Version) (n : ℕ) → ((i : ℕ) (v : Version) → slice_get xs i ≡ Some v → v.row < n) → rows_of xs ≤ n
rows_bound [] n h = omega arith
rows_bound (v ∷ xs) n h = omega (arith, h 0 v refl, rows_bound xs n (λ i w at. h (suc i) w at))

pub row-below : (xs : List Version) (i : ℕ) (v : Version) → slice_get xs i ≡ Some v → v.row < rows_of xs
row-below [] i v at = absurd (cc)
row-below (x ∷ xs) zero v at = let is : x ≡ v = cc in let r : x.row ≡ v.row = ap (λ (u : Version). u.row) is in omega arith
row-below (x ∷ xs) (suc i) v at = omega (arith, row-below xs i v at)

pub rows-are : (xs : List Version) (lasts : List ℕ) → AreNewest xs lasts → rows_of xs ≡ length lasts
rows-are xs lasts a = by (cases_lt (rows_of xs) (length lasts))
  where
    by : (rows_of xs < length lasts) ⊎ (length lasts ≤ rows_of xs) → rows_of xs ≡ length lasts
    by (inl lt) =
        let p = get-within lasts (rows_of xs) lt in
        let h = a.each (rows_of xs) p.0 p.1 in
        let b = row-below xs p.0 h.version h.there in
        absurd (omega (arith, h.named))
    by (inr ge) = omega (arith, rows_bound xs (length lasts) a.below)

pub rows-few : (xs : List Version) (lasts : List ℕ) → AreNewest xs lasts → length lasts ≤ length xs
rows-few xs lasts a = by (cases_lt (length xs) (length lasts))
  where
    by : (length xs < length lasts) ⊎ (length lasts ≤ length xs) → length lasts ≤ length xs
    by (inl lt) =
        let p = get-within lasts (length xs) lt in
        let h = a.each (length xs) p.0 p.1 in
        let b = a.early p.0 h.version h.there in
        absurd (omega (arith, h.named, h.within))
    by (inr ge) = ge

-- what is read in the table of last places
pub last-read : (xs : List Version) (lasts : List ℕ) (row p : ℕ) → AreNewest xs lasts → row < rows_of xs → p ≡ get_or lasts row p → IsPlaceOfLast row xs (length xs) p
last-read xs lasts row p a lt read = a.each row p (slice_get_read lasts (length lasts) row p refl (omega (arith, rows-are xs lasts a)) read)

-- ---- the version without an end

module _ (row p : ℕ) (xs : List Version) (v : Version) (ordered : AreOrdered xs) (last : IsPlaceOfLast row xs (length xs) p) (at : slice_get xs p ≡ Some v) where
  own_row : v.row ≡ row
  own_row = let same : Some v ≡ Some last.version = sym at ∙ last.there in let own : v ≡ last.version = cc in ap (λ (u : Version). u.row) own ∙ last.named

  before_it : (k : ℕ) (w : Version) → k < p → slice_get xs k ≡ Some w → (w.row ≡ row) ⊎ (w.row ≡ row → ⊥) → is_newest row w ≡ false
  before_it k w lt there (inl e) = ended-old row v.begin w (ordered.follow k p w v lt there at (e ∙ sym own_row))
  before_it k w lt there (inr ne) = foreign-old row w ne

  pub newest-some : v.end ≡ None → Some (version_at p) ≡ newest row xs
  newest-some none = sym (ap (option_map version_at) (position-at (is_newest row) xs p v at (one-newest row v own_row none) (λ k w lt there. before_it k w lt there (cases_eq w.row row))))

  pub newest-none : (end : ℕ) → v.end ≡ Some end → None ≡ newest row xs
  newest-none end e = sym (ap (option_map version_at) (position-none (is_newest row) xs (λ k w there. by k w there (cases_order k p))))
    where
      by : (k : ℕ) (w : Version) → slice_get xs k ≡ Some w → (k ≡ p) ⊎ ((k < p) ⊎ (p < k)) → is_newest row w ≡ false
      by k w there (inl is) = let same : Some w ≡ Some v = sym there ∙ ap (slice_get xs) is ∙ at in let own : w ≡ v = cc in ended-old row end w (end, ap (λ (u : Version). u.end) own ∙ e, omega arith)
      by k w there (inr (inl lt)) = before_it k w lt there (cases_eq w.row row)
      by k w there (inr (inr gt)) = foreign-old row w (last.later k w (omega arith) (slice_get_within xs k w there) there)

-- ---- lists with the same rows

pub record HaveRows (xs ys : List Version) : Type 0 where
  pub long : length xs ≡ length ys
  pub to : (i : ℕ) (w : Version) → slice_get xs i ≡ Some w → (u : Version) × (slice_get ys i ≡ Some u) × (u.row ≡ w.row)
  pub from : (i : ℕ) (w : Version) → slice_get ys i ≡ Some w → (u : Version) × (slice_get xs i ≡ Some u) × (u.row ≡ w.row)

module _ (xs ys : List Version) (s : HaveRows xs ys) where
  other_there : (row low high : ℕ) → AreOther row xs low high → AreOther row ys low high
  other_there row low high h k w le lt at = let u = s.from k w at in λ e. h k u.0 le lt u.1 (u.2 ∙ e)

  other_back : (row low high : ℕ) → AreOther row ys low high → AreOther row xs low high
  other_back row low high h k w le lt at = let u = s.to k w at in λ e. h k u.0 le lt u.1 (u.2 ∙ e)

  last_there : (row bound p : ℕ) → IsPlaceOfLast row xs bound p → IsPlaceOfLast row ys bound p
  last_there row bound p h = let u = s.to p h.version h.there in record {
    within = h.within;
    version = u.0;
    there = u.1;
    named = u.2 ∙ h.named;
    later = other_there row (p + 1) bound h.later;
  }

  link_there : (row bound : ℕ) (l : Option ℕ) → IsLast row xs bound l → IsLast row ys bound l
  link_there row bound None h = other_there row 0 bound h
  link_there row bound (Some p) h = last_there row bound p h

  pub linked-rows : (ls : List (Option ℕ)) → AreLinked xs ls → AreLinked ys ls
  linked-rows ls a = record {
    many = a.many ∙ s.long;
    each = λ i w l at there. let u = s.from i w at in link_there w.row i l (subst (λ r. IsLast r xs i l) u.2 (a.each i u.0 l u.1 there));
  }

  pub newest-rows : (lasts : List ℕ) → AreNewest xs lasts → AreNewest ys lasts
  newest-rows lasts a = record {
    below = λ i w at. let u = s.from i w at in let b = a.below i u.0 u.1 in omega (arith, u.2);
    each = λ row p there. subst (λ n. IsPlaceOfLast row ys n p) s.long (last_there row (length xs) p (a.each row p there));
    early = λ i w at. let u = s.from i w at in let b = a.early i u.0 u.1 in omega (arith, u.2);
    next = λ i k w z at other lt there.
        let u = s.from i w at in
        let y = s.from k z there in
        let n = a.next i k u.0 y.0 u.1 (subst (λ r. AreOther r xs 0 i) (sym u.2) (other_back w.row 0 i other)) lt y.1 in
        omega (arith, u.2, y.2);
  }

pub rows-set : (xs : List Version) (k : ℕ) (v w : Version) → slice_get xs k ≡ Some v → w.row ≡ v.row → HaveRows xs (set xs k w)
rows-set xs k v w at same = record {
  long = sym (length-set xs k w);
  to = λ i u there. forth i u there (cases_eq i k);
  from = λ i u there. elim (get-set xs k w i u there) [
    | inl here ↦ (v, ap (slice_get xs) here.0 ∙ at, sym same ∙ ap (λ (z : Version). z.row) (sym here.1))
    | inr else ↦ (u, else.1, refl)
  ];
}
  where
    forth : (i : ℕ) (u : Version) → slice_get xs i ≡ Some u → (i ≡ k) ⊎ (i ≡ k → ⊥) → (z : Version) × (slice_get (set xs k w) i ≡ Some z) × (z.row ≡ u.row)
    forth i u there (inl is) = let e : Some u ≡ Some v = sym there ∙ ap (slice_get xs) is ∙ at in let own : v ≡ u = cc in (w, ap (slice_get (set xs k w)) is ∙ get-set_same xs k w v at, same ∙ ap (λ (z : Version). z.row) own)
    forth i u there (inr ne) = (u, get-set_other xs k w i ne ∙ there, refl)

there_map : (f : Version → Version) (xs : List Version) (i : ℕ) (v : Version) → slice_get xs i ≡ Some v → slice_get (map f xs) i ≡ Some (f v)
there_map f [] i v at = absurd (cc)
there_map f (x ∷ xs) zero v at = let is : x ≡ v = cc in ap (λ u. Some (f u)) is
there_map f (x ∷ xs) (suc i) v at = there_map f xs i v at

pub rows-map : (commit : ℕ) (xs : List Version) → HaveRows xs (map (reopened commit) xs)
rows-map commit xs = record {
  long = sym (length-map xs (reopened commit));
  to = λ i w at. (reopened commit w, there_map (reopened commit) xs i w at, refl);
  from = λ i w at. let h = get-map (reopened commit) xs i w at in (h.0, h.1, ap (λ (u : Version). u.row) (sym h.2));
}

-- ---- a version comes

link_of : (row : ℕ) (xs : List Version) (lasts : List ℕ) (o : Option ℕ) → AreNewest xs lasts → slice_get lasts row ≡ o → IsLast row xs (length xs) o
link_of row xs lasts None a none = λ k w le lt at e. let b = a.below k w at in let p = get-within lasts row (omega arith) in let impossible : None ≡ Some p.0 = sym none ∙ p.1 in absurd (cc)
link_of row xs lasts (Some p) a some = a.each row p some

pub link-of : (row : ℕ) (xs : List Version) (lasts : List ℕ) → AreNewest xs lasts → IsLast row xs (length xs) (slice_get lasts row)
link-of row xs lasts a = link_of row xs lasts (slice_get lasts row) a refl

-- a link is a place, and no number that stands for none
pub near-link : (row : ℕ) (xs : List Version) (o : Option ℕ) → IsLast row xs (length xs) o → length xs ≤ most_versions → IfSome o (λ place. place < no_place)
near-link row xs None last few = tt
near-link row xs (Some p) last few = omega (arith, last.within)

module _ (xs : List Version) (lasts : List ℕ) (v : Version) (a : AreNewest xs lasts) (most : v.row ≤ length lasts) where
  early_push : (i : ℕ) (w : Version) → slice_get (xs ++ v ∷ []) i ≡ Some w → w.row ≤ i
  early_push i w at = by (get-push xs v i w at)
    where
      by : (slice_get xs i ≡ Some w) ⊎ ((i ≡ length xs) × (w ≡ v)) → w.row ≤ i
      by (inl old) = a.early i w old
      by (inr new) = let r : w.row ≡ v.row = ap (λ (u : Version). u.row) new.1 in let e = new.0 in omega (arith, rows-few xs lasts a)

  here_last : IsPlaceOfLast v.row (xs ++ v ∷ []) (length (xs ++ v ∷ [])) (length xs)
  here_last = record {
    within = omega (arith, length-append xs (v ∷ []));
    version = v;
    there = get-last xs v;
    named = refl;
    later = λ k w le lt at. absurd (omega (arith, length-append xs (v ∷ [])));
  }

  still_last : (row p : ℕ) → (row ≡ v.row → ⊥) → IsPlaceOfLast row xs (length xs) p → IsPlaceOfLast row (xs ++ v ∷ []) (length (xs ++ v ∷ [])) p
  still_last row p ne h = record {
    within = let lt = h.within in omega (arith, length-append xs (v ∷ []));
    version = h.version;
    there = get-front xs v p h.version h.there;
    named = h.named;
    later = λ k w le lt at. elim (get-push xs v k w at) [
      | inl old ↦ h.later k w le (slice_get_within xs k w old) old
      | inr new ↦ λ e. ne (sym e ∙ ap (λ (u : Version). u.row) new.1)
    ];
  }

  old_next : (i k : ℕ) (w u : Version) → slice_get xs i ≡ Some w → AreOther w.row (xs ++ v ∷ []) 0 i → k < i → slice_get (xs ++ v ∷ []) k ≡ Some u → u.row < w.row
  old_next i k w u at other lt there = by (get-push xs v k u there)
    where
      by : (slice_get xs k ≡ Some u) ⊎ ((k ≡ length xs) × (u ≡ v)) → u.row < w.row
      by (inl old) = a.next i k w u at (λ m z le less found. other m z le less (get-front xs v m z found)) lt old
      by (inr new) = absurd (let l = slice_get_within xs i w at in let e = new.0 in omega arith)

  note_old : (p : ℕ) → slice_get lasts v.row ≡ Some p → AreNewest (xs ++ v ∷ []) (set lasts v.row (length xs))
  note_old p known = record {
    below = λ i w at. elim (get-push xs v i w at) [
      | inl old ↦ omega (arith, a.below i w old, length-set lasts v.row (length xs))
      | inr new ↦ let r : w.row ≡ v.row = ap (λ (u : Version). u.row) new.1 in omega (arith, slice_get_within lasts v.row p known, length-set lasts v.row (length xs))
    ];
    each = λ row q there. each_by row q (get-set lasts v.row (length xs) row q there);
    early = early_push;
    next = λ i k w u at other lt there. next_by i k w u other lt there (get-push xs v i w at);
  }
    where
      each_by : (row q : ℕ) → ((row ≡ v.row) × (q ≡ length xs)) ⊎ ((row ≡ v.row → ⊥) × (slice_get lasts row ≡ Some q)) → IsPlaceOfLast row (xs ++ v ∷ []) (length (xs ++ v ∷ [])) q
      each_by row q (inl here) = subst (λ r. IsPlaceOfLast r (xs ++ v ∷ []) (length (xs ++ v ∷ [])) q) (sym here.0) (subst (λ z. IsPlaceOfLast v.row (xs ++ v ∷ []) (length (xs ++ v ∷ [])) z) (sym here.1) here_last)
      each_by row q (inr else) = still_last row q else.0 (a.each row q else.1)

      next_by : (i k : ℕ) (w u : Version) → AreOther w.row (xs ++ v ∷ []) 0 i → k < i → slice_get (xs ++ v ∷ []) k ≡ Some u → (slice_get xs i ≡ Some w) ⊎ ((i ≡ length xs) × (w ≡ v)) → u.row < w.row
      next_by i k w u other lt there (inl old) = old_next i k w u old other lt there
      next_by i k w u other lt there (inr new) =
          let h = a.each v.row p known in
          absurd (other p h.version (omega arith) (let l = h.within in let e = new.0 in omega arith) (get-front xs v p h.version h.there) (h.named ∙ ap (λ (z : Version). z.row) (sym new.1)))

  note_new : slice_get lasts v.row ≡ None → AreNewest (xs ++ v ∷ []) (lasts ++ length xs ∷ [])
  note_new none = record {
    below = λ i w at. elim (get-push xs v i w at) [
      | inl old ↦ omega (arith, a.below i w old, length-append lasts (length xs ∷ []))
      | inr new ↦ let r : w.row ≡ v.row = ap (λ (u : Version). u.row) new.1 in omega (arith, most, length-append lasts (length xs ∷ []))
    ];
    each = λ row q there. each_by row q (get-push lasts (length xs) row q there);
    early = early_push;
    next = λ i k w u at other lt there. next_by i k w u other lt there (get-push xs v i w at);
  }
    where
      next_row : v.row ≡ length lasts
      next_row = elim (cases_lt v.row (length lasts)) [
        | inl lt ↦ let p = get-within lasts v.row lt in let impossible : None ≡ Some p.0 = sym none ∙ p.1 in absurd (cc)
        | inr ge ↦ omega (arith, most)
      ]

      each_by : (row q : ℕ) → (slice_get lasts row ≡ Some q) ⊎ ((row ≡ length lasts) × (q ≡ length xs)) → IsPlaceOfLast row (xs ++ v ∷ []) (length (xs ++ v ∷ [])) q
      each_by row q (inl old) = still_last row q (λ e. let l = slice_get_within lasts row q old in absurd (omega (arith, next_row))) (a.each row q old)
      each_by row q (inr new) = subst (λ r. IsPlaceOfLast r (xs ++ v ∷ []) (length (xs ++ v ∷ [])) q) (next_row ∙ sym new.0) (subst (λ z. IsPlaceOfLast v.row (xs ++ v ∷ []) (length (xs ++ v ∷ [])) z) (sym new.1) here_last)

      next_by : (i k : ℕ) (w u : Version) → AreOther w.row (xs ++ v ∷ []) 0 i → k < i → slice_get (xs ++ v ∷ []) k ≡ Some u → (slice_get xs i ≡ Some w) ⊎ ((i ≡ length xs) × (w ≡ v)) → u.row < w.row
      next_by i k w u other lt there (inl old) = old_next i k w u old other lt there
      next_by i k w u other lt there (inr new) =
          let r : w.row ≡ v.row = ap (λ (z : Version). z.row) new.1 in
          elim (get-push xs v k u there) [
            | inl old ↦ omega (arith, a.below k u old, next_row)
            | inr behind ↦ absurd (let e = new.0 in let f = behind.0 in omega arith)
          ]

  note_by : (o : Option ℕ) → slice_get lasts v.row ≡ o → AreNewest (xs ++ v ∷ []) (cond (is_some o) (set lasts v.row (length xs)) (lasts ++ length xs ∷ []))
  note_by None e = note_new e
  note_by (Some p) e = note_old p e

  pub newest-push : AreNewest (xs ++ v ∷ []) (noted v.row (length xs) lasts)
  newest-push = note_by (slice_get lasts v.row) refl
