-- The places of the last versions of rows, when a version comes or goes.
use Rattle.std.proofs.Common.{◌≡◌, ◌≢◌, ℕ, ◌+◌, ◌-◌, ◌<◌, ◌≤◌, ◌⊎◌, inl, inr, List, [], ◌∷◌, ◌++◌, length, take, set, Option, Some, None, slice_get, sym, ap, subst, ◌∙◌, arith, length-append, length-set}
use Rattle.std.proofs.lemmas.Bool.{cases_order}
use Rattle.std.proofs.lemmas.Option.{slice_get_within}
use Rattle.std.proofs.lemmas.List.{take_at}
use Rattle.row_versions.specs.declared.version.Version.{Version}
use Rattle.row_versions.specs.Inside.{AreOther, IsPlaceOfLast, IsLast, AreLinked, AreNewest, forgotten, Linked, HasOneBehind}
use Rattle.row_versions.proofs.Places.{get-front, get-last, get-push, get-set, get-within, has-front}

-- ---- a version behind the others

pub other-front : (row : ℕ) (xs : List Version) (v : Version) (low high : ℕ) → AreOther row (xs ++ v ∷ []) low high → AreOther row xs low high
other-front row xs v low high h k w le lt at = h k w le lt (get-front xs v k w at)

pub other-push : (row : ℕ) (xs : List Version) (v : Version) (low high : ℕ) → high ≤ length xs → AreOther row xs low high → AreOther row (xs ++ v ∷ []) low high
other-push row xs v low high few h k w le lt at = by (get-push xs v k w at)
  where
    by : (slice_get xs k ≡ Some w) ⊎ ((k ≡ length xs) × (w ≡ v)) → w.row ≢ row
    by (inl old) = h k w le lt old
    by (inr new) = absurd (let e = new.0 in omega arith)

-- a version of another row changes nothing
pub other-more : (row : ℕ) (xs : List Version) (v : Version) (low : ℕ) → v.row ≢ row → AreOther row xs low (length xs) → AreOther row (xs ++ v ∷ []) low (length xs + 1)
other-more row xs v low ne h k w le lt at = by (get-push xs v k w at)
  where
    by : (slice_get xs k ≡ Some w) ⊎ ((k ≡ length xs) × (w ≡ v)) → w.row ≢ row
    by (inl old) = h k w le (slice_get_within xs k w old) old
    by (inr new) = λ e. ne (ap (λ (u : Version). u.row) (sym new.1) ∙ e)

front_there : (xs : List Version) (v w : Version) (k : ℕ) → k < length xs → slice_get (xs ++ v ∷ []) k ≡ Some w → slice_get xs k ≡ Some w
front_there xs v w k lt at = elim (get-push xs v k w at) [ inl old ↦ old | inr new ↦ absurd (let e = new.0 in omega arith) ]

pub last-front : (row : ℕ) (xs : List Version) (v : Version) (bound place : ℕ) → bound ≤ length xs → IsPlaceOfLast row (xs ++ v ∷ []) bound place → IsPlaceOfLast row xs bound place
last-front row xs v bound place few h = record {
  within = h.within;
  version = h.version;
  there = front_there xs v h.version place (let lt = h.within in omega arith) h.there;
  named = h.named;
  later = other-front row xs v (place + 1) bound h.later;
}

pub last-push : (row : ℕ) (xs : List Version) (v : Version) (bound place : ℕ) → bound ≤ length xs → IsPlaceOfLast row xs bound place → IsPlaceOfLast row (xs ++ v ∷ []) bound place
last-push row xs v bound place few h = record {
  within = h.within;
  version = h.version;
  there = get-front xs v place h.version h.there;
  named = h.named;
  later = other-push row xs v (place + 1) bound few h.later;
}

is-last-front : (row : ℕ) (xs : List Version) (v : Version) (bound : ℕ) (l : Option ℕ) → bound ≤ length xs → IsLast row (xs ++ v ∷ []) bound l → IsLast row xs bound l
is-last-front row xs v bound None few h = other-front row xs v 0 bound h
is-last-front row xs v bound (Some place) few h = last-front row xs v bound place few h

is-last-push : (row : ℕ) (xs : List Version) (v : Version) (bound : ℕ) (l : Option ℕ) → bound ≤ length xs → IsLast row xs bound l → IsLast row (xs ++ v ∷ []) bound l
is-last-push row xs v bound None few h = other-push row xs v 0 bound few h
is-last-push row xs v bound (Some place) few h = last-push row xs v bound place few h

-- ---- links

pub linked-front : (xs : List Version) (v : Version) (ls : List (Option ℕ)) (l : Option ℕ) → AreLinked (xs ++ v ∷ []) (ls ++ l ∷ []) → AreLinked xs ls
linked-front xs v ls l a = record {
  many = let m = a.many in omega (arith, length-append ls (l ∷ []), length-append xs (v ∷ []));
  each = λ i w o at there. is-last-front w.row xs v i o (let lt = slice_get_within xs i w at in omega arith) (a.each i w o (get-front xs v i w at) (get-front ls l i o there));
}

pub linked-push : (xs : List Version) (v : Version) (ls : List (Option ℕ)) (l : Option ℕ) → IsLast v.row xs (length xs) l → AreLinked xs ls → AreLinked (xs ++ v ∷ []) (ls ++ l ∷ [])
linked-push xs v ls l last a = record {
  many = let m = a.many in omega (arith, length-append ls (l ∷ []), length-append xs (v ∷ []));
  each = λ i w o at there. by i w o (get-push xs v i w at) (get-push ls l i o there);
}
  where
    by : (i : ℕ) (w : Version) (o : Option ℕ) → (slice_get xs i ≡ Some w) ⊎ ((i ≡ length xs) × (w ≡ v)) → (slice_get ls i ≡ Some o) ⊎ ((i ≡ length ls) × (o ≡ l)) → IsLast w.row (xs ++ v ∷ []) i o
    by i w o (inl at) (inl there) = is-last-push w.row xs v i o (let lt = slice_get_within xs i w at in omega arith) (a.each i w o at there)
    by i w o (inl at) (inr behind) = absurd (let lt = slice_get_within xs i w at in let m = a.many in let e = behind.0 in omega arith)
    by i w o (inr new) (inl there) = absurd (let lt = slice_get_within ls i o there in let m = a.many in let e = new.0 in omega arith)
    by i w o (inr new) (inr behind) =
        subst (λ (u : Version). IsLast u.row (xs ++ v ∷ []) i o) (sym new.1) (subst (λ (z : Option ℕ). IsLast v.row (xs ++ v ∷ []) i z) (sym behind.1)
        (subst (λ (k : ℕ). IsLast v.row (xs ++ v ∷ []) k l) (sym new.0) (is-last-push v.row xs v (length xs) l (omega arith) last)))

-- ---- the last version goes

module _ (xs : List Version) (v : Version) (lasts : List ℕ) (a : AreNewest (xs ++ v ∷ []) lasts) where
  early_front : (i : ℕ) (w : Version) → slice_get xs i ≡ Some w → w.row ≤ i
  early_front i w at = a.early i w (get-front xs v i w at)

  next_front : (i k : ℕ) (w u : Version) → slice_get xs i ≡ Some w → AreOther w.row xs 0 i → k < i → slice_get xs k ≡ Some u → u.row < w.row
  next_front i k w u at other lt there = a.next i k w u (get-front xs v i w at) (other-push w.row xs v 0 i (let l = slice_get_within xs i w at in omega arith) other) lt (get-front xs v k u there)

  -- the last version of another row stands among the others
  elsewhere : (row place : ℕ) → row ≢ v.row → IsPlaceOfLast row (xs ++ v ∷ []) (length (xs ++ v ∷ [])) place → IsPlaceOfLast row xs (length xs) place
  elsewhere row place ne h = by (get-push xs v place h.version h.there)
    where
      by : (slice_get xs place ≡ Some h.version) ⊎ ((place ≡ length xs) × (h.version ≡ v)) → IsPlaceOfLast row xs (length xs) place
      by (inl old) = record {
        within = slice_get_within xs place h.version old;
        version = h.version;
        there = old;
        named = h.named;
        later = λ k w le lt at. h.later k w le (omega (arith, length-append xs (v ∷ []))) (get-front xs v k w at);
      }
      by (inr new) = absurd (ne (sym h.named ∙ ap (λ (u : Version). u.row) new.1))

  pub forget-to : (before : ℕ) → IsPlaceOfLast v.row xs (length xs) before → AreNewest xs (set lasts v.row before)
  forget-to before last = record {
    below = λ i w at. let b = a.below i w (get-front xs v i w at) in omega (arith, length-set lasts v.row before);
    each = λ row place at. by row place (get-set lasts v.row before row place at);
    early = early_front;
    next = next_front;
  }
    where
      by : (row place : ℕ) → ((row ≡ v.row) × (place ≡ before)) ⊎ ((row ≡ v.row → ⊥) × (slice_get lasts row ≡ Some place)) → IsPlaceOfLast row xs (length xs) place
      by row place (inl here) = subst (λ r. IsPlaceOfLast r xs (length xs) place) (sym here.0) (subst (λ p. IsPlaceOfLast v.row xs (length xs) p) (sym here.1) last)
      by row place (inr there) = elsewhere row place there.0 (a.each row place there.1)

  module _ (fore : List ℕ) (y : ℕ) (split : lasts ≡ fore ++ y ∷ []) (none : AreOther v.row xs 0 (length xs)) where
    all_below : (k : ℕ) (w : Version) → slice_get xs k ≡ Some w → w.row < v.row
    all_below k w at = a.next (length xs) k v w (get-last xs v) (other-push v.row xs v 0 (length xs) (omega arith) none) (slice_get_within xs k w at) (get-front xs v k w at)

    top : (length fore ≡ v.row) ⊎ ((length fore < v.row) ⊎ (v.row < length fore)) → length fore ≡ v.row
    top (inl e) = e
    top (inr (inl less)) = absurd (let b = a.below (length xs) v (get-last xs v) in omega (arith, ap length split, length-append fore (y ∷ [])))
    top (inr (inr more)) =
        let h = a.each (length fore) y (ap (λ l. slice_get l (length fore)) split ∙ get-last fore y) in
        let inside = elsewhere (length fore) y (λ e. absurd (omega arith)) h in
        let under = all_below y inside.version inside.there in
        absurd (omega (arith, inside.named))

    pub forget-row : AreNewest xs fore
    forget-row = record {
      below = λ i w at. let b = all_below i w at in let t = top (cases_order (length fore) v.row) in omega arith;
      each = λ row place at. elsewhere row place (λ e. let lt = slice_get_within fore row place at in let t = top (cases_order (length fore) v.row) in absurd (omega arith))
          (a.each row place (ap (λ l. slice_get l row) split ∙ get-front fore y row place at));
      early = early_front;
      next = next_front;
    }

-- ---- what the code knows when it takes the last version away

pub pop-linked : (all front : Linked) → HasOneBehind all front → AreLinked all.versions all.links → AreLinked front.versions front.links
pop-linked all front h a = linked-front front.versions h.version front.links h.link (subst (λ l. AreLinked (front.versions ++ h.version ∷ []) l) h.links (subst (λ l. AreLinked l all.links) h.versions a))

forgets : (xs : List Version) (v : Version) (lasts news : List ℕ) (l : Option ℕ) → AreNewest (xs ++ v ∷ []) lasts → IsLast v.row xs (length xs) l → news ≡ forgotten v.row l lasts → AreNewest xs news
forgets xs v lasts news (Some before) a last is = subst (λ l. AreNewest xs l) (sym is) (forget-to xs v lasts a before last)
forgets xs v lasts news None a last is =
    let b = a.below (length xs) v (get-last xs v) in
    let lt : length lasts - 1 < length lasts = omega arith in
    let y = get-within lasts (length lasts - 1) lt in
    let h = has-front lasts y.0 y.1 in
    let n : length h.0 ≡ length lasts - 1 = omega (arith, ap length h.1, length-append h.0 (y.0 ∷ [])) in
    let front : h.0 ≡ news = sym (is ∙ ap (take (length lasts - 1)) h.1 ∙ take_at h.0 (y.0 ∷ []) (length lasts - 1) n) in
    subst (λ l. AreNewest xs l) front (forget-row xs v lasts a h.0 y.0 h.1 last)

pub pop-newest : (all front : Linked) (lasts news : List ℕ) (n : ℕ) (v : Version) (l : Option ℕ) → HasOneBehind all front → AreLinked all.versions all.links → AreNewest all.versions lasts → n ≡ length all.versions - 1 → slice_get all.versions n ≡ Some v → slice_get all.links n ≡ Some l → news ≡ forgotten v.row l lasts → AreNewest front.versions news
pop-newest all front lasts news n v l h a b e at there is =
    let m : n ≡ length front.versions = omega (arith, ap length h.versions, length-append front.versions (h.version ∷ [])) in
    let here : Some h.version ≡ Some v = sym (get-last front.versions h.version) ∙ ap (λ xs. slice_get xs (length front.versions)) (sym h.versions) ∙ ap (slice_get all.versions) (sym m) ∙ at in
    let own : h.version ≡ v = cc in
    let whole : all.versions ≡ front.versions ++ v ∷ [] = h.versions ∙ ap (λ u. front.versions ++ u ∷ []) own in
    let last : IsLast v.row front.versions (length front.versions) l = is-last-front v.row front.versions v (length front.versions) l (omega arith) (subst (λ xs. IsLast v.row xs (length front.versions) l) whole (subst (λ k. IsLast v.row all.versions k l) m (a.each n v l at there))) in
    forgets front.versions v lasts news l (subst (λ xs. AreNewest xs lasts) whole b) last is
