-- Everything fits together after each call.
use Rattle.std.proofs.Common.{◌≡◌, ◌≢◌, ℕ, suc, ◌+◌, ◌<◌, ◌≤◌, ◌⊎◌, inl, inr, Bool, true, false, max, cond, nat_lt, List, [], ◌∷◌, ◌++◌, length, take, drop, map, set, Option, Some, None, slice_get, refl, sym, ap, subst, ◌∙◌, arith, length-append, length-set}
use Rattle.std.specs.List.{filter}
use Rattle.std.proofs.lemmas.Bool.{le-ltb, false≢true}
use Rattle.std.proofs.lemmas.Option.{slice_get_within}
use Rattle.std.proofs.lemmas.List.{length-map}
use Rattle.row_versions.specs.declared.version.Version.{Version}
use Rattle.row_versions.specs.History.{most_versions, rows_of, newest, begun, ended, given_up, end_before, reopened, rolled_back}
use Rattle.row_versions.specs.Order.{HasEndedBy, BeginsRise, AreOrdered, IsLatest, KeepsOrder}
use Rattle.row_versions.specs.Inside.{AreLinked, AreNewest, AreEnded, SplitsEnds, BelongTogether, Linked, noted}
use Rattle.row_versions.proofs.Places.{get-push, get-set, get-map}
use Rattle.row_versions.proofs.Seen.{all-ended, by-then, is_the_last}
use Rattle.row_versions.proofs.RolledBack.{below, kept-rolled}
use Rattle.row_versions.proofs.EndPlaces.{ended-push, ended-same, fewer-ended}
use Rattle.row_versions.proofs.Inserted.{ended-insert}
use Rattle.row_versions.proofs.LastPlaces.{linked-push}
use Rattle.row_versions.proofs.Rows.{rows-are, rows-set, linked-rows, newest-rows, link-of, newest-push}

-- ---- a version is appended

module _ (xs : List Version) (row commit : ℕ) (o : AreOrdered xs) (latest : IsLatest commit xs) (none : newest row xs ≡ None) where
  begin_new : (w : Version) → w ≡ begun row commit → w.begin ≡ commit
  begin_new w e = ap (λ (u : Version). u.begin) e

  no_end : (w : Version) (end : ℕ) → w ≡ begun row commit → w.end ≡ Some end → ⊥
  no_end w end e h = let impossible : None ≡ Some end = ap (λ (u : Version). u.end) (sym e) ∙ h in absurd (cc)

  rise_by : (i j : ℕ) (a b : Version) → i < j → (slice_get xs i ≡ Some a) ⊎ ((i ≡ length xs) × (a ≡ begun row commit)) → (slice_get xs j ≡ Some b) ⊎ ((j ≡ length xs) × (b ≡ begun row commit)) → a.begin ≤ b.begin
  rise_by i j a b lt (inl at) (inl there) = o.rise i j a b lt at there
  rise_by i j a b lt (inl at) (inr new) = omega (arith, latest.begins i a at, begin_new b new.1)
  rise_by i j a b lt (inr new) (inl there) = absurd (omega (arith, new.0, slice_get_within xs j b there))
  rise_by i j a b lt (inr new) (inr more) = absurd (omega (arith, new.0, more.0))

  follow_by : (i j : ℕ) (a b : Version) → i < j → a.row ≡ b.row → (slice_get xs i ≡ Some a) ⊎ ((i ≡ length xs) × (a ≡ begun row commit)) → (slice_get xs j ≡ Some b) ⊎ ((j ≡ length xs) × (b ≡ begun row commit)) → HasEndedBy b.begin a
  follow_by i j a b lt e (inl at) (inl there) = o.follow i j a b lt at there e
  follow_by i j a b lt e (inl at) (inr new) = by-then commit b.begin a (all-ended row commit xs latest none i a at (e ∙ ap (λ (u : Version). u.row) new.1)) (omega (arith, begin_new b new.1))
  follow_by i j a b lt e (inr new) (inl there) = absurd (omega (arith, new.0, slice_get_within xs j b there))
  follow_by i j a b lt e (inr new) (inr more) = absurd (omega (arith, new.0, more.0))

  ordered_push : AreOrdered (xs ++ begun row commit ∷ [])
  ordered_push = record {
    rise = λ i j a b lt at there. rise_by i j a b lt (get-push xs (begun row commit) i a at) (get-push xs (begun row commit) j b there);
    last = λ i v end at e. elim (get-push xs (begun row commit) i v at) [ inl old ↦ o.last i v end old e | inr new ↦ absurd (no_end v end new.1 e) ];
    follow = λ i j a b lt at there e. follow_by i j a b lt e (get-push xs (begun row commit) i a at) (get-push xs (begun row commit) j b there);
  }

pub append-keeps : (xs : List Version) (ls : List (Option ℕ)) (lasts ends : List ℕ) (horizon room more row commit : ℕ) → BelongTogether xs ls lasts ends horizon room → IsLatest commit xs → newest row xs ≡ None → row ≤ rows_of xs → length xs ≢ most_versions → length xs + 1 ≤ more
    → BelongTogether (xs ++ begun row commit ∷ []) (ls ++ slice_get lasts row ∷ []) (noted row (length xs) lasts) ends horizon more
append-keeps xs ls lasts ends horizon room more row commit b latest none most ne fits = record {
  kept = record {
    ordered = ordered_push xs row commit b.kept.ordered latest none;
    few = let f = b.kept.few in omega (arith, length-append xs (begun row commit ∷ []));
    emptied = λ i v at gone. elim (get-push xs (begun row commit) i v at) [
      | inl old ↦ b.kept.emptied i v old gone
      | inr new ↦ absurd (false≢true (ap (λ (u : Version). u.emptied) (sym new.1) ∙ gone))
    ];
  };
  linked = linked-push xs (begun row commit) ls (slice_get lasts row) (link-of row xs lasts b.newest) b.linked;
  newest = newest-push xs lasts (begun row commit) b.newest (omega (arith, rows-are xs lasts b.newest));
  ends = ended-push xs ends (begun row commit) refl b.ends;
  fits = omega (arith, length-append xs (begun row commit ∷ []));
}

-- what the code knows when it appended
pub appended-together : (before after : Linked) (lasts grown news ends more_ends : List ℕ) (horizon room more row commit place : ℕ) (version : Version) (link : Option ℕ) → BelongTogether before.versions before.links lasts ends horizon room
    → IsLatest commit before.versions → newest row before.versions ≡ None → row ≤ rows_of before.versions → place ≡ length before.versions → place ≢ most_versions → length before.versions + 1 ≤ more
    → after ≡ record { versions = before.versions ++ version ∷ []; links = before.links ++ link ∷ [] } → version ≡ begun row commit → link ≡ slice_get lasts row → grown ≡ lasts → news ≡ noted row place grown → more_ends ≡ ends
    → BelongTogether after.versions after.links news more_ends horizon more
appended-together before after lasts grown news ends more_ends horizon room more row commit place version link b latest none most at ne fits made begins linked same noting kept =
    let k = append-keeps before.versions before.links lasts ends horizon room more row commit b latest none most (λ e. ne (at ∙ e)) fits in
    let whole : after ≡ record { versions = before.versions ++ begun row commit ∷ []; links = before.links ++ slice_get lasts row ∷ [] } =
    made ∙ ap (λ (v : Version). record { versions = before.versions ++ v ∷ []; links = before.links ++ link ∷ [] }) begins ∙ ap (λ (l : Option ℕ). record { versions = before.versions ++ begun row commit ∷ []; links = before.links ++ l ∷ [] }) linked in
    let noted_is : news ≡ noted row (length before.versions) lasts = noting ∙ ap (noted row place) same ∙ ap (λ p. noted row p lasts) at in
    subst (λ (l : Linked). BelongTogether l.versions l.links news more_ends horizon more) (sym whole)
    (subst (λ z. BelongTogether (before.versions ++ begun row commit ∷ []) (before.links ++ slice_get lasts row ∷ []) z more_ends horizon more) (sym noted_is)
    (subst (λ z. BelongTogether (before.versions ++ begun row commit ∷ []) (before.links ++ slice_get lasts row ∷ []) (noted row (length before.versions) lasts) z horizon more) (sym kept) k))

-- ---- a version ends

module _ (xs : List Version) (k commit : ℕ) (v : Version) (o : AreOrdered xs) (at : slice_get xs k ≡ Some v) (none : v.end ≡ None) (begins : v.begin ≤ commit) where
  -- a version of the changed list is one of the list before, or the ended one
  was : (i : ℕ) (w : Version) → slice_get (set xs k (ended commit v)) i ≡ Some w → (u : Version) × (slice_get xs i ≡ Some u) × (w.row ≡ u.row) × (w.begin ≡ u.begin)
  was i w there = elim (get-set xs k (ended commit v) i w there) [
    | inl here ↦ (v, ap (slice_get xs) here.0 ∙ at, ap (λ (u : Version). u.row) here.1, ap (λ (u : Version). u.begin) here.1)
    | inr else ↦ (w, else.1, refl, refl)
  ]

  last_by : (i : ℕ) (w : Version) (end : ℕ) → w.end ≡ Some end → ((i ≡ k) × (w ≡ ended commit v)) ⊎ ((i ≡ k → ⊥) × (slice_get xs i ≡ Some w)) → w.begin ≤ end
  last_by i w end e (inl here) = let c : Some commit ≡ Some end = ap (λ (u : Version). u.end) (sym here.1) ∙ e in let same : commit ≡ end = cc in let b : w.begin ≡ v.begin = ap (λ (u : Version). u.begin) here.1 in omega arith
  last_by i w end e (inr else) = o.last i w end else.1 e

  follow_set : (i j : ℕ) (a b : Version) → i < j → slice_get (set xs k (ended commit v)) j ≡ Some b → a.row ≡ b.row → ((i ≡ k) × (a ≡ ended commit v)) ⊎ ((i ≡ k → ⊥) × (slice_get xs i ≡ Some a)) → HasEndedBy b.begin a
  follow_set i j a b lt there e (inl here) =
      let u = was j b there in
      absurd (is_the_last k commit v xs o at none commit (omega arith) begins j u.0 (omega (arith, here.0)) u.1 (ap (λ (z : Version). z.row) (sym here.1) ∙ e ∙ u.2))
  follow_set i j a b lt there e (inr else) =
      let u = was j b there in
      by-then u.0.begin b.begin a (o.follow i j a u.0 lt else.1 u.1 (e ∙ u.2)) (omega (arith, u.3))

  pub ordered-set : AreOrdered (set xs k (ended commit v))
  ordered-set = record {
    rise = λ i j a b lt found there. let u = was i a found in let w = was j b there in omega (arith, o.rise i j u.0 w.0 lt u.1 w.1, u.3, w.3);
    last = λ i w end found e. last_by i w end e (get-set xs k (ended commit v) i w found);
    follow = λ i j a b lt found there e. follow_set i j a b lt there e (get-set xs k (ended commit v) i a found);
  }

pub end-keeps : (xs : List Version) (ls : List (Option ℕ)) (lasts ends : List ℕ) (horizon room k commit at : ℕ) (v : Version) → BelongTogether xs ls lasts ends horizon room → slice_get xs k ≡ Some v → v.end ≡ None → v.begin ≤ commit → SplitsEnds commit xs ends at
    → BelongTogether (set xs k (ended commit v)) ls lasts (take at ends ++ (k ∷ drop at ends)) horizon room
end-keeps xs ls lasts ends horizon room k commit at v b there none begins s = record {
  kept = record {
    ordered = ordered-set xs k commit v b.kept.ordered there none begins;
    few = let f = b.kept.few in omega (arith, length-set xs k (ended commit v));
    emptied = λ i w found gone. elim (get-set xs k (ended commit v) i w found) [
      | inl here ↦ let h = b.kept.emptied k v there (ap (λ (u : Version). u.emptied) (sym here.1) ∙ gone) in let impossible : None ≡ Some h.0 = sym none ∙ h.1 in absurd (cc)
      | inr else ↦ b.kept.emptied i w else.1 gone
    ];
  };
  linked = linked-rows xs (set xs k (ended commit v)) (rows-set xs k v (ended commit v) there refl) ls b.linked;
  newest = newest-rows xs (set xs k (ended commit v)) (rows-set xs k v (ended commit v) there refl) lasts b.newest;
  ends = ended-insert xs ends k commit at v there none b.ends s;
  fits = let f = b.fits in omega (arith, length-set xs k (ended commit v));
}

-- there is room for one end more where a version has none
pub end-fits : (xs : List Version) (ls : List (Option ℕ)) (lasts ends : List ℕ) (horizon room k : ℕ) (v : Version) → BelongTogether xs ls lasts ends horizon room → slice_get xs k ≡ Some v → v.end ≡ None → length ends < room
end-fits xs ls lasts ends horizon room k v b there none = omega (arith, b.fits, b.ends.counted, fewer-ended xs k v there none)

-- ---- a version is emptied

module _ (xs : List Version) (k : ℕ) (v : Version) (o : AreOrdered xs) (at : slice_get xs k ≡ Some v) where
  same_but : (i : ℕ) (w : Version) → slice_get (set xs k (given_up v)) i ≡ Some w → (u : Version) × (slice_get xs i ≡ Some u) × (w.row ≡ u.row) × (w.begin ≡ u.begin) × (w.end ≡ u.end)
  same_but i w there = elim (get-set xs k (given_up v) i w there) [
    | inl here ↦ (v, ap (slice_get xs) here.0 ∙ at, ap (λ (u : Version). u.row) here.1, ap (λ (u : Version). u.begin) here.1, ap (λ (u : Version). u.end) here.1)
    | inr else ↦ (w, else.1, refl, refl, refl)
  ]

  ordered_emptied : AreOrdered (set xs k (given_up v))
  ordered_emptied = record {
    rise = λ i j a b lt found there. let u = same_but i a found in let w = same_but j b there in omega (arith, o.rise i j u.0 w.0 lt u.1 w.1, u.3, w.3);
    last = λ i w end found e. let u = same_but i w found in omega (arith, o.last i u.0 end u.1 (sym u.4 ∙ e), u.3);
    follow = λ i j a b lt found there e.
        let u = same_but i a found in
        let w = same_but j b there in
        let h = o.follow i j u.0 w.0 lt u.1 w.1 (sym u.2 ∙ e ∙ w.2) in
        (h.0, u.4 ∙ h.1, omega (arith, h.2, w.3));
  }

pub empty-keeps : (xs : List Version) (ls : List (Option ℕ)) (lasts ends : List ℕ) (horizon room k to : ℕ) (v : Version) → BelongTogether xs ls lasts ends horizon room → slice_get xs k ≡ Some v → HasEndedBy to v → BelongTogether (set xs k (given_up v)) ls lasts ends (max horizon to) room
empty-keeps xs ls lasts ends horizon room k to v b there h = record {
  kept = record {
    ordered = ordered_emptied xs k v b.kept.ordered there;
    few = let f = b.kept.few in omega (arith, length-set xs k (given_up v));
    emptied = λ i w found gone. elim (get-set xs k (given_up v) i w found) [
      | inl here ↦ (h.0, ap (λ (u : Version). u.end) here.1 ∙ h.1, omega (arith, h.2))
      | inr else ↦ by-then horizon (max horizon to) w (b.kept.emptied i w else.1 gone) (omega arith)
    ];
  };
  linked = linked-rows xs (set xs k (given_up v)) (rows-set xs k v (given_up v) there refl) ls b.linked;
  newest = newest-rows xs (set xs k (given_up v)) (rows-set xs k v (given_up v) there refl) lasts b.newest;
  ends = ended-same xs k v (given_up v) there refl ends b.ends;
  fits = let f = b.fits in omega (arith, length-set xs k (given_up v));
}

-- ---- a commit is taken back

filter_shorter : (p : Version → Bool) (xs : List Version) → length (filter p xs) ≤ length xs
filter_shorter p [] = omega arith
filter_shorter p (x ∷ xs) = by (p x) (filter p xs) (filter_shorter p xs)
  where
    by : (b : Bool) (ys : List Version) → length ys ≤ length xs → length (cond b (x ∷ ys) ys) ≤ suc (length xs)
    by true ys h = omega arith
    by false ys h = omega arith

filter_map : (commit : ℕ) (xs : List Version) → filter (below commit) (map (reopened commit) xs) ≡ rolled_back commit xs
filter_map commit [] = refl
filter_map commit (x ∷ xs) = through (nat_lt x.begin commit) (filter (below commit) (map (reopened commit) xs)) (filter (below commit) xs) (filter_map commit xs)
  where
    through : (b : Bool) (ys zs : List Version) → ys ≡ map (reopened commit) zs → cond b (reopened commit x ∷ ys) ys ≡ map (reopened commit) (cond b (x ∷ zs) zs)
    through true ys zs h = ap (λ l. reopened commit x ∷ l) h
    through false ys zs h = h

pub rolled-is : (commit : ℕ) (xs ys zs : List Version) → ys ≡ map (reopened commit) xs → zs ≡ filter (below commit) ys → zs ≡ rolled_back commit xs
rolled-is commit xs ys zs e f = f ∙ ap (filter (below commit)) e ∙ filter_map commit xs

pub reopened-rise : (commit : ℕ) (xs ys : List Version) → ys ≡ map (reopened commit) xs → BeginsRise xs → BeginsRise ys
reopened-rise commit xs ys e rise i j a b lt at there =
    let u = get-map (reopened commit) xs i a (ap (λ l. slice_get l i) (sym e) ∙ at) in
    let w = get-map (reopened commit) xs j b (ap (λ l. slice_get l j) (sym e) ∙ there) in
    omega (arith, rise i j u.0 w.0 lt u.1 w.1, ap (λ (z : Version). z.begin) u.2, ap (λ (z : Version). z.begin) w.2)

end_gone : (commit : ℕ) (o : Option ℕ) → ((end : ℕ) → o ≡ Some end → commit ≤ end) → end_before commit o ≡ None
end_gone commit None h = refl
end_gone commit (Some end) h = ap (λ b. cond b (Some end) None) (le-ltb end commit (h end refl))

-- what begins from the commit on has no end when it is reopened
pub reopened-endless : (commit : ℕ) (xs ys : List Version) → ys ≡ map (reopened commit) xs → AreOrdered xs → (i : ℕ) (w : Version) → slice_get ys i ≡ Some w → commit ≤ w.begin → w.end ≡ None
reopened-endless commit xs ys e o i w at le =
    let u = get-map (reopened commit) xs i w (ap (λ l. slice_get l i) (sym e) ∙ at) in
    ap (λ (z : Version). z.end) u.2 ∙ end_gone commit u.0.end (λ end is. omega (arith, o.last i u.0 end u.1 is, ap (λ (z : Version). z.begin) u.2))

pub rolled-keeps : (xs ys zs : List Version) (ls : List (Option ℕ)) (lasts ends : List ℕ) (horizon room commit : ℕ) (b : KeepsOrder (record { versions = xs; horizon = horizon })) → horizon < commit → ys ≡ map (reopened commit) xs → zs ≡ filter (below commit) ys
    → AreLinked zs ls → AreNewest zs lasts → AreEnded zs ends → length xs ≤ room → BelongTogether zs ls lasts ends horizon room
rolled-keeps xs ys zs ls lasts ends horizon room commit b above e f linked newest ended fits =
    let is = rolled-is commit xs ys zs e f in
    let short : length zs ≤ length xs = omega (arith, ap length f, filter_shorter (below commit) ys, ap length e, length-map xs (reopened commit)) in
    record {
      kept = subst (λ l. KeepsOrder (record { versions = l; horizon = horizon })) (sym is) (kept-rolled commit horizon xs b above (omega (arith, ap length is)));
      linked = linked;
      newest = newest;
      ends = ended;
      fits = omega arith;
    }

-- what the code knows when it ended, emptied and took back
pub ended-together : (before after : Linked) (lasts ends news : List ℕ) (horizon room more k commit at : ℕ) (v w : Version) → BelongTogether before.versions before.links lasts ends horizon room → slice_get before.versions k ≡ Some v → v.end ≡ None → v.begin ≤ commit → SplitsEnds commit before.versions ends at
    → after ≡ record { versions = set before.versions k w; links = before.links } → w ≡ ended commit v → news ≡ take at ends ++ (k ∷ drop at ends) → more ≡ room → BelongTogether after.versions after.links lasts news horizon more
ended-together before after lasts ends news horizon room more k commit at v w b there none begins s made is put same =
    let r = end-keeps before.versions before.links lasts ends horizon room k commit at v b there none begins s in
    let whole : after ≡ record { versions = set before.versions k (ended commit v); links = before.links } = made ∙ ap (λ (u : Version). record { versions = set before.versions k u; links = before.links }) is in
    subst (λ (l : Linked). BelongTogether l.versions l.links lasts news horizon more) (sym whole)
    (subst (λ z. BelongTogether (set before.versions k (ended commit v)) before.links lasts z horizon more) (sym put)
    (subst (λ z. BelongTogether (set before.versions k (ended commit v)) before.links lasts (take at ends ++ (k ∷ drop at ends)) horizon z) (sym same) r))

pub emptied-together : (before after : Linked) (lasts ends : List ℕ) (horizon room k to top : ℕ) (v w : Version) → BelongTogether before.versions before.links lasts ends horizon room → slice_get before.versions k ≡ Some v → HasEndedBy to v
    → after ≡ record { versions = set before.versions k w; links = before.links } → w ≡ given_up v → top ≡ max horizon to → BelongTogether after.versions after.links lasts ends top room
emptied-together before after lasts ends horizon room k to top v w b there h made is high =
    let r = empty-keeps before.versions before.links lasts ends horizon room k to v b there h in
    let whole : after ≡ record { versions = set before.versions k (given_up v); links = before.links } = made ∙ ap (λ (u : Version). record { versions = set before.versions k u; links = before.links }) is in
    subst (λ (l : Linked). BelongTogether l.versions l.links lasts ends top room) (sym whole)
    (subst (λ z. BelongTogether (set before.versions k (given_up v)) before.links lasts ends z room) (sym high) r)
