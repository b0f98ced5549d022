-- A write by the place of its collection among those that are stored.
use Rattle.std.proofs.Common.{◌≡◌, ◌∙◌, ◌⊎◌, inl, inr, ℕ, zero, suc, ◌+◌, ◌<◌, ◌≤◌, Bool, true, false, not, cond, List, [], ◌∷◌, ◌++◌, length, get_or, map, set, nat_lt, Option, Some, None, unwrap_or, option_map, slice_get, refl, sym, ap, subst, arith, length-append, length-set}
use Rattle.std.proofs.lemmas.Bool.{cond-true, cond-false}
use Rattle.std.proofs.lemmas.Bool.Decides.{nat_tests}
use Rattle.std.proofs.lemmas.List.{length-map, map-append}
use Rattle.std.proofs.lemmas.List.Quantifiers.{position-Some}
use Rattle.std.proofs.lemmas.Option.{same_Some, none-some, slice_get_within, slice_get_past, slice_get-map, slice_get_read}
use Rattle.std.specs.Prelude.{Result, Ok, Err, OnErr}
use Rattle.std.specs.List.{position, position_or_len, find}
use Rattle.row_versions.specs.Shows.{LatestStays}
use Rattle.row_versions.proofs.Places.{get-set, get-push, get-within}
use Rattle.doc_values.specs.Doc.{Fields}
use Rattle.shown_rows.specs.Rows.{Row, rows_at}
use Rattle.shown_rows.specs.Follow.{RowsFollow}
use Rattle.write_plans.specs.Becomes.{collection_in, IsSettled, HasBecome, StandsAsBefore}
use Rattle.write_plans.proofs.Back.{stands-same}
use Rattle.commit_core.specs.State.{Collection, State, is_named, collection_at, most_collections}
use Rattle.commit_core.specs.Write.{new_collection, with_documents, with_load, is_beyond, is_full}
use Rattle.commit_core.specs.Stored.{Stored, nothing_stored, stored_in, is_table, table_at, HasChanged, HasGone, stood, HaveBecome, IsAsBefore, AreAsBefore, AreSettled}
use Rattle.commit_core.proofs.Places.{loaded-at, loaded-new, full-loaded, full-loaded_new, full-crowded}

-- ---- places of stored collections and of the state's

where_by : (name : List ℕ) (n : ℕ) (t : Bool) (k len : ℕ) → cond (not t) (1 + k) 0 ≡ cond (not t) (1 + k) 0
where_by name n t k len = refl

place_or : (name : List ℕ) (n : ℕ) (tables : List Stored) → position_or_len (is_named name) (map (stored_in n) tables) ≡ position_or_len (is_table name) tables
place_or name n [] = refl
place_or name n (t ∷ tables) = ap (λ k. cond (not (is_table name t)) (1 + k) 0) (place_or name n tables)

pub position-stored : (name : List ℕ) (n : ℕ) (tables : List Stored) → position (is_named name) (map (stored_in n) tables) ≡ position (is_table name) tables
position-stored name n tables =
    let same = place_or name n tables in
    let long = length-map tables (stored_in n) in
    λ i. cond (nat_lt (same i) (long i)) (Some (same i)) None

pub found-stored : (name : List ℕ) (n : ℕ) (tables : List Stored) → collection_at name (map (stored_in n) tables) ≡ option_map (stored_in n) (table_at name tables)
found-stored name n [] = refl
found-stored name n (t ∷ tables) = by (is_table name t) (found-stored name n tables)
  where
    by : (b : Bool) → collection_at name (map (stored_in n) tables) ≡ option_map (stored_in n) (table_at name tables) → cond b (Some (stored_in n t)) (collection_at name (map (stored_in n) tables)) ≡ option_map (stored_in n) (cond b (Some t) (table_at name tables))
    by true h = refl
    by false h = h

-- ---- what a commit leaves alone

module _ (follow : RowsFollow) (stays : LatestStays) (now : ℕ) where
  pub stays-settled : (t : Stored) → IsSettled now t.storage → IsSettled (now + 1) t.storage
  stays-settled t h = record { latest = stays.later now (now + 1) t.storage.history.versions h.latest (omega arith); horizon = omega (arith, h.horizon) }

  pub stays-same : (t : Stored) → IsSettled now t.storage → stored_in (now + 1) t ≡ stored_in now t
  stays-same t h =
      let rows : rows_at t.storage (now + 1) ≡ rows_at t.storage now = follow.same t.storage t.storage now (now + 1) (λ row. follow.latest t.storage now (now + 1) row h.latest (omega arith)) in
      ap (λ (rs : List Row). record { name = t.name; rows = rs; next_row = (stored_in now t).next_row; versions = (stored_in now t).versions; pairs = (stored_in now t).pairs }) rows

  stays-gone : (t : Stored) → IsSettled now t.storage → HasGone now t t
  stays-gone t h = record { named = refl; settled = stays-settled t h; horizon = refl; earlier = λ n le. refl }

  stays-all : (tables : List Stored) → AreSettled now tables → map (stored_in (now + 1)) tables ≡ map (stored_in now) tables
  stays-all [] h = refl
  stays-all (t ∷ tables) h =
      let first = stays-same t (h 0 t refl) in
      let rest = stays-all tables (λ i u at. h (suc i) u at) in
      λ i. first i ∷ rest i

  changed-gone : (change : Collection → Collection) (before after : Stored) → IsSettled now before.storage → HasChanged change now before after → HasGone now before after
  changed-gone change before after h c = record {
    named = c.named;
    settled = record { latest = c.storage.latest; horizon = omega (arith, h.horizon, c.storage.horizon) };
    horizon = c.storage.horizon;
    earlier = c.storage.earlier;
  }

  changed-is : (change : Collection → Collection) (before after : Stored) → HasChanged change now before after → stored_in (now + 1) after ≡ change (stored_in now before)
  changed-is change before after c = ap (λ (name : List ℕ). collection_in name after.storage (now + 1)) c.named ∙ c.storage.changed before.name

  map_set : (tables : List Stored) (i : ℕ) (new : Stored) → map (stored_in (now + 1)) (set tables i new) ≡ set (map (stored_in (now + 1)) tables) i (stored_in (now + 1) new)
  map_set [] i new = refl
  map_set (t ∷ tables) zero new = refl
  map_set (t ∷ tables) (suc i) new = ap (λ (s : State). stored_in (now + 1) t ∷ s) (map_set tables i new)

  get_map : (tables : List Stored) (i : ℕ) (d : Stored) → stored_in now (get_or tables i d) ≡ get_or (map (stored_in now) tables) i (stored_in now d)
  get_map [] i d = refl
  get_map (t ∷ tables) zero d = refl
  get_map (t ∷ tables) (suc i) d = get_map tables i d

  stood-at : (tables : List Stored) (i : ℕ) (t : Stored) (name : List ℕ) → slice_get tables i ≡ Some t → stood tables i name ≡ t
  stood-at tables i t name at = ap (λ (o : Option Stored). unwrap_or o (nothing_stored name)) at

  stood-past : (tables : List Stored) (i : ℕ) (name : List ℕ) → slice_get tables i ≡ None → stood tables i name ≡ nothing_stored name
  stood-past tables i name at = ap (λ (o : Option Stored). unwrap_or o (nothing_stored name)) at

  place-within : (name : List ℕ) (tables self : List Stored) (i : ℕ) (was : Stored) → tables ≡ self → Some i ≡ position (is_table name) self → i < length tables
  place-within name tables self i was same found = let p = position-Some (is_table name) self i was (sym found) in omega (arith, p.0, ap length same)

  pub settled-at : (name : List ℕ) (tables self : List Stored) (i : ℕ) (was : Stored) → tables ≡ self → AreSettled now self → Some i ≡ position (is_table name) self → was ≡ get_or tables i was → IsSettled now was.storage
  settled-at name tables self i was same h found there =
      h i was (ap (λ (l : List Stored). slice_get l i) (sym same) ∙ slice_get_read tables (length tables) i was refl (place-within name tables self i was same found) there)

  pub full-stored : (name : List ℕ) (documents : List Fields) (tables self : List Stored) (i : ℕ) (was : Stored) → tables ≡ self → Some i ≡ position (is_table name) self → was ≡ get_or tables i was → length tables ≤ most_collections
      → is_full name (with_load name documents (map (stored_in now) self)) ≡ is_beyond (with_documents documents (stored_in now was))
  full-stored name documents tables self i was same found there few =
      full-loaded name documents (map (stored_in now) tables) (map (stored_in now) self) i (stored_in now was) (ap (map (stored_in now)) same) (found ∙ sym (position-stored name now self)) (ap (stored_in now) there ∙ get_map tables i was)
      (omega (arith, few, length-map tables (stored_in now)))

  pub full-unstored : (name : List ℕ) (documents : List Fields) (self : List Stored) (was : Stored) → position (is_table name) self ≡ None → was ≡ nothing_stored name → length self < most_collections
      → is_full name (with_load name documents (map (stored_in now) self)) ≡ is_beyond (with_documents documents (stored_in now was))
  full-unstored name documents self was none made few =
      full-loaded_new name documents (map (stored_in now) self) (stored_in now was) (position-stored name now self ∙ none) (ap (stored_in now) made) (omega (arith, few, length-map self (stored_in now)))

  pub crowded-stored : (name : List ℕ) (documents : List Fields) (self : List Stored) → position (is_table name) self ≡ None → most_collections ≤ length self → is_full name (with_load name documents (map (stored_in now) self)) ≡ true
  crowded-stored name documents self none many = full-crowded name documents (map (stored_in now) self) (position-stored name now self ∙ none) (omega (arith, many, length-map self (stored_in now)))

  -- the collection at a place was loaded into
  pub table-loaded : (name : List ℕ) (documents : List Fields) (tables self : List Stored) (i : ℕ) (was new : Stored) → tables ≡ self → AreSettled now self → Some i ≡ position (is_table name) self → was ≡ get_or tables i was
      → HasChanged (with_documents documents) now was new → HaveBecome (with_load name documents (map (stored_in now) self)) now self (set tables i new)
  table-loaded name documents tables self i was new same h found there c =
      let lt = place-within name tables self i was same found in
      let settled : AreSettled now tables = subst (AreSettled now) (sym same) h in
      let at : slice_get tables i ≡ Some was = slice_get_read tables (length tables) i was refl lt there in
      record {
        newest = map_set tables i new
            ∙ ap (λ (s : State). set s i (stored_in (now + 1) new)) (stays-all tables settled)
            ∙ loaded-at name documents (map (stored_in now) tables) (map (stored_in now) self) i (stored_in now was) (stored_in (now + 1) new) (ap (map (stored_in now)) same) (found ∙ sym (position-stored name now self))
            (ap (stored_in now) there ∙ get_map tables i was) (changed-is (with_documents documents) was new c);
        longer = omega (arith, length-set tables i new, ap length same);
        each = λ k t t_at. elim (get-set tables i new k t t_at) [
          | inl here ↦
              let was_at : slice_get self k ≡ Some was = ap (slice_get self) here.0 ∙ ap (λ (l : List Stored). slice_get l i) (sym same) ∙ at in
              subst (λ (b : Stored). HasGone now b t) (sym (stood-at self k was t.name was_at)) (subst (λ (a : Stored). HasGone now was a) (sym here.1) (changed-gone (with_documents documents) was new (settled i was at) c))
          | inr other ↦
              let was_at : slice_get self k ≡ Some t = ap (λ (l : List Stored). slice_get l k) (sym same) ∙ other.1 in
              subst (λ (b : Stored). HasGone now b t) (sym (stood-at self k t t.name was_at)) (stays-gone t (h k t was_at))
        ];
      }

  -- nothing is stored of a name yet
  pub nothing-settled : (name : List ℕ) → IsSettled now (nothing_stored name).storage
  nothing-settled name = record { latest = stays.new now; horizon = omega arith }

  pub table-new : (name : List ℕ) (documents : List Fields) (tables self pushed : List Stored) (was new : Stored) → tables ≡ self → AreSettled now self → position (is_table name) self ≡ None → was ≡ nothing_stored name
      → HasChanged (with_documents documents) now was new → pushed ≡ tables ++ new ∷ [] → HaveBecome (with_load name documents (map (stored_in now) self)) now self pushed
  table-new name documents tables self pushed was new same h none made c is =
      let settled : AreSettled now tables = subst (AreSettled now) (sym same) h in
      let from : HasGone now (nothing_stored name) new = subst (λ (b : Stored). HasGone now b new) made (changed-gone (with_documents documents) was new (subst (λ (b : Stored). IsSettled now b.storage) (sym made) (nothing-settled name)) c) in
      let named : new.name ≡ name = from.named in
      record {
        newest = ap (map (stored_in (now + 1))) is ∙ map-append (stored_in (now + 1)) tables (new ∷ [])
            ∙ ap (λ (s : State). s ++ stored_in (now + 1) new ∷ []) (stays-all tables settled)
            ∙ loaded-new name documents (map (stored_in now) tables) (map (stored_in now) self) (map (stored_in now) tables ++ stored_in (now + 1) new ∷ []) (stored_in now was) (stored_in (now + 1) new) (ap (map (stored_in now)) same) (position-stored name now self ∙ none)
            (ap (stored_in now) made) (changed-is (with_documents documents) was new c) refl;
        longer = omega (arith, ap length is, length-append tables (new ∷ []), ap length same);
        each = λ k t t_at. elim (get-push tables new k t (ap (λ (l : List Stored). slice_get l k) (sym is) ∙ t_at)) [
          | inl old ↦
              let was_at : slice_get self k ≡ Some t = ap (λ (l : List Stored). slice_get l k) (sym same) ∙ old in
              subst (λ (b : Stored). HasGone now b t) (sym (stood-at self k t t.name was_at)) (stays-gone t (h k t was_at))
          | inr last ↦
              let past : slice_get self k ≡ None = slice_get_past self k (omega (arith, last.0, ap length same)) in
              let t_named : t.name ≡ name = ap (λ (x : Stored). x.name) last.1 ∙ named in
              subst (λ (b : Stored). HasGone now b t) (sym (stood-past self k t.name past ∙ ap nothing_stored t_named)) (subst (λ (a : Stored). HasGone now (nothing_stored name) a) (sym last.1) from)
        ];
      }

-- ---- what is left where a write is not done

pub on-err : {T E P : Type 0} (r : Result T E) → P → OnErr r P
on-err (Ok x) p = tt
on-err (Err e) p = p

pub same-err : {T E : Type 0} (r : Result T E) (a b : E) → r ≡ Err a → r ≡ Err b → a ≡ b
same-err r a b p q = cc

pub before-same : (tables : List Stored) → AreAsBefore tables tables
before-same tables = record {
  many = refl;
  each = λ i t u t_at u_at. subst (λ (x : Stored). IsAsBefore t x) (same_Some t u (sym t_at ∙ u_at)) (record { named = refl; storage = stands-same t.storage; shows = λ n row. refl });
}

pub before-set : (name : List ℕ) (tables self : List Stored) (i : ℕ) (was new : Stored) → tables ≡ self → Some i ≡ position (is_table name) self → was ≡ get_or tables i was → IsAsBefore was new → AreAsBefore self (set tables i new)
before-set name tables self i was new same found there h =
    let p = position-Some (is_table name) self i was (sym found) in
    let lt : i < length tables = omega (arith, p.0, ap length same) in
    let at : slice_get tables i ≡ Some was = slice_get_read tables (length tables) i was refl lt there in
    record {
      many = length-set tables i new ∙ ap length same;
      each = λ k t u t_at u_at. elim (get-set tables i new k u u_at) [
        | inl here ↦
            let first : t ≡ was = same_Some t was (sym t_at ∙ ap (slice_get self) here.0 ∙ ap (λ (l : List Stored). slice_get l i) (sym same) ∙ at) in
            subst (λ (x : Stored). IsAsBefore x u) (sym first) (subst (λ (x : Stored). IsAsBefore was x) (sym here.1) h)
        | inr other ↦
            let first : t ≡ u = same_Some t u (sym t_at ∙ ap (λ (l : List Stored). slice_get l k) (sym same) ∙ other.1) in
            subst (λ (x : Stored). IsAsBefore t x) first (record { named = refl; storage = stands-same t.storage; shows = λ n row. refl })
      ];
    }
