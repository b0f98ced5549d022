-- A home that is set, and a mark that is taken away.
use Rattle.std.proofs.Common.{◌≡◌, ℕ, ◌<◌, ◌==◌, Bool, true, false, cond, List, length, Option, Some, unwrap_or, slice_get, refl, sym, ap, subst, ◌∙◌, arith}
use Rattle.std.proofs.lemmas.Bool.Decides.{nat_tests}
use Rattle.doc_values.specs.declared.attr_id.AttrId.{AttrId}
use Rattle.doc_values.specs.declared.kind.Kind.{Kind}
use Rattle.attr_catalog.specs.Attribute.{Attribute, same_home, housed, cleared}
use Rattle.attr_catalog.specs.Catalog.{changed}
use Rattle.attr_catalog.specs.declared.home.Home.{Home}
use Rattle.layout_store.specs.Storage.{Storage}
use Rattle.layout_store.specs.Placed.{ArePlaced, IsLayout}
use Rattle.layout_store.specs.Shows.{ShowsTheSame, HoldsTheSame}
use Rattle.layout_store.specs.Changes.{AreChanged}
use Rattle.layout_store.proofs.Attributes.{at_one, one-changed, pairs-kept, counts-kept}
use Rattle.layout_store.proofs.Moves.{with_attributes}
use Rattle.layout_store.proofs.Same.{documents-same, shows-same}
use Rattle.layout_store.proofs.Sides.{StaysAtHome, stays-itself, placed-changed}

-- A change of attributes that keeps names, kinds and counts.
pub record KeepsPair (change : Attribute → Attribute) : Type 0 where
  pub pair : (a : Attribute) → let p : List ℕ × Kind = ((change a).name, (change a).kind) in p ≡ (a.name, a.kind)
  pub count : (a : Attribute) → (change a).count ≡ a.count

module _ (s : Storage) (h : IsLayout s) (id : AttrId) (lt : id.0 < length s.attributes) (change : Attribute → Attribute) (k : KeepsPair change)
    (stays : (a : Attribute) → slice_get s.attributes id.0 ≡ Some a → StaysAtHome s id.0 a (change a)) where
  one : AreChanged (at_one change id.0) s.attributes (changed change id s.attributes)
  one = one-changed change id s.attributes lt

  pairs_by : (t : Bool) (a : Attribute) → let b : Attribute = cond t (change a) a in let p : List ℕ × Kind = (b.name, b.kind) in p ≡ (a.name, a.kind)
  pairs_by true a = k.pair a
  pairs_by false a = refl

  counts_by : (t : Bool) (a : Attribute) → (cond t (change a) a).count ≡ a.count
  counts_by true a = k.count a
  counts_by false a = refl

  holds : HoldsTheSame s (with_attributes s (changed change id s.attributes))
  holds = record {
    pairs = pairs-kept (at_one change id.0) s.attributes (changed change id s.attributes) one (λ i a. pairs_by (i == id.0) a);
    counts = counts-kept (at_one change id.0) s.attributes (changed change id s.attributes) one (λ i a. counts_by (i == id.0) a);
    history = refl;
    held = λ v i. refl;
  }

  all_stay : (i : ℕ) (b : Attribute) → slice_get s.attributes i ≡ Some b → StaysAtHome s i b (at_one change id.0 i b)
  all_stay i b at = by (i == id.0) refl
    where
      by : (t : Bool) → i == id.0 ≡ t → StaysAtHome s i b (cond t (change b) b)
      by true e = let is : i ≡ id.0 = grind (arith, nat_tests) in subst (λ (j : ℕ). StaysAtHome s j b (change b)) (sym is) (stays b (ap (slice_get s.attributes) (sym is) ∙ at))
      by false e = stays-itself s h.placed i b at

  pub changed-layout : IsLayout (with_attributes s (changed change id s.attributes))
  changed-layout = record {
    placed = placed-changed s (changed change id s.attributes) (at_one change id.0) one h.placed all_stay;
    documents = documents-same s (with_attributes s (changed change id s.attributes)) holds h.documents;
  }

  pub changed-shows : ShowsTheSame s (with_attributes s (changed change id s.attributes))
  changed-shows = shows-same s (with_attributes s (changed change id s.attributes)) holds

-- ---- a home

pub housed_keeps : (to : Home) → KeepsPair (housed to)
housed_keeps to = record { pair = λ a. pair_by a (same_home a.home to); count = λ a. count_by a (same_home a.home to) }
  where
    pair_by : (a : Attribute) (t : Bool) → let b : Attribute = cond t a (record a { home = to; mark = Some 0 }) in let p : List ℕ × Kind = (b.name, b.kind) in p ≡ (a.name, a.kind)
    pair_by a true = refl
    pair_by a false = refl

    count_by : (a : Attribute) (t : Bool) → (cond t a (record a { home = to; mark = Some 0 })).count ≡ a.count
    count_by a true = refl
    count_by a false = refl

pub housed_stays : (s : Storage) → ArePlaced s → (id : ℕ) (to : Home) (a : Attribute) → slice_get s.attributes id ≡ Some a → StaysAtHome s id a (housed to a)
housed_stays s h id to a at = by (same_home a.home to)
  where
    by : (t : Bool) → StaysAtHome s id a (cond t a (record a { home = to; mark = Some 0 }))
    by true = stays-itself s h id a at
    by false = record { kind = refl; home = λ v lt. absurd (omega arith); mark = omega arith }

-- ---- a mark

pub cleared_keeps : KeepsPair cleared
cleared_keeps = record { pair = λ a. refl; count = λ a. refl }

pub cleared_stays : (s : Storage) → ArePlaced s → (id : ℕ) (a : Attribute) → slice_get s.attributes id ≡ Some a → a.mark ≡ Some (length s.history.versions) → StaysAtHome s id a (cleared a)
cleared_stays s h id a at mark = record {
  kind = refl;
  home = λ v lt. h.home v id a at (subst (λ (o : Option ℕ). v < unwrap_or o (length s.history.versions)) (sym mark) lt);
  mark = tt;
}
