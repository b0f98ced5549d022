-- What the numbers of a catalog stand for.
use Rattle.std.proofs.Common.{◌≡◌, ℕ, zero, suc, ◌&&◌, nat_eq, Bool, true, false, List, [], ◌∷◌, get_or, Option, Some, None, option_map, slice_get, position, refl, sym, ap, ◌∙◌, arith, true≢false}
use Rattle.std.specs.List.{Contains}
use Rattle.std.specs.Str.{bytes_eq}
use Rattle.std.proofs.lemmas.Bool.Decides.{nat_tests}
use Rattle.std.proofs.lemmas.List.Quantifiers.{position-Some}
use Rattle.std.proofs.lemmas.Option.{slice_get-map, slice_get-get_or, same_Some, none-some}
use Rattle.std.proofs.lemmas.Slice.Eq.{bytes_eq-Decides}
use Rattle.doc_values.specs.Order.{rank}
use Rattle.doc_values.specs.declared.attr_id.AttrId.{AttrId}
use Rattle.doc_values.specs.declared.kind.Kind.{Kind}
use Rattle.doc_values.specs.declared.kind.Kind.TheVariants as kind
use Rattle.attr_catalog.specs.Attribute.{Attribute, fresh}
use Rattle.attr_catalog.specs.Catalog.{is_of, number, id_of}
use Rattle.document_records.specs.StoredDocument.{pairs_of}

-- ---- lists

pub contains_head : {X : Type 0} (x : X) (xs : List X) → Contains (x ∷ xs) x
contains_head x xs = (0, omega arith, refl)

pub contains_later : {X : Type 0} (y x : X) (xs : List X) → Contains xs x → Contains (y ∷ xs) x
contains_later y x xs h = (suc h.0, omega (arith, h.1), h.2)

-- ---- the numbers of a catalog

same_rank : (a b : Kind) → rank a ≡ rank b → a ≡ b
same_rank kind.Bool kind.Bool e = refl
same_rank kind.Int kind.Int e = refl
same_rank kind.Text kind.Text e = refl
same_rank kind.Array kind.Array e = refl
same_rank kind.Object kind.Object e = refl
same_rank a b e = absurd (omega arith)

pub both : (a b : Bool) → a && b ≡ true → (a ≡ true) × (b ≡ true)
both true b h = (refl, h)
both false b h = absurd (true≢false (sym h))

same_pair_of : (name : List ℕ) (of : Kind) (a : Attribute) → is_of name of a ≡ true → (name ≡ a.name) × (of ≡ a.kind)
same_pair_of name of a h =
    let parts = both (bytes_eq name a.name) (nat_eq (rank of) (rank a.kind)) h in
    let ranks : rank of ≡ rank a.kind = let test : nat_eq (rank of) (rank a.kind) ≡ true = parts.1 in grind (arith, nat_tests) in
    ((bytes_eq-Decides name a.name).0 parts.0, same_rank of a.kind ranks)

-- The attribute that a number stands for.
pub record StandsFor (attributes : List Attribute) (name : List ℕ) (of : Kind) (id : AttrId) : Type 0 where
  pub attribute : Attribute
  pub there : slice_get attributes id.0 ≡ Some attribute
  pub named : name ≡ attribute.name
  pub kinded : of ≡ attribute.kind

place_of : (o : Option ℕ) (id : AttrId) → option_map number o ≡ Some id → o ≡ Some id.0
place_of None id h = absurd (none-some id h)
place_of (Some k) id h = ap (λ (x : AttrId). Some x.0) (same_Some (number k) id h)

pub stands_for : (attributes : List Attribute) (name : List ℕ) (of : Kind) (id : AttrId) → id_of name of attributes ≡ Some id → StandsFor attributes name of id
stands_for attributes name of id h =
    let d : Attribute = fresh name of in
    let found = position-Some (is_of name of) attributes id.0 d (place_of (position (is_of name of) attributes) id h) in
    let same = same_pair_of name of (get_or attributes id.0 d) found.1 in
    record { attribute = get_or attributes id.0 d; there = slice_get-get_or attributes id.0 d found.0; named = same.0; kinded = same.1 }

pub pair_at : (attributes : List Attribute) (k : ℕ) (a : Attribute) → slice_get attributes k ≡ Some a → slice_get (pairs_of attributes) k ≡ Some (a.name, a.kind)
pair_at attributes k a h = slice_get-map (λ (x : Attribute). (x.name, x.kind)) attributes k ∙ ap (option_map (λ (x : Attribute). (x.name, x.kind))) h

-- the attribute with a pair
pub attribute_at : (attributes : List Attribute) (k : ℕ) (pair : List ℕ × Kind) → slice_get (pairs_of attributes) k ≡ Some pair → (a : Attribute) × (slice_get attributes k ≡ Some a) × ((a.name, a.kind) ≡ pair)
attribute_at [] k pair h = absurd (cc)
attribute_at (a ∷ more) zero pair h = (a, refl, same_Some (a.name, a.kind) pair h)
attribute_at (a ∷ more) (suc k) pair h = attribute_at more k pair h
