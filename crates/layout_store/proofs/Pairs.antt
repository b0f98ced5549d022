-- The pairs of a catalog that grows.
use Rattle.std.proofs.Common.{◌≡◌, ℕ, zero, suc, ◌+◌, ◌≤◌, ◌&&◌, ◌||◌, not, nat_eq, nat_lt, Bool, true, false, cond, List, [], ◌∷◌, ◌++◌, length, take, drop, Option, Some, None, option_map, slice_get, refl, sym, ap, subst, ◌∙◌, arith, length-append}
use Rattle.std.specs.Prelude.{All, is_some}
use Rattle.std.specs.List.{position_or_len, list_any}
use Rattle.std.specs.Str.{bytes_eq}
use Rattle.std.proofs.lemmas.Bool.Decides.{nat_tests}
use Rattle.std.proofs.lemmas.List.{map-append, length-map}
use Rattle.std.proofs.lemmas.List.Elements.{All-nil, All-cons, All-head, All-tail, All-weaker}
use Rattle.doc_values.specs.Doc.{Fields}
use Rattle.doc_values.specs.Order.{rank}
use Rattle.doc_values.specs.Value.{kind_of}
use Rattle.doc_values.specs.declared.attr_id.AttrId.{AttrId}
use Rattle.doc_values.specs.declared.kind.Kind.{Kind}
use Rattle.doc_values.specs.declared.kind.Kind.TheVariants as kind
use Rattle.doc_values.specs.declared.value.Value.{Value}
use Rattle.attr_catalog.specs.Attribute.{Attribute, fresh}
use Rattle.attr_catalog.specs.Catalog.{is_of, number, id_of}
use Rattle.attr_catalog.specs.Catalog as catalog
use Rattle.doc_values.specs.Order.{same_kind}
use Rattle.layout_store.specs.Numbering.{same_pair, pairs_with, with_fields}
use Rattle.document_records.specs.StoredDocument.{Pairs, pairs_of}
use Rattle.layout_store.specs.Numbering.{IsFresh, HasGrown}
use Rattle.document_records.proofs.CatalogNumbers.{stands_for, pair_at}

-- ---- whether a pair stands

kinds_same : (a b : Kind) → nat_eq (rank a) (rank b) ≡ same_kind a b
kinds_same kind.Bool kind.Bool = refl
kinds_same kind.Int kind.Int = refl
kinds_same kind.Text kind.Text = refl
kinds_same kind.Array kind.Array = refl
kinds_same kind.Object kind.Object = refl
kinds_same a b = refl

zero_below : (n : ℕ) → nat_lt 0 (suc n) ≡ true
zero_below n = grind (arith, nat_tests)

below_suc : (a b : ℕ) → nat_lt (1 + a) (suc b) ≡ nat_lt a b
below_suc a b = grind (arith, nat_tests)

any_by : {X : Type 0} (p : X → Bool) (xs : List X) (t : Bool) → nat_lt (position_or_len p xs) (length xs) ≡ list_any p xs → nat_lt (cond (not t) (1 + position_or_len p xs) 0) (suc (length xs)) ≡ t || list_any p xs
any_by p xs true h = zero_below (length xs)
any_by p xs false h = below_suc (position_or_len p xs) (length xs) ∙ h

any_is : {X : Type 0} (p : X → Bool) (xs : List X) → nat_lt (position_or_len p xs) (length xs) ≡ list_any p xs
any_is p [] = refl
any_is p (x ∷ xs) = any_by p xs (p x) (any_is p xs)

some_by : (t : Bool) (n : ℕ) → is_some (option_map number (cond t (Some n) None)) ≡ t
some_by true n = refl
some_by false n = refl

any_same : (name : List ℕ) (of : Kind) (attributes : List Attribute) → list_any (is_of name of) attributes ≡ list_any (same_pair (name, of)) (pairs_of attributes)
any_same name of [] = refl
any_same name of (a ∷ more) =
    ap (λ (t : Bool). (bytes_eq name a.name && t) || list_any (is_of name of) more) (kinds_same of a.kind) ∙ ap (λ (t : Bool). (bytes_eq name a.name && same_kind of a.kind) || t) (any_same name of more)

pub known_is : (name : List ℕ) (of : Kind) (attributes : List Attribute) → is_some (id_of name of attributes) ≡ list_any (same_pair (name, of)) (pairs_of attributes)
known_is name of attributes =
    some_by (nat_lt (position_or_len (is_of name of) attributes) (length attributes)) (position_or_len (is_of name of) attributes) ∙ any_is (is_of name of) attributes ∙ any_same name of attributes

-- ---- one pair more

more_by : (name : List ℕ) (of : Kind) (attributes : List Attribute) (t : Bool)
    → pairs_of (cond t attributes (attributes ++ fresh name of ∷ [])) ≡ cond t (pairs_of attributes) (pairs_of attributes ++ (name, of) ∷ [])
more_by name of attributes true = refl
more_by name of attributes false = map-append (λ (a : Attribute). (a.name, a.kind)) attributes (fresh name of ∷ [])

pub pairs-with_pair : (name : List ℕ) (of : Kind) (attributes : List Attribute) → pairs_of (catalog.with_pair name of attributes) ≡ pairs_with (pairs_of attributes) (name, of)
pairs-with_pair name of attributes =
    more_by name of attributes (is_some (id_of name of attributes))
    ∙ ap (λ (t : Bool). cond t (pairs_of attributes) (pairs_of attributes ++ (name, of) ∷ [])) (known_is name of attributes)

pub number_at : (name : List ℕ) (of : Kind) (attributes : List Attribute) (id : AttrId) → id_of name of attributes ≡ Some id → slice_get (pairs_of attributes) id.0 ≡ Some (name, of)
number_at name of attributes id h =
    let s = stands_for attributes name of id h in
    pair_at attributes id.0 s.attribute s.there ∙ ap (λ (n : List ℕ). Some (n, s.attribute.kind)) (sym s.named) ∙ ap (λ (k : Kind). Some (name, k)) (sym s.kinded)

-- a pair that has a number changes nothing
pub pairs-known : (name : List ℕ) (of : Kind) (attributes : List Attribute) (id : AttrId) → id_of name of attributes ≡ Some id → pairs_of attributes ≡ pairs_with (pairs_of attributes) (name, of)
pairs-known name of attributes id h =
    let known : list_any (same_pair (name, of)) (pairs_of attributes) ≡ true = sym (known_is name of attributes) ∙ ap (λ (o : Option AttrId). is_some o) h in
    sym (ap (λ (t : Bool). cond t (pairs_of attributes) (pairs_of attributes ++ (name, of) ∷ [])) known)

-- where a pair is new there is one more
pub length-new : (name : List ℕ) (of : Kind) (attributes : List Attribute) → id_of name of attributes ≡ None → length (pairs_with (pairs_of attributes) (name, of)) ≡ length attributes + 1
length-new name of attributes h =
    let absent : list_any (same_pair (name, of)) (pairs_of attributes) ≡ false = sym (known_is name of attributes) ∙ ap (λ (o : Option AttrId). is_some o) h in
    ap length (ap (λ (t : Bool). cond t (pairs_of attributes) (pairs_of attributes ++ (name, of) ∷ [])) absent)
    ∙ length-append (pairs_of attributes) ((name, of) ∷ []) ∙ ap (λ (n : ℕ). n + 1) (length-map attributes (λ (a : Attribute). (a.name, a.kind)))

-- ---- the pairs of fields

one_longer_by : (pairs : Pairs) (pair : List ℕ × Kind) (t : Bool) → length pairs ≤ length (cond t pairs (pairs ++ pair ∷ []))
one_longer_by pairs pair true = omega arith
one_longer_by pairs pair false = omega (arith, length-append pairs (pair ∷ []))

one_longer : (pairs : Pairs) (pair : List ℕ × Kind) → length pairs ≤ length (pairs_with pairs pair)
one_longer pairs pair = one_longer_by pairs pair (list_any (same_pair pair) pairs)

pub fields_longer : (d : Fields) (pairs : Pairs) → length pairs ≤ length (with_fields pairs d)
fields_longer [] pairs = omega arith
fields_longer (f ∷ fs) pairs = omega (arith, one_longer pairs (f.0, kind_of f.1), fields_longer fs (pairs_with pairs (f.0, kind_of f.1)))

-- up to a place, and one more
fields_next : (d : Fields) (pairs : Pairs) (k : ℕ) (f : List ℕ × Value) → slice_get d k ≡ Some f → with_fields pairs (take (suc k) d) ≡ pairs_with (with_fields pairs (take k d)) (f.0, kind_of f.1)
fields_next [] pairs k f h = absurd (cc)
fields_next (g ∷ []) pairs zero f h = let same : g ≡ f = cc in ap (λ (x : List ℕ × Value). pairs_with pairs (x.0, kind_of x.1)) same
fields_next (g ∷ (n ∷ gs)) pairs zero f h = let same : g ≡ f = cc in ap (λ (x : List ℕ × Value). pairs_with pairs (x.0, kind_of x.1)) same
fields_next (g ∷ gs) pairs (suc k) f h = fields_next gs (pairs_with pairs (g.0, kind_of g.1)) k f h

pub fields_more : (d : Fields) (pairs : Pairs) (k : ℕ) (f : List ℕ × Value) → slice_get d k ≡ Some f → with_fields pairs (take (k + 1) d) ≡ pairs_with (with_fields pairs (take k d)) (f.0, kind_of f.1)
fields_more d pairs k f h = let one : k + 1 ≡ suc k = omega arith in ap (λ (n : ℕ). with_fields pairs (take n d)) one ∙ fields_next d pairs k f h

-- more fields have no fewer pairs
pub fields_upto : (d : Fields) (pairs : Pairs) (k : ℕ) → length (with_fields pairs (take k d)) ≤ length (with_fields pairs d)
fields_upto [] pairs zero = omega arith
fields_upto [] pairs (suc k) = omega arith
fields_upto (g ∷ gs) pairs zero = fields_longer (g ∷ gs) pairs
fields_upto (g ∷ gs) pairs (suc k) = fields_upto gs (pairs_with pairs (g.0, kind_of g.1)) k

-- ---- a list that grows

pub get_taken : {X : Type 0} (xs : List X) (n k : ℕ) (x : X) → slice_get (take n xs) k ≡ Some x → slice_get xs k ≡ Some x
get_taken [] zero k x h = h
get_taken [] (suc n) k x h = h
get_taken (y ∷ ys) zero k x h = absurd (cc)
get_taken (y ∷ ys) (suc n) zero x h = h
get_taken (y ∷ ys) (suc n) (suc k) x h = get_taken ys n k x h

-- The pairs that stood stand at their numbers.
abbrev pub Stays : Pairs → Pairs → Type 0
Stays old new = (k : ℕ) (pair : List ℕ × Kind) → slice_get old k ≡ Some pair → slice_get new k ≡ Some pair

pub stays : (old new : List Attribute) → HasGrown old new → Stays (pairs_of old) (pairs_of new)
stays old new g k pair h =
    let cut : pairs_of (take (length old) new) ≡ take (length old) (pairs_of new) = map-take_is (length old) new in
    get_taken (pairs_of new) (length old) k pair (ap (λ (ps : Pairs). slice_get ps k) (sym cut ∙ ap pairs_of g.front) ∙ h)
  where
    map-take_is : (n : ℕ) (xs : List Attribute) → pairs_of (take n xs) ≡ take n (pairs_of xs)
    map-take_is zero [] = refl
    map-take_is zero (x ∷ xs) = refl
    map-take_is (suc n) [] = refl
    map-take_is (suc n) (x ∷ xs) = ap (λ (ps : Pairs). (x.name, x.kind) ∷ ps) (map-take_is n xs)

take_less : {X : Type 0} (xs : List X) (m n : ℕ) → m ≤ n → take m (take n xs) ≡ take m xs
take_less xs zero n h = zero_both xs n
  where
    zero_both : {X : Type 0} (xs : List X) (n : ℕ) → take 0 (take n xs) ≡ take 0 xs
    zero_both [] zero = refl
    zero_both [] (suc n) = refl
    zero_both (x ∷ xs) zero = refl
    zero_both (x ∷ xs) (suc n) = refl
take_less xs (suc m) zero h = absurd (omega arith)
take_less [] (suc m) (suc n) h = refl
take_less (x ∷ xs) (suc m) (suc n) h = ap (λ ys. x ∷ ys) (take_less xs m n (omega arith))

-- what stands behind the first of three
begun_drop : (xs : List Attribute) (m n : ℕ) → m ≤ n → All IsFresh (drop m (take n xs)) → All IsFresh (drop n xs) → All IsFresh (drop m xs)
begun_drop xs zero zero l p q = q
begun_drop [] zero (suc n) l p q = q
begun_drop (x ∷ xs) zero (suc n) l p q =
    All-cons IsFresh x xs (All-head IsFresh x (take n xs) p)
    (drop_none xs (begun_drop xs zero n (omega arith) (none_dropped (take n xs) (All-tail IsFresh x (take n xs) p)) q))
  where
    drop_none : (xs : List Attribute) → All IsFresh (drop 0 xs) → All IsFresh xs
    drop_none [] h = h
    drop_none (x ∷ xs) h = h

    none_dropped : (xs : List Attribute) → All IsFresh xs → All IsFresh (drop 0 xs)
    none_dropped [] h = h
    none_dropped (x ∷ xs) h = h
begun_drop xs (suc m) zero l p q = absurd (omega arith)
begun_drop [] (suc m) (suc n) l p q = q
begun_drop (x ∷ xs) (suc m) (suc n) l p q = begun_drop xs m n (omega arith) p q

pub grown_itself : (list : List Attribute) → HasGrown list list
grown_itself list = record { front = take_whole list; begun = none_behind list; longer = omega arith }
  where
    take_whole : (xs : List Attribute) → take (length xs) xs ≡ xs
    take_whole [] = refl
    take_whole (x ∷ xs) = ap (λ ys. x ∷ ys) (take_whole xs)

    none_behind : (xs : List Attribute) → All IsFresh (drop (length xs) xs)
    none_behind [] = All-nil IsFresh
    none_behind (x ∷ xs) = none_behind xs

pub grown_twice : (a b c : List Attribute) → HasGrown a b → HasGrown b c → HasGrown a c
grown_twice a b c g h = record {
  front = sym (take_less c (length a) (length b) g.longer) ∙ ap (take (length a)) h.front ∙ g.front;
  begun = begun_drop c (length a) (length b) g.longer (subst (λ (xs : List Attribute). All IsFresh (drop (length a) xs)) (sym h.front) g.begun) h.begun;
  longer = omega (arith, g.longer, h.longer);
}

-- those behind are held by no document
pub unheld : (old new : List Attribute) → HasGrown old new → All (λ (a : Attribute). a.count ≡ 0) (drop (length old) new)
unheld old new g = All-weaker IsFresh (λ (a : Attribute). a.count ≡ 0) (λ (a : Attribute) (f : IsFresh a). ap (λ (x : Attribute). x.count) f) (drop (length old) new) g.begun
