-- The bytes, one edit after another, from the spelling of the fields to that with one taken out.
use Rattle.std.proofs.Common.{◌≡◌, ℕ, ◌+◌, ◌*◌, ◌-◌, ◌<◌, ◌≤◌, List, [], ◌∷◌, ◌++◌, length, get_or, take, drop, map, refl, sym, ap, ◌∙◌, add-one, arith}
use Rattle.std.specs.List.{flat_map}
use Rattle.std.proofs.lemmas.List.{length-append, length-take-le, length-drop, append_assoc, drop_at, take_at, take-append-drop, drop_more}
use Rattle.reservoir_record.specs.declared.fields.Field.{Field}
use Rattle.reservoir_record.specs.Spelling.{number_bytes, values, offsets, Spells, spelling}
use Rattle.reservoir_record.specs.Words.{word_at}
use Rattle.reservoir_record.proofs.Told.{Told, told}
use Rattle.reservoir_record.proofs.Found.{value_len}
use Rattle.reservoir_record.proofs.FourBytes.{length-number_bytes, words_at}
use Rattle.reservoir_record.proofs.Lists.{length-offsets, get-offsets, offsets_small}
use Rattle.reservoir_record.proofs.PutIn.{front_ids, front_places, back_places, cut, length-ids, length-front_places, values_front}

-- what taking a piece out from behind a front leaves
take_step : (old new p piece q : List ℕ) (at len : ℕ) → old ≡ p ++ (piece ++ q) → length p ≡ at → length piece ≡ len → new ≡ take at old ++ drop (at + len) old → new ≡ p ++ q
take_step old new p piece q at len e l m n =
    let front : take at old ≡ p = ap (take at) e ∙ take_at p (piece ++ q) at l in
    let back : drop (at + len) old ≡ q = ap (drop (at + len)) (e ∙ sym (append_assoc p piece q)) ∙ drop_at (p ++ piece) q (at + len) (omega (arith, length-append p piece)) in
    n ∙ rw (front, back) refl

-- the numbers, each lowered
abbrev pub lowered : ℕ → List ℕ → List ℕ
lowered by ns = map (λ n. n - by) ns

offsets-lowered : (at by : ℕ) (fs : List Field) → lowered by (offsets (at + by) fs) ≡ offsets at fs
offsets-lowered at by [] = let same : at + by - by ≡ at = omega arith in ap (λ (n : ℕ). n ∷ []) same
offsets-lowered at by (f ∷ fs) =
    let same : at + by - by ≡ at = omega arith in
    let on : at + by + length f.bytes ≡ at + length f.bytes + by = omega arith in
    ap (λ (n : ℕ). n ∷ lowered by (offsets (at + by + length f.bytes) fs)) same ∙ ap (λ (r : List ℕ). at ∷ r) (ap (λ (n : ℕ). lowered by (offsets n fs)) on ∙ offsets-lowered (at + length f.bytes) by fs)

value_cut : (h i x j o y p v w u : List ℕ) → h ++ ((i ++ (x ++ j)) ++ ((o ++ (y ++ p)) ++ (v ++ (w ++ u)))) ≡ (h ++ ((i ++ (x ++ j)) ++ ((o ++ (y ++ p)) ++ v))) ++ (w ++ u)
value_cut h i x j o y p v w u = simp append_assoc

places_cut : (h i x j o y p v u : List ℕ) → (h ++ ((i ++ (x ++ j)) ++ ((o ++ (y ++ p)) ++ v))) ++ u ≡ (h ++ ((i ++ (x ++ j)) ++ (o ++ y))) ++ (p ++ (v ++ u))
places_cut h i x j o y p v u = simp append_assoc

place_cut : (h i x j o y r : List ℕ) → (h ++ ((i ++ (x ++ j)) ++ (o ++ y))) ++ r ≡ (h ++ ((i ++ (x ++ j)) ++ o)) ++ (y ++ r)
place_cut h i x j o y r = simp append_assoc

number_cut : (h i x j o r : List ℕ) → (h ++ ((i ++ (x ++ j)) ++ o)) ++ r ≡ (h ++ i) ++ (x ++ (j ++ (o ++ r)))
number_cut h i x j o r = simp append_assoc

all_cut : (h i j o q v u : List ℕ) → h ++ (i ++ (j ++ (o ++ (q ++ (v ++ u))))) ≡ h ++ ((i ++ j) ++ ((o ++ q) ++ (v ++ u)))
all_cut h i j o q v u = simp append_assoc

-- a table in its parts: the count, the numbers, the offsets and the values, each cut round one field
pub record Parts (n k m : ℕ) (h i x j o y : List ℕ) (ns v w u b0 : List ℕ) : Type 0 where
  pub text : b0 ≡ h ++ ((i ++ (x ++ j)) ++ ((o ++ (y ++ flat_map number_bytes ns)) ++ (v ++ (w ++ u))))
  pub many : n ≡ k + 1 + m
  pub head : length h ≡ 4
  pub number : length x ≡ 4
  pub place : length y ≡ 4
  pub ids_before : length i ≡ 4 * k
  pub ids_behind : length j ≡ 4 * m
  pub places_before : length o ≡ 4 * k
  pub places_behind : length ns ≡ m + 1

length-parts : (n k m : ℕ) (h i x j o y ns v w u b0 : List ℕ) → Parts n k m h i x j o y ns v w u b0 → length (h ++ ((i ++ (x ++ j)) ++ ((o ++ (y ++ flat_map number_bytes ns)) ++ v))) ≡ 8 + 8 * n + length v
length-parts n k m h i x j o y ns v w u b0 t =
    omega (arith, t.many, t.head, t.number, t.place, t.ids_before, t.ids_behind, t.places_before, t.places_behind, length-append h ((i ++ (x ++ j)) ++ ((o ++ (y ++ flat_map number_bytes ns)) ++ v)), length-append (i ++ (x ++ j)) ((o ++ (y ++ flat_map number_bytes ns)) ++ v), length-append i (x ++ j), length-append x j, length-append (o ++ (y ++ flat_map number_bytes ns)) v, length-append o (y ++ flat_map number_bytes ns), length-append y (flat_map number_bytes ns), Rattle.reservoir_record.proofs.FourBytes.length-words ns)

length-front : (n k m : ℕ) (h i x j o y ns v w u b0 : List ℕ) → Parts n k m h i x j o y ns v w u b0 → length (h ++ ((i ++ (x ++ j)) ++ o)) ≡ 4 + 4 * n + 4 * k
length-front n k m h i x j o y ns v w u b0 t =
    omega (arith, t.many, t.head, t.number, t.ids_before, t.ids_behind, t.places_before, length-append h ((i ++ (x ++ j)) ++ o), length-append (i ++ (x ++ j)) o, length-append i (x ++ j), length-append x j)

length-places : (n k m : ℕ) (h i x j o y ns v w u b0 : List ℕ) → Parts n k m h i x j o y ns v w u b0 → length (h ++ ((i ++ (x ++ j)) ++ (o ++ y))) ≡ 4 + 4 * n + 4 * k + 4
length-places n k m h i x j o y ns v w u b0 t =
    omega (arith, t.many, t.head, t.number, t.place, t.ids_before, t.ids_behind, t.places_before, length-append h ((i ++ (x ++ j)) ++ (o ++ y)), length-append (i ++ (x ++ j)) (o ++ y), length-append i (x ++ j), length-append x j, length-append o y)

-- the bytes once the value is out
pub after_value : (n k m : ℕ) (h i x j o y ns v w u b0 b1 : List ℕ) → Parts n k m h i x j o y ns v w u b0 → b1 ≡ take (8 + 8 * n + length v) b0 ++ drop (8 + 8 * n + length v + length w) b0
    → b1 ≡ (h ++ ((i ++ (x ++ j)) ++ (o ++ y))) ++ (flat_map number_bytes ns ++ (v ++ u))
after_value n k m h i x j o y ns v w u b0 b1 t one =
    take_step b0 b1 (h ++ ((i ++ (x ++ j)) ++ ((o ++ (y ++ flat_map number_bytes ns)) ++ v))) w u (8 + 8 * n + length v) (length w) (t.text ∙ value_cut h i x j o y (flat_map number_bytes ns) v w u) (length-parts n k m h i x j o y ns v w u b0 t) refl one
    ∙ places_cut h i x j o y (flat_map number_bytes ns) v u

-- the edits behind it, one after another
pub record Edits (n k : ℕ) (w b1 b2 b3 b4 b5 : List ℕ) : Type 0 where
  pub places : (p ns c : List ℕ) → b1 ≡ p ++ (flat_map number_bytes ns ++ c) → length p ≡ 4 + 4 * n + 4 * k + 4 → length ns ≡ n - k → ((i : ℕ) → get_or ns i 0 < 4294967296) → b2 ≡ p ++ (flat_map number_bytes (lowered (length w) ns) ++ c)
  pub place : b3 ≡ take (4 + 4 * n + 4 * k) b2 ++ drop (4 + 4 * n + 4 * k + 4) b2
  pub number : b4 ≡ take (4 + 4 * k) b3 ++ drop (4 + 4 * k + 4) b3
  pub count : b5 ≡ take 0 b4 ++ (number_bytes (n - 1) ++ drop 4 b4)

pub edited : (n k m : ℕ) (h i x j o y ns v w u b0 b1 b2 b3 b4 b5 : List ℕ) → Parts n k m h i x j o y ns v w u b0 → ((a : ℕ) → get_or ns a 0 < 4294967296)
    → b1 ≡ take (8 + 8 * n + length v) b0 ++ drop (8 + 8 * n + length v + length w) b0 → Edits n k w b1 b2 b3 b4 b5
    → b5 ≡ number_bytes (n - 1) ++ ((i ++ j) ++ ((o ++ flat_map number_bytes (lowered (length w) ns)) ++ (v ++ u)))
edited n k m h i x j o y ns v w u b0 b1 b2 b3 b4 b5 t small one s =
    let two = s.places (h ++ ((i ++ (x ++ j)) ++ (o ++ y))) ns (v ++ u) (after_value n k m h i x j o y ns v w u b0 b1 t one) (length-places n k m h i x j o y ns v w u b0 t) (omega (arith, t.many, t.places_behind)) small in
    let three = take_step b2 b3 (h ++ ((i ++ (x ++ j)) ++ o)) y (flat_map number_bytes (lowered (length w) ns) ++ (v ++ u)) (4 + 4 * n + 4 * k) 4 (two ∙ place_cut h i x j o y (flat_map number_bytes (lowered (length w) ns) ++ (v ++ u))) (length-front n k m h i x j o y ns v w u b0 t) t.place s.place in
    let four = take_step b3 b4 (h ++ i) x (j ++ (o ++ (flat_map number_bytes (lowered (length w) ns) ++ (v ++ u)))) (4 + 4 * k) 4 (three ∙ number_cut h i x j o (flat_map number_bytes (lowered (length w) ns) ++ (v ++ u))) (omega (arith, t.head, t.ids_before, length-append h i)) t.number s.number in
    let tail : drop 4 b4 ≡ i ++ (j ++ (o ++ (flat_map number_bytes (lowered (length w) ns) ++ (v ++ u)))) = ap (drop 4) (four ∙ append_assoc h i (j ++ (o ++ (flat_map number_bytes (lowered (length w) ns) ++ (v ++ u))))) ∙ drop_at h (i ++ (j ++ (o ++ (flat_map number_bytes (lowered (length w) ns) ++ (v ++ u))))) 4 t.head in
    s.count ∙ ap (λ (r : List ℕ). number_bytes (n - 1) ++ r) tail ∙ all_cut (number_bytes (n - 1)) i j o (flat_map number_bytes (lowered (length w) ns)) v u

-- the fields round the one at a place, and what the table says of it
pub record Opened (a b : List Field) (f : Field) (b0 : List ℕ) (n start len k : ℕ) : Type 0 where
  pub text : b0 ≡ spelling (a ++ (f ∷ b))
  pub many : n ≡ k + 1 + length b
  pub here : length a ≡ k
  pub from : start ≡ length (values a)
  pub long : len ≡ length f.bytes
  pub size : length b0 ≡ 8 + 8 * n + length (values a) + length f.bytes + length (values b)
  pub fit : length (values a) + length f.bytes + length (values b) ≤ 16777216

abbrev pub no_field : Field
no_field = record { id = 0; bytes = [] }

pub opened_text : (fields : List Field) (k : ℕ) → k < length fields → take k fields ++ (get_or fields k no_field ∷ drop (k + 1) fields) ≡ fields
opened_text fields k lt = ap (λ (r : List Field). take k fields ++ r) (sym (drop_more fields k no_field lt)) ∙ take-append-drop k fields

-- the end of the value at a place is not before its start
pub starts_below : (fields : List Field) (b0 : List ℕ) → Spells fields b0 → (n start behind k : ℕ) → n ≡ length fields → k < length fields → start ≡ word_at b0 (4 + 4 * n + 4 * k) → behind ≡ word_at b0 (4 + 4 * n + 4 * k + 4) → behind ≡ start + length (get_or fields k no_field).bytes
starts_below fields b0 s n start behind k en lt es ee =
    let t : Told fields b0 = told fields b0 s in
    let from : start ≡ length (values (take k fields)) = es ∙ ap (λ (m : ℕ). word_at b0 (4 + 4 * m + 4 * k)) en ∙ t.offset k (omega arith) in
    let next : 4 + 4 * n + 4 * k + 4 ≡ 4 + 4 * length fields + 4 * (k + 1) = omega arith in
    let to : behind ≡ length (values (take (k + 1) fields)) = ee ∙ ap (word_at b0) next ∙ t.offset (k + 1) (omega arith) in
    to ∙ ap (λ (p : ℕ). length (values (take p fields))) (add-one k) ∙ value_len fields k no_field lt ∙ ap (λ (p : ℕ). p + length (get_or fields k no_field).bytes) (sym from)

pub opened : (fields : List Field) (b0 : List ℕ) → Spells fields b0 → (n start behind k : ℕ) → n ≡ length fields → k < length fields → start ≡ word_at b0 (4 + 4 * n + 4 * k) → behind ≡ word_at b0 (4 + 4 * n + 4 * k + 4)
    → Opened (take k fields) (drop (k + 1) fields) (get_or fields k no_field) b0 n start (behind - start) k
opened fields b0 s n start behind k en lt es ee =
    let t : Told fields b0 = told fields b0 s in
    let from : start ≡ length (values (take k fields)) = es ∙ ap (λ (m : ℕ). word_at b0 (4 + 4 * m + 4 * k)) en ∙ t.offset k (omega arith) in
    let long : behind ≡ start + length (get_or fields k no_field).bytes = starts_below fields b0 s n start behind k en lt es ee in
    let more : length (values (drop k fields)) ≡ length (get_or fields k no_field).bytes + length (values (drop (k + 1) fields)) = ap (λ (r : List Field). length (values r)) (drop_more fields k no_field lt) ∙ length-append (get_or fields k no_field).bytes (values (drop (k + 1) fields)) in
    record {
      text = s.spelled ∙ ap spelling (sym (opened_text fields k lt));
      many = omega (arith, length-drop (k + 1) fields);
      here = length-take-le k fields (omega arith);
      from = from;
      long = omega arith;
      size = omega (arith, t.size, values_front fields k);
      fit = omega (arith, s.lawful.fit, values_front fields k);
    }

parts : (a b : List Field) (f : Field) (b0 : List ℕ) (n start len k : ℕ) → Opened a b f b0 n start len k
    → Parts n k (length b) (number_bytes (length (a ++ (f ∷ b)))) (front_ids a) (number_bytes f.id) (front_ids b) (front_places a) (number_bytes (length (values a))) (offsets (length (values a) + length f.bytes) b) (values a) f.bytes (values b) b0
parts a b f b0 n start len k t = record {
  text = t.text ∙ cut a (f ∷ b);
  many = t.many;
  head = length-number_bytes (length (a ++ (f ∷ b)));
  number = length-number_bytes f.id;
  place = length-number_bytes (length (values a));
  ids_before = omega (arith, t.here, length-ids a);
  ids_behind = length-ids b;
  places_before = omega (arith, t.here, length-front_places a);
  places_behind = length-offsets (length (values a) + length f.bytes) b;
}

smalls : (a b : List Field) (f : Field) (b0 : List ℕ) (n start len k : ℕ) → Opened a b f b0 n start len k → (i : ℕ) → get_or (offsets (length (values a) + length f.bytes) b) i 0 < 4294967296
smalls a b f b0 n start len k t i = omega (arith, t.fit, offsets_small (length (values a) + length f.bytes) b i)

-- the value is out, by the numbers that were read
taken_value : (a b : List Field) (f : Field) (b0 b1 : List ℕ) (n start len k : ℕ) → Opened a b f b0 n start len k → b1 ≡ take (8 + 8 * n + start) b0 ++ drop (8 + 8 * n + start + len) b0 → b1 ≡ take (8 + 8 * n + length (values a)) b0 ++ drop (8 + 8 * n + length (values a) + length f.bytes) b0
taken_value a b f b0 b1 n start len k t one = one ∙ ap (λ (p : ℕ). take (8 + 8 * n + p) b0 ++ drop (8 + 8 * n + p + len) b0) t.from ∙ ap (λ (p : ℕ). take (8 + 8 * n + length (values a)) b0 ++ drop (8 + 8 * n + length (values a) + p) b0) t.long

pub taken_out : (a b : List Field) (f : Field) (b0 b1 b2 b3 b4 b5 : List ℕ) (n start len k : ℕ) → Opened a b f b0 n start len k
    → b1 ≡ take (8 + 8 * n + start) b0 ++ drop (8 + 8 * n + start + len) b0 → Edits n k f.bytes b1 b2 b3 b4 b5 → b5 ≡ spelling (a ++ b)
taken_out a b f b0 b1 b2 b3 b4 b5 n start len k t one s =
    let all = edited n k (length b) (number_bytes (length (a ++ (f ∷ b)))) (front_ids a) (number_bytes f.id) (front_ids b) (front_places a) (number_bytes (length (values a))) (offsets (length (values a) + length f.bytes) b) (values a) f.bytes (values b) b0 b1 b2 b3 b4 b5 (parts a b f b0 n start len k t) (smalls a b f b0 n start len k t) (taken_value a b f b0 b1 n start len k t one) s in
    let many : n - 1 ≡ length (a ++ b) = omega (arith, t.many, t.here, length-append a b) in
    let down : flat_map number_bytes (lowered (length f.bytes) (offsets (length (values a) + length f.bytes) b)) ≡ back_places a b = ap (flat_map number_bytes) (offsets-lowered (length (values a)) (length f.bytes) b) in
    all
    ∙ ap (λ (c : ℕ). number_bytes c ++ ((front_ids a ++ front_ids b) ++ ((front_places a ++ flat_map number_bytes (lowered (length f.bytes) (offsets (length (values a) + length f.bytes) b))) ++ (values a ++ values b)))) many
    ∙ ap (λ (r : List ℕ). number_bytes (length (a ++ b)) ++ ((front_ids a ++ front_ids b) ++ ((front_places a ++ r) ++ (values a ++ values b)))) down
    ∙ sym (cut a b)

-- an offset behind the value is large enough to be lowered
pub enough : (a b : List Field) (f : Field) (b0 b1 : List ℕ) (n start len k : ℕ) → Opened a b f b0 n start len k
    → b1 ≡ take (8 + 8 * n + start) b0 ++ drop (8 + 8 * n + start + len) b0 → (i : ℕ) → i < n - k → len ≤ word_at b1 (4 + 4 * n + 4 * k + 4 + 4 * i)
enough a b f b0 b1 n start len k t one i lt =
    let p : Parts n k (length b) (number_bytes (length (a ++ (f ∷ b)))) (front_ids a) (number_bytes f.id) (front_ids b) (front_places a) (number_bytes (length (values a))) (offsets (length (values a) + length f.bytes) b) (values a) f.bytes (values b) b0 = parts a b f b0 n start len k t in
    let front : List ℕ = number_bytes (length (a ++ (f ∷ b))) ++ ((front_ids a ++ (number_bytes f.id ++ front_ids b)) ++ (front_places a ++ number_bytes (length (values a)))) in
    let text = after_value n k (length b) (number_bytes (length (a ++ (f ∷ b)))) (front_ids a) (number_bytes f.id) (front_ids b) (front_places a) (number_bytes (length (values a))) (offsets (length (values a) + length f.bytes) b) (values a) f.bytes (values b) b0 b1 p (taken_value a b f b0 b1 n start len k t one) in
    let long = length-places n k (length b) (number_bytes (length (a ++ (f ∷ b)))) (front_ids a) (number_bytes f.id) (front_ids b) (front_places a) (number_bytes (length (values a))) (offsets (length (values a) + length f.bytes) b) (values a) f.bytes (values b) b0 p in
    let read = words_at (number_bytes (length (a ++ (f ∷ b))) ++ ((front_ids a ++ (number_bytes f.id ++ front_ids b)) ++ (front_places a ++ number_bytes (length (values a))))) (offsets (length (values a) + length f.bytes) b) (values a ++ values b) i (omega (arith, t.many, length-offsets (length (values a) + length f.bytes) b)) (smalls a b f b0 n start len k t) in
    let here : word_at b1 (4 + 4 * n + 4 * k + 4 + 4 * i) ≡ get_or (offsets (length (values a) + length f.bytes) b) i 0 =
    ap (λ (r : List ℕ). word_at r (4 + 4 * n + 4 * k + 4 + 4 * i)) text ∙ ap (λ (q : ℕ). word_at ((number_bytes (length (a ++ (f ∷ b))) ++ ((front_ids a ++ (number_bytes f.id ++ front_ids b)) ++ (front_places a ++ number_bytes (length (values a))))) ++ (flat_map number_bytes (offsets (length (values a) + length f.bytes) b) ++ (values a ++ values b))) (q + 4 * i)) (sym long) ∙ read in
    omega (arith, here, t.long, get-offsets (length (values a) + length f.bytes) b i (omega (arith, t.many)))
