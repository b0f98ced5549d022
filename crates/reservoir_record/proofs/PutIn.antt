-- The bytes, one edit after another, from the spelling of the fields to that with one put in.
use Rattle.std.proofs.Common.{◌≡◌, ℕ, ◌+◌, ◌*◌, ◌-◌, ◌<◌, ◌≤◌, List, [], ◌∷◌, ◌++◌, length, get_or, take, drop, refl, sym, ap, ◌∙◌, arith}
use Rattle.std.specs.List.{flat_map}
use Rattle.std.proofs.lemmas.List.{length-append, length-take-le, length-drop, length-map, append_assoc, drop_at, take_at, map-append, take-append-drop}
use Rattle.std.proofs.lemmas.List.Concat.{flat_map-append}
use Rattle.reservoir_record.specs.declared.fields.Field.{Field}
use Rattle.reservoir_record.specs.Spelling.{number_bytes, numbers, values, offsets, AreFields, Spells, spelling}
use Rattle.reservoir_record.specs.Words.{word_at}
use Rattle.reservoir_record.proofs.Told.{Told, told}
use Rattle.reservoir_record.proofs.FourBytes.{length-number_bytes, length-words, words_at}
use Rattle.reservoir_record.proofs.Lists.{length-offsets, offsets_small}
use Rattle.reservoir_record.proofs.Turned.{raised}
use Rattle.reservoir_record.proofs.Edited.{starts, offsets-append, offsets-raised}

-- what a piece put in behind a front leaves
put_step : (old new piece p q : List ℕ) (at : ℕ) → old ≡ p ++ q → length p ≡ at → new ≡ take at old ++ (piece ++ drop at old) → new ≡ p ++ (piece ++ q)
put_step old new piece p q at e l n =
    let front : take at old ≡ p = ap (take at) e ∙ take_at p q at l in
    let back : drop at old ≡ q = ap (drop at) e ∙ drop_at p q at l in
    n ∙ rw (front, back) refl

-- the parts of a spelling, cut at a place
abbrev pub front_ids : List Field → List ℕ
front_ids a = flat_map number_bytes (numbers a)

abbrev pub front_places : List Field → List ℕ
front_places a = flat_map number_bytes (starts 0 a)

abbrev pub back_places : List Field → List Field → List ℕ
back_places a b = flat_map number_bytes (offsets (length (values a)) b)

pub cut : (a b : List Field) → spelling (a ++ b) ≡ number_bytes (length (a ++ b)) ++ ((front_ids a ++ front_ids b) ++ ((front_places a ++ back_places a b) ++ (values a ++ values b)))
cut a b =
    let ids : flat_map number_bytes (numbers (a ++ b)) ≡ front_ids a ++ front_ids b = ap (flat_map number_bytes) (map-append (λ (f : Field). f.id) a b) ∙ flat_map-append number_bytes (numbers a) (numbers b) in
    let places : flat_map number_bytes (offsets 0 (a ++ b)) ≡ front_places a ++ back_places a b = ap (flat_map number_bytes) (offsets-append 0 a b ∙ ap (λ (n : ℕ). starts 0 a ++ offsets n b) (omega arith)) ∙ flat_map-append number_bytes (starts 0 a) (offsets (length (values a)) b) in
    let text : values (a ++ b) ≡ values a ++ values b = flat_map-append (λ (f : Field). f.bytes) a b in
    rw (ids, places, text) refl

length-starts : (at : ℕ) (fs : List Field) → length (starts at fs) ≡ length fs
length-starts at [] = refl
length-starts at (f ∷ fs) = omega (arith, length-starts (at + length f.bytes) fs)

pub length-ids : (a : List Field) → length (front_ids a) ≡ 4 * length a
length-ids a = omega (arith, length-words (numbers a), length-map a (λ (f : Field). f.id))

pub length-front_places : (a : List Field) → length (front_places a) ≡ 4 * length a
length-front_places a = omega (arith, length-words (starts 0 a), length-starts 0 a)

pub length-back_places : (a b : List Field) → length (back_places a b) ≡ 4 * length b + 4
length-back_places a b = omega (arith, length-words (offsets (length (values a)) b), length-offsets (length (values a)) b)

one_end : (h i o v w : List ℕ) → h ++ (i ++ (o ++ (v ++ w))) ≡ (h ++ (i ++ (o ++ v))) ++ w
one_end h i o v w = simp append_assoc

places_cut : (h i o p v w : List ℕ) → (h ++ (i ++ ((o ++ p) ++ v))) ++ w ≡ (h ++ (i ++ o)) ++ (p ++ (v ++ w))
places_cut h i o p v w = simp append_assoc

ids_cut : (h i j o w : List ℕ) → (h ++ ((i ++ j) ++ o)) ++ w ≡ (h ++ i) ++ (j ++ (o ++ w))
ids_cut h i j o w = simp append_assoc

all_cut : (h i x j o y p v w : List ℕ) → h ++ (i ++ (x ++ (j ++ (o ++ (y ++ (p ++ (v ++ w))))))) ≡ h ++ ((i ++ (x ++ j)) ++ ((o ++ (y ++ p)) ++ (v ++ w)))
all_cut h i x j o y p v w = simp append_assoc

-- the edits, one after another
pub record Edits (a b : List Field) (id : ℕ) (v b0 b1 b2 b3 b4 b5 : List ℕ) : Type 0 where
  pub start : b0 ≡ spelling (a ++ b)
  pub value : b1 ≡ take (8 + 8 * length (a ++ b) + length (values a)) b0 ++ (v ++ drop (8 + 8 * length (a ++ b) + length (values a)) b0)
  pub places : (p ns c : List ℕ) → b1 ≡ p ++ (flat_map number_bytes ns ++ c) → length p ≡ 4 + 4 * length (a ++ b) + 4 * length a → length ns ≡ length (a ++ b) + 1 - length a → ((i : ℕ) → get_or ns i 0 < 4294967296) → b2 ≡ p ++ (flat_map number_bytes (raised (length v) ns) ++ c)
  pub place : b3 ≡ take (4 + 4 * length (a ++ b) + 4 * length a) b2 ++ (number_bytes (length (values a)) ++ drop (4 + 4 * length (a ++ b) + 4 * length a) b2)
  pub number : b4 ≡ take (4 + 4 * length a) b3 ++ (number_bytes id ++ drop (4 + 4 * length a) b3)
  pub count : b5 ≡ take 0 b4 ++ (number_bytes (length (a ++ b) + 1) ++ drop 4 b4)

-- the bytes once the value is in
after_value : (a b : List Field) (v b0 b1 : List ℕ) → b0 ≡ spelling (a ++ b) → b1 ≡ take (8 + 8 * length (a ++ b) + length (values a)) b0 ++ (v ++ drop (8 + 8 * length (a ++ b) + length (values a)) b0)
    → b1 ≡ (number_bytes (length (a ++ b)) ++ ((front_ids a ++ front_ids b) ++ front_places a)) ++ (back_places a b ++ (values a ++ (v ++ values b)))
after_value a b v b0 b1 start value =
    let text : b0 ≡ (number_bytes (length (a ++ b)) ++ ((front_ids a ++ front_ids b) ++ ((front_places a ++ back_places a b) ++ values a))) ++ values b = start ∙ cut a b ∙ one_end (number_bytes (length (a ++ b))) (front_ids a ++ front_ids b) (front_places a ++ back_places a b) (values a) (values b) in
    let long : length (number_bytes (length (a ++ b)) ++ ((front_ids a ++ front_ids b) ++ ((front_places a ++ back_places a b) ++ values a))) ≡ 8 + 8 * length (a ++ b) + length (values a) =
    omega (arith, length-append (number_bytes (length (a ++ b))) ((front_ids a ++ front_ids b) ++ ((front_places a ++ back_places a b) ++ values a)), length-append (front_ids a ++ front_ids b) ((front_places a ++ back_places a b) ++ values a), length-append (front_ids a) (front_ids b), length-append (front_places a ++ back_places a b) (values a), length-append (front_places a) (back_places a b), length-number_bytes (length (a ++ b)), length-ids a, length-ids b, length-front_places a, length-back_places a b, length-append a b) in
    put_step b0 b1 v (number_bytes (length (a ++ b)) ++ ((front_ids a ++ front_ids b) ++ ((front_places a ++ back_places a b) ++ values a))) (values b) (8 + 8 * length (a ++ b) + length (values a)) text long value
    ∙ places_cut (number_bytes (length (a ++ b))) (front_ids a ++ front_ids b) (front_places a) (back_places a b) (values a) (v ++ values b)

pub put_in : (a b : List Field) (id : ℕ) (v b0 b1 b2 b3 b4 b5 : List ℕ) → AreFields (a ++ b) → Edits a b id v b0 b1 b2 b3 b4 b5 → b5 ≡ spelling (a ++ (record { id = id; bytes = v } ∷ b))
put_in a b id v b0 b1 b2 b3 b4 b5 lawful s =
    let f : Field = record { id = id; bytes = v } in
    let h : List ℕ = number_bytes (length (a ++ b)) in
    let long_p : length (number_bytes (length (a ++ b)) ++ ((front_ids a ++ front_ids b) ++ front_places a)) ≡ 4 + 4 * length (a ++ b) + 4 * length a =
    omega (arith, length-append (number_bytes (length (a ++ b))) ((front_ids a ++ front_ids b) ++ front_places a), length-append (front_ids a ++ front_ids b) (front_places a), length-append (front_ids a) (front_ids b), length-number_bytes (length (a ++ b)), length-ids a, length-ids b, length-front_places a, length-append a b) in
    let small : (i : ℕ) → get_or (offsets (length (values a)) b) i 0 < 4294967296 = λ i. omega (arith, offsets_small (length (values a)) b i, lawful.fit, ap length (flat_map-append (λ (g : Field). g.bytes) a b), length-append (values a) (values b)) in
    let two : b2 ≡ (number_bytes (length (a ++ b)) ++ ((front_ids a ++ front_ids b) ++ front_places a)) ++ (flat_map number_bytes (raised (length v) (offsets (length (values a)) b)) ++ (values a ++ (v ++ values b))) =
    s.places (number_bytes (length (a ++ b)) ++ ((front_ids a ++ front_ids b) ++ front_places a)) (offsets (length (values a)) b) (values a ++ (v ++ values b)) (after_value a b v b0 b1 s.start s.value) long_p (omega (arith, length-offsets (length (values a)) b, length-append a b)) small in
    let three = put_step b2 b3 (number_bytes (length (values a))) (number_bytes (length (a ++ b)) ++ ((front_ids a ++ front_ids b) ++ front_places a)) (flat_map number_bytes (raised (length v) (offsets (length (values a)) b)) ++ (values a ++ (v ++ values b))) (4 + 4 * length (a ++ b) + 4 * length a) two long_p s.place in
    let long_i : length (number_bytes (length (a ++ b)) ++ front_ids a) ≡ 4 + 4 * length a = omega (arith, length-append (number_bytes (length (a ++ b))) (front_ids a), length-number_bytes (length (a ++ b)), length-ids a) in
    let rest : List ℕ = number_bytes (length (values a)) ++ (flat_map number_bytes (raised (length v) (offsets (length (values a)) b)) ++ (values a ++ (v ++ values b))) in
    let three_cut : b3 ≡ (number_bytes (length (a ++ b)) ++ front_ids a) ++ (front_ids b ++ (front_places a ++ (number_bytes (length (values a)) ++ (flat_map number_bytes (raised (length v) (offsets (length (values a)) b)) ++ (values a ++ (v ++ values b)))))) =
    three ∙ ids_cut (number_bytes (length (a ++ b))) (front_ids a) (front_ids b) (front_places a) (number_bytes (length (values a)) ++ (flat_map number_bytes (raised (length v) (offsets (length (values a)) b)) ++ (values a ++ (v ++ values b)))) in
    let four = put_step b3 b4 (number_bytes id) (number_bytes (length (a ++ b)) ++ front_ids a) (front_ids b ++ (front_places a ++ (number_bytes (length (values a)) ++ (flat_map number_bytes (raised (length v) (offsets (length (values a)) b)) ++ (values a ++ (v ++ values b)))))) (4 + 4 * length a) three_cut long_i s.number in
    let four_cut = four ∙ append_assoc (number_bytes (length (a ++ b))) (front_ids a) (number_bytes id ++ (front_ids b ++ (front_places a ++ (number_bytes (length (values a)) ++ (flat_map number_bytes (raised (length v) (offsets (length (values a)) b)) ++ (values a ++ (v ++ values b))))))) in
    let tail : drop 4 b4 ≡ front_ids a ++ (number_bytes id ++ (front_ids b ++ (front_places a ++ (number_bytes (length (values a)) ++ (flat_map number_bytes (raised (length v) (offsets (length (values a)) b)) ++ (values a ++ (v ++ values b))))))) =
    ap (drop 4) four_cut ∙ drop_at (number_bytes (length (a ++ b))) (front_ids a ++ (number_bytes id ++ (front_ids b ++ (front_places a ++ (number_bytes (length (values a)) ++ (flat_map number_bytes (raised (length v) (offsets (length (values a)) b)) ++ (values a ++ (v ++ values b)))))))) 4 (length-number_bytes (length (a ++ b))) in
    let many : length (a ++ b) + 1 ≡ length (a ++ (f ∷ b)) = omega (arith, length-append a b, length-append a (f ∷ b)) in
    let up : flat_map number_bytes (raised (length v) (offsets (length (values a)) b)) ≡ flat_map number_bytes (offsets (length (values a) + length v) b) = ap (flat_map number_bytes) (sym (offsets-raised (length (values a)) (length v) b)) in
    s.count
    ∙ ap (λ (r : List ℕ). number_bytes (length (a ++ b) + 1) ++ r) tail
    ∙ ap (λ (n : ℕ). number_bytes n ++ (front_ids a ++ (number_bytes id ++ (front_ids b ++ (front_places a ++ (number_bytes (length (values a)) ++ (flat_map number_bytes (raised (length v) (offsets (length (values a)) b)) ++ (values a ++ (v ++ values b))))))))) many
    ∙ ap (λ (r : List ℕ). number_bytes (length (a ++ (f ∷ b))) ++ (front_ids a ++ (number_bytes id ++ (front_ids b ++ (front_places a ++ (number_bytes (length (values a)) ++ (r ++ (values a ++ (v ++ values b))))))))) up
    ∙ all_cut (number_bytes (length (a ++ (f ∷ b)))) (front_ids a) (number_bytes id) (front_ids b) (front_places a) (number_bytes (length (values a))) (flat_map number_bytes (offsets (length (values a) + length v) b)) (values a) (v ++ values b)
    ∙ sym (cut a (f ∷ b))

-- a slice that was lent, once it is back
pub back_whole : (n : ℕ) (xs ys : List ℕ) → length xs ≡ n → take n (xs ++ drop (length xs) ys) ≡ xs
back_whole n xs ys l = take_at xs (drop (length xs) ys) n l

-- the same edits, by the numbers that were read
pub put_at_places : (a b : List Field) (id : ℕ) (v : List ℕ) (n start k : ℕ) (b0 b1 b2 b3 b4 b5 : List ℕ) → AreFields (a ++ b)
    → n ≡ length (a ++ b) → start ≡ length (values a) → k ≡ length a
    → b0 ≡ spelling (a ++ b)
    → b1 ≡ take (8 + 8 * n + start) b0 ++ (v ++ drop (8 + 8 * n + start) b0)
    → ((p ns c : List ℕ) → b1 ≡ p ++ (flat_map number_bytes ns ++ c) → length p ≡ 4 + 4 * n + 4 * k → length ns ≡ n + 1 - k → ((i : ℕ) → get_or ns i 0 < 4294967296) → b2 ≡ p ++ (flat_map number_bytes (raised (length v) ns) ++ c))
    → b3 ≡ take (4 + 4 * n + 4 * k) b2 ++ (number_bytes start ++ drop (4 + 4 * n + 4 * k) b2)
    → b4 ≡ take (4 + 4 * k) b3 ++ (number_bytes id ++ drop (4 + 4 * k) b3)
    → b5 ≡ take 0 b4 ++ (number_bytes (n + 1) ++ drop 4 b4)
    → b5 ≡ spelling (a ++ (record { id = id; bytes = v } ∷ b))
put_at_places a b id v n start k b0 b1 b2 b3 b4 b5 lawful en es ek start_is value places place number count =
    put_in a b id v b0 b1 b2 b3 b4 b5 lawful (record {
      start = start_is;
      value = rw (← en, ← es) value;
      places = rw (← en, ← ek) places;
      place = rw (← en, ← es, ← ek) place;
      number = rw (← ek) number;
      count = rw (← en) count;
    })

-- the values of a front are no longer than all
pub values_front : (fs : List Field) (k : ℕ) → length (values (take k fs)) + length (values (drop k fs)) ≡ length (values fs)
values_front fs k = sym (length-append (values (take k fs)) (values (drop k fs))) ∙ ap length (sym (flat_map-append (λ (g : Field). g.bytes) (take k fs) (drop k fs)) ∙ ap values (take-append-drop k fs))

pub start_here : (fields : List Field) (b0 : List ℕ) → Spells fields b0 → (n start k : ℕ) → n ≡ length fields → k ≤ length fields → start ≡ word_at b0 (4 + 4 * n + 4 * k) → start ≡ length (values (take k fields))
start_here fields b0 s n start k en le e =
    let t : Told fields b0 = told fields b0 s in
    e ∙ ap (λ (m : ℕ). word_at b0 (4 + 4 * m + 4 * k)) en ∙ t.offset k le

-- an offset that is behind the value stays small enough to be raised
pub rooms : (fields : List Field) (b0 b1 v : List ℕ) → Spells fields b0 → (n start k : ℕ) → n ≡ length fields → k ≤ length fields → start ≡ word_at b0 (4 + 4 * n + 4 * k)
    → b1 ≡ take (8 + 8 * n + start) b0 ++ (v ++ drop (8 + 8 * n + start) b0) → length (values fields) + length v ≤ 16777216
    → (i : ℕ) → i < n + 1 - k → word_at b1 (4 + 4 * n + 4 * k + 4 * i) + length v < 4294967296
rooms fields b0 b1 v s n start k en le e one fit i lt =
    let whole : take k fields ++ drop k fields ≡ fields = take-append-drop k fields in
    let many : length (take k fields ++ drop k fields) ≡ n = ap length whole ∙ sym en in
    let long : length (take k fields) ≡ k = length-take-le k fields le in
    let left : length (drop k fields) ≡ length fields - k = length-drop k fields in
    let at : length (values (take k fields)) ≡ start = sym (start_here fields b0 s n start k en le e) in
    let text = after_value (take k fields) (drop k fields) v b0 b1 (s.spelled ∙ ap spelling (sym whole)) (rw (many, at) one) in
    let long_p : length (number_bytes (length (take k fields ++ drop k fields)) ++ ((front_ids (take k fields) ++ front_ids (drop k fields)) ++ front_places (take k fields))) ≡ 4 + 4 * n + 4 * k =
    omega (arith, length-append (number_bytes (length (take k fields ++ drop k fields))) ((front_ids (take k fields) ++ front_ids (drop k fields)) ++ front_places (take k fields)), length-append (front_ids (take k fields) ++ front_ids (drop k fields)) (front_places (take k fields)), length-append (front_ids (take k fields)) (front_ids (drop k fields)), length-number_bytes (length (take k fields ++ drop k fields)), length-ids (take k fields), length-ids (drop k fields), length-front_places (take k fields)) in
    let small : (j : ℕ) → get_or (offsets (length (values (take k fields))) (drop k fields)) j 0 < 4294967296 = λ j. omega (arith, offsets_small (length (values (take k fields))) (drop k fields) j, values_front fields k) in
    let read = words_at (number_bytes (length (take k fields ++ drop k fields)) ++ ((front_ids (take k fields) ++ front_ids (drop k fields)) ++ front_places (take k fields))) (offsets (length (values (take k fields))) (drop k fields)) (values (take k fields) ++ (v ++ values (drop k fields))) i (omega (arith, length-offsets (length (values (take k fields))) (drop k fields))) small in
    let here : word_at b1 (4 + 4 * n + 4 * k + 4 * i) ≡ get_or (offsets (length (values (take k fields))) (drop k fields)) i 0 =
    ap (λ (b : List ℕ). word_at b (4 + 4 * n + 4 * k + 4 * i)) text ∙ ap (λ (q : ℕ). word_at ((number_bytes (length (take k fields ++ drop k fields)) ++ ((front_ids (take k fields) ++ front_ids (drop k fields)) ++ front_places (take k fields))) ++ (back_places (take k fields) (drop k fields) ++ (values (take k fields) ++ (v ++ values (drop k fields))))) (q + 4 * i)) (sym long_p) ∙ read in
    omega (arith, here, offsets_small (length (values (take k fields))) (drop k fields) i, values_front fields k)
