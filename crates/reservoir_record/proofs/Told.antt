-- What the bytes of a spelling say at each place.
use Rattle.std.proofs.Common.{◌≡◌, ℕ, ◌+◌, ◌*◌, ◌<◌, ◌≤◌, List, [], ◌++◌, length, get_or, take, drop, sym, ap, ◌∙◌, subst, arith}
use Rattle.std.specs.List.{flat_map}
use Rattle.std.proofs.lemmas.List.{length-append, length-map, append_assoc, drop_at}
use Rattle.reservoir_record.specs.declared.fields.Field.{Field}
use Rattle.reservoir_record.specs.Spelling.{number_bytes, numbers, values, offsets, AreFields, Spells, spelling}
use Rattle.reservoir_record.specs.Words.{word_at, number_at, offset_at}
use Rattle.reservoir_record.proofs.FourBytes.{length-number_bytes, length-words, word_at-number_bytes, words_at}
use Rattle.reservoir_record.proofs.Lists.{length-offsets, get-offsets, offsets_small, numbers_small, few}

-- what stands where
pub record Told (fields : List Field) (bytes : List ℕ) : Type 0 where
  pub counted : word_at bytes 0 ≡ length fields
  pub size : length bytes ≡ 8 + 8 * length fields + length (values fields)
  pub number : (k : ℕ) → k < length fields → number_at bytes k ≡ get_or (numbers fields) k 0
  pub offset : (k : ℕ) → k ≤ length fields → offset_at bytes (length fields) k ≡ length (values (take k fields))
  pub behind : drop (8 + 8 * length fields) bytes ≡ values fields
  pub few : length fields ≤ 65536

-- the parts of a spelling
abbrev head : List Field → List ℕ
head fields = number_bytes (length fields)

abbrev ids : List Field → List ℕ
ids fields = flat_map number_bytes (numbers fields)

abbrev places : List Field → List ℕ
places fields = flat_map number_bytes (offsets 0 fields)

length-ids : (fields : List Field) → length (ids fields) ≡ 4 * length fields
length-ids fields = length-words (numbers fields) ∙ ap (λ (n : ℕ). 4 * n) (length-map fields (λ f. f.id))

length-places : (fields : List Field) → length (places fields) ≡ 4 * length fields + 4
length-places fields = omega (arith, length-words (offsets 0 fields), length-offsets 0 fields)

told_count : (fields : List Field) → AreFields fields → word_at (spelling fields) 0 ≡ length fields
told_count fields s = word_at-number_bytes [] (ids fields ++ (places fields ++ values fields)) (length fields) (omega (arith, few 0 fields s.ascend (omega arith)))

told_size : (fields : List Field) → length (spelling fields) ≡ 8 + 8 * length fields + length (values fields)
told_size fields = omega (arith, length-append (head fields) (ids fields ++ (places fields ++ values fields)), length-append (ids fields) (places fields ++ values fields), length-append (places fields) (values fields), length-number_bytes (length fields), length-ids fields, length-places fields)

told_number : (fields : List Field) → AreFields fields → (k : ℕ) → k < length fields → number_at (spelling fields) k ≡ get_or (numbers fields) k 0
told_number fields s k lt =
    let here : 4 + 4 * k ≡ length (head fields) + 4 * k = omega (arith, length-number_bytes (length fields)) in
    let below : (i : ℕ) → get_or (numbers fields) i 0 < 4294967296 = λ i. omega (arith, numbers_small 0 fields s.ascend i) in
    ap (word_at (spelling fields)) here ∙ words_at (head fields) (numbers fields) (places fields ++ values fields) k (omega (arith, length-map fields (λ (f : Field). f.id))) below

told_offset : (fields : List Field) → AreFields fields → (k : ℕ) → k ≤ length fields → offset_at (spelling fields) (length fields) k ≡ length (values (take k fields))
told_offset fields s k le =
    let before = head fields ++ ids fields in
    let here : 4 + 4 * length fields + 4 * k ≡ length (head fields ++ ids fields) + 4 * k = omega (arith, length-append (head fields) (ids fields), length-number_bytes (length fields), length-ids fields) in
    let text : spelling fields ≡ (head fields ++ ids fields) ++ (places fields ++ values fields) = sym (append_assoc (head fields) (ids fields) (places fields ++ values fields)) in
    let below : (i : ℕ) → get_or (offsets 0 fields) i 0 < 4294967296 = λ i. omega (arith, offsets_small 0 fields i, s.fit) in
    let read : word_at ((head fields ++ ids fields) ++ (places fields ++ values fields)) (length (head fields ++ ids fields) + 4 * k) ≡ get_or (offsets 0 fields) k 0 = words_at (head fields ++ ids fields) (offsets 0 fields) (values fields) k (omega (arith, length-offsets 0 fields)) below in
    ap (λ (b : List ℕ). word_at b (4 + 4 * length fields + 4 * k)) text ∙ ap (word_at ((head fields ++ ids fields) ++ (places fields ++ values fields))) here ∙ read ∙ get-offsets 0 fields k le ∙ omega arith

told_behind : (fields : List Field) → drop (8 + 8 * length fields) (spelling fields) ≡ values fields
told_behind fields =
    let text : spelling fields ≡ (head fields ++ (ids fields ++ places fields)) ++ values fields = ap (λ (r : List ℕ). head fields ++ r) (sym (append_assoc (ids fields) (places fields) (values fields))) ∙ sym (append_assoc (head fields) (ids fields ++ places fields) (values fields)) in
    ap (drop (8 + 8 * length fields)) text ∙ drop_at (head fields ++ (ids fields ++ places fields)) (values fields) (8 + 8 * length fields) (omega (arith, length-append (head fields) (ids fields ++ places fields), length-append (ids fields) (places fields), length-number_bytes (length fields), length-ids fields, length-places fields))

told_spelling : (fields : List Field) → AreFields fields → Told fields (spelling fields)
told_spelling fields s = record {
  counted = told_count fields s;
  size = told_size fields;
  number = told_number fields s;
  offset = told_offset fields s;
  behind = told_behind fields;
  few = omega (arith, few 0 fields s.ascend (omega arith));
}

pub told : (fields : List Field) (bytes : List ℕ) → Spells fields bytes → Told fields bytes
told fields bytes s = subst (Told fields) (sym s.spelled) (told_spelling fields s.lawful)
