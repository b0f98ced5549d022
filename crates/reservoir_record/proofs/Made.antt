-- The list of fields that a table with its values spells, and that a spelling is such a table.
use Rattle.std.proofs.Common.{◌≡◌, ℕ, zero, suc, ◌+◌, ◌*◌, ◌-◌, ◌<◌, ◌≤◌, List, ◌++◌, length, take, drop, refl, sym, ap, ◌∙◌, arith}
use Rattle.std.specs.List.{flat_map}
use Rattle.std.proofs.Math.Seq.{take-add}
use Rattle.std.proofs.lemmas.List.{length-drop, length-take-le, append-nil, take-append-drop, drop-drop, take_all, length-map}
use Rattle.reservoir_record.specs.declared.fields.Field.{Field}
use Rattle.reservoir_record.specs.Spelling.{number_bytes, numbers, values, offsets, Ascends, Spells, spelling, IsRecord}
use Rattle.reservoir_record.specs.Words.{number_at, offset_at, value_at, HasNumbers, IsWholeTable}
use Rattle.reservoir_record.specs.Walking.{fields_from}
use Rattle.reservoir_record.proofs.FourBytes.{AreBytes, number_bytes-word_at}
use Rattle.reservoir_record.proofs.Lists.{numbers_small, numbers_rise, longer}
use Rattle.reservoir_record.proofs.Told.{Told, told}

pub many_from : (bytes : List ℕ) (count m k : ℕ) → length (fields_from bytes count m k) ≡ m
many_from bytes count zero k = refl
many_from bytes count (suc m) k = omega (arith, many_from bytes count m (k + 1))

-- a part, and the part behind it
two_parts : (m n at : ℕ) (xs : List ℕ) → take (m + n) (drop at xs) ≡ take m (drop at xs) ++ take n (drop (at + m) xs)
two_parts m n at xs = take-add m n (drop at xs) ∙ ap (λ (r : List ℕ). take m (drop at xs) ++ take n r) (drop-drop m at xs)

ids_made : (bytes : List ℕ) (count m k : ℕ) → AreBytes bytes → 4 + 4 * k + 4 * m ≤ length bytes → flat_map number_bytes (numbers (fields_from bytes count m k)) ≡ take (4 * m) (drop (4 + 4 * k) bytes)
ids_made bytes count zero k small fits = refl
ids_made bytes count (suc m) k small fits =
    let first = number_bytes-word_at bytes (4 + 4 * k) (omega arith) small in
    let rest = ids_made bytes count m (k + 1) small (omega arith) in
    let next : 4 + 4 * (k + 1) ≡ 4 + 4 * k + 4 = omega arith in
    let all : 4 * suc m ≡ 4 + 4 * m = omega arith in
    rw (first, rest, all, next) (sym (two_parts 4 (4 * m) (4 + 4 * k) bytes))

-- no offset up to the last passes it
below_last : (bytes : List ℕ) (count : ℕ) → ((k : ℕ) → k < count → offset_at bytes count k ≤ offset_at bytes count (k + 1)) → (d k : ℕ) → k + d ≡ count → offset_at bytes count k ≤ offset_at bytes count count
below_last bytes count rise zero k e =
    let same : k ≡ count = omega arith in
    omega (arith, ap (offset_at bytes count) same)
below_last bytes count rise (suc d) k e = omega (arith, rise k (omega arith), below_last bytes count rise d (k + 1) (omega arith))

pub record Inside (bytes : List ℕ) (count : ℕ) : Type 0 where
  pub room : (k : ℕ) → k ≤ count → 8 + 8 * count + offset_at bytes count k ≤ length bytes
  pub rise : (k : ℕ) → k < count → offset_at bytes count k ≤ offset_at bytes count (k + 1)

pub inside : (bytes : List ℕ) (count : ℕ) → IsWholeTable bytes count → Inside bytes count
inside bytes count t = record {
  room = λ k le. omega (arith, t.placed.last, below_last bytes count t.placed.rise (count - k) k (omega arith));
  rise = t.placed.rise;
}

length-value_at : (bytes : List ℕ) (count k : ℕ) → Inside bytes count → k < count → offset_at bytes count k + length (value_at bytes count k) ≡ offset_at bytes count (k + 1)
length-value_at bytes count k i lt =
    let up : offset_at bytes count k ≤ offset_at bytes count (k + 1) = i.rise k lt in
    let long : offset_at bytes count (k + 1) - offset_at bytes count k ≤ length (drop (8 + 8 * count + offset_at bytes count k) bytes) = omega (arith, i.room (k + 1) (omega arith), length-drop (8 + 8 * count + offset_at bytes count k) bytes) in
    omega (arith, length-take-le (offset_at bytes count (k + 1) - offset_at bytes count k) (drop (8 + 8 * count + offset_at bytes count k) bytes) long)

places_made : (bytes : List ℕ) (count m k : ℕ) → AreBytes bytes → Inside bytes count → k + m ≡ count → flat_map number_bytes (offsets (offset_at bytes count k) (fields_from bytes count m k)) ≡ take (4 * (m + 1)) (drop (4 + 4 * count + 4 * k) bytes)
places_made bytes count zero k small i e =
    append-nil (number_bytes (offset_at bytes count k)) ∙ number_bytes-word_at bytes (4 + 4 * count + 4 * k) (omega (arith, i.room k (omega arith))) small
places_made bytes count (suc m) k small i e =
    let first = number_bytes-word_at bytes (4 + 4 * count + 4 * k) (omega (arith, i.room k (omega arith))) small in
    let on = length-value_at bytes count k i (omega arith) in
    let rest = places_made bytes count m (k + 1) small i (omega arith) in
    let next : 4 + 4 * count + 4 * (k + 1) ≡ 4 + 4 * count + 4 * k + 4 = omega arith in
    let all : 4 * (suc m + 1) ≡ 4 + 4 * (m + 1) = omega arith in
    rw (first, on, rest, all, next) (sym (two_parts 4 (4 * (m + 1)) (4 + 4 * count + 4 * k) bytes))

values_made : (bytes : List ℕ) (count m k : ℕ) → Inside bytes count → k + m ≡ count → values (fields_from bytes count m k) ≡ take (offset_at bytes count count - offset_at bytes count k) (drop (8 + 8 * count + offset_at bytes count k) bytes)
values_made bytes count zero k i e =
    let same : k ≡ count = omega arith in
    let none : offset_at bytes count count - offset_at bytes count k ≡ 0 = omega (arith, ap (offset_at bytes count) same) in
    rw none refl
values_made bytes count (suc m) k i e =
    let rest = values_made bytes count m (k + 1) i (omega arith) in
    let up : offset_at bytes count k ≤ offset_at bytes count (k + 1) = i.rise k (omega arith) in
    let high : offset_at bytes count (k + 1) ≤ offset_at bytes count count = below_last bytes count i.rise m (k + 1) (omega arith) in
    let all : offset_at bytes count count - offset_at bytes count k ≡ (offset_at bytes count (k + 1) - offset_at bytes count k) + (offset_at bytes count count - offset_at bytes count (k + 1)) = omega arith in
    let next : 8 + 8 * count + offset_at bytes count (k + 1) ≡ 8 + 8 * count + offset_at bytes count k + (offset_at bytes count (k + 1) - offset_at bytes count k) = omega arith in
    let parts = two_parts (offset_at bytes count (k + 1) - offset_at bytes count k) (offset_at bytes count count - offset_at bytes count (k + 1)) (8 + 8 * count + offset_at bytes count k) bytes in
    let shown : value_at bytes count k ++ take (offset_at bytes count count - offset_at bytes count (k + 1)) (drop (8 + 8 * count + offset_at bytes count (k + 1)) bytes) ≡ value_at bytes count k ++ take (offset_at bytes count count - offset_at bytes count (k + 1)) (drop (8 + 8 * count + offset_at bytes count k + (offset_at bytes count (k + 1) - offset_at bytes count k)) bytes)
    = ap (λ (p : ℕ). value_at bytes count k ++ take (offset_at bytes count count - offset_at bytes count (k + 1)) (drop p bytes)) next in
    ap (λ (r : List ℕ). value_at bytes count k ++ r) rest ∙ shown ∙ sym parts ∙ ap (λ (n : ℕ). take n (drop (8 + 8 * count + offset_at bytes count k) bytes)) (sym all)

ascend_made : (bytes : List ℕ) (count m k least : ℕ) → HasNumbers bytes count → k + m ≡ count → (k < count → least ≤ number_at bytes k) → Ascends least (fields_from bytes count m k)
ascend_made bytes count zero k least h e from = tt
ascend_made bytes count (suc m) k least h e from =
    (from (omega arith), h.small k (omega arith), ascend_made bytes count m (k + 1) (number_at bytes k + 1) h (omega arith) (λ lt. omega (arith, h.ascend k lt)))

-- bytes in four parts
four_parts : (m n : ℕ) (bytes : List ℕ) → bytes ≡ take 4 bytes ++ (take m (drop 4 bytes) ++ (take n (drop (4 + m) bytes) ++ drop (4 + m + n) bytes))
four_parts m n bytes =
    let last : take n (drop (4 + m) bytes) ++ drop (4 + m + n) bytes ≡ drop (4 + m) bytes = ap (λ (r : List ℕ). take n (drop (4 + m) bytes) ++ r) (sym (drop-drop n (4 + m) bytes)) ∙ take-append-drop n (drop (4 + m) bytes) in
    let middle : take m (drop 4 bytes) ++ drop (4 + m) bytes ≡ drop 4 bytes = ap (λ (r : List ℕ). take m (drop 4 bytes) ++ r) (sym (drop-drop m 4 bytes)) ∙ take-append-drop m (drop 4 bytes) in
    sym (ap (λ (r : List ℕ). take 4 bytes ++ (take m (drop 4 bytes) ++ r)) last ∙ ap (λ (r : List ℕ). take 4 bytes ++ r) middle ∙ take-append-drop 4 bytes)

-- a table with its values is a record
pub made : (bytes : List ℕ) (count : ℕ) → AreBytes bytes → IsWholeTable bytes count → IsRecord bytes
made bytes count small t =
    let i : Inside bytes count = inside bytes count t in
    let fields : List Field = fields_from bytes count count 0 in
    let long : length (fields_from bytes count count 0) ≡ count = many_from bytes count count 0 in
    let head : number_bytes (length (fields_from bytes count count 0)) ≡ take 4 bytes = ap number_bytes (long ∙ sym t.counted) ∙ number_bytes-word_at bytes 0 (omega (arith, t.room)) small in
    let ids : flat_map number_bytes (numbers (fields_from bytes count count 0)) ≡ take (4 * count) (drop 4 bytes) = ids_made bytes count count 0 small (omega (arith, t.room)) in
    let places : flat_map number_bytes (offsets 0 (fields_from bytes count count 0)) ≡ take (4 * (count + 1)) (drop (4 + 4 * count) bytes) =
    ap (λ (a : ℕ). flat_map number_bytes (offsets a (fields_from bytes count count 0))) (sym t.placed.first) ∙ places_made bytes count count 0 small i (omega arith) ∙ ap (λ (p : ℕ). take (4 * (count + 1)) (drop p bytes)) (omega arith) in
    let rest : values (fields_from bytes count count 0) ≡ drop (8 + 8 * count) bytes =
    values_made bytes count count 0 i (omega arith)
    ∙ ap (λ (p : ℕ). take (offset_at bytes count count - p) (drop (8 + 8 * count + p) bytes)) t.placed.first
    ∙ ap (λ (p : ℕ). take (offset_at bytes count count - 0) (drop p bytes)) (omega arith)
    ∙ take_all (offset_at bytes count count - 0) (drop (8 + 8 * count) bytes) (omega (arith, length-drop (8 + 8 * count) bytes, t.placed.last)) in
    let end : 4 + 4 * count + 4 * (count + 1) ≡ 8 + 8 * count = omega arith in
    let text : bytes ≡ spelling (fields_from bytes count count 0) =
    four_parts (4 * count) (4 * (count + 1)) bytes
    ∙ ap (λ (p : ℕ). take 4 bytes ++ (take (4 * count) (drop 4 bytes) ++ (take (4 * (count + 1)) (drop (4 + 4 * count) bytes) ++ drop p bytes))) end
    ∙ rw (head, ids, places, rest) refl in
    let fit : length (values (fields_from bytes count count 0)) ≤ 16777216 = omega (arith, ap length rest, length-drop (8 + 8 * count) bytes, t.placed.last, t.placed.fit) in (
      fields_from bytes count count 0,
      record {
        lawful = record { ascend = ascend_made bytes count count 0 0 t.numbered (omega arith) (λ lt. omega arith); fit = fit };
        spelled = text;
      },
    )

-- a record is a table with its values
pub table : (fields : List Field) (bytes : List ℕ) → Spells fields bytes → IsWholeTable bytes (length fields)
table fields bytes s =
    let in_ : Told fields bytes = told fields bytes s in
    let long : length (numbers fields) ≡ length fields = length-map fields (λ (f : Field). f.id) in
    let whole : take (length fields) fields ≡ fields = take_all (length fields) fields (omega arith) in
    let last : offset_at bytes (length fields) (length fields) ≡ length (values fields) = in_.offset (length fields) (omega arith) ∙ ap (λ (r : List Field). length (values r)) whole in
    record {
      room = omega (arith, in_.size);
      counted = in_.counted;
      numbered = record {
        small = λ k lt. omega (arith, in_.number k lt, numbers_small 0 fields s.lawful.ascend k);
        ascend = λ k lt. omega (arith, in_.number k (omega arith), in_.number (k + 1) lt, numbers_rise 0 fields s.lawful.ascend k (k + 1) (omega arith) lt);
      };
      placed = record {
        first = in_.offset 0 (omega arith);
        rise = λ k lt. omega (arith, in_.offset k (omega arith), in_.offset (k + 1) (omega arith), longer fields k);
        last = omega (arith, in_.size);
        fit = omega (arith, s.lawful.fit);
      };
    }
