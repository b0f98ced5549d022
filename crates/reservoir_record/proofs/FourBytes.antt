-- A number and its four bytes, back and forth.
use Rattle.std.proofs.Common.{◌≡◌, ℕ, zero, suc, ◌+◌, ◌*◌, ◌<◌, ◌≤◌, List, [], ◌∷◌, ◌++◌, length, get_or, take, drop, refl, sym, ap, ◌∙◌, arith}
use Rattle.std.specs.List.{flat_map}
use Rattle.std.proofs.lemmas.Nat.{le_bytes_4}
use Rattle.std.proofs.lemmas.List.{length-append, length-take-le, length-drop, append_assoc, drop_at, get_or-drop}
use Rattle.byteorder.specs.Endian.{little_number}
use Rattle.byteorder.specs.Numbers.{little_number-reads_back, little_from-take}
use Rattle.reservoir_record.specs.Spelling.{number_bytes}
use Rattle.reservoir_record.specs.Words.{word_at}

-- each is a byte
abbrev pub AreBytes : List ℕ → Type 0
AreBytes xs = (i : ℕ) → get_or xs i 0 < 256

bytes_drop : (n : ℕ) (xs : List ℕ) → AreBytes xs → AreBytes (drop n xs)
bytes_drop n xs small i = rw get_or-drop (small (n + i))

bytes_take : (n : ℕ) (xs : List ℕ) → AreBytes xs → AreBytes (take n xs)
bytes_take zero xs small i = omega arith
bytes_take (suc n) [] small i = omega arith
bytes_take (suc n) (x ∷ xs) small zero = small 0
bytes_take (suc n) (x ∷ xs) small (suc i) = bytes_take n xs (λ j. small (suc j)) i

pub length-number_bytes : (n : ℕ) → length (number_bytes n) ≡ 4
unfolding number_bytes
length-number_bytes n = refl

-- the number that four bytes hold is spelled by them
four_back : (bs : List ℕ) → length bs ≡ 4 → AreBytes bs → number_bytes (little_number 4 bs) ≡ bs
unfolding number_bytes
four_back bs l small = le_bytes_4 bs (little_number 4 bs) l small (omega arith)

pub number_bytes-word_at : (bytes : List ℕ) (at : ℕ) → at + 4 ≤ length bytes → AreBytes bytes → number_bytes (word_at bytes at) ≡ take 4 (drop at bytes)
unfolding word_at
number_bytes-word_at bytes at fits small =
    let long : 4 ≤ length (drop at bytes) = omega (arith, length-drop at bytes) in
    let here : AreBytes (take 4 (drop at bytes)) = bytes_take 4 (drop at bytes) (bytes_drop at bytes small) in
    let same : little_number 4 (take 4 (drop at bytes)) ≡ little_number 4 (drop at bytes) = little_from-take 0 4 4 (drop at bytes) (omega arith) in
    ap number_bytes (sym same) ∙ four_back (take 4 (drop at bytes)) (length-take-le 4 (drop at bytes) long) here

-- a number that is spelled is read
pub word_at-number_bytes : (a b : List ℕ) (n : ℕ) → n < 4294967296 → word_at (a ++ (number_bytes n ++ b)) (length a) ≡ n
unfolding word_at number_bytes
word_at-number_bytes a b n small = ap (little_number 4) (drop_at a (number_bytes n ++ b) (length a) refl) ∙ little_number-reads_back 4 n b small

pub length-words : (ns : List ℕ) → length (flat_map number_bytes ns) ≡ 4 * length ns
length-words [] = refl
length-words (n ∷ ns) = omega (arith, length-append (number_bytes n) (flat_map number_bytes ns), length-number_bytes n, length-words ns)

-- of numbers that are spelled one after another, each is read at its place
pub words_at : (a ns b : List ℕ) (k : ℕ) → k < length ns → ((i : ℕ) → get_or ns i 0 < 4294967296) → word_at (a ++ (flat_map number_bytes ns ++ b)) (length a + 4 * k) ≡ get_or ns k 0
words_at a [] b k lt small = absurd (omega arith)
words_at a (n ∷ ns) b zero lt small =
    let here : length a + 4 * zero ≡ length a = omega arith in
    rw (here, append_assoc (number_bytes n) (flat_map number_bytes ns) b) (word_at-number_bytes a (flat_map number_bytes ns ++ b) n (small 0))
words_at a (n ∷ ns) b (suc k) lt small =
    let on = words_at (a ++ number_bytes n) ns b k (omega arith) (λ i. small (suc i)) in
    let here : length a + 4 * suc k ≡ length (a ++ number_bytes n) + 4 * k = omega (arith, length-append a (number_bytes n), length-number_bytes n) in
    let text : a ++ ((number_bytes n ++ flat_map number_bytes ns) ++ b) ≡ (a ++ number_bytes n) ++ (flat_map number_bytes ns ++ b) = ap (λ (r : List ℕ). a ++ r) (append_assoc (number_bytes n) (flat_map number_bytes ns) b) ∙ sym (append_assoc a (number_bytes n) (flat_map number_bytes ns ++ b)) in
    rw (here, text) on
