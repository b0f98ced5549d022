-- Numbers that are spelled one after another, each turned into another in its turn.
use Rattle.std.proofs.Common.{◌≡◌, ℕ, ◌+◌, ◌*◌, ◌-◌, ◌<◌, ◌≤◌, List, [], ◌∷◌, ◌++◌, length, get_or, take, drop, map, refl, sym, ap, ◌∙◌, arith}
use Rattle.std.specs.List.{flat_map}
use Rattle.std.proofs.Math.Seq.{drop-append-add}
use Rattle.std.proofs.lemmas.List.{length-append, length-take-le, length-map, append_assoc, append-nil, drop_at, take_at, take_all, drop_all, take_more, drop_more, map_push}
use Rattle.std.proofs.lemmas.List.Concat.{flat_map-append}
use Rattle.reservoir_record.specs.Spelling.{number_bytes}
use Rattle.reservoir_record.specs.Words.{word_at}
use Rattle.reservoir_record.proofs.FourBytes.{length-number_bytes, length-words, word_at-number_bytes}

-- the numbers, each raised
abbrev pub raised : ℕ → List ℕ → List ℕ
raised by ns = map (λ n. n + by) ns

-- a list with four bytes written over
abbrev pub written : List ℕ → ℕ → ℕ → List ℕ
written xs at n = take at xs ++ (number_bytes n ++ drop (at + 4) xs)

-- the numbers before a place are turned
pub record Turned (turn : ℕ → ℕ) (at count : ℕ) (old now : List ℕ) (place : ℕ) : Type 0 where
  pub same : length now ≡ length old
  pub text : (a ns c : List ℕ) → old ≡ a ++ (flat_map number_bytes ns ++ c) → length a ≡ at → length ns ≡ count → ((i : ℕ) → get_or ns i 0 < 4294967296)
      → now ≡ (a ++ flat_map number_bytes (map turn (take place ns))) ++ (flat_map number_bytes (drop place ns) ++ c)
  pub later : (i : ℕ) → place ≤ i → i < count → word_at now (at + 4 * i) ≡ word_at old (at + 4 * i)

pub turned_none : (turn : ℕ → ℕ) (at count : ℕ) (old : List ℕ) → Turned turn at count old old 0
turned_none turn at count old = record {
  same = refl;
  text = λ a ns c e l m s. e ∙ ap (λ (r : List ℕ). r ++ (flat_map number_bytes ns ++ c)) (sym (append-nil a));
  later = λ i le lt. refl;
}

length-written : (xs : List ℕ) (at n : ℕ) → at + 4 ≤ length xs → length (written xs at n) ≡ length xs
length-written xs at n fits = omega (arith, length-append (take at xs) (number_bytes n ++ drop (at + 4) xs), length-append (number_bytes n) (drop (at + 4) xs), length-number_bytes n, length-take-le at xs (omega arith), Rattle.std.proofs.lemmas.List.length-drop (at + 4) xs)

-- a word behind one that is written stays
word_behind : (xs : List ℕ) (at n m : ℕ) → at + 4 ≤ length xs → word_at (written xs at n) (at + 4 + m) ≡ word_at xs (at + 4 + m)
unfolding word_at
word_behind xs at n m fits =
    let front : length (take at xs ++ number_bytes n) ≡ at + 4 = omega (arith, length-append (take at xs) (number_bytes n), length-number_bytes n, length-take-le at xs (omega arith)) in
    let text : written xs at n ≡ (take at xs ++ number_bytes n) ++ drop (at + 4) xs = sym (append_assoc (take at xs) (number_bytes n) (drop (at + 4) xs)) in
    let behind : drop (at + 4 + m) (written xs at n) ≡ drop m (drop (at + 4) xs) =
    ap (λ (p : ℕ). drop (p + m) (written xs at n)) (sym front) ∙ ap (drop (length (take at xs ++ number_bytes n) + m)) text ∙ drop-append-add (take at xs ++ number_bytes n) (drop (at + 4) xs) m in
    ap (Rattle.byteorder.specs.Endian.little_number 4) (behind ∙ Rattle.std.proofs.lemmas.List.drop-drop m (at + 4) xs)

-- one number written over by another
write_one : (p rest c : List ℕ) (turn : ℕ → ℕ) (x : ℕ) (at : ℕ) → length p ≡ at → x < 4294967296 → (now : List ℕ) → now ≡ p ++ ((number_bytes x ++ rest) ++ c) → written now at (turn (word_at now at)) ≡ p ++ (number_bytes (turn x) ++ (rest ++ c))
write_one p rest c turn x at l small now e =
    let text : now ≡ p ++ (number_bytes x ++ (rest ++ c)) = e ∙ ap (λ (r : List ℕ). p ++ r) (append_assoc (number_bytes x) rest c) in
    let read : word_at now at ≡ x = ap (λ (b : List ℕ). word_at b at) text ∙ ap (word_at (p ++ (number_bytes x ++ (rest ++ c)))) (sym l) ∙ word_at-number_bytes p (rest ++ c) x small in
    let front : take at now ≡ p = ap (take at) text ∙ take_at p (number_bytes x ++ (rest ++ c)) at l in
    let back : drop (at + 4) now ≡ rest ++ c = ap (drop (at + 4)) (text ∙ sym (append_assoc p (number_bytes x) (rest ++ c))) ∙ drop_at (p ++ number_bytes x) (rest ++ c) (at + 4) (omega (arith, length-append p (number_bytes x), length-number_bytes x)) in
    rw (read, front, back) refl

one_more : (turn : ℕ → ℕ) (ns : List ℕ) (place : ℕ) (c a : List ℕ) → place < length ns
    → a ++ flat_map number_bytes (map turn (take place ns)) ++ (number_bytes (turn (get_or ns place 0)) ++ (flat_map number_bytes (drop (place + 1) ns) ++ c)) ≡ (a ++ flat_map number_bytes (map turn (take (place + 1) ns))) ++ (flat_map number_bytes (drop (place + 1) ns) ++ c)
one_more turn ns place c a lt =
    let more : flat_map number_bytes (map turn (take (place + 1) ns)) ≡ flat_map number_bytes (map turn (take place ns)) ++ (number_bytes (turn (get_or ns place 0)) ++ []) =
    ap (λ (r : List ℕ). flat_map number_bytes (map turn r)) (take_more ns place 0 lt)
    ∙ ap (flat_map number_bytes) (map_push turn (take place ns) (get_or ns place 0))
    ∙ flat_map-append number_bytes (map turn (take place ns)) (turn (get_or ns place 0) ∷ []) in
    rw more (simp (append_assoc, append-nil))

pub turned_more : (turn : ℕ → ℕ) (at count : ℕ) (old now new : List ℕ) (place : ℕ) → at + 4 * count ≤ length old → place < count → Turned turn at count old now place → new ≡ written now (at + 4 * place) (turn (word_at now (at + 4 * place))) → Turned turn at count old new (place + 1)
turned_more turn at count old now new place within lt r e = record {
  same = ap length e ∙ length-written now (at + 4 * place) (turn (word_at now (at + 4 * place))) (omega (arith, r.same)) ∙ r.same;
  text = λ a ns c o l m s.
      let long : place < length ns = omega arith in
      let front : length (a ++ flat_map number_bytes (map turn (take place ns))) ≡ at + 4 * place = omega (arith, length-append a (flat_map number_bytes (map turn (take place ns))), length-words (map turn (take place ns)), length-map (take place ns) turn, length-take-le place ns (omega arith)) in
      let was : now ≡ (a ++ flat_map number_bytes (map turn (take place ns))) ++ ((number_bytes (get_or ns place 0) ++ flat_map number_bytes (drop (place + 1) ns)) ++ c) = r.text a ns c o l m s ∙ ap (λ (d : List ℕ). (a ++ flat_map number_bytes (map turn (take place ns))) ++ (flat_map number_bytes d ++ c)) (drop_more ns place 0 long) in
      e ∙ write_one (a ++ flat_map number_bytes (map turn (take place ns))) (flat_map number_bytes (drop (place + 1) ns)) c turn (get_or ns place 0) (at + 4 * place) front (s place) now was ∙ one_more turn ns place c a long;
  later = λ i le lt2.
      let there : at + 4 * i ≡ at + 4 * place + 4 + (4 * i - 4 * place - 4) = omega arith in
      ap (λ (b : List ℕ). word_at b (at + 4 * i)) e ∙ ap (word_at (written now (at + 4 * place) (turn (word_at now (at + 4 * place))))) there ∙ word_behind now (at + 4 * place) (turn (word_at now (at + 4 * place))) (4 * i - 4 * place - 4) (omega (arith, r.same)) ∙ ap (word_at now) (sym there) ∙ r.later i (omega arith) lt2;
}
