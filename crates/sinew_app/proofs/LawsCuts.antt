-- Where one text ends and the next begins, in a text that is put together.
use Rattle.std.proofs.Common.{◌≡◌, ◌≢◌, ℕ, zero, suc, ◌<◌, ◌≤◌, ◌/◌, ◌%◌, Bool, true, false, cond, eqb, List, [], ◌∷◌, ◌++◌, refl, sym, ap, ◌∙◌, append_assoc, arith}
use Rattle.std.specs.Prelude.{flat_map, decimal}
use Rattle.std.specs.Fmt.{digits, digits_onto, digit_glyph}
use Rattle.std.specs.List.{AllByRecursion}
use Rattle.std.proofs.lemmas.Bool.Decides.{nat_tests}
use Rattle.std.proofs.lemmas.Bool.{true≢false}
use Rattle.std.proofs.lemmas.List.Elements.{recursion_from_All}
use Rattle.exec_finish.specs.Lines.{is_mark, IsAnswerLine, IsLines}
use Rattle.exec_finish.specs.Answer.{line}

-- The text does not hold the byte.
abbrev pub Free : ℕ → List ℕ → Type 0
Free byte text = AllByRecursion (λ c. c ≢ byte) text

-- Texts up to the first byte that neither holds are the same, and so are the texts behind it.
pub cut : (byte : ℕ) (s t x y : List ℕ) → Free byte s → Free byte t → s ++ byte ∷ x ≡ t ++ byte ∷ y → (s ≡ t) × (x ≡ y)
cut byte [] [] x y f g e = (refl, cc)
cut byte [] (d ∷ t) x y f g e = absurd (g.0 (cc))
cut byte (c ∷ s) [] x y f g e = absurd (f.0 (cc))
cut byte (c ∷ s) (d ∷ t) x y f g e =
    let head : c ≡ d = cc in
    let rest = cut byte s t x y f.1 g.1 (cc) in
    (cc, rest.1)

-- ---- the digits of a number

abbrev High : List ℕ → Type 0
High = AllByRecursion (λ byte. 48 ≤ byte)

glyph_high : (d : ℕ) → 48 ≤ digit_glyph false d
glyph_high d = grind (arith, nat_tests)

either : (b : Bool) (s t : List ℕ) → High s → High t → High (cond b s t)
either true s t h k = h
either false s t h k = k

digits_high : (k n : ℕ) (text : List ℕ) → High text → High (digits_onto k 10 false n text)
digits_high zero n text h = h
digits_high (suc k) n text h =
    let more : High (digit_glyph false (n % 10) ∷ text) = (glyph_high (n % 10), h) in
    either (eqb (n / 10) 0) _ _ more (digits_high k (n / 10) _ more)

decimal_high : (n : ℕ) → High (decimal n)
unfolding digits
decimal_high n = digits_high 64 n [] tt

high_free : (byte : ℕ) (text : List ℕ) → byte < 48 → High text → Free byte text
high_free byte [] low h = tt
high_free byte (c ∷ text) low h = (λ e. omega arith, high_free byte text low h.1)

pub decimal_free : (byte n : ℕ) → byte < 48 → Free byte (decimal n)
decimal_free byte n low = high_free byte (decimal n) low (decimal_high n)

pub free_append : (byte : ℕ) (s t : List ℕ) → Free byte s → Free byte t → Free byte (s ++ t)
free_append byte [] t f g = g
free_append byte (c ∷ s) t f g = (f.0, free_append byte s t f.1 g)

-- ---- whole lines before a text that begins with a mark

-- The text begins with a mark.
abbrev pub Marked : List ℕ → Type 0
Marked [] = ⊥
Marked (c ∷ cs) = is_mark c ≡ true

line_free : (l : List ℕ) → IsAnswerLine l → Free 10 l
line_free [] u = absurd u
line_free (c ∷ cs) u = recursion_from_All (λ byte. byte ≢ 10) (c ∷ cs) u.1

apart : (l x rest : List ℕ) → IsAnswerLine l → Marked x → x ≡ l ++ rest → ⊥
apart [] x rest u m e = u
apart (c ∷ cs) [] rest u m e = m
apart (c ∷ cs) (d ∷ x) rest u m e =
    let same : d ≡ c = cc in
    true≢false (sym m ∙ (ap is_mark same ∙ u.0))

line_flat : (l more : List ℕ) → line l ++ more ≡ l ++ 10 ∷ more
line_flat l more = append_assoc l (10 ∷ []) more

lines_flat : (l : List ℕ) (ls : List (List ℕ)) (x : List ℕ) → flat_map line (l ∷ ls) ++ x ≡ l ++ 10 ∷ (flat_map line ls ++ x)
lines_flat l ls x = append_assoc (line l) (flat_map line ls) x ∙ line_flat l (flat_map line ls ++ x)

-- Whole lines that no mark begins, before a text that a mark begins, are the same in the same text.
pub cut_lines : (ls ms : List (List ℕ)) (x y : List ℕ) → AllByRecursion IsAnswerLine ls → AllByRecursion IsAnswerLine ms → Marked x → Marked y →
    flat_map line ls ++ x ≡ flat_map line ms ++ y → (flat_map line ls ≡ flat_map line ms) × (x ≡ y)
cut_lines [] [] x y us vs p q e = (refl, e)
cut_lines [] (m ∷ ms) x y us vs p q e = absurd (apart m x _ vs.0 p (e ∙ lines_flat m ms y))
cut_lines (l ∷ ls) [] x y us vs p q e = absurd (apart l y _ us.0 q (sym e ∙ lines_flat l ls x))
cut_lines (l ∷ ls) (m ∷ ms) x y us vs p q e =
    let here = cut 10 l m _ _ (line_free l us.0) (line_free m vs.0) (sym (lines_flat l ls x) ∙ (e ∙ lines_flat m ms y)) in
    let rest = cut_lines ls ms x y us.1 vs.1 p q here.1 in
    (ap (λ (k : List ℕ). line k ++ flat_map line ls) here.0 ∙ ap (λ (more : List ℕ). line m ++ more) rest.0, rest.1)

-- Two replies' lines before a text that a mark begins.
pub cut_bodies : (s t x y : List ℕ) → IsLines s → IsLines t → Marked x → Marked y → s ++ x ≡ t ++ y → x ≡ y
cut_bodies s t x y a b p q e =
    (cut_lines a.lines b.lines x y (recursion_from_All IsAnswerLine a.lines a.each) (recursion_from_All IsAnswerLine b.lines b.each) p q
    (ap (λ (text : List ℕ). text ++ x) (sym a.whole) ∙ (e ∙ ap (λ (text : List ℕ). text ++ y) b.whole))).1
