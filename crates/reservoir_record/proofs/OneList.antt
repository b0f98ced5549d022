-- A spelling has one list of fields.
use Rattle.std.proofs.Common.{◌≡◌, ℕ, suc, ◌+◌, ◌*◌, ◌<◌, ◌≤◌, List, [], ◌∷◌, ◌++◌, length, get_or, take, drop, refl, sym, ap, ◌∙◌, arith}
use Rattle.std.proofs.lemmas.List.{length-append, drop_at, take_at}
use Rattle.reservoir_record.specs.declared.fields.Field.{Field}
use Rattle.reservoir_record.specs.Spelling.{numbers, values, Spells}
use Rattle.reservoir_record.specs.Words.{offset_at}
use Rattle.reservoir_record.proofs.Told.{Told, told}

-- fields with the same number and value are the same
same_field : (f g : Field) → f.id ≡ g.id → f.bytes ≡ g.bytes → f ≡ g
same_field f g i b = ap (λ (x : ℕ). let made : Field = record { id = x; bytes = f.bytes } in made) i ∙ ap (λ (x : List ℕ). let made : Field = record { id = g.id; bytes = x } in made) b

same_fields : (a b : List Field) → length a ≡ length b
    → ((k : ℕ) → k < length a → get_or (numbers a) k 0 ≡ get_or (numbers b) k 0)
    → ((k : ℕ) → k ≤ length a → length (values (take k a)) ≡ length (values (take k b)))
    → values a ≡ values b → a ≡ b
same_fields [] [] l n o v = refl
same_fields [] (g ∷ gs) l n o v = absurd (omega arith)
same_fields (f ∷ fs) [] l n o v = absurd (omega arith)
same_fields (f ∷ fs) (g ∷ gs) l n o v =
    let first : length (f.bytes ++ []) ≡ length (g.bytes ++ []) = o 1 (omega arith) in
    let long : length f.bytes ≡ length g.bytes = omega (arith, length-append f.bytes [], length-append g.bytes []) in
    let here : f.bytes ≡ g.bytes = sym (take_at f.bytes (values fs) (length f.bytes) refl) ∙ ap (take (length f.bytes)) v ∙ take_at g.bytes (values gs) (length f.bytes) (sym long) in
    let rest : values fs ≡ values gs = sym (drop_at f.bytes (values fs) (length f.bytes) refl) ∙ ap (drop (length f.bytes)) v ∙ drop_at g.bytes (values gs) (length f.bytes) (sym long) in
    let later : fs ≡ gs = same_fields fs gs (omega arith) (λ k lt. n (suc k) (omega arith)) (λ k le. omega (arith, o (suc k) (omega arith), length-append f.bytes (values (take k fs)), length-append g.bytes (values (take k gs)))) rest in
    let same : f ≡ g = same_field f g (n 0 (omega arith)) here in
    cc

pub one_list : (a b : List Field) (bytes : List ℕ) → Spells a bytes → Spells b bytes → a ≡ b
one_list a b bytes s t =
    let in_a : Told a bytes = told a bytes s in
    let in_b : Told b bytes = told b bytes t in
    let long : length a ≡ length b = sym in_a.counted ∙ in_b.counted in
    let ids : (k : ℕ) → k < length a → get_or (numbers a) k 0 ≡ get_or (numbers b) k 0 = λ k lt. sym (in_a.number k lt) ∙ in_b.number k (omega arith) in
    let places : (k : ℕ) → k ≤ length a → length (values (take k a)) ≡ length (values (take k b)) = λ k le. sym (in_a.offset k le) ∙ ap (λ (n : ℕ). offset_at bytes n k) long ∙ in_b.offset k (omega arith) in
    let text : values a ≡ values b = sym in_a.behind ∙ ap (λ (n : ℕ). drop (8 + 8 * n) bytes) long ∙ in_b.behind in
    same_fields a b long ids places text
