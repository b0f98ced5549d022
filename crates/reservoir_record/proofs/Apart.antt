-- The parts of a list of fields, each apart.
use Rattle.std.proofs.Common.{◌≡◌, ℕ, ◌+◌, ◌≤◌, List, [], ◌∷◌, ◌++◌, length, sym, ap, subst, ◌∙◌, arith}
use Rattle.std.proofs.lemmas.List.{length-append, length-map, append-nil, append_assoc, map-append}
use Rattle.std.specs.List.{flat_map}
use Rattle.std.proofs.lemmas.List.Concat.{flat_map-append}
use Rattle.reservoir_record.specs.declared.fields.Field.{Field}
use Rattle.reservoir_record.specs.Spelling.{number_bytes, numbers, values, offsets, ends, Ascends, AreFields, ArePartsOf, spelling}
use Rattle.reservoir_record.proofs.Lists.{few, offsets_are}

-- the end of one more value
ends_more : (at : ℕ) (fs : List Field) (f : Field) → ends at (fs ++ (f ∷ [])) ≡ ends at fs ++ ((at + length (values fs) + length f.bytes) ∷ [])
ends_more at [] f = let same : at + length f.bytes ≡ at + 0 + length f.bytes = omega arith in ap (λ (n : ℕ). n ∷ []) same
ends_more at (g ∷ fs) f =
    let on : at + length g.bytes + length (values fs) + length f.bytes ≡ at + length (g.bytes ++ values fs) + length f.bytes = omega (arith, length-append g.bytes (values fs)) in
    ap (λ (r : List ℕ). (at + length g.bytes) ∷ r) (ends_more (at + length g.bytes) fs f ∙ ap (λ (n : ℕ). ends (at + length g.bytes) fs ++ (n ∷ [])) on)

pub one_more : (fields : List Field) (f : Field) (ids value_ends text : List ℕ) → ArePartsOf fields ids value_ends text → ArePartsOf (fields ++ (f ∷ [])) (ids ++ (f.id ∷ [])) (value_ends ++ ((length text + length f.bytes) ∷ [])) (text ++ f.bytes)
one_more fields f ids value_ends text p = record {
  numbered = ap (λ (r : List ℕ). r ++ (f.id ∷ [])) p.numbered ∙ sym (map-append (λ (g : Field). g.id) fields (f ∷ []));
  placed = let from : length text + length f.bytes ≡ 0 + length (values fields) + length f.bytes = omega (arith, ap length p.whole) in
      ap (λ (r : List ℕ). r ++ ((length text + length f.bytes) ∷ [])) p.placed ∙ ap (λ (n : ℕ). ends 0 fields ++ (n ∷ [])) from ∙ sym (ends_more 0 fields f);
  whole = ap (λ (r : List ℕ). r ++ f.bytes) p.whole ∙ ap (λ (r : List ℕ). values fields ++ r) (sym (append-nil f.bytes)) ∙ sym (flat_map-append (λ (g : Field). g.bytes) fields (f ∷ []));
}

-- fields with the numbers of those that ascend
pub ascends_alike : (least : ℕ) (a b : List Field) → numbers a ≡ numbers b → Ascends least a → Ascends least b
ascends_alike least [] [] e s = tt
ascends_alike least [] (g ∷ gs) e s = absurd (cc)
ascends_alike least (f ∷ fs) [] e s = tt
ascends_alike least (f ∷ fs) (g ∷ gs) e s =
    let here : f.id ≡ g.id = cc in
    let later : numbers fs ≡ numbers gs = cc in
    (omega (arith, s.0), omega (arith, s.1), ascends_alike (g.id + 1) fs gs later (subst (λ (n : ℕ). Ascends (n + 1) fs) here s.2))

-- the parts say whether fields are those of a record
pub fields_alike : (a b : List Field) (ids value_ends text : List ℕ) → AreFields a → ArePartsOf a ids value_ends text → ArePartsOf b ids value_ends text → AreFields b
fields_alike a b ids value_ends text s p q = record {
  ascend = ascends_alike 0 a b (sym p.numbered ∙ q.numbered) s.ascend;
  fit = omega (arith, ap length p.whole, ap length q.whole, s.fit);
}

-- so many numbers, and so many bytes, there can be
pub record AreFew (ids text : List ℕ) : Type 0 where
  pub numbers_few : length ids ≤ 65536
  pub bytes_few : length text ≤ 16777216

pub are_few : (fields : List Field) (ids value_ends text : List ℕ) → AreFields fields → ArePartsOf fields ids value_ends text → AreFew ids text
are_few fields ids value_ends text s p = record {
  numbers_few = omega (arith, ap length p.numbered, length-map fields (λ (f : Field). f.id), few 0 fields s.ascend (omega arith));
  bytes_few = omega (arith, ap length p.whole, s.fit);
}

in_order : (h i z e v : List ℕ) → (((h ++ i) ++ z) ++ e) ++ v ≡ h ++ (i ++ ((z ++ e) ++ v))
in_order h i z e v = simp append_assoc

-- the parts, one after another, are the spelling
pub put_together : (fields : List Field) (ids value_ends text : List ℕ) → ArePartsOf fields ids value_ends text
    → (((number_bytes (length ids) ++ flat_map number_bytes ids) ++ number_bytes 0) ++ flat_map number_bytes value_ends) ++ text ≡ spelling fields
put_together fields ids value_ends text p =
    let many : length ids ≡ length fields = ap length p.numbered ∙ length-map fields (λ (f : Field). f.id) in
    let places : number_bytes 0 ++ flat_map number_bytes value_ends ≡ flat_map number_bytes (offsets 0 fields) = ap (λ (r : List ℕ). flat_map number_bytes (0 ∷ r)) p.placed ∙ ap (flat_map number_bytes) (sym (offsets_are 0 fields)) in
    in_order (number_bytes (length ids)) (flat_map number_bytes ids) (number_bytes 0) (flat_map number_bytes value_ends) text
    ∙ ap (λ (n : ℕ). number_bytes n ++ (flat_map number_bytes ids ++ ((number_bytes 0 ++ flat_map number_bytes value_ends) ++ text))) many
    ∙ ap (λ (r : List ℕ). number_bytes (length fields) ++ (flat_map number_bytes ids ++ (r ++ text))) places
    ∙ ap (λ (r : List ℕ). number_bytes (length fields) ++ (flat_map number_bytes r ++ (flat_map number_bytes (offsets 0 fields) ++ text))) p.numbered
    ∙ ap (λ (r : List ℕ). number_bytes (length fields) ++ (flat_map number_bytes (numbers fields) ++ (flat_map number_bytes (offsets 0 fields) ++ r))) p.whole
