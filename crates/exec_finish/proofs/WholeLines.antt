-- Every answer is whole lines.
use Rattle.std.proofs.Common.{◌≡◌, ◌≢◌, ◌≤◌, ℕ, suc, zero, List, [], ◌∷◌, ◌++◌, Bool, true, false, Option, Some, None, cond, not, map, take, filter, flat_map, codes, decimal, length, unwrap_or, refl, sym, append_assoc, arith, nat_eq, nat_le, ◌&&◌, ◌/◌, ◌%◌, is_lt}
use Rattle.std.specs.Prelude.{All, IfSome}
use Rattle.std.specs.List.{AllByRecursion as EachIs, list_all}
use Rattle.std.specs.Fmt.{digits, digits_onto, digit_glyph}
use Rattle.std.proofs.lemmas.Grind.{flat_map-append, common_steps}
use Rattle.std.proofs.lemmas.List.Elements.{All-from_recursion, recursion_from_All}
use Rattle.std.proofs.lemmas.Bool.{false≢true}
use Rattle.std.proofs.lemmas.Bool.Decides.{nat_tests}
use Rattle.json.specs.Print.{quoted}
use Rattle.doc_values.specs.declared.value.Value as value
use Rattle.doc_values.specs.Doc.{Fields}
use Rattle.doc_values.specs.Value.{value_text, printed, IsOneLine, HasOneLineArray}
use Rattle.row_columns.specs.Contents.{Output}
use Rattle.exec_finish.specs.Distinct.{is_alike, distinct}
use Rattle.exec_finish.specs.Order.{row_order, put_in, ordered}
use Rattle.exec_finish.specs.Answer.{limited, separated, member_text, document_text, line, row_line, ok_line, answer_text, finished}
use Rattle.exec_finish.specs.Lines.{is_mark, IsAnswerLine, IsLines, HasOneLineValues}

-- no byte is below a space
abbrev IsPlain : List ℕ → Type 0
IsPlain = EachIs (λ byte. 32 ≤ byte)

EachIs-append : {X : Type 0} (P : X → Type 0) (xs ys : List X) → EachIs P xs → EachIs P ys → EachIs P (xs ++ ys)
EachIs-append P [] ys a b = b
EachIs-append P (x ∷ xs) ys a b = (a.0, EachIs-append P xs ys a.1 b)

has_no_feed : (bytes : List ℕ) → IsPlain bytes → EachIs (λ byte. byte ≢ 10) bytes
has_no_feed [] h = tt
has_no_feed (c ∷ cs) h = (omega arith, has_no_feed cs h.1)

both_true : (a b : Bool) → a && b ≡ true → (a ≡ true) × (b ≡ true)
both_true true b e = (refl, e)
both_true false b e = absurd (false≢true e)

IsPlain-tested : (bytes : List ℕ) → list_all (λ byte. nat_le 32 byte) bytes ≡ true → IsPlain bytes
IsPlain-tested [] t = tt
IsPlain-tested (c ∷ cs) t = let both = both_true (nat_le 32 c) (list_all (λ byte. nat_le 32 byte) cs) t in (grind (arith, nat_tests), IsPlain-tested cs both.1)

IsPlain-glyph : (n : ℕ) → 32 ≤ digit_glyph false (n % 10)
IsPlain-glyph n = grind (arith, nat_tests)

IsPlain-cond : (t : Bool) (a b : List ℕ) → IsPlain a → IsPlain b → IsPlain (cond t a b)
IsPlain-cond true a b h k = h
IsPlain-cond false a b h k = k

IsPlain-digits_onto : (k n : ℕ) (acc : List ℕ) → IsPlain acc → IsPlain (digits_onto k 10 false n acc)
IsPlain-digits_onto zero n acc h = h
IsPlain-digits_onto (suc k) n acc h =
    IsPlain-cond (nat_eq (n / 10) 0) _ _ (IsPlain-glyph n, h) (IsPlain-digits_onto k (n / 10) (digit_glyph false (n % 10) ∷ acc) (IsPlain-glyph n, h))

IsPlain-decimal : (n : ℕ) → IsPlain (decimal n)
unfolding digits
IsPlain-decimal n = IsPlain-digits_onto 64 n [] tt

-- lines, one behind another
record AreLines (text : List ℕ) : Type 0 where
  lines : List (List ℕ)
  whole : text ≡ flat_map line lines
  each : EachIs IsAnswerLine lines

IsLines-from_recursion : (text : List ℕ) → AreLines text → IsLines text
IsLines-from_recursion text h = record { lines = h.lines; whole = h.whole; each = All-from_recursion IsAnswerLine h.lines h.each }

AreLines-line : (c : ℕ) (cs : List ℕ) → is_mark c ≡ false → IsPlain (c ∷ cs) → AreLines (line (c ∷ cs))
AreLines-line c cs m h = record {
  lines = (c ∷ cs) ∷ [];
  whole = grind (arith, common_steps);
  each = ((m, All-from_recursion (λ byte. byte ≢ 10) (c ∷ cs) (has_no_feed (c ∷ cs) h)), tt);
}

AreLines-append : (a b : List ℕ) → AreLines a → AreLines b → AreLines (a ++ b)
AreLines-append a b h k = record {
  lines = h.lines ++ k.lines;
  whole = rw (h.whole, k.whole) (sym (flat_map-append line h.lines k.lines));
  each = EachIs-append IsAnswerLine h.lines k.lines h.each k.each;
}

AreLines-ok : (n : ℕ) → AreLines (ok_line n)
AreLines-ok n = AreLines-line 111 (107 ∷ 32 ∷ decimal n) refl (EachIs-append _ (codes "ok ") (decimal n) (IsPlain-tested (codes "ok ") refl) (IsPlain-decimal n))

-- ---- the line of a row

-- the law of the crate below
abbrev PrintsPlainly : Type 0
PrintsPlainly = (v : Option value.Value) → IfSome v HasOneLineArray → IsOneLine (printed v)

IsPlain-printed : PrintsPlainly → (v : Option value.Value) → IfSome v HasOneLineArray → IsPlain (printed v)
IsPlain-printed prints v h = recursion_from_All (λ byte. 32 ≤ byte) (printed v) (prints v h)

IsPlain-rest : (ts : List (List ℕ)) → EachIs IsPlain ts → IsPlain (flat_map (λ u. codes "," ++ u) ts)
IsPlain-rest [] h = tt
IsPlain-rest (t ∷ ts) h = (omega arith, EachIs-append _ t (flat_map (λ u. codes "," ++ u) ts) h.0 (IsPlain-rest ts h.1))

IsPlain-separated : (ts : List (List ℕ)) → EachIs IsPlain ts → IsPlain (separated ts)
IsPlain-separated [] h = tt
IsPlain-separated (t ∷ ts) h = EachIs-append _ t (flat_map (λ u. codes "," ++ u) ts) h.0 (IsPlain-rest ts h.1)

printed_plain : PrintsPlainly → (items : List (Option value.Value)) → EachIs (λ item. IfSome item HasOneLineArray) items → EachIs IsPlain (map printed items)
printed_plain prints [] h = tt
printed_plain prints (item ∷ items) h = (IsPlain-printed prints item h.0, printed_plain prints items h.1)

members_plain : PrintsPlainly → (fields : Fields) → EachIs (λ field. HasOneLineArray field.1) fields → EachIs IsPlain (map member_text fields)
members_plain prints [] h = tt
members_plain prints (f ∷ fs) h =
    let name : IsPlain (quoted f.0) = IsPlain-printed prints (Some (value.TheVariants.Text f.0)) tt in
    let text : IsPlain (value_text f.1) = IsPlain-printed prints (Some f.1) h.0 in
    (EachIs-append _ (quoted f.0 ++ codes ":") (value_text f.1) (EachIs-append _ (quoted f.0) (codes ":") name (IsPlain-tested (codes ":") refl)) text, members_plain prints fs h.1)

-- a text in brackets is the line that begins with the first of them
AreLines-between : (first last : ℕ) (text : List ℕ) → is_mark first ≡ false → 32 ≤ first → 32 ≤ last → IsPlain text → AreLines (line ((first ∷ []) ++ text ++ (last ∷ [])))
AreLines-between first last text m f l h = AreLines-line first (text ++ last ∷ []) m (f, EachIs-append _ text (last ∷ []) h (l, tt))

AreLines-fields : PrintsPlainly → (doc : Option Fields) → IfSome doc (λ fields. All (λ field. HasOneLineArray field.1) fields) → AreLines (line (document_text (unwrap_or doc [])))
AreLines-fields prints None h = AreLines-between 123 125 [] refl (omega arith) (omega arith) tt
AreLines-fields prints (Some fields) h =
    AreLines-between 123 125 (separated (map member_text fields)) refl (omega arith) (omega arith)
    (IsPlain-separated (map member_text fields) (members_plain prints fields (recursion_from_All (λ field. HasOneLineArray field.1) fields h)))

AreLines-row : PrintsPlainly → (star : Bool) (row : Output) → HasOneLineValues row → AreLines (row_line star row)
AreLines-row prints true row h = AreLines-fields prints row.doc h.doc
AreLines-row prints false row h =
    AreLines-between 91 93 (separated (map printed row.items)) refl (omega arith) (omega arith)
    (IsPlain-separated (map printed row.items) (printed_plain prints row.items (recursion_from_All (λ item. IfSome item HasOneLineArray) row.items h.items)))

AreLines-rows : PrintsPlainly → (star : Bool) (rows : List Output) → EachIs HasOneLineValues rows → (end : List ℕ) → AreLines end → AreLines (flat_map (row_line star) rows ++ end)
AreLines-rows prints star [] h end e = e
AreLines-rows prints star (r ∷ rs) h end e =
    rw append_assoc (AreLines-append (row_line star r) (flat_map (row_line star) rs ++ end) (AreLines-row prints star r h.0) (AreLines-rows prints star rs h.1 end e))

AreLines-answer : PrintsPlainly → (star : Bool) (rows : List Output) → EachIs HasOneLineValues rows → AreLines (answer_text star rows)
AreLines-answer prints star rows h = AreLines-rows prints star rows h (ok_line (length rows)) (AreLines-ok (length rows))

-- ---- what each row has, each of those that are left has

EachIs-filter : (P : Output → Type 0) (test : Output → Bool) (rs : List Output) → EachIs P rs → EachIs P (filter test rs)
EachIs-filter P test [] h = tt
EachIs-filter P test (r ∷ rs) h = by_test (EachIs-filter P test rs h.1) (test r)
  where
    by_test : EachIs P (filter test rs) → (b : Bool) → EachIs P (cond b (r ∷ filter test rs) (filter test rs))
    by_test more true = (h.0, more)
    by_test more false = more

EachIs-distinct : (P : Output → Type 0) (rs : List Output) → EachIs P rs → EachIs P (distinct rs)
EachIs-distinct P [] h = tt
EachIs-distinct P (r ∷ rs) h = (h.0, EachIs-filter P (λ s. not (is_alike r s)) (distinct rs) (EachIs-distinct P rs h.1))

EachIs-put_in : (P : Output → Type 0) (descending : List Bool) (r : Output) (ss : List Output) → P r → EachIs P ss → EachIs P (put_in descending r ss)
EachIs-put_in P descending r [] p h = (p, tt)
EachIs-put_in P descending r (s ∷ ss) p h = by_order (EachIs-put_in P descending r ss p h.1) (is_lt (row_order descending s r))
  where
    by_order : EachIs P (put_in descending r ss) → (b : Bool) → EachIs P (cond b (s ∷ put_in descending r ss) (r ∷ s ∷ ss))
    by_order more true = (h.0, more)
    by_order more false = (p, h)

EachIs-ordered : (P : Output → Type 0) (descending : List Bool) (rs : List Output) → EachIs P rs → EachIs P (ordered descending rs)
EachIs-ordered P descending [] h = tt
EachIs-ordered P descending (r ∷ rs) h = EachIs-put_in P descending r (ordered descending rs) h.0 (EachIs-ordered P descending rs h.1)

EachIs-take : (P : Output → Type 0) (n : ℕ) (rs : List Output) → EachIs P rs → EachIs P (take n rs)
EachIs-take P zero rs h = tt
EachIs-take P (suc n) [] h = tt
EachIs-take P (suc n) (r ∷ rs) h = (h.0, EachIs-take P n rs h.1)

EachIs-limited : (P : Output → Type 0) (limit : Option ℕ) (rs : List Output) → EachIs P rs → EachIs P (limited limit rs)
EachIs-limited P None rs h = h
EachIs-limited P (Some n) rs h = EachIs-take P n rs h

EachIs-chosen : (P : Output → Type 0) (is_distinct : Bool) (rs : List Output) → EachIs P rs → EachIs P (cond is_distinct (distinct rs) rs)
EachIs-chosen P true rs h = EachIs-distinct P rs h
EachIs-chosen P false rs h = h

-- ---- the laws

pub IsLines-answer : PrintsPlainly → (star : Bool) (rows : List Output) → All HasOneLineValues rows → IsLines (answer_text star rows)
IsLines-answer prints star rows h = IsLines-from_recursion (answer_text star rows) (AreLines-answer prints star rows (recursion_from_All HasOneLineValues rows h))

pub IsLines-finished : PrintsPlainly → (is_distinct : Bool) (descending : List Bool) (limit : Option ℕ) (star : Bool) (rows : List Output) → All HasOneLineValues rows → IsLines (finished is_distinct descending limit star rows)
IsLines-finished prints is_distinct descending limit star rows h =
    let P = HasOneLineValues in
    let chosen = EachIs-chosen P is_distinct rows (recursion_from_All P rows h) in
    let sorted = EachIs-ordered P descending (cond is_distinct (distinct rows) rows) chosen in
    IsLines-from_recursion _ (AreLines-answer prints star _ (EachIs-limited P limit (ordered descending (cond is_distinct (distinct rows) rows)) sorted))
