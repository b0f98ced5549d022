-- Lists and texts behind one another.
use Rattle.std.proofs.Common.{◌≡◌, ◌∙◌, ℕ, ◌+◌, ◌-◌, ◌≤◌, List, ◌++◌, length, take, drop, refl, sym, ap, subst, arith, IsUtf8, slice_range, length-append, length-drop}
use Rattle.std.specs.Prelude.{IsCharBoundary}
use Rattle.std.proofs.lemmas.List.{take-append-le, drop-append-le, take_all}
use Rattle.std.proofs.lemmas.Str.{IsUtf8-take, IsCharBoundary-from_take, IsCharBoundary-end, IsCharBoundary-at_seam}
use Rattle.std.proofs.Math.Seq.{drop-append_seam}
use Rattle.doc_values.specs.declared.span.Span.{Span}
use Rattle.doc_values.specs.Spans.{text_at, IsSpan, KeepsSpans}

-- a place between characters stays one
boundary_kept : (t s : List ℕ) (i : ℕ) → IsUtf8 t → IsUtf8 (t ++ s) → IsCharBoundary t i → IsCharBoundary (t ++ s) i
boundary_kept t s i text whole b =
    let le : i ≤ length t = b.0 in
    let front : IsUtf8 (take i (t ++ s)) = rw take-append-le (IsUtf8-take t i text b) in
    IsCharBoundary-from_take (t ++ s) i whole (omega (arith, length-append t s)) front

-- a part of a list stays
pub range_kept : {X : Type 0} (t s : List X) (a b : ℕ) → a ≤ b → b ≤ length t → slice_range (t ++ s) a b ≡ slice_range t a b
range_kept t s a b le within =
    let first : a ≤ length t = omega arith in
    let second : b - a ≤ length (drop a t) = omega (arith, length-drop a t) in
    ap (take (b - a)) (drop-append-le a t s first) ∙ take-append-le (b - a) (drop a t) s second

-- what is put behind is a part
pub range_put : {X : Type 0} (t s new : List X) (a b : ℕ) → new ≡ t ++ s → a ≡ length t → b ≡ length new → slice_range new a b ≡ s
range_put t s new a b e begin end =
    let longer : length new ≡ length t + length s = ap length e ∙ length-append t s in
    let behind : drop a new ≡ s = ap (drop a) e ∙ ap (λ n. drop n (t ++ s)) begin ∙ drop-append_seam t s in
    let le : length s ≤ b - a = omega arith in ap (take (b - a)) behind ∙ take_all (b - a) s le

-- spans stay where a text is put behind
pub spans_kept : (t s new : List ℕ) → new ≡ t ++ s → IsUtf8 t → IsUtf8 new → KeepsSpans t new
spans_kept t s new e text whole span h =
    let here = subst IsUtf8 e whole in
    let back : t ++ s ≡ new = sym e in (
      record { ordered = h.ordered; begins = subst (λ bs. IsCharBoundary bs span.start) back (boundary_kept t s span.start text here h.begins); ends = subst (λ bs. IsCharBoundary bs span.end) back (boundary_kept t s span.end text here h.ends) },
      ap (λ bs. text_at bs span) e ∙ range_kept t s span.start span.end h.ordered h.ends.0,
    )

-- the span of what is put behind
pub span_put : (t s new : List ℕ) (a b : ℕ) → new ≡ t ++ s → a ≡ length t → b ≡ length new → IsUtf8 s → IsSpan new (record { start = a; end = b }) × (text_at new (record { start = a; end = b }) ≡ s)
span_put t s new a b e begin end text =
    let longer : length new ≡ length t + length s = ap length e ∙ length-append t s in (
      record { ordered = omega arith; begins = subst (IsCharBoundary new) (sym begin) (IsCharBoundary-at_seam new t s e text); ends = subst (IsCharBoundary new) (sym end) (IsCharBoundary-end new) },
      range_put t s new a b e begin end,
    )

-- spans that stay twice stay
pub keeps_twice : (a b c : List ℕ) → KeepsSpans a b → KeepsSpans b c → KeepsSpans a c
keeps_twice a b c h k span s =
    let first = h span s in
    let second = k span first.0 in
    (second.0, second.1 ∙ first.1)
