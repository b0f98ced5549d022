-- Texts that lie behind one another in one.
use Rattle.std.specs.Prelude.{◌≡◌, ℕ, ◌≤◌, List, slice_range, IsCharBoundary}
use Rattle.doc_values.specs.declared.span.Span.{Span}

-- The bytes of a span of a text.
abbrev pub text_at : List ℕ → Span → List ℕ
text_at texts span = slice_range texts span.start span.end

-- A span of a text that is a text itself.
pub record IsSpan (texts : List ℕ) (span : Span) : Type 0 where
  pub ordered : span.start ≤ span.end
  pub begins : IsCharBoundary texts span.start
  pub ends : IsCharBoundary texts span.end

-- Each span of a text is one of another text, with the same bytes.
abbrev pub KeepsSpans : List ℕ → List ℕ → Type 0
KeepsSpans old new = (span : Span) → IsSpan old span → IsSpan new span × (text_at new span ≡ text_at old span)
