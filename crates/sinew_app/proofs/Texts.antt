-- The steps of the two loops of the printing.
use Rattle.std.proofs.Common.{◌≡◌, ℕ, zero, suc, ◌+◌, ◌<◌, min, List, [], ◌∷◌, ◌++◌, length, drop, get_or, Option, Some, None, refl, sym, ap, ◌∙◌, arith}
use Rattle.std.specs.Prelude.{slice_get, option_copied}
use Rattle.std.specs.Slice.{IsGetResult}
use Rattle.std.proofs.lemmas.List.{append-nil, append_assoc, drop_more}
use Rattle.std.proofs.lemmas.Option.{slice_get_past, slice_get_read}
use denote.Ref.{Bor}
use Rattle.script_reader.specs.declared.line.Line.{Line}
use Rattle.commit_core.specs.declared.reply.Reply.{Reply}
use Rattle.sinew_app.specs.Printing.{replies_text, commit_text, commits_text}

-- Nothing is printed once either list is at its end.
answers_end : (lines : List Line) (replies : List Reply) (n : ℕ) → n ≡ min (length lines) (length replies) → replies_text (drop n lines) (drop n replies) ≡ []
answers_end [] replies zero e = refl
answers_end [] replies (suc n) e = refl
answers_end (l ∷ lines) [] zero e = refl
answers_end (l ∷ lines) [] (suc n) e = absurd (omega arith)
answers_end (l ∷ lines) (r ∷ replies) zero e = absurd (omega arith)
answers_end (l ∷ lines) (r ∷ replies) (suc n) e = answers_end lines replies n (omega arith)

pub answers_done : (lines : List Line) (replies : List Reply) (n : ℕ) (out all : List ℕ) → n ≡ min (length lines) (length replies) →
    out ++ replies_text (drop n lines) (drop n replies) ≡ all → out ≡ all
answers_done lines replies n out all e printed =
    sym (append-nil out) ∙ (ap (λ (rest : List ℕ). out ++ rest) (sym (answers_end lines replies n e)) ∙ printed)

copied : (lines : List Line) (k : ℕ) (found : Option (Bor Line)) → IsGetResult lines k k found → option_copied found ≡ slice_get lines k
copied lines k None got = sym (slice_get_past lines k got.3)
copied lines k (Some l) got = sym (slice_get_read lines (length lines) k l.now refl got.3.0 (got.3.1 l.now))

pub commits_turn : (lines : List Line) (order : List ℕ) (i : ℕ) (found : Option (Bor Line)) (before out all : List ℕ) → i < length order →
    IsGetResult lines (get_or order i 0) (get_or order i 0) found → out ≡ before ++ commit_text (i + 1) (option_copied found) →
    before ++ commits_text lines (i + 1) (drop i order) ≡ all → out ++ commits_text lines (i + 1 + 1) (drop (i + 1) order) ≡ all
commits_turn lines order i found before out all within got out-is printed =
    let rest = drop (i + 1) order in
    let k = get_or order i 0 in
    ap (λ (o : List ℕ). o ++ commits_text lines (i + 1 + 1) rest) out-is
    ∙ (append_assoc before (commit_text (i + 1) (option_copied found)) (commits_text lines (i + 1 + 1) rest)
    ∙ (ap (λ (l : Option Line). before ++ (commit_text (i + 1) l ++ commits_text lines (i + 1 + 1) rest)) (copied lines k found got)
    ∙ (ap (λ (left : List ℕ). before ++ commits_text lines (i + 1) left) (sym (drop_more order i 0 within)) ∙ printed)))
