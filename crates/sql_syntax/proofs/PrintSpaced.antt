-- Terminals written one after another.
use Rattle.std.proofs.Common.{◌≡◌, ℕ, ◌≤◌, List, [], ◌∷◌, ◌++◌, length, drop, get_or, map, Bool, if◌then◌else◌, refl, sym, ap, ◌∙◌, arith, append_assoc}
use Rattle.sql_tree.specs.declared.addend.Addend.{Addend}
use Rattle.doc_values.specs.declared.compare_op.CompareOp.{CompareOp}
use Rattle.sql_tree.specs.declared.term.Term.{Term}
use Rattle.sql_tree.specs.declared.term.Term.TheVariants as term
use Rattle.sql_grammar.specs.declared.mark.Mark.{Mark}
use Rattle.sql_grammar.specs.declared.mark.Mark.TheVariants as marks
use Rattle.sql_grammar.specs.declared.terminal.Terminal.{Terminal}
use Rattle.sql_grammar.specs.declared.terminal.Terminal.TheVariants as terminal
use Rattle.sql_syntax.specs.declared.print_tightness.Tightness.{Tightness}
use Rattle.sql_syntax.specs.declared.print_tightness.Tightness.TheVariants as tight
use Rattle.sql_syntax.specs.Printing.{bracketed, each_behind, joined_by, all_at, addends_printed, sum_printed, denial_printed, mark_of}
use Rattle.sql_syntax.specs.PrintingTerm.{printed, member_printed}
use Rattle.sql_syntax.specs.PrintingText.{terminal_text, spaced}
use Rattle.sql_syntax.proofs.PrintTerms.{compare_printed, among_printed, between_printed}

pub spaced_append : (a b : List Terminal) → spaced (a ++ b) ≡ spaced a ++ spaced b
spaced_append [] b = refl
spaced_append (t ∷ a) b = ap (λ xs. 32 ∷ (terminal_text t ++ xs)) (spaced_append a b) ∙ ap (λ xs. 32 ∷ xs) (sym (append_assoc (terminal_text t) (spaced a) (spaced b)))

-- What is written behind what was written.
pub then_spaced : (first second third : List ℕ) (a b : List Terminal) → second ≡ first ++ spaced a → third ≡ second ++ spaced b → third ≡ first ++ spaced (a ++ b)
then_spaced first second third a b e f =
    f ∙ ap (λ xs. xs ++ spaced b) e ∙ append_assoc first (spaced a) (spaced b) ∙ ap (λ xs. first ++ xs) (sym (spaced_append a b))

-- One more of the terms behind marks.
pub behind_step : (before after : List ℕ) (mark : Mark) (asked : Tightness) (t : Term) (more : List Term) → after ≡ before ++ spaced (terminal.Mark mark ∷ printed t asked)
    → after ++ spaced (each_behind mark (all_at asked (map printed more))) ≡ before ++ spaced (each_behind mark (all_at asked (map printed (t ∷ more))))
behind_step before after mark asked t more e = then_spaced before after _ (terminal.Mark mark ∷ printed t asked) (each_behind mark (all_at asked (map printed more))) e refl

-- One more member of a sum.
pub addend_step : (before after : List ℕ) (m : Addend) (more : List Addend) → after ≡ before ++ spaced (terminal.Mark (if m.minus then marks.Minus else marks.Plus) ∷ printed m.term tight.Product)
    → after ++ spaced (addends_printed (map member_printed more)) ≡ before ++ spaced (addends_printed (map member_printed (m ∷ more)))
addend_step before after m more e = then_spaced before after _ (terminal.Mark (if m.minus then marks.Minus else marks.Plus) ∷ printed m.term tight.Product) (addends_printed (map member_printed more)) e refl

-- What is written of a chain: its first term, and the others.
pub chain_whole : (mark : Mark) (asked : Tightness) (ts : List Term) (t : Term) → 1 ≤ length ts → t ≡ get_or ts 0 t → printed t asked ++ each_behind mark (all_at asked (map printed (drop 1 ts))) ≡ joined_by mark (all_at asked (map printed ts))
chain_whole mark asked [] t h is = absurd (omega arith)
chain_whole mark asked (u ∷ us) t h is = ap (λ x. printed x asked ++ each_behind mark (all_at asked (map printed us))) is

-- What is written of a sum.
pub sum_whole : (ms : List Addend) (m : Addend) → 1 ≤ length ms → m ≡ get_or ms 0 m → printed m.term tight.Product ++ addends_printed (map member_printed (drop 1 ms)) ≡ sum_printed (map member_printed ms)
sum_whole [] m h is = absurd (omega arith)
sum_whole (n ∷ ns) m h is = ap (λ x. printed x.term tight.Product ++ addends_printed (map member_printed ns)) is

-- What is written of a comparison.
pub compare_whole : (before middle after : List ℕ) (t : Term) (op : CompareOp) (l r a b : Term) (m : Mark) → t ≡ term.Compare op l r → a ≡ l → b ≡ r → m ≡ mark_of op
    → middle ≡ before ++ spaced (printed a tight.Sum) → after ≡ middle ++ spaced (terminal.Mark m ∷ printed b tight.Sum) → after ≡ before ++ spaced (printed t tight.Expr)
compare_whole before middle after t op l r a b m is el er em e f =
    then_spaced before middle after (printed a tight.Sum) (terminal.Mark m ∷ printed b tight.Sum) e f
    ∙ ap (λ x. before ++ spaced (printed x tight.Sum ++ terminal.Mark m ∷ printed b tight.Sum)) el
    ∙ ap (λ x. before ++ spaced (printed l tight.Sum ++ terminal.Mark m ∷ printed x tight.Sum)) er
    ∙ ap (λ n. before ++ spaced (printed l tight.Sum ++ terminal.Mark n ∷ printed r tight.Sum)) em
    ∙ ap (λ g. before ++ spaced (g tight.Expr)) (sym (compare_printed op l r)) ∙ ap (λ x. before ++ spaced (printed x tight.Expr)) (sym is)

-- What is written of a test against a list.
pub among_whole : (before middle later after : List ℕ) (t l a : Term) (ts us : List Term) (negated : Bool) → t ≡ term.Among l ts negated → a ≡ l → us ≡ ts
    → middle ≡ before ++ spaced (printed a tight.Sum) → later ≡ middle ++ spaced (denial_printed negated)
    → after ≡ later ++ spaced (terminal.Mark marks.In ∷ bracketed (joined_by marks.Comma (all_at tight.Expr (map printed us)))) → after ≡ before ++ spaced (printed t tight.Expr)
among_whole before middle later after t l a ts us negated is el es e f g =
    let shown = λ (xs : List Term). terminal.Mark marks.In ∷ bracketed (joined_by marks.Comma (all_at tight.Expr (map printed xs))) in
    then_spaced before middle after (printed a tight.Sum) (denial_printed negated ++ shown us) e (then_spaced middle later after (denial_printed negated) (shown us) f g)
    ∙ ap (λ x. before ++ spaced (printed x tight.Sum ++ (denial_printed negated ++ shown us))) el
    ∙ ap (λ xs. before ++ spaced (printed l tight.Sum ++ (denial_printed negated ++ shown xs))) es
    ∙ ap (λ h. before ++ spaced (h tight.Expr)) (sym (among_printed l ts negated)) ∙ ap (λ x. before ++ spaced (printed x tight.Expr)) (sym is)

-- What is written of a test against a range.
pub between_whole : (before first second third after : List ℕ) (t l lo hi a b c : Term) (negated : Bool) → t ≡ term.Between l lo hi negated → a ≡ l → b ≡ lo → c ≡ hi
    → first ≡ before ++ spaced (printed a tight.Sum) → second ≡ first ++ spaced (denial_printed negated)
    → third ≡ second ++ spaced (terminal.Mark marks.Between ∷ printed b tight.Sum) → after ≡ third ++ spaced (terminal.Mark marks.And ∷ printed c tight.Sum) → after ≡ before ++ spaced (printed t tight.Expr)
between_whole before first second third after t l lo hi a b c negated is el elo ehi e f g h =
    let upper = λ (x : Term). terminal.Mark marks.And ∷ printed x tight.Sum in
    let range = λ (x y : Term). terminal.Mark marks.Between ∷ (printed x tight.Sum ++ upper y) in
    then_spaced before first after (printed a tight.Sum) (denial_printed negated ++ range b c) e
    (then_spaced first second after (denial_printed negated) (range b c) f (then_spaced second third after (terminal.Mark marks.Between ∷ printed b tight.Sum) (upper c) g h))
    ∙ ap (λ x. before ++ spaced (printed x tight.Sum ++ (denial_printed negated ++ range b c))) el
    ∙ ap (λ x. before ++ spaced (printed l tight.Sum ++ (denial_printed negated ++ range x c))) elo
    ∙ ap (λ x. before ++ spaced (printed l tight.Sum ++ (denial_printed negated ++ range lo x))) ehi
    ∙ ap (λ p. before ++ spaced (p tight.Expr)) (sym (between_printed l lo hi negated)) ∙ ap (λ x. before ++ spaced (printed x tight.Expr)) (sym is)
