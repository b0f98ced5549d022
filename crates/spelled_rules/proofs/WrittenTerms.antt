-- Which terms are written, one lemma for each form that the grammar makes.
use Rattle.std.proofs.Common.{◌≡◌, ℕ, Bool, true, false, ◌&&◌, List, [], ◌∷◌, map, length, refl, sym, ap, ◌∙◌, arith}
use Rattle.std.specs.Prelude.{nat_le}
use Rattle.std.specs.List.{list_all, AllByRecursion as EachIs}
use Rattle.std.proofs.lemmas.Bool.{and_from, le-leb}
use Rattle.doc_values.specs.declared.kind.Kind.{Kind}
use Rattle.doc_values.specs.declared.compare_op.CompareOp.{CompareOp}
use Rattle.sql_tree.specs.declared.addend.Addend.{Addend}
use Rattle.sql_tree.specs.declared.reference.Ref.{Ref}
use Rattle.sql_tree.specs.declared.term.Term.{Term}
use Rattle.sql_tree.specs.declared.term.Term.TheOpen.{Term-F}
use Rattle.sql_tree.specs.declared.term.Term.TheVariants as term
use Rattle.sql_tree.specs.declared.term.Term.TheFolds.{fold-Addend, fold-roll-Term, fold_out-Addend}
use Rattle.sql_grammar.specs.Nodes.{addend, sum_node, product_node, and_node, or_node}
use Rattle.type_rules.specs.Written.{at_least, written_step, is_written}

-- A text may spell the term.
abbrev pub IsTerm : Term → Type 0
IsTerm t = is_written t ≡ true

-- A text may spell the term of the member.
abbrev pub IsMember : Addend → Type 0
IsMember m = IsTerm m.term

-- One term or more, each of which a text may spell.
abbrev pub AreListed : List Term → Type 0
AreListed [] = ⊥
AreListed (t ∷ ts) = EachIs IsTerm (t ∷ ts)

-- Whether the term of a member is written.
abbrev member_written : Addend → Bool
member_written = fold-Addend Bool Bool written_step (λ a. a.term)

pub number_written : (n : ℕ) → nat_le n 9223372036854775808 ≡ true → IsTerm (term.Number n)
number_written n h = ap is_written (sym (term.rolls-Number n)) ∙ fold-roll-Term Bool Bool written_step (λ a. a.term) (Term-F.Number n) ∙ h

pub text_written : (s : List ℕ) → IsTerm (term.Text s)
text_written s = ap is_written (sym (term.rolls-Text s)) ∙ fold-roll-Term Bool Bool written_step (λ a. a.term) (Term-F.Text s)

pub bool_written : (b : Bool) → IsTerm (term.Bool b)
bool_written b = ap is_written (sym (term.rolls-Bool b)) ∙ fold-roll-Term Bool Bool written_step (λ a. a.term) (Term-F.Bool b)

pub null_written : IsTerm term.Null
null_written = ap is_written (sym term.rolls-Null) ∙ fold-roll-Term Bool Bool written_step (λ a. a.term) Term-F.Null

pub column_written : (r : Ref) → IsTerm (term.Column r)
column_written r = ap is_written (sym (term.rolls-Column r)) ∙ fold-roll-Term Bool Bool written_step (λ a. a.term) (Term-F.Column r)

pub wanted_written : (k : Kind) (r : Ref) → IsTerm (term.Wanted k r)
wanted_written k r = ap is_written (sym (term.rolls-Wanted k r)) ∙ fold-roll-Term Bool Bool written_step (λ a. a.term) (Term-F.Wanted k r)

pub not_written : (t : Term) → IsTerm t → IsTerm (term.Not t)
not_written t h = ap is_written (sym (term.rolls-Not t)) ∙ fold-roll-Term Bool Bool written_step (λ a. a.term) (Term-F.Not t) ∙ h

pub compare_written : (op : CompareOp) (t u : Term) → IsTerm t → IsTerm u → IsTerm (term.Compare op t u)
compare_written op t u h k =
    ap is_written (sym (term.rolls-Compare op t u)) ∙ fold-roll-Term Bool Bool written_step (λ a. a.term) (Term-F.Compare op t u) ∙ and_from (is_written t) (is_written u) h k

pub is_null_written : (t : Term) (negated : Bool) → IsTerm t → IsTerm (term.IsNull t negated)
is_null_written t negated h = ap is_written (sym (term.rolls-IsNull t negated)) ∙ fold-roll-Term Bool Bool written_step (λ a. a.term) (Term-F.IsNull t negated) ∙ h

pub between_written : (t low high : Term) (negated : Bool) → IsTerm t → IsTerm low → IsTerm high → IsTerm (term.Between t low high negated)
between_written t low high negated h k l =
    ap is_written (sym (term.rolls-Between t low high negated)) ∙ fold-roll-Term Bool Bool written_step (λ a. a.term) (Term-F.Between t low high negated)
    ∙ and_from (is_written t && is_written low) (is_written high) (and_from (is_written t) (is_written low) h k) l

pub like_written : (t : Term) (pattern : List ℕ) (negated : Bool) → IsTerm t → IsTerm (term.Like t pattern negated)
like_written t pattern negated h = ap is_written (sym (term.rolls-Like t pattern negated)) ∙ fold-roll-Term Bool Bool written_step (λ a. a.term) (Term-F.Like t pattern negated) ∙ h

pub minus_written : (t : Term) → IsTerm t → IsTerm (term.Minus t)
minus_written t h = ap is_written (sym (term.rolls-Minus t)) ∙ fold-roll-Term Bool Bool written_step (λ a. a.term) (Term-F.Minus t) ∙ h

terms_pass : (ts : List Term) → EachIs IsTerm ts → list_all (λ p. p) (map is_written ts) ≡ true
terms_pass [] hs = refl
terms_pass (t ∷ ts) hs = and_from (is_written t) (list_all (λ p. p) (map is_written ts)) hs.0 (terms_pass ts hs.1)

members_pass : (ms : List Addend) → EachIs IsMember ms → list_all (λ p. p) (map member_written ms) ≡ true
members_pass [] hs = refl
members_pass (m ∷ ms) hs = and_from (member_written m) (list_all (λ p. p) (map member_written ms)) (fold_out-Addend Bool Bool written_step (λ a. a.term) m ∙ hs.0) (members_pass ms hs.1)

one_or_more : (b : Bool) (bs : List Bool) → list_all (λ p. p) (b ∷ bs) ≡ true → at_least 1 (b ∷ bs) ≡ true
one_or_more b bs h = and_from (nat_le 1 (length (b ∷ bs))) (list_all (λ p. p) (b ∷ bs)) (le-leb 1 (length (b ∷ bs)) (omega arith)) h

two_or_more : (b c : Bool) (bs : List Bool) → list_all (λ p. p) (b ∷ c ∷ bs) ≡ true → at_least 2 (b ∷ c ∷ bs) ≡ true
two_or_more b c bs h = and_from (nat_le 2 (length (b ∷ c ∷ bs))) (list_all (λ p. p) (b ∷ c ∷ bs)) (le-leb 2 (length (b ∷ c ∷ bs)) (omega arith)) h

pub among_written : (t : Term) (us : List Term) (negated : Bool) → IsTerm t → AreListed us → IsTerm (term.Among t us negated)
among_written t [] negated h hs = elim hs [ ]
among_written t (u ∷ us) negated h hs =
    ap is_written (sym (term.rolls-Among t (u ∷ us) negated)) ∙ fold-roll-Term Bool Bool written_step (λ a. a.term) (Term-F.Among t (u ∷ us) negated)
    ∙ and_from (is_written t) (at_least 1 (map is_written (u ∷ us))) h (one_or_more (is_written u) (map is_written us) (terms_pass (u ∷ us) hs))

pub or_written : (t : Term) (us : List Term) → IsTerm t → EachIs IsTerm us → IsTerm (or_node t us)
or_written t [] h hs = h
or_written t (u ∷ us) h hs =
    ap is_written (sym (term.rolls-Or (t ∷ u ∷ us))) ∙ fold-roll-Term Bool Bool written_step (λ a. a.term) (Term-F.Or (t ∷ u ∷ us))
    ∙ two_or_more (is_written t) (is_written u) (map is_written us) (terms_pass (t ∷ u ∷ us) (h, hs))

pub and_written : (t : Term) (us : List Term) → IsTerm t → EachIs IsTerm us → IsTerm (and_node t us)
and_written t [] h hs = h
and_written t (u ∷ us) h hs =
    ap is_written (sym (term.rolls-And (t ∷ u ∷ us))) ∙ fold-roll-Term Bool Bool written_step (λ a. a.term) (Term-F.And (t ∷ u ∷ us))
    ∙ two_or_more (is_written t) (is_written u) (map is_written us) (terms_pass (t ∷ u ∷ us) (h, hs))

pub product_written : (t : Term) (us : List Term) → IsTerm t → EachIs IsTerm us → IsTerm (product_node t us)
product_written t [] h hs = h
product_written t (u ∷ us) h hs =
    ap is_written (sym (term.rolls-Product (t ∷ u ∷ us))) ∙ fold-roll-Term Bool Bool written_step (λ a. a.term) (Term-F.Product (t ∷ u ∷ us))
    ∙ two_or_more (is_written t) (is_written u) (map is_written us) (terms_pass (t ∷ u ∷ us) (h, hs))

pub sum_written : (t : Term) (ms : List Addend) → IsTerm t → EachIs IsMember ms → IsTerm (sum_node t ms)
sum_written t [] h hs = h
sum_written t (m ∷ ms) h hs =
    ap is_written (sym (term.rolls-Sum (addend false t ∷ m ∷ ms))) ∙ fold-roll-Term Bool Bool written_step (λ a. a.term) (Term-F.Sum (addend false t ∷ m ∷ ms))
    ∙ two_or_more (member_written (addend false t)) (member_written m) (map member_written ms) (members_pass (addend false t ∷ m ∷ ms) (h, hs))
