use Rattle.std.proofs.Common.{◌≡◌, ℕ, List, [], ◌∷◌, max, ◌&&◌, nat_le, refl, ap, ap₂, arith}
use Rattle.std.proofs.lemmas.Grind.{common_steps}
use Rattle.std.specs.Map.{values_of}
use Rattle.serde_json.specs.Data.{items_depth, members_depth}
use Rattle.serde_json.specs.View.{view, items_view, members_view}
use Rattle.serde_json.proofs.Views.{Entry}
use Rattle.doc_flatten.specs.Tree.{has_integers, items_have_integers, members_have_integers}
use Rattle.doc_flatten.specs.Walk.{items_are_plain, members_are_plain}
use Rattle.doc_flatten.proofs.plain.+plain.Goals as goal

-- ---- members are tested as items are

same_depth : (es : List Entry) → members_depth (members_view es) ≡ items_depth (items_view (values_of es))
same_depth [] = refl
same_depth (e ∷ es) = ap (max _) (same_depth es)

same_integers : (es : List Entry) → members_have_integers (members_view es) ≡ items_have_integers (items_view (values_of es))
same_integers [] = refl
same_integers (e ∷ es) = ap (λ b. has_integers (view e.1) && b) (same_integers es)

as_items : (levels : ℕ) (es : List Entry) → members_are_plain levels (members_view es) ≡ items_are_plain levels (items_view (values_of es))
as_items levels es = ap₂ (λ n b. nat_le n levels && b) (same_depth es) (same_integers es)

pub members_are_plain-returns-then-not-is_plain : goal.members_are_plain-returns-then-not-is_plain
members_are_plain-returns-then-not-is_plain t c =
    record { exact = rw (as_items c.args.levels c.args.members.now.entries) (grind (arith, common_steps)) }

pub members_are_plain-returns : goal.members_are_plain-returns
members_are_plain-returns t c = record { exact = rw (as_items c.args.levels c.args.members.now.entries) (grind (arith, common_steps)) }
