-- The collection that a question finds under a name.
use Rattle.std.proofs.Common.{◌≡◌, ◌∙◌, ℕ, zero, suc, Bool, true, false, cond, List, [], ◌∷◌, length, map, Option, Some, None, option_map, slice_get, refl, sym, ap, subst}
use Rattle.std.proofs.lemmas.Option.{none-some, same_Some}
use Rattle.doc_values.specs.Doc.{Fields}
use Rattle.shown_rows.specs.Rows.{Row, rows_at}
use Rattle.write_plans.specs.Becomes.{IsSettled}
use Rattle.commit_core.specs.State.{State, documents_at, documents_of_rows}
use Rattle.commit_core.specs.Replies.{state_after}
use Rattle.commit_core.specs.Stored.{Stored, stored_in, is_table, table_at, AreTrueTo}
use Rattle.commit_core.proofs.Tables.{found-stored}

pub found-place : (name : List ℕ) (tables : List Stored) (t : Stored) → table_at name tables ≡ Some t → (i : ℕ) × (slice_get tables i ≡ Some t)
found-place name [] t e = absurd (none-some t e)
found-place name (s ∷ tables) t e = by (is_table name s) (found-place name tables t) e
  where
    by : (b : Bool) → (table_at name tables ≡ Some t → (i : ℕ) × (slice_get tables i ≡ Some t)) → cond b (Some s) (table_at name tables) ≡ Some t → (i : ℕ) × (slice_get (s ∷ tables) i ≡ Some t)
    by true rest h = (0, h)
    by false rest h = let r = rest h in (suc r.0, r.1)

module _ (texts : List (List ℕ)) (tables : List Stored) (h : AreTrueTo texts tables) (name : List ℕ) (now : ℕ) (is_now : now ≡ length texts) where
  documents-by : (o : Option Stored) → table_at name tables ≡ o → documents_at name (state_after texts) ≡ documents_of_rows (option_map (stored_in (length texts)) o)
  documents-by o e = ap (documents_at name) (sym h.newest) ∙ ap documents_of_rows (found-stored name (length texts) tables ∙ ap (option_map (stored_in (length texts))) e)

  pub documents-found : (t : Stored) → table_at name tables ≡ Some t → documents_at name (state_after texts) ≡ map (λ (row : Row). row.document) (rows_at t.storage now)
  documents-found t e = documents-by (Some t) e ∙ ap (λ n. map (λ (row : Row). row.document) (rows_at t.storage n)) (sym is_now)

  pub documents-none : table_at name tables ≡ None → documents_at name (state_after texts) ≡ []
  documents-none e = documents-by None e

  pub found-settled : (t : Stored) → table_at name tables ≡ Some t → IsSettled now t.storage
  found-settled t e =
      let place = found-place name tables t e in
      subst (λ n. IsSettled n t.storage) (sym is_now) (h.each place.0 t place.1).settled
