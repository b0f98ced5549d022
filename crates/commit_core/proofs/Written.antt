-- A load that is taken, and one that is refused, over the commits before it.
use Rattle.std.proofs.Common.{◌≡◌, ◌∙◌, ℕ, ◌+◌, ◌<◌, ◌≤◌, cond, Bool, true, false, List, [], ◌∷◌, ◌++◌, length, map, fold, Some, None, refl, sym, ap, subst, arith, length-append}
use Rattle.std.specs.Prelude.{All}
use Rattle.std.proofs.lemmas.List.{length-map, map-append}
use Rattle.std.proofs.lemmas.List.Elements.{All-weaker}
use Rattle.doc_values.specs.Doc.{Fields}
use Rattle.doc_flatten.specs.Documents.{IsWithinLimits}
use Rattle.exec_finish.specs.Answer.{ok_line}
use Rattle.layout_store.specs.Documents.{most_fields}
use Rattle.commit_core.specs.State.{State, IsState, opening}
use Rattle.commit_core.specs.Write.{Effect, accepted, range, full, loads, effect_of, with_load, is_full}
use Rattle.commit_core.specs.Plan.{Plan, write, plan_of}
use Rattle.commit_core.specs.Replies.{told_effect, told_plan, state_left, state_behind, next_state, state_after, full_line, reply_at}
use Rattle.commit_core.specs.Commits.{texts_of}
use Rattle.commit_core.specs.OneWrite.{state_of, told_over, with_entry, IsWrite}
use Rattle.commit_core.specs.Stored.{Stored, stored_in, AreTrueTo, HaveBecome, AreSettled}
use Rattle.commit_core.specs.declared.entry.Entry.{Entry}
use Rattle.commit_core.specs.declared.reply.Reply.{Reply}
use Rattle.commit_core.proofs.Known.{fold_append}
use Rattle.commit_core.proofs.Truths.{true-settled, true-more}

pub length-texts : (entries : List Entry) → length (texts_of entries) ≡ length entries
length-texts entries = length-map entries (λ entry. entry.text)

pub limits-fields : (documents : List Fields) → All IsWithinLimits documents → All (λ (d : Fields). length d ≤ most_fields) documents
limits-fields documents h = All-weaker IsWithinLimits (λ (d : Fields). length d ≤ most_fields) (λ (d : Fields) k. k.1) documents h

pub settled-now : (entries : List Entry) (tables : List Stored) (now : ℕ) → now ≡ length entries → AreTrueTo (texts_of entries) tables → AreSettled now tables
settled-now entries tables now is h = subst (λ n. AreSettled n tables) (length-texts entries ∙ sym is) (true-settled (texts_of entries) tables h)

module _ (entries : List Entry) (text name : List ℕ) (documents : List Fields) (planned : plan_of text ≡ write (loads name documents)) (tables : List Stored) (h : AreTrueTo (texts_of entries) tables) (now : ℕ) (is_now : now ≡ length entries) where
  shown : map (stored_in now) tables ≡ state_of entries
  shown = ap (λ n. map (stored_in n) tables) (is_now ∙ sym (length-texts entries)) ∙ h.newest

  same_full : (t : Bool) → is_full name (with_load name documents (map (stored_in now) tables)) ≡ t → is_full name (with_load name documents (state_of entries)) ≡ t
  same_full t e = ap (λ (s : State). is_full name (with_load name documents s)) (sym shown) ∙ e

  told_by : (t : Bool) → is_full name (with_load name documents (map (stored_in now) tables)) ≡ t → told_over entries text ≡ told_effect (cond t full (accepted (with_load name documents (state_of entries)) (length documents)))
  told_by t e = ap (λ (p : Plan). told_plan p (state_of entries)) planned ∙ ap (λ (b : Bool). told_effect (cond b full (accepted (with_load name documents (state_of entries)) (length documents)))) (same_full t e)

  next_is : is_full name (with_load name documents (map (stored_in now) tables)) ≡ false → state_after (texts_of entries ++ text ∷ []) ≡ with_load name documents (map (stored_in now) tables)
  next_is fits =
      fold_append (texts_of entries) (text ∷ []) opening ∙ ap (λ (p : Plan). state_behind p (state_of entries)) planned
      ∙ ap (λ (b : Bool). state_left (state_of entries) (cond b full (accepted (with_load name documents (state_of entries)) (length documents)))) (same_full false fits)
      ∙ ap (λ (s : State). with_load name documents s) (sym shown)

  pub load-taken : (caller at : ℕ) (body : List ℕ) (new : List Entry) → is_full name (with_load name documents (map (stored_in now) tables)) ≡ false → new ≡ entries ++ record { caller = caller; text = text } ∷ [] → at ≡ length new → body ≡ ok_line (length documents)
      → IsWrite caller text entries new (record { at = at; accepted = true; body = body })
  load-taken caller at body new fits is numbered told =
      let t = told_by false fits in
      record {
        commits = is ∙ ap (λ x. with_entry x.accepted entries (record { caller = caller; text = text })) (sym t);
        replied = (λ i. record { at = numbered i; accepted = true; body = told i }) ∙ ap (reply_at (length new)) (sym t);
      }

  pub load-refused : (caller at : ℕ) (body : List ℕ) → is_full name (with_load name documents (map (stored_in now) tables)) ≡ true → at ≡ length entries → body ≡ full_line
      → IsWrite caller text entries entries (record { at = at; accepted = false; body = body })
  load-refused caller at body crowded numbered told =
      let t = told_by true crowded in
      record {
        commits = ap (λ x. with_entry x.accepted entries (record { caller = caller; text = text })) (sym t);
        replied = (λ i. record { at = numbered i; accepted = false; body = told i }) ∙ ap (reply_at (length entries)) (sym t);
      }

  pub load-true : ((texts : List (List ℕ)) → IsState (state_after texts)) → (caller : ℕ) (after : List Stored) (new : List Entry) → is_full name (with_load name documents (map (stored_in now) tables)) ≡ false
      → HaveBecome (with_load name documents (map (stored_in now) tables)) now tables after → new ≡ entries ++ record { caller = caller; text = text } ∷ [] → AreTrueTo (texts_of new) after
  load-true states caller after new fits k is =
      let all : texts_of new ≡ texts_of entries ++ text ∷ [] = ap texts_of is ∙ map-append (λ (e : Entry). e.text) entries (record { caller = caller; text = text } ∷ []) in
      let become : HaveBecome (state_after (texts_of entries ++ text ∷ [])) (length (texts_of entries)) tables after =
      subst (λ n. HaveBecome (state_after (texts_of entries ++ text ∷ [])) n tables after) (is_now ∙ sym (length-texts entries)) (subst (λ (s : State). HaveBecome s now tables after) (sym (next_is fits)) k) in
      subst (λ (ts : List (List ℕ)). AreTrueTo ts after) (sym all) (true-more (texts_of entries) text tables after h (states (texts_of entries ++ text ∷ [])) become)
