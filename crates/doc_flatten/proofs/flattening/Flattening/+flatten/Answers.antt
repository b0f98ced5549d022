use Rattle.std.proofs.Common.{◌≡◌, ◌∙◌, List, [], ◌∷◌, length, true, false, string_bytes, refl, sym, ap, ap₂, arith}
use Rattle.std.proofs.lemmas.Bool.{false≢true}
use Rattle.std.proofs.lemmas.Result.{on_ok_weaker, err_from_is_err_and}
use Rattle.serde_json.specs.Data.{Data, object, no_members}
use Rattle.serde_json.specs.View.{view, members_view}
use Rattle.serde_json.proofs.Views.{Entry, view-Object}
use Rattle.doc_flatten.specs.Tree.{dotted, is_member}
use Rattle.doc_flatten.specs.Fields.{fields_under, members_fields, with_all_fields}
use Rattle.doc_flatten.specs.Walk.{fits_in, members_fit_in}
use Rattle.doc_flatten.proofs.Paths.{take-dotted, IsSplitPoint-dotted}
use Rattle.doc_flatten.proofs.Steps.{with_all_fields-append, members_fit_in-more, members_fit_in-not, fields_under-object, fits_in-object}
use Rattle.doc_flatten.proofs.flattening.Flattening.+flatten.Goals as goal

pub add_members-returns-in_err-add_tree-clause-excluded : goal.add_members-returns-in_err-add_tree-clause-excluded
add_members-returns-in_err-add_tree-clause-excluded t c = λ h.
    let path = c.args.self.now.path in
    let key = string_bytes c.in-Some.key.now in
    let d = view c.in-Some.member.now in
    let placed : c.enter.new.self ≡ dotted path key = c.in_ok-enter.ensures.ok ∙ ap₂ dotted c.loop-key.invariant.stays c.as_str.ensures.value in
    let p = err_from_is_err_and c.from_residual-in_err-add_tree.result c.from_residual-in_err-add_tree.ensures.1 in
    let fails : fits_in c.args.levels (dotted path key) c.loop-key.self.doc d ≡ false =
    ap (λ place. fits_in c.args.levels place c.loop-key.self.doc d) (sym placed) ∙ c.in_err-add_tree.ensures.excluded (cc (p.1, p.2)) in
    sym c.loop-key.invariant.decides ∙ ap (λ es. members_fit_in c.args.levels path c.loop-key.self.doc (members_view es)) c.in-Some.ensures.steps
    ∙ members_fit_in-not c.args.levels path key c.loop-key.self.doc d (members_view c.next.new.self) fails

pub add_members-leave-requires : goal.add_members-leave-requires
add_members-leave-requires t c =
    let outer = c.loop-key.self.path in
    let back : c.add_tree.new.self.path ≡ dotted outer c.as_str.result.now = c.in_ok-add_tree.ensures.stays ∙ c.in_ok-enter.ensures.ok in
    rw (back, c.len-outer.ensures.exact) (IsSplitPoint-dotted outer c.as_str.result.now)

pub add_members-loop-key-preserved : goal.add_members-loop-key-preserved
add_members-loop-key-preserved t c =
    let path = c.args.self.now.path in
    let outer = c.loop-key.self.path in
    let doc = c.loop-key.self.doc in
    let key = string_bytes c.in-Some.key.now in
    let d = view c.in-Some.member.now in
    let left = members_view c.next.new.self in
    let placed : c.enter.new.self ≡ dotted path key = c.in_ok-enter.ensures.ok ∙ ap₂ dotted c.loop-key.invariant.stays c.as_str.ensures.value in
    let back : c.add_tree.new.self.path ≡ dotted outer c.as_str.result.now = c.in_ok-add_tree.ensures.stays ∙ c.in_ok-enter.ensures.ok in
    let put : c.add_tree.new.self.doc ≡ with_all_fields doc (fields_under (dotted path key) d) = c.in_ok-add_tree.ensures.ok ∙ ap (λ place. with_all_fields doc (fields_under place d)) placed in
    let named : is_member path key ≡ true = ap₂ is_member (sym c.loop-key.invariant.stays) (sym c.as_str.ensures.value) ∙ c.in_ok-enter.ensures.admitted in
    let fits : fits_in c.args.levels (dotted path key) doc d ≡ true = ap (λ place. fits_in c.args.levels place doc d) (sym placed) ∙ c.in_ok-add_tree.ensures.admitted in record {
      stays = rw (c.leave.ensures.exact, c.len-outer.ensures.exact, back) (take-dotted outer c.as_str.result.now ∙ c.loop-key.invariant.stays);
      few = c.in_ok-add_tree.ensures.few;
      decides =
          ap (λ document. members_fit_in c.args.levels path document left) put ∙ sym (members_fit_in-more c.args.levels path key doc d left named fits)
          ∙ ap (λ es. members_fit_in c.args.levels path doc (members_view es)) (sym c.in-Some.ensures.steps) ∙ c.loop-key.invariant.decides;
      gives =
          ap (λ document. with_all_fields document (members_fields path left)) put ∙ sym (with_all_fields-append doc (fields_under (dotted path key) d) (members_fields path left))
          ∙ ap (λ es. with_all_fields doc (members_fields path (members_view es))) (sym c.in-Some.ensures.steps) ∙ c.loop-key.invariant.gives;
    }

-- ---- an object that is not empty gives the fields of its members

some_members : (tested passed : List Entry) (d : Data) → (length tested ≡ 0 → ⊥) → d ≡ object (members_view tested) → d ≡ object (members_view passed) → members_view passed ≡ no_members → ⊥
some_members [] passed d some t p e = some refl
some_members (first ∷ tested) passed d some t p e = cc

pub add_tree-returns-in-Object-3-clause-ok : goal.add_tree-returns-in-Object-3-clause-ok
add_tree-returns-in-Object-3-clause-ok t c =
    let tested = ap view c.in-Object-2.is ∙ view-Object c.in-Object-2.members in
    let seen = ap view c.in-Object-3.is ∙ view-Object c.in-Object-3.members in
    let some = some_members c.in-Object-2.members.entries c.in-Object-3.members.entries _ (λ e. false≢true (c.if-is_empty.ensures.1 e)) tested seen in
    rw (seen, fields_under-object c.args.self.now.path (members_view c.in-Object-3.members.entries) some) c.add_members.ensures.ok

pub add_tree-returns-in-Object-3-clause-admitted : goal.add_tree-returns-in-Object-3-clause-admitted
add_tree-returns-in-Object-3-clause-admitted t c =
    let tested = ap view c.in-Object-2.is ∙ view-Object c.in-Object-2.members in
    let seen = ap view c.in-Object-3.is ∙ view-Object c.in-Object-3.members in
    let some = some_members c.in-Object-2.members.entries c.in-Object-3.members.entries _ (λ e. false≢true (c.if-is_empty.ensures.1 e)) tested seen in
    let decides = ap (fits_in c.args.levels c.args.self.now.path c.args.self.now.doc) seen ∙ fits_in-object c.args.levels c.args.self.now.path c.args.self.now.doc _ (omega arith) some in
    on_ok_weaker c.add_members.result (λ e. decides ∙ e) c.add_members.ensures.admitted

pub add_tree-returns-in-Object-3-clause-excluded : goal.add_tree-returns-in-Object-3-clause-excluded
add_tree-returns-in-Object-3-clause-excluded t c = λ h.
    let tested = ap view c.in-Object-2.is ∙ view-Object c.in-Object-2.members in
    let seen = ap view c.in-Object-3.is ∙ view-Object c.in-Object-3.members in
    let some = some_members c.in-Object-2.members.entries c.in-Object-3.members.entries _ (λ e. false≢true (c.if-is_empty.ensures.1 e)) tested seen in
    ap (fits_in c.args.levels c.args.self.now.path c.args.self.now.doc) seen ∙ fits_in-object c.args.levels c.args.self.now.path c.args.self.now.doc _ (omega arith) some ∙ c.add_members.ensures.excluded h
