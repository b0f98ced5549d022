use Rattle.std.proofs.Common.{◌≡◌, List, Bool, true, false, Err, cond, sym, ap, ◌∙◌}
use Rattle.std.proofs.lemmas.Result.{IfOk-weaker, IfErr-weaker}
use Rattle.std.specs.List.{list_all}
use Rattle.serde_json.specs.Data.{Data, array}
use Rattle.serde_json.specs.declared.value.Value.{Value}
use Rattle.serde_json.specs.View.{view, items_view}
use Rattle.serde_json.proofs.Views.{view-Array}
use Rattle.doc_flatten.specs.Documents.{is_object, documents_from, documents_in}
use Rattle.doc_flatten.proofs.Loaded.{are_objects-list_all}
use Rattle.doc_flatten.proofs.loading.documents_in.Goals as goal

decides : (d : Data) (trees lent : List Value) (b : Bool) → d ≡ array (items_view trees) → lent ≡ trees → b ≡ list_all (λ tree. is_object (view tree)) lent
    → documents_in d ≡ cond b (documents_from 1 (items_view trees)) (Err 0)
decides d trees lent b seen same answer =
    rw seen (ap (λ o. cond o (documents_from 1 (items_view trees)) (Err 0)) (are_objects-list_all trees ∙ ap (list_all (λ tree. is_object (view tree))) (sym same) ∙ sym answer))

pub returns-then-not-are_objects-clause-json : goal.returns-then-not-are_objects-clause-json
returns-then-not-are_objects-clause-json c = λ d e.
    let zero : 0 ≡ d = cc in
    decides _ c.in-Array.trees.items c.deref.result.now false (ap view c.in-Array.is ∙ view-Array c.in-Array.trees) c.deref.ensures.value c.if-not-are_objects.ensures.exact ∙ ap Err zero

pub returns-else-not-are_objects-clause-ok : goal.returns-else-not-are_objects-clause-ok
returns-else-not-are_objects-clause-ok c =
    let all = decides _ c.in-Array.trees.items c.deref.result.now true (ap view c.in-Array.is ∙ view-Array c.in-Array.trees) c.deref.ensures.value c.if-not-are_objects.ensures.exact in
    IfOk-weaker c.documents-in-Array.result _ _ (λ docs e. all ∙ ap (λ trees. documents_from 1 (items_view trees)) (sym c.deref-in-Array.ensures.value) ∙ e) c.documents-in-Array.ensures.ok

pub returns-else-not-are_objects-clause-json : goal.returns-else-not-are_objects-clause-json
returns-else-not-are_objects-clause-json c =
    let all = decides _ c.in-Array.trees.items c.deref.result.now true (ap view c.in-Array.is ∙ view-Array c.in-Array.trees) c.deref.ensures.value c.if-not-are_objects.ensures.exact in
    IfErr-weaker c.documents-in-Array.result _ _ (λ fault e d same. all ∙ ap (λ trees. documents_from 1 (items_view trees)) (sym c.deref-in-Array.ensures.value) ∙ e d same) c.documents-in-Array.ensures.json
