use Rattle.std.proofs.Common.{◌≡◌, ◌+◌, [], ◌∷◌, ◌++◌, drop, sym, ap, ◌∙◌, arith}
use Rattle.std.proofs.lemmas.List.{drop_more}
use Rattle.serde_json.specs.View.{view, items_view}
use Rattle.doc_flatten.specs.Documents.{document_of, documents_from}
use Rattle.doc_flatten.proofs.Loaded.{after, after-behind}
use Rattle.doc_flatten.proofs.loading.documents.Goals as goal

pub loop-before-preserved : goal.loop-before-preserved
loop-before-preserved c =
    let trees = c.args.trees.now in
    let docs = c.loop-before.docs in
    let i = c.loop-before.before in
    let tree = c.index-trees-before.result in
    let doc = c.read.new.self.doc in
    let pushed : c.push.new.self ≡ docs ++ doc ∷ [] = c.in_ok-push-in-Ok.ensures.ok in
    let here : drop i trees ≡ tree ∷ drop (i + 1) trees = drop_more trees i tree (omega arith) ∙ ap (λ first. first ∷ drop (i + 1) trees) (sym c.index-trees-before.is) in
    rw pushed (sym (after-behind docs (i + 1) (document_of (view tree)) doc (documents_from (i + 1 + 1) (items_view (drop (i + 1) trees))) c.in-Ok.ensures.ok)
    ∙ ap (λ xs. after docs (documents_from (i + 1) (items_view xs))) (sym here) ∙ c.loop-before.invariant)
