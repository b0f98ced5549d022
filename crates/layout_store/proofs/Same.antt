-- Where the same is held, documents keep their rules, and rows show the same.
use Rattle.std.proofs.Common.{◌≡◌, ℕ, List, Option, option_map, sym, subst}
use Rattle.row_versions.specs.History.{History, visible}
use Rattle.document_records.specs.StoredDocument.{Pairs, pairs_of}
use Rattle.layout_store.specs.Storage.{Storage, held}
use Rattle.layout_store.specs.Documents.{counts_of, document_of, AreDocuments}
use Rattle.layout_store.specs.Shows.{ShowsTheSame, HoldsTheSame}

pub documents-as : (p q : Pairs) (c d : List ℕ) (h k : History) (u w : ℕ → ℕ → Option (List ℕ)) → q ≡ p → d ≡ c → k ≡ h → ((v i : ℕ) → w v i ≡ u v i) → AreDocuments p c h u → AreDocuments q d k w
documents-as p q c d h k u w pairs counts history held kept =
    let same : w ≡ u = λ i v id. held v id i in
    subst (λ x. AreDocuments x d k w) (sym pairs) (subst (λ x. AreDocuments p x k w) (sym counts) (subst (λ x. AreDocuments p c x w) (sym history) (subst (λ x. AreDocuments p c h x) (sym same) kept)))

pub documents-same : (before after : Storage) → HoldsTheSame before after → AreDocuments (pairs_of before.attributes) (counts_of before.attributes) before.history (held before) → AreDocuments (pairs_of after.attributes) (counts_of after.attributes) after.history (held after)
documents-same before after h kept = documents-as _ _ _ _ _ _ (held before) (held after) h.pairs h.counts h.history h.held kept

pub shows-same : (before after : Storage) → HoldsTheSame before after → ShowsTheSame before after
shows-same before after h n row =
    let same : held after ≡ held before = λ i v id. h.held v id i in
    λ i. option_map (λ version. document_of (h.pairs i) (same i version.0)) (visible row n (h.history i).versions)
