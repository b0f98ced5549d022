-- The cells of a version, cleared one after the other.
use Rattle.std.proofs.Common.{◌≡◌, ℕ, ◌<◌, ◌≤◌, ◌+◌, nat_le, Bool, true, false, List, length, get_or, Option, Some, None, refl, sym, ap, subst, ◌∙◌, arith}
use Rattle.std.proofs.lemmas.Bool.Decides.{nat_tests}
use Rattle.std.proofs.lemmas.Option.{none-some}
use Rattle.doc_values.specs.declared.value.Value.{Value}
use Rattle.phys_columns.specs.Cells.{Cells, cell_at, without_cell}
use Rattle.phys_columns.specs.Laws.{TakesAlone}
use Rattle.layout_store.specs.Listed.{IsListed, AreListedAt, AreListed}
use Rattle.layout_store.proofs.Ascending.{among, among-start, among-here, among-other, among-all}
use Rattle.layout_store.proofs.Attributes.{equal_or_not}

-- So far the version has no cell of the attributes that are listed before a place, and all others stand.
pub record AreClear (version : ℕ) (ids : List ℕ) (k : ℕ) (before now : Cells) : Type 0 where
  pub gone : (id : ℕ) → among ids k id ≡ true → cell_at id version now ≡ None
  pub still : (id : ℕ) → among ids k id ≡ false → cell_at id version now ≡ cell_at id version before
  pub kept : (w id : ℕ) → (w ≡ version → ⊥) → cell_at id w now ≡ cell_at id w before

pub clear-none : (version : ℕ) (ids : List ℕ) (cells : Cells) → AreClear version ids 0 cells cells
clear-none version ids cells = record { gone = λ id e. absurd (let both : true ≡ false = sym e ∙ among-start ids id in cc); still = λ id e. refl; kept = λ w id ne. refl }

pub clear-next : TakesAlone → (version : ℕ) (ids : List ℕ) (k x : ℕ) → k < length ids → x ≡ get_or ids k 0 → (before now after : Cells) → AreClear version ids k before now → after ≡ without_cell x version now → AreClear version ids (k + 1) before after
clear-next takes version ids k x lt at before now after h is = record {
  gone = λ id e. equal_or_not id x (cell_at id version after ≡ None)
      (λ same. ap (cell_at id version) is ∙ ap (λ (i : ℕ). cell_at i version (without_cell x version now)) same ∙ (takes now x version).0)
      (λ ne. ap (cell_at id version) is ∙ (takes now x version).1 id version (λ same _. ne same) ∙ h.gone id (sym (among-other ids k id lt (λ f. ne (f ∙ sym at))) ∙ e));
  still = λ id e.
      let ne : id ≡ x → ⊥ = λ same. let here : among ids (k + 1) id ≡ true = ap (among ids (k + 1)) (same ∙ at) ∙ among-here ids k lt in absurd (let both : true ≡ false = sym here ∙ e in cc) in
      ap (cell_at id version) is ∙ (takes now x version).1 id version (λ same _. ne same) ∙ h.still id (sym (among-other ids k id lt (λ f. ne (f ∙ sym at))) ∙ e);
  kept = λ w id ne. ap (cell_at id w) is ∙ (takes now x version).1 id w (λ _ e. ne e) ∙ h.kept w id ne;
}

pub clear-all : (version : ℕ) (ids : List ℕ) (n : ℕ) → length ids ≤ n → (before now : Cells) → AreClear version ids n before now → AreListedAt version ids before → (id : ℕ) → cell_at id version now ≡ None
clear-all version ids n le before now h listed id = by (among ids n id) refl
  where
    at_by : (o : Option Value) → cell_at id version before ≡ o → among ids n id ≡ false → o ≡ None
    at_by None e f = refl
    at_by (Some value) e f = let sure = among-all ids n id le (listed id value e) in absurd (let both : true ≡ false = sym sure ∙ f in cc)

    by : (t : Bool) → among ids n id ≡ t → cell_at id version now ≡ None
    by true e = h.gone id e
    by false e = h.still id e ∙ at_by (cell_at id version before) refl e

-- those that are left are listed
pub listed-cleared : (version : ℕ) (ids : List ℕ) (before now : Cells) → AreListed ids before → ((id : ℕ) → cell_at id version now ≡ None) → ((w id : ℕ) → (w ≡ version → ⊥) → cell_at id w now ≡ cell_at id w before) → AreListed ids now
listed-cleared version ids before now h gone kept w id value e = equal_or_not w version (IsListed id ids)
    (λ same. absurd (none-some value (sym (gone id) ∙ ap (λ (v : ℕ). cell_at id v now) (sym same) ∙ e)))
    (λ ne. h w id value (sym (kept w id ne) ∙ e))

pub listed-low : (n : ℕ) (ids : List ℕ) (before now : Cells) → AreListed ids before → ((version id : ℕ) → n ≤ version → cell_at id version now ≡ None) → ((version id : ℕ) → version < n → cell_at id version now ≡ cell_at id version before) → AreListed ids now
listed-low n ids before now h gone low w id value e = by (nat_le n w) refl
  where
    by : (t : Bool) → nat_le n w ≡ t → IsListed id ids
    by true f = let le : n ≤ w = grind (arith, nat_tests) in absurd (none-some value (sym (gone w id le) ∙ e))
    by false f = let lt : w < n = grind (arith, nat_tests) in h w id value (sym (low w id lt) ∙ e)

-- a cell that is put in is listed
pub listed-more : (id version : ℕ) (old ids : List ℕ) (before now : Cells) → AreListed old before → ((i : ℕ) → IsListed i old → IsListed i ids) → IsListed id ids → ((i w : ℕ) → (i ≡ id → w ≡ version → ⊥) → cell_at i w now ≡ cell_at i w before) → AreListed ids now
listed-more id version old ids before now h stays here other w i value e = equal_or_not i id (IsListed i ids)
    (λ same. subst (λ (j : ℕ). IsListed j ids) (sym same) here)
    (λ ne. stays i (h w i value (sym (other i w (λ same _. ne same)) ∙ e)))

pub listed-same : (old ids : List ℕ) (cells : Cells) → AreListed old cells → ((i : ℕ) → IsListed i old → IsListed i ids) → AreListed ids cells
listed-same old ids cells h stays w i value e = stays i (h w i value e)
