-- A version more leaves all that can be taken back.
use Rattle.std.proofs.Common.{◌≡◌, ℕ, zero, suc, ◌+◌, ◌<◌, ◌≤◌, nat_lt, cond, Bool, true, false, List, [], ◌∷◌, ◌++◌, length, map, take, drop, Option, Some, None, unwrap_or, slice_get, refl, sym, ap, subst, ◌∙◌, inl, inr, arith, length-append}
use Rattle.std.proofs.lemmas.Bool.Decides.{nat_tests}
use Rattle.std.proofs.lemmas.List.{map-append, take-append-drop}
use Rattle.std.proofs.lemmas.Option.{same_Some, slice_get_within}
use Rattle.doc_values.specs.Doc.{Fields}
use Rattle.attr_catalog.specs.Attribute.{Attribute, raised, dirtied}
use Rattle.attr_catalog.specs.declared.home.Home.{Home}
use Rattle.attr_catalog.specs.declared.home.Home.TheVariants as home
use Rattle.row_versions.specs.declared.version.Version.{Version}
use Rattle.row_versions.specs.History.{History, begun, rolled_back}
use Rattle.row_versions.specs.Order.{IsLatest}
use Rattle.row_versions.specs.Shows.{RollBacksShow, LatestStays}
use Rattle.row_versions.proofs.Places.{get-push}
use Rattle.layout_store.specs.Storage.{Storage}
use Rattle.layout_store.specs.Numbering.{HasGrown}
use Rattle.layout_store.specs.RolledBack.{mark_below}
use Rattle.layout_store.specs.Changes.{AreChanged, written_to, written_if, HasAppended}
use Rattle.write_plans.specs.UnderWay.{IsFront, bare, CanBeTakenBack}
use Rattle.write_plans.proofs.Items.{front-same, front-then}

-- What a change leaves of all attributes, it leaves of their list.
pub seen-same : {Y : Type 0} (see : Attribute → Y) (change : ℕ → Attribute → Attribute) (list bs : List Attribute) → length bs ≡ length list → ((i : ℕ) (a : Attribute) → slice_get list i ≡ Some a → slice_get bs i ≡ Some (change i a))
    → ((i : ℕ) (a : Attribute) → see (change i a) ≡ see a) → map see bs ≡ map see list
seen-same see change [] [] many each same = refl
seen-same see change [] (b ∷ bs) many each same = absurd (omega (arith, many))
seen-same see change (a ∷ list) [] many each same = absurd (omega (arith, many))
seen-same see change (a ∷ list) (b ∷ bs) many each same =
    let here : b ≡ change zero a = same_Some b (change zero a) (each zero a refl) in
    let first = ap see here ∙ same zero a in
    let rest = seen-same see (λ i. change (suc i)) list bs (omega (arith, many)) (λ i x at. each (suc i) x at) (λ i x. same (suc i) x) in
    λ i. first i ∷ rest i

not_below : (a b : ℕ) → b ≤ a → nat_lt a b ≡ false
not_below a b le = grind (arith, nat_tests)

marked : (versions version : ℕ) (m : Option ℕ) → versions ≤ version → mark_below versions (Some (unwrap_or m version)) ≡ mark_below versions m
marked versions version None le = ap (λ (b : Bool). cond b (Some version) None) (not_below version versions le)
marked versions version (Some clean_to) le = refl

bare_to : (versions version : ℕ) (h : Home) (a : Attribute) → versions ≤ version → bare versions (written_to h version a) ≡ bare versions a
bare_to versions version home.Reservoir a le = refl
bare_to versions version home.Column a le = ap (λ (m : Option ℕ). record { name = a.name; kind = a.kind; count = 0; home = a.home; mark = m }) (marked versions version a.mark le)

pub bare-written : (versions version : ℕ) (test : Bool) (a : Attribute) → versions ≤ version → bare versions (written_if version test a) ≡ bare versions a
bare-written versions version false a le = refl
bare-written versions version true a le = bare_to versions version a.home a le

pub can-begin : (commit : ℕ) (s : Storage) → IsLatest commit s.history.versions → CanBeTakenBack commit s s
can-begin commit s latest = record {
  latest = latest;
  back = refl;
  longer = omega arith;
  young = λ place v le at. absurd (omega (arith, slice_get_within s.history.versions place v at));
  horizon = refl;
  records = front-same s.records;
  cells = refl;
  attributes = front-same (map (bare (length s.history.versions)) s.attributes);
}

pub can-append : RollBacksShow → LatestStays → (row commit : ℕ) (d : Fields) (before mid after : Storage) → CanBeTakenBack commit before mid → HasAppended row commit d mid after → CanBeTakenBack commit before after
can-append rolls stays row commit d before mid after u h =
    let most = length before.history.versions in
    let versions : after.history.versions ≡ mid.history.versions ++ begun row commit ∷ [] = ap (λ (x : History). x.versions) h.history in
    let grown : h.grown ≡ mid.attributes ++ drop (length mid.attributes) h.grown = sym (take-append-drop (length mid.attributes) h.grown) ∙ ap (λ (l : List Attribute). l ++ drop (length mid.attributes) h.grown) h.longer.front in
    record {
      latest = subst (IsLatest commit) (sym versions) (stays.appended commit row commit mid.history.versions u.latest (omega arith));
      back = ap (rolled_back commit) versions ∙ rolls.appended commit row mid.history.versions ∙ u.back;
      longer = omega (arith, u.longer, ap length versions, length-append mid.history.versions (begun row commit ∷ []));
      young = λ place v le at. elim (get-push mid.history.versions (begun row commit) place v (ap (λ (l : List Version). slice_get l place) (sym versions) ∙ at)) [
        | inl old ↦ u.young place v le old
        | inr new ↦ omega (arith, ap (λ (x : Version). x.begin) new.1)
      ];
      horizon = ap (λ (x : History). x.horizon) h.history ∙ u.horizon;
      records = front-then before.records mid.records after.records u.records (record { more = h.fields ∷ []; is = h.stands });
      cells = h.cells ∙ u.cells;
      attributes = front-then (map (bare most) before.attributes) (map (bare most) mid.attributes) (map (bare most) after.attributes) u.attributes (record {
        more = map (bare most) (drop (length mid.attributes) h.grown);
        is = seen-same (bare most) _ h.grown after.attributes h.attributes.many h.attributes.each (λ i a. bare-written most (length mid.history.versions) _ a u.longer)
            ∙ ap (map (bare most)) grown ∙ map-append (bare most) mid.attributes (drop (length mid.attributes) h.grown);
      });
    }
