-- Documents that are added one after another, and the collection that they make.
use Rattle.std.proofs.Common.{◌≡◌, ◌≢◌, ℕ, zero, suc, ◌+◌, ◌<◌, ◌≤◌, ◌||◌, max, nat_lt, Bool, true, false, List, [], ◌∷◌, ◌++◌, length, map, take, fold, Option, Some, None, slice_get, refl, sym, ap, subst, ◌∙◌, arith, length-append}
use Rattle.std.proofs.lemmas.Bool.Decides.{nat_tests}
use Rattle.std.proofs.lemmas.Option.{same_Some, slice_get_within}
use Rattle.doc_values.specs.Doc.{Fields}
use Rattle.doc_values.specs.declared.kind.Kind.{Kind}
use Rattle.attr_catalog.specs.Attribute.{Attribute, raised}
use Rattle.attr_catalog.specs.Catalog.{most_attributes, most_versions}
use Rattle.attr_catalog.specs.declared.home.Home.{Home}
use Rattle.attr_catalog.specs.declared.home.Home.TheVariants as home
use Rattle.row_versions.specs.declared.version.Version.{Version}
use Rattle.row_versions.specs.History.{History, rows_of, begun}
use Rattle.row_versions.specs.Order.{IsLatest}
use Rattle.document_records.specs.Pairs.{with_fields}
use Rattle.document_records.specs.StoredDocument.{Pairs, pairs_of}
use Rattle.layout_store.specs.Storage.{Storage}
use Rattle.layout_store.specs.Changes.{written_to, written_if, HasAppended}
use Rattle.layout_store.specs.Shows.{shown, HasWritten}
use Rattle.shown_rows.specs.Rows.{Row, rows_below, rows_at, rows_from}
use Rattle.shown_rows.specs.Follow.{RowsFollow}
use Rattle.write_plans.specs.Collection.{Collection, with_documents, is_beyond}
use Rattle.write_plans.specs.Becomes.{collection_in, IsSettled, HasBecome}
use Rattle.write_plans.specs.UnderWay.{CanBeTakenBack, AreAdded}
use Rattle.write_plans.proofs.Folds.{documents_more, take_none, take_all}
use Rattle.write_plans.proofs.Front.{seen-same}

rows_push : (versions : List Version) (v : Version) → rows_of (versions ++ v ∷ []) ≡ max (rows_of versions) (v.row + 1)
rows_push [] v = omega arith
rows_push (w ∷ versions) v = omega (arith, rows_push versions v)

pair_to : (version : ℕ) (h : Home) (a : Attribute) → let p : List ℕ × Kind = ((written_to h version a).name, (written_to h version a).kind) in p ≡ (a.name, a.kind)
pair_to version home.Reservoir a = refl
pair_to version home.Column a = refl

pair_if : (version : ℕ) (test : Bool) (a : Attribute) → let p : List ℕ × Kind = ((written_if version test a).name, (written_if version test a).kind) in p ≡ (a.name, a.kind)
pair_if version true a = pair_to version a.home a
pair_if version false a = refl

pub pairs-appended : (row commit : ℕ) (d : Fields) (before after : Storage) → HasAppended row commit d before after → pairs_of after.attributes ≡ with_fields (pairs_of before.attributes) d
pairs-appended row commit d before after h =
    seen-same (λ (a : Attribute). (a.name, a.kind)) _ h.grown after.attributes h.attributes.many h.attributes.each (λ i a. pair_if (length before.history.versions) _ a) ∙ h.pairs

pub none-added : (commit : ℕ) (ds : List Fields) (s : Storage) → AreAdded commit ds 0 s s
none-added commit ds s = record {
  pairs = ap (fold with_fields (pairs_of s.attributes)) (sym (take_none ds));
  many = omega arith;
  rows = omega arith;
  earlier = λ n row lt. refl;
  standing = λ n row lt. refl;
  added = λ n i d le lt at. absurd (omega arith);
}

equal_or_not : (a b : ℕ) (P : Type 0) → (a ≡ b → P) → (a < b → P) → a ≤ b → P
equal_or_not a b P same below le = by (nat_lt a b) refl
  where
    by : (t : Bool) → nat_lt a b ≡ t → P
    by true e = below (grind (arith, nat_tests))
    by false e = let past : b ≤ a = grind (arith, nat_tests) in same (omega arith)

pub one-added : (commit : ℕ) (ds : List Fields) (k : ℕ) (d : Fields) (before mid after : Storage) → slice_get ds k ≡ Some d → AreAdded commit ds k before mid → HasAppended (rows_of mid.history.versions) commit d mid after
    → HasWritten commit (rows_of mid.history.versions) (Some d) mid after → AreAdded commit ds (k + 1) before after
one-added commit ds k d before mid after at a h w =
    let next = rows_of mid.history.versions in
    let versions : after.history.versions ≡ mid.history.versions ++ begun next commit ∷ [] = ap (λ (x : History). x.versions) h.history in
    let here : next ≡ rows_of before.history.versions + k = a.rows in
    record {
      pairs = pairs-appended next commit d mid after h ∙ ap (λ (ps : Pairs). with_fields ps d) a.pairs ∙ sym (documents_more ds (pairs_of before.attributes) k d at);
      many = omega (arith, a.many, ap length versions, length-append mid.history.versions (begun next commit ∷ []));
      rows = omega (arith, here, ap rows_of versions, rows_push mid.history.versions (begun next commit));
      earlier = λ n row lt. w.earlier n row lt ∙ a.earlier n row lt;
      standing = λ n row lt. w.elsewhere n row (λ same. absurd (omega arith)) ∙ a.standing n row lt;
      added = λ n i e le lt there.
          equal_or_not i k (shown after n (rows_of before.history.versions + i) ≡ Some e)
          (λ same.
          let row : rows_of before.history.versions + i ≡ next = omega arith in
          let last : d ≡ e = same_Some d e (sym at ∙ ap (slice_get ds) (sym same) ∙ there) in
          ap (shown after n) row ∙ w.here n le ∙ ap Some last)
          (λ below. w.elsewhere n (rows_of before.history.versions + i) (λ same. absurd (omega arith)) ∙ a.added n i e le below there) (omega arith);
    }

-- ---- all of them

pub has-become : RowsFollow → (now : ℕ) (ds : List Fields) (before after : Storage) → IsSettled now before → CanBeTakenBack (now + 1) before after → AreAdded (now + 1) ds (length ds) before after → HasBecome (with_documents ds) now before after
has-become follow now ds before after s u a = record {
  changed = λ name.
      let bound = rows_of before.history.versions in
      let pairs : pairs_of after.attributes ≡ fold with_fields (pairs_of before.attributes) ds = a.pairs ∙ ap (fold with_fields (pairs_of before.attributes)) (take_all ds) in
      let rows : rows_at after (now + 1) ≡ rows_at before now ++ rows_from bound ds =
      ap (rows_below (shown after (now + 1))) a.rows
      ∙ follow.loaded (shown after (now + 1)) bound ds (λ i d at. a.added (now + 1) i d (omega arith) (slice_get_within ds i d at) at)
      ∙ ap (λ (rows : List Row). rows ++ rows_from bound ds) (follow.alike (shown after (now + 1)) (shown before now) bound (λ row lt. a.standing (now + 1) row lt ∙ follow.latest before now (now + 1) row s.latest (omega arith))) in
      λ i. record { name = name; rows = rows i; next_row = a.rows i; versions = a.many i; pairs = pairs i };
  earlier = λ n le. follow.same before after n n (λ row. a.earlier n row (omega arith));
  latest = u.latest;
  horizon = u.horizon;
}

not_above : (most n : ℕ) → n ≤ most → nat_lt most n ≡ false
not_above most n le = grind (arith, nat_tests)

above : (most n : ℕ) → most < n → nat_lt most n ≡ true
above most n lt = grind (arith, nat_tests)

or_true : (a : Bool) → a || true ≡ true
or_true true = refl
or_true false = refl

pub load-fits : (now : ℕ) (ds : List Fields) (s : Storage) → length (fold with_fields (pairs_of s.attributes) ds) ≤ most_attributes → length s.history.versions + length ds ≤ most_versions
    → (name : List ℕ) → is_beyond (with_documents ds (collection_in name s now)) ≡ false
load-fits now ds s pairs versions name =
    ap (λ (t : Bool). t || nat_lt most_versions (length s.history.versions + length ds)) (not_above most_attributes (length (fold with_fields (pairs_of s.attributes) ds)) pairs)
    ∙ not_above most_versions (length s.history.versions + length ds) versions

pub load-too_many : (now : ℕ) (ds : List Fields) (s : Storage) → most_versions < length s.history.versions + length ds → (name : List ℕ) → is_beyond (with_documents ds (collection_in name s now)) ≡ true
load-too_many now ds s many name =
    ap (λ (t : Bool). nat_lt most_attributes (length (fold with_fields (pairs_of s.attributes) ds)) || t) (above most_versions (length s.history.versions + length ds) many) ∙ or_true _

pub load-too_wide : (now : ℕ) (ds : List Fields) (s : Storage) → most_attributes < length (fold with_fields (pairs_of s.attributes) ds) → (name : List ℕ) → is_beyond (with_documents ds (collection_in name s now)) ≡ true
load-too_wide now ds s many name = ap (λ (t : Bool). t || nat_lt most_versions (length s.history.versions + length ds)) (above most_attributes (length (fold with_fields (pairs_of s.attributes) ds)) many)
