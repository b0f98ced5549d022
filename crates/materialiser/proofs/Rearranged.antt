-- Storages that differ in marks and sides alone.
use Rattle.std.proofs.Common.{◌≡◌, ℕ, map, refl, sym, ap, subst, ◌∙◌}
use Rattle.attr_catalog.specs.Attribute.{cleared}
use Rattle.attr_catalog.specs.Catalog.{changed, number}
use Rattle.doc_values.specs.declared.attr_id.AttrId.{AttrId}
use Rattle.layout_store.specs.Storage.{Storage}
use Rattle.layout_store.specs.Shows.{ShowsTheSame}
use Rattle.layout_store.specs.Changes.{HasStepped, stepped}
use Rattle.materialiser.specs.Steps.{IsRearranged}
use Rattle.materialiser.proofs.Marks.{changed-told, stepped-told}

pub itself : (s : Storage) → IsRearranged s s
itself s = record { attributes = refl; history = refl; held = λ v i. refl }

pub and-then : (r s t : Storage) → IsRearranged r s → IsRearranged s t → IsRearranged r t
and-then r s t p q = record { attributes = q.attributes ∙ p.attributes; history = q.history ∙ p.history; held = λ v i. q.held v i ∙ p.held v i }

pub by-step : (id : AttrId) (version : ℕ) (s t : Storage) → HasStepped id version s t → IsRearranged s t
by-step id version s t h = record {
  attributes = ap (map cleared) h.attributes ∙ changed-told cleared (stepped version) id.0 s.attributes (stepped-told version);
  history = h.history;
  held = h.held;
}

-- The storage with the mark of an attribute taken away.
abbrev pub with_cleared : ℕ → Storage → Storage
with_cleared id s = record { attributes = changed cleared (number id) s.attributes; history = s.history; records = s.records; cells = s.cells }

so : (id : ℕ) (s : Storage) → IsRearranged s (with_cleared id s)
so id s = record { attributes = changed-told cleared cleared id s.attributes (λ a. refl); history = refl; held = λ v i. refl }

pub by-clearing : (id : ℕ) (s t : Storage) → t ≡ with_cleared id s → IsRearranged s t
by-clearing id s t e = subst (IsRearranged s) (sym e) (so id s)

pub shows-then : (r s t : Storage) → ShowsTheSame r s → ShowsTheSame s t → ShowsTheSame r t
shows-then r s t p q n row = q n row ∙ p n row
