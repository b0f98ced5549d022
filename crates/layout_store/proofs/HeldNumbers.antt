-- The numbers of fields that are held.
use Rattle.std.proofs.Common.{◌≡◌, ℕ, ◌<◌, List, length, Option, Some, None, slice_get, refl}
use Rattle.std.specs.Prelude.{MatchOption}
use Rattle.std.proofs.lemmas.Option.{slice_get_within}
use Rattle.doc_values.specs.Doc.{Fields}
use Rattle.doc_values.specs.declared.kind.Kind.{Kind}
use Rattle.reservoir_record.specs.declared.fields.Field.{Field}
use Rattle.document_records.specs.StoredDocument.{Pairs, IsHeld, IsStored}

below_by : (pairs : Pairs) (id : ℕ) (P : List ℕ × Kind → Type 0) (o : Option (List ℕ × Kind)) → slice_get pairs id ≡ o → MatchOption o ⊥ P → id < length pairs
below_by pairs id P None e h = absurd h
below_by pairs id P (Some pair) e h = slice_get_within pairs id pair e

-- a field that is held has a number below that of the pairs
pub held_below : (pairs : Pairs) (document : Fields) (x : Field) → IsHeld pairs document x → x.id < length pairs
held_below pairs document x h = below_by pairs x.id (IsStored document x.bytes) (slice_get pairs x.id) refl h
