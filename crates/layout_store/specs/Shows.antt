-- What rows show at each number of commits, and what calls change of that.
use Rattle.std.specs.Prelude.{◌≡◌, ◌≢◌, ℕ, ◌<◌, ◌≤◌, Option, option_map}
use Rattle.doc_values.specs.Doc.{Fields}
use Rattle.row_versions.specs.History.{visible}
use Rattle.document_records.specs.StoredDocument.{pairs_of}
use Rattle.layout_store.specs.Storage.{Storage, held}
use Rattle.layout_store.specs.Documents.{counts_of, document_at}

-- The document that a row shows after so many commits, if it shows one.
abbrev pub shown : Storage → ℕ → ℕ → Option Fields
shown s n row = option_map (λ version. document_at s version.0) (visible row n s.history.versions)

-- All rows show what they did, at every number.
abbrev pub ShowsTheSame : Storage → Storage → Type 0
ShowsTheSame before after = (n row : ℕ) → shown after n row ≡ shown before n row

-- The same is held by the same versions, of the same pairs, and counted alike: nothing but sides, homes and marks may differ.
pub record HoldsTheSame (before after : Storage) : Type 0 where
  pub pairs : pairs_of after.attributes ≡ pairs_of before.attributes
  pub counts : counts_of after.attributes ≡ counts_of before.attributes
  pub history : after.history ≡ before.history
  pub held : (version id : ℕ) → held after version id ≡ held before version id

-- From a commit on a row shows a document, or none; before it, and in other rows, everything shows as it did.
pub record HasWritten (commit row : ℕ) (document : Option Fields) (before after : Storage) : Type 0 where
  pub earlier : (n r : ℕ) → n < commit → shown after n r ≡ shown before n r
  pub elsewhere : (n r : ℕ) → r ≢ row → shown after n r ≡ shown before n r
  pub here : (n : ℕ) → commit ≤ n → shown after n row ≡ document
