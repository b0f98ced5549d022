-- What a step does, and what any number of steps leave.
use Rattle.std.specs.Prelude.{◌≡◌, ℕ, ◌<◌, Some, None, length, map, slice_get}
use Rattle.attr_catalog.specs.Attribute.{Attribute, cleared}
use Rattle.attr_catalog.specs.Catalog.{changed, number}
use Rattle.layout_store.specs.Storage.{Storage, held}
use Rattle.layout_store.specs.Changes.{HasStepped}
use Rattle.materialiser.specs.declared.moved.Moved.{Moved}
use Rattle.materialiser.specs.declared.moved.Moved.TheVariants as moved
use Rattle.materialiser.specs.Dirty.{first_dirty}

-- The first dirty attribute is this one, with its mark.
pub record IsFirstDirty (s : Storage) (id clean_to : ℕ) : Type 0 where
  pub first : first_dirty s.attributes ≡ Some id
  pub attribute : Attribute
  pub there : slice_get s.attributes id ≡ Some attribute
  pub mark : attribute.mark ≡ Some clean_to

-- All versions are behind the mark of the first dirty attribute.
abbrev pub IsMoved : Storage → Type 0
IsMoved s = (id : ℕ) × IsFirstDirty s id (length s.history.versions)

-- Of the first dirty attribute the version at its mark is moved.
pub record HasMovedRow (before after : Storage) : Type 0 where
  pub id : ℕ
  pub clean_to : ℕ
  pub dirty : IsFirstDirty before id clean_to
  pub left : clean_to < length before.history.versions
  pub stepped : HasStepped (number id) clean_to before after

-- The first dirty attribute, whose mark all versions are behind, is clean, and nothing else has changed.
pub record HasClearedMark (before after : Storage) : Type 0 where
  pub id : ℕ
  pub dirty : IsFirstDirty before id (length before.history.versions)
  pub clean : after ≡ record { attributes = changed cleared (number id) before.attributes; history = before.history; records = before.records; cells = before.cells }

-- What a step has done, by its answer.
abbrev pub HasDone : Moved → Storage → Storage → Type 0
HasDone moved.Row before after = HasMovedRow before after
HasDone moved.Mark before after = HasClearedMark before after
HasDone moved.Nothing before after = (first_dirty before.attributes ≡ None) × (after ≡ before)

-- But for marks and sides all is as before: the attributes with their homes and counts, the versions, and what each of them holds.
pub record IsRearranged (before after : Storage) : Type 0 where
  pub attributes : map cleared after.attributes ≡ map cleared before.attributes
  pub history : after.history ≡ before.history
  pub held : (version id : ℕ) → held after version id ≡ held before version id

-- An attribute of which so many versions are known to be clean.
abbrev pub marked : ℕ → Attribute → Attribute
marked clean_to a = record a { mark = Some clean_to }
