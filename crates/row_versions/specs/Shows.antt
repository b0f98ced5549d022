-- What rows show after a change of the versions, at every number of commits.
use Rattle.std.specs.Prelude.{◌≡◌, ◌≢◌, ℕ, ◌-◌, ◌<◌, ◌≤◌, List, [], ◌∷◌, ◌++◌, length, Option, Some, None, slice_get}
use Rattle.row_versions.specs.declared.version.Version.{Version}
use Rattle.row_versions.specs.declared.version_id.VersionId.{VersionId}
use Rattle.row_versions.specs.History.{version_at, rows_of, visible, newest, begun, ended, given_up, changed, rolled_back}
use Rattle.row_versions.specs.Order.{AreOrdered, IsLatest}

-- From a commit on a row shows a version, or none; before it, and in other rows, everything shows as it did.
pub record ShowsFrom (commit row : ℕ) (id : Option VersionId) (before after : List Version) : Type 0 where
  pub earlier : (n r : ℕ) → n < commit → visible r n after ≡ visible r n before
  pub elsewhere : (n r : ℕ) → r ≢ row → visible r n after ≡ visible r n before
  pub here : (n : ℕ) → commit ≤ n → visible row n after ≡ id

-- Law: a version appended is what its row shows from its commit on.
abbrev pub AppendsShow : Type 0
AppendsShow = (row commit : ℕ) (versions : List Version) → AreOrdered versions → IsLatest commit versions → newest row versions ≡ None
    → ShowsFrom commit row (Some (version_at (length versions))) versions (versions ++ begun row commit ∷ [])

-- Law: from the end of its newest version on a row shows nothing.
abbrev pub EndingsShow : Type 0
EndingsShow = (place commit : ℕ) (v : Version) (versions : List Version) → AreOrdered versions → slice_get versions place ≡ Some v → v.end ≡ None → v.begin ≤ commit
    → ShowsFrom commit v.row None versions (changed (ended commit) place versions)

-- After a roll back rows show before the commit what they did, and from it on what they showed just before it.
pub record ShowsBefore (commit : ℕ) (before after : List Version) : Type 0 where
  pub earlier : (n r : ℕ) → n < commit → visible r n after ≡ visible r n before
  pub later : (n r : ℕ) → 0 < commit → commit ≤ n → visible r n after ≡ visible r (commit - 1) before

-- Law: a roll back shows what stood before the commit; it takes back what was appended and ended at the commit, and nothing where nothing was.
pub record RollBacksShow : Type 0 where
  pub shows : (commit : ℕ) (versions : List Version) → AreOrdered versions → ShowsBefore commit versions (rolled_back commit versions)
  pub appended : (commit row : ℕ) (versions : List Version) → rolled_back commit (versions ++ begun row commit ∷ []) ≡ rolled_back commit versions
  pub ended : (commit place : ℕ) (v : Version) (versions : List Version) → slice_get versions place ≡ Some v → v.end ≡ None → rolled_back commit (changed (ended commit) place versions) ≡ rolled_back commit versions
  pub untouched : (latest commit : ℕ) (versions : List Version) → IsLatest latest versions → latest < commit → rolled_back commit versions ≡ versions

-- Law: an emptied version is seen where it was.
abbrev pub EmptiesShow : Type 0
EmptiesShow = (place n row : ℕ) (versions : List Version) → visible row n (changed given_up place versions) ≡ visible row n versions

-- Law: where no version begins or ends after a commit, rows show the same from it on, and that is their newest version.
pub record LatestShow : Type 0 where
  pub settled : (commit n row : ℕ) (versions : List Version) → IsLatest commit versions → commit ≤ n → visible row n versions ≡ visible row commit versions
  pub standing : (commit row : ℕ) (versions : List Version) → IsLatest commit versions → newest row versions ≡ visible row commit versions
  pub unborn : (row : ℕ) (versions : List Version) → rows_of versions ≤ row → newest row versions ≡ None

-- Law: no version begins or ends after a commit, so long as nothing is done at a later one.
pub record LatestStays : Type 0 where
  pub new : (n : ℕ) → IsLatest n []
  pub later : (m n : ℕ) (versions : List Version) → IsLatest m versions → m ≤ n → IsLatest n versions
  pub appended : (n row commit : ℕ) (versions : List Version) → IsLatest n versions → commit ≤ n → IsLatest n (versions ++ begun row commit ∷ [])
  pub ended : (n place commit : ℕ) (versions : List Version) → IsLatest n versions → commit ≤ n → IsLatest n (changed (ended commit) place versions)
  pub emptied : (n place : ℕ) (versions : List Version) → IsLatest n versions → IsLatest n (changed given_up place versions)
  pub back : (commit : ℕ) (versions : List Version) → 0 < commit → IsLatest (commit - 1) (rolled_back commit versions)
