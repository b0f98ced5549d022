-- How a version is stored: its numbers side by side, and its marks apart, so that neither takes room for the other.
use Rattle.std.specs.Prelude.{ℕ, Bool, true, false, ◌==◌, List, [], ◌∷◌, map, Option, Some, None, is_some, unwrap_or, if◌then◌else◌}
use Rattle.row_versions.specs.declared.version.Version.{Version}
use Rattle.row_versions.specs.declared.stored.Stored.{Stored}
use Rattle.row_versions.specs.declared.marks.Marks.{Marks}

-- The end that stands there, if there is one.
abbrev pub end_shown : Bool → ℕ → Option ℕ
end_shown true end = Some end
end_shown false end = None

-- The version that is stored.
abbrev pub shown : Stored → Marks → Version
shown s m = record { row = s.row; begin = s.begin; end = end_shown m.ended s.end; emptied = m.emptied }

-- The versions that are stored.
abbrev pub all_shown : List Stored → List Marks → List Version
all_shown [] ms = []
all_shown (s ∷ ss) [] = []
all_shown (s ∷ ss) (m ∷ ms) = shown s m ∷ all_shown ss ms

-- The number that stands for no place.
abbrev pub no_place : ℕ
no_place = 4294967295

-- The place of the version before, if there is one.
abbrev pub link_shown : Stored → Option ℕ
link_shown s = if s.before == no_place then None else Some s.before

-- The places of the versions before.
abbrev pub links_shown : List Stored → List (Option ℕ)
links_shown stored = map link_shown stored

-- The numbers of a version, with the place of the one before.
abbrev pub stored_of : Version → Option ℕ → Stored
stored_of v link = record { begin = v.begin; end = unwrap_or v.end 0; row = v.row; before = unwrap_or link no_place }

-- The marks of a version.
abbrev pub marks_of : Version → Marks
marks_of v = record { ended = is_some v.end; emptied = v.emptied }
