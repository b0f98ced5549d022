-- The documents of a JSON text, or the number of the first that is excluded.
use Rattle.std.specs.Prelude.{ℕ, ◌+◌, ◌≤◌, List, [], ◌∷◌, length, Bool, true, is_some, ◌&&◌, nat_le, Option, Some, None, Result, Ok, Err, if◌then◌else◌}
use Rattle.serde_json.specs.Data.{Data, null, boolean, number, string, array, object, Items, no_items, item, Members, depth}
use Rattle.serde_json.specs.Find.{as_object}
use Rattle.serde_json.specs.Read.{read}
use Rattle.doc_values.specs.Doc.{Fields, IsDocument}
use Rattle.doc_flatten.specs.Tree.{has_integers, has_paths}
use Rattle.doc_flatten.specs.Fields.{members_fields, with_all_fields}

-- The document that an object's members make: all their fields, flattened.
abbrev pub document_of_members : Members → Fields
document_of_members ms = with_all_fields [] (members_fields [] ms)

-- How many fields a document may have.
abbrev pub most_fields : ℕ
most_fields = 4096

-- How many levels of arrays and objects a document may have, itself among them.
abbrev pub most_levels : ℕ
most_levels = 64

-- An object is admitted as a document: neither nested too deep nor with too many fields, and with integers, keys and paths that may be.
abbrev pub is_admitted : Members → Bool
is_admitted ms =
    nat_le (depth (object ms)) most_levels && has_integers (object ms) && has_paths [] (object ms) && nat_le (length (document_of_members ms)) most_fields

-- The document that a tree is, where it is an admitted object.
abbrev pub document_of : Data → Option Fields
document_of (object ms) = if is_admitted ms then Some (document_of_members ms) else None
document_of null = None
document_of (boolean b) = None
document_of (number n) = None
document_of (string s) = None
document_of (array ds) = None

-- A tree is an object.
abbrev pub is_object : Data → Bool
is_object d = is_some (as_object d)

-- Every item is an object.
abbrev pub are_objects : Items → Bool
are_objects no_items = true
are_objects (item d ds) = is_object d && are_objects ds

-- One more document in front, if it is one: otherwise its number is the fault. A later fault stays.
abbrev pub behind : ℕ → Option Fields → Result (List Fields) ℕ → Result (List Fields) ℕ
behind at None more = Err at
behind at (Some document) (Ok more) = Ok (document ∷ more)
behind at (Some document) (Err later) = Err later

-- The documents that items are, numbered on from the number given, or the number of the first that is excluded.
abbrev pub documents_from : ℕ → Items → Result (List Fields) ℕ
documents_from at no_items = Ok []
documents_from at (item d ds) = behind at (document_of d) (documents_from (at + 1) ds)

-- The documents of a tree: an object is one document, and an array of objects one for each. Of any other tree the fault is 0.
abbrev pub documents_in : Data → Result (List Fields) ℕ
documents_in (object ms) = documents_from 1 (item (object ms) no_items)
documents_in (array ds) = if are_objects ds then documents_from 1 ds else Err 0
documents_in null = Err 0
documents_in (boolean b) = Err 0
documents_in (number n) = Err 0
documents_in (string s) = Err 0

-- The documents of a tree that was read; where none was, the fault is 0.
abbrev pub documents_or_unread : Option Data → Result (List Fields) ℕ
documents_or_unread None = Err 0
documents_or_unread (Some d) = documents_in d

-- The documents of a text.
abbrev pub documents_of : List ℕ → Result (List Fields) ℕ
documents_of text = documents_or_unread (read text)

-- A document within the limits: names ascending, numbers in 64 bits, and no more fields than there may be.
abbrev pub IsWithinLimits : Fields → Type 0
IsWithinLimits doc = IsDocument doc × (length doc ≤ most_fields)
