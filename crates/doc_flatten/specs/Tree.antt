-- Which JSON trees may be documents: their numbers, their keys and their paths.
use Rattle.std.specs.Prelude.{ℕ, ℤ, pos, List, [], ◌∷◌, ◌++◌, Bool, true, ◌&&◌, ◌==◌, not, nat_lt, nat_le, int_le, length, Option, Some, None, is_some, if◌then◌else◌}
use Rattle.std.specs.List.{list_all}
use Rattle.serde_json.specs.Data.{Num, unsigned, negative, float, Data, null, boolean, number, string, array, object, Items, no_items, item, Members, no_members, member}
use Rattle.doc_values.specs.Value.{least_number, greatest_number}

-- An integer, where it is one of 64 bits with a sign.
abbrev pub in_64_bits : ℤ → Option ℤ
in_64_bits z = if int_le least_number z && int_le z greatest_number then Some z else None

-- What a JSON number is as a signed integer of 64 bits, where it is one.
abbrev pub int_of : Num → Option ℤ
int_of (unsigned n) = in_64_bits (pos n)
int_of (negative z) = in_64_bits z
int_of (float x) = None

-- Every number in the tree, in arrays too, is a signed integer of 64 bits.
abbrev mutual
  pub has_integers : Data → Bool
  has_integers null = true
  has_integers (boolean b) = true
  has_integers (number n) = is_some (int_of n)
  has_integers (string s) = true
  has_integers (array ds) = items_have_integers ds
  has_integers (object ms) = members_have_integers ms

  pub items_have_integers : Items → Bool
  items_have_integers no_items = true
  items_have_integers (item d ds) = has_integers d && items_have_integers ds

  pub members_have_integers : Members → Bool
  members_have_integers no_members = true
  members_have_integers (member key d ms) = has_integers d && members_have_integers ms

-- What a byte of a key may be: none of `.`, of `"` and of those below a space.
abbrev pub is_key_byte : ℕ → Bool
is_key_byte c = nat_le 32 c && not (c == 46) && not (c == 34)

-- What may be a key outside arrays: a text that is not empty, of such bytes.
abbrev pub is_key : List ℕ → Bool
is_key key = nat_lt 0 (length key) && list_all is_key_byte key

-- The dotted path of a member: its key behind the path of the object that it stands in, which is empty for the document itself.
abbrev pub dotted : List ℕ → List ℕ → List ℕ
dotted [] key = key
dotted (c ∷ outer) key = (c ∷ outer) ++ (46 ∷ key)

-- How many bytes a dotted path may have.
abbrev pub most_path_bytes : ℕ
most_path_bytes = 255

-- A member of the object at this path may have this key, and its dotted path is not too long.
abbrev pub is_member : List ℕ → List ℕ → Bool
is_member path key = is_key key && nat_le (length (dotted path key)) most_path_bytes

-- Every member that stands in no array has a key and a path that may be.
abbrev mutual
  pub has_paths : List ℕ → Data → Bool
  has_paths path null = true
  has_paths path (boolean b) = true
  has_paths path (number n) = true
  has_paths path (string s) = true
  has_paths path (array ds) = true
  has_paths path (object ms) = members_have_paths path ms

  pub members_have_paths : List ℕ → Members → Bool
  members_have_paths path no_members = true
  members_have_paths path (member key d ms) = is_member path key && has_paths (dotted path key) d && members_have_paths path ms
