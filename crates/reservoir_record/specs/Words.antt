-- The table of a record, read in place.
use Rattle.std.specs.Prelude.{◌≡◌, ℕ, ◌+◌, ◌*◌, ◌-◌, ◌<◌, ◌≤◌, List, length, take, drop}
use Rattle.byteorder.specs.Endian.{little_number}

-- The number in the four bytes from a place on, the lowest first.
unfoldable pub word_at : List ℕ → ℕ → ℕ
word_at bytes at = little_number 4 (drop at bytes)

-- The number of the field at a place.
abbrev pub number_at : List ℕ → ℕ → ℕ
number_at bytes k = word_at bytes (4 + 4 * k)

-- The offset at a place, where there are that many fields.
abbrev pub offset_at : List ℕ → ℕ → ℕ → ℕ
offset_at bytes count k = word_at bytes (4 + 4 * count + 4 * k)

-- The bytes between the offset at a place and the next.
abbrev pub value_at : List ℕ → ℕ → ℕ → List ℕ
value_at bytes count k = take (offset_at bytes count (k + 1) - offset_at bytes count k) (drop (8 + 8 * count + offset_at bytes count k) bytes)

-- The numbers in the table ascend strictly and are below 65,536.
pub record HasNumbers (bytes : List ℕ) (count : ℕ) : Type 0 where
  pub small : (k : ℕ) → k < count → number_at bytes k < 65536
  pub ascend : (k : ℕ) → k + 1 < count → number_at bytes k < number_at bytes (k + 1)

-- The offsets in the table begin with 0, never fall, and end with the length of the values.
pub record HasOffsets (bytes : List ℕ) (count : ℕ) : Type 0 where
  pub first : offset_at bytes count 0 ≡ 0
  pub rise : (k : ℕ) → k < count → offset_at bytes count k ≤ offset_at bytes count (k + 1)
  pub last : 8 + 8 * count + offset_at bytes count count ≡ length bytes
  pub fit : offset_at bytes count count ≤ 16777216

-- The bytes are a table with its values.
pub record IsWholeTable (bytes : List ℕ) (count : ℕ) : Type 0 where
  pub room : 8 + 8 * count ≤ length bytes
  pub counted : word_at bytes 0 ≡ count
  pub numbered : HasNumbers bytes count
  pub placed : HasOffsets bytes count
