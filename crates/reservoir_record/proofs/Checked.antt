-- What a record's table says, for the calls that read it.
use Rattle.std.proofs.Common.{◌≡◌, ℕ, ◌+◌, ◌*◌, ◌<◌, ◌≤◌, List, length, Bool, true, false, sym, subst, arith}
use Rattle.reservoir_record.specs.declared.fields.Field.{Field}
use Rattle.reservoir_record.specs.Spelling.{Spells, IsRecord}
use Rattle.reservoir_record.specs.Words.{word_at, HasNumbers, HasOffsets, IsWholeTable}
use Rattle.reservoir_record.proofs.FourBytes.{AreBytes}
use Rattle.reservoir_record.proofs.Made.{made, table}

-- the table of a record
pub table_of : (bytes : List ℕ) → IsRecord bytes → IsWholeTable bytes (word_at bytes 0)
table_of bytes r =
    let t : IsWholeTable bytes (length r.0) = table r.0 bytes r.1 in
    subst (IsWholeTable bytes) (sym t.counted) t

pub too_short : (bytes : List ℕ) → length bytes < 8 → IsRecord bytes → ⊥
too_short bytes short r = let t : IsWholeTable bytes (word_at bytes 0) = table_of bytes r in omega (arith, t.room)

pub no_room : (bytes : List ℕ) → length bytes < 8 + 8 * word_at bytes 0 → IsRecord bytes → ⊥
no_room bytes short r = let t : IsWholeTable bytes (word_at bytes 0) = table_of bytes r in omega (arith, t.room)

pub passes : (bytes : List ℕ) → AreBytes bytes → 8 + 8 * word_at bytes 0 ≤ length bytes → HasNumbers bytes (word_at bytes 0) → HasOffsets bytes (word_at bytes 0) → IsRecord bytes
passes bytes small room numbered placed = made bytes (word_at bytes 0) small (record { room = room; counted = Rattle.std.proofs.Common.refl; numbered = numbered; placed = placed })

pub not_both : (b : Bool) → b ≡ false → b ≡ true → ⊥
not_both b f t = cc

pub count_is : (bytes : List ℕ) (fields : List Field) → Spells fields bytes → word_at bytes 0 ≡ length fields
count_is bytes fields s = let t : IsWholeTable bytes (length fields) = table fields bytes s in t.counted
