-- A whole reading and a whole writing under way.
use Rattle.std.proofs.Common.{◌≡◌, ℕ, ◌+◌, ◌-◌, ◌<◌, ◌≤◌, List, [], ◌∷◌, ◌++◌, length, take, drop, get_or, Option, Ok, arith, subst}
use Rattle.std.proofs.lemmas.Grind.{common_steps}
use Rattle.std.proofs.lemmas.List.{take_more}
use Rattle.std.proofs.Math.Seq.{take-add}
use Rattle.sinew_io.specs.Told.{Gave, Took}
use Rattle.sinew_io.specs.Piece.{ReadsPiece}
use Rattle.sinew_io.specs.Whole.{GaveAtMost}
use Rattle.sinew_io.specs.declared.piece.Piece as piece
use Rattle.sinew_io.proofs.Told.{Gave-join, Took-join}

-- The bytes held are within the limit, they are what the source gave, its count has not fallen, and each turn took a byte.
pub record IsReading {D : Type 0} (left : D → Option (List ℕ)) (faults : D → ℕ) (first now : D) (limit : ℕ) (bytes : List ℕ) (start turns : ℕ) : Type 0 where
  pub within : length bytes ≤ limit
  pub moved : turns ≤ start + length bytes
  pub given : Gave (left first) (left now) bytes
  pub later : faults first ≤ faults now

-- The bytes counted are within the text, they are what the sink took, its count has not fallen, and with none it is as it was.
pub record IsWriting {D : Type 0} (taken : D → Option (List ℕ)) (faults : D → ℕ) (first now : D) (bytes : List ℕ) (count : ℕ) : Type 0 where
  pub within : count ≤ length bytes
  pub took : Took (taken first) (taken now) (take count bytes)
  pub later : faults first ≤ faults now
  pub unmoved : count ≡ 0 → now ≡ first

-- Of a piece that passes the limit by one byte all but that byte is held.
pub ReadsPiece-beyond : (before after : Option (List ℕ)) (held now buffer : List ℕ) (limit room count : ℕ) → room ≡ limit - length held → length held + length buffer ≤ limit + 1 → count ≤ length buffer → room < count → now ≡ held ++ take room buffer → Gave before after (take count buffer) → ReadsPiece (Ok piece.TheVariants.Beyond) limit before after held now
ReadsPiece-beyond before after held now buffer limit room count r fits within more e given =
    let is_next : count ≡ room + 1 = omega arith in
    let in_buffer : room < length buffer = omega arith in
    let bytes : Gave before after (take room buffer ++ get_or buffer room 0 ∷ []) =
    rw (← take_more buffer room 0 in_buffer) (subst (λ (n : ℕ). Gave before after (take n buffer)) is_next given) in
    (take room buffer, get_or buffer room 0, rw e (grind (arith, common_steps)), e, bytes)

-- Bytes given behind those held count together.
pub GaveAtMost-join : (start before after : Option (List ℕ)) (held bytes : List ℕ) (most : ℕ) → Gave start before held → length held + length bytes ≤ most → Gave before after bytes → GaveAtMost most start after
GaveAtMost-join start before after held bytes most given fits more =
    (held ++ bytes, grind (arith, common_steps), Gave-join start before after held bytes given more)

-- A piece that passes the limit takes one byte beyond it.
pub GaveAtMost-beyond : (start before after : Option (List ℕ)) (held now : List ℕ) (limit : ℕ) → Gave start before held → ReadsPiece (Ok piece.TheVariants.Beyond) limit before after held now → GaveAtMost (limit + 1) start after
GaveAtMost-beyond start before after held now limit given piece =
    let fits : length held + length (piece.0 ++ piece.1 ∷ []) ≤ limit + 1 = grind (arith, common_steps, piece.2, piece.3) in
    GaveAtMost-join start before after held (piece.0 ++ piece.1 ∷ []) (limit + 1) given fits piece.4

-- The first bytes of a text taken, and then the first ones of its rest.
pub Took-more : (start before after : Option (List ℕ)) (bytes : List ℕ) (count more : ℕ) → Took start before (take count bytes) → Took before after (take more (take (length bytes - count) (drop count bytes))) → Took start after (take (count + more) bytes)
Took-more start before after bytes count more first second =
    let rest : take (length bytes - count) (drop count bytes) ≡ drop count bytes = grind (arith, common_steps) in
    rw (take-add count more bytes) (Took-join start before after (take count bytes) (take more (drop count bytes)) first (rw rest at second))
