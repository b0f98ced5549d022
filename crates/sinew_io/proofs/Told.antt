-- Giving and taking bytes piece by piece.
use Rattle.std.proofs.Common.{◌≡◌, ℕ, ◌+◌, ◌-◌, List, [], ◌++◌, length, take, drop, Option, Some, None, refl, append_assoc, append-nil, arith}
use Rattle.std.proofs.lemmas.Grind.{common_steps}
use Rattle.std.proofs.lemmas.List.{take_at, drop-drop, take-append-drop}
use Rattle.sinew_io.specs.Told.{Gave, Took}

pub Gave-nothing : (left : Option (List ℕ)) → Gave left left []
Gave-nothing None = tt
Gave-nothing (Some left) = refl

pub Gave-join : (before between after : Option (List ℕ)) (xs ys : List ℕ) → Gave before between xs → Gave between after ys → Gave before after (xs ++ ys)
Gave-join None between after xs ys first second = tt
Gave-join (Some before) None after xs ys first second = absurd first
Gave-join (Some before) (Some between) None xs ys first second = absurd second
Gave-join (Some before) (Some between) (Some after) xs ys first second = rw (first, second) (rw append_assoc refl)

pub Took-nothing : (taken : Option (List ℕ)) → Took taken taken []
Took-nothing None = tt
Took-nothing (Some taken) = rw append-nil refl

pub Took-join : (before between after : Option (List ℕ)) (xs ys : List ℕ) → Took before between xs → Took between after ys → Took before after (xs ++ ys)
Took-join before between None xs ys first second = tt
Took-join before None (Some after) xs ys first second = absurd second
Took-join None (Some between) (Some after) xs ys first second = absurd first
Took-join (Some before) (Some between) (Some after) xs ys first second = rw (second, first) (rw append_assoc refl)

-- What stands at the front of the buffer is what the list had next.
pub gave-copied : (bytes buffer copied : List ℕ) (given count : ℕ) → copied ≡ take count (take (length bytes - given) (drop given bytes)) → length copied ≡ count → drop given bytes ≡ take count (copied ++ drop count buffer) ++ drop (given + count) bytes
gave-copied bytes buffer copied given count e l =
    let rest : take (length bytes - given) (drop given bytes) ≡ drop given bytes = grind (arith, common_steps) in
    rw (take_at copied (drop count buffer) count l, e, rest, ← drop-drop count given bytes, take-append-drop) refl
