-- A sink over memory keeps what it has room for.
use Rattle.std.proofs.Common.{◌≡◌, ℕ, ◌+◌, ◌-◌, ◌≤◌, List, ◌++◌, length, take, min, nat_lt, refl, arith}
use Rattle.std.proofs.lemmas.Bool.Decides.{nat_tests}
use Rattle.std.proofs.lemmas.List.{take_min}
use Rattle.std.proofs.Math.Seq.{take-append-add}

pub take-append_room : (bytes piece : List ℕ) (room : ℕ) → length bytes ≤ room → bytes ++ take (min (room - length bytes) (length piece)) piece ≡ take room (bytes ++ piece)
take-append_room bytes piece room fits =
    let e : length bytes + (room - length bytes) ≡ room = omega arith in
    rw (take_min (room - length bytes) piece, ← take-append-add bytes piece (room - length bytes), e) refl

pub lt-room : (held more room : ℕ) → held ≤ room → nat_lt (min (room - held) more) more ≡ nat_lt room (held + more)
lt-room held more room fits = grind (arith, nat_tests)
