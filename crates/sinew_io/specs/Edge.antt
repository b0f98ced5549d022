-- A device outside: what its reader or writer knows of its bytes, and the count of its faults.
use Rattle.std.specs.Prelude.{◌≡◌, ℕ, List, [], take, Option}
use Rattle.std.specs.Io.KnownBytes.{Consumes, Appends, Keeps, IsAtEnd}
use Rattle.sinew_io.specs.Count.{raised}
use Rattle.sinew_io.specs.declared.got.Got as got
use Rattle.sinew_io.specs.declared.put.Put as put

-- The bytes that a reader has left or a writer holds, where it knows them, and how many calls failed.
pub record Edge : Type 0 where
  pub known : Option (List ℕ)
  pub faults : ℕ

-- A read: known bytes are given in order, the end comes where none is left, and exactly a failure raises the count.
abbrev pub EdgeReads : got.Got → Edge → Edge → List ℕ → Type 0
EdgeReads (got.TheVariants.Bytes n) before after buffer = Consumes before.known after.known (take n buffer) × (after.faults ≡ before.faults)
EdgeReads got.TheVariants.End before after buffer = Consumes before.known after.known [] × IsAtEnd after.known × (after.faults ≡ before.faults)
EdgeReads got.TheVariants.Failed before after buffer = Keeps before.known after.known × (after.faults ≡ raised before.faults)

-- A write: the bytes taken join the known ones, and exactly a failure raises the count.
abbrev pub EdgeWrites : put.Put → Edge → Edge → List ℕ → Type 0
EdgeWrites (put.TheVariants.Bytes n) before after piece = Appends before.known after.known (take n piece) × (after.faults ≡ before.faults)
EdgeWrites put.TheVariants.Failed before after piece = Keeps before.known after.known × (after.faults ≡ raised before.faults)
