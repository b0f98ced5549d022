-- A source and a sink over memory that fail exactly at listed calls.
use Rattle.std.specs.Prelude.{ℕ, List, length, take, min, if◌then◌else◌}
use Rattle.sinew_io.specs.Supply.{Supply, supply_answer, supply_after}
use Rattle.sinew_io.specs.Kept.{Kept, kept_after}
use Rattle.sinew_io.specs.Schedule.{Schedule, is_failing, schedule_after}
use Rattle.sinew_io.specs.declared.got.Got as got
use Rattle.sinew_io.specs.declared.put.Put as put

-- What the source has, and when it fails.
pub record MemSupply : Type 0 where
  pub supply : Supply
  pub schedule : Schedule

-- What a read into a buffer of this size answers.
abbrev pub mem_got : MemSupply → ℕ → got.Got
mem_got source size = if is_failing source.schedule then got.TheVariants.Failed else supply_answer source.supply size

-- The source after the read.
abbrev pub mem_read : MemSupply → ℕ → MemSupply
mem_read source size = record { supply = if is_failing source.schedule then source.supply else supply_after source.supply size; schedule = schedule_after source.schedule }

-- What the sink keeps, how many bytes it takes in one call at most, and when it fails.
pub record MemKept : Type 0 where
  pub kept : Kept
  pub piece : ℕ
  pub schedule : Schedule

-- What a write of a text answers.
abbrev pub mem_put : MemKept → List ℕ → put.Put
mem_put sink text = if is_failing sink.schedule then put.TheVariants.Failed else put.TheVariants.Bytes (min sink.piece (length text))

-- The sink after the write.
abbrev pub mem_written : MemKept → List ℕ → MemKept
mem_written sink text = record sink { kept = if is_failing sink.schedule then sink.kept else kept_after sink.kept (take sink.piece text); schedule = schedule_after sink.schedule }
