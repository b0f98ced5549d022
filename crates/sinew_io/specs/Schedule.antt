-- At which calls a device over memory fails.
use Rattle.std.specs.Prelude.{ℕ, ◌+◌, List, Bool, ◌==◌, if◌then◌else◌}
use Rattle.std.specs.List.{list_any}
use Rattle.sinew_io.specs.Count.{raised}

-- The numbers of the calls that fail, how many calls were made, and how many of them failed.
pub record Schedule : Type 0 where
  pub failing : List ℕ
  pub calls : ℕ
  pub faults : ℕ

-- The next call fails: its number, from 1, is in the list.
abbrev pub is_failing : Schedule → Bool
is_failing schedule = list_any (λ number. number == schedule.calls + 1) schedule.failing

-- The schedule after the next call.
abbrev pub schedule_after : Schedule → Schedule
schedule_after schedule = record schedule { calls = raised schedule.calls; faults = if is_failing schedule then raised schedule.faults else schedule.faults }
