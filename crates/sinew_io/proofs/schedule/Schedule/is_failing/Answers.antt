use Rattle.std.proofs.Common.{◌<◌, ◌≤◌, ◌+◌, ◌^◌, ℕ, get_or, rules, arith, sym}
use Rattle.sinew_io.proofs.Listed.{list_any-beyond}
use Rattle.sinew_io.proofs.schedule.Schedule.is_failing.Goals as goal

pub returns-in-None : goal.returns-in-None
returns-in-None c =
    let beyond : 2 ^ 64 ≤ c.self.inside.calls + 1 = omega arith in
    let within : (i : ℕ) → get_or c.items-failing.result.now i 0 < 2 ^ 64 = search rules in
    record { exact = rw (← c.self.view_is) (sym (rw c.items-failing.ensures.exact at (list_any-beyond _ _ beyond within))) }
