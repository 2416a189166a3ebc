-- A tick at which something is due does something.
use Rattle.std.specs.Prelude.{ℕ, ◌≢◌, ◌≤◌, ◌+◌, Ok}
use Rattle.cip_events.specs.declared.event.Event.TheVariants.{Tick}
use Rattle.cip_events.specs.declared.event.Verdict.TheVariants.{Done}
use Rattle.cip_events.specs.Answers.{plain_answer}
use Rattle.cip_events.specs.Clock.{longest_tick, clock_end}
use Rattle.cip_tables.specs.declared.table.DeviceTable.{DeviceTable}
use Rattle.cip_tables.specs.Step.{step}
use Rattle.cip_tables.specs.Wakes.{clock_of, clocked, due_at}

-- a tick up to the time at which something is due, or beyond it, answers something or changes more than the clock
abbrev pub DueTicksAct : Type 0
DueTicksAct = (t : DeviceTable) (ms : ℕ) → ms ≤ longest_tick → clock_of t + ms ≤ clock_end → due_at t ≤ clock_of t + ms → step t (Tick ms) ≢ Ok (plain_answer Done, clocked t ms)
