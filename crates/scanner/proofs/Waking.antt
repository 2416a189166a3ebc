-- Ticks by which nothing happens.
use Rattle.std.proofs.Common.{◌≡◌, ◌≤◌, ◌<◌, ◌+◌, ℕ, false, Result, Ok, ap, arith}
use Rattle.std.specs.Prelude.{nat_lt}
use Rattle.std.proofs.lemmas.Bool.Decides.{nat_tests}
use Rattle.cip_events.specs.declared.event.StepFault.{StepFault}
use Rattle.cip_events.specs.declared.event.Verdict.TheVariants.{Done}
use Rattle.cip_events.specs.Answers.{plain_answer}
use Rattle.cip_events.specs.Clock.{longest_tick, clock_end}
use Rattle.cip_tables.specs.declared.table.DeviceTable.TheVariants.{Scanner}
use Rattle.cip_tables.specs.Step.{step, as_scanner}
use Rattle.cip_tables.specs.Wakes.{IsQuietFor}
use Rattle.scanner_table.specs.declared.table.ScannerTable.{ScannerTable}
use Rattle.scanner_table.specs.Effects.{Next}
use Rattle.scanner_table.specs.Ticks.{clocked_table, moved_on, ticked, tick}

abbrev Said : Type 0
Said = Result Next StepFault

-- a tick within its limits, by which nothing happens
pub tick_rests : (t : ScannerTable) (ms : ℕ) → ms ≤ longest_tick → t.clock.0 + ms ≤ clock_end → ◌≡◌ {A = Said} (Ok (ticked (moved_on (clocked_table t ms)))) (Ok (plain_answer Done, clocked_table t ms)) → tick t ms ≡ Ok (plain_answer Done, clocked_table t ms)
unfolding tick
tick_rests t ms short before rests =
    let within : nat_lt longest_tick ms ≡ false = grind (arith, nat_tests) in
    let reached : nat_lt clock_end (t.clock.0 + ms) ≡ false = grind (arith, nat_tests) in
    rw (within, reached) rests

-- a device whose scanner needs no tick needs none
pub device_rests : (t : ScannerTable) (wait : ℕ) → ((ms : ℕ) → ms < wait → ms ≤ longest_tick → t.clock.0 + ms ≤ clock_end → tick t ms ≡ Ok (plain_answer Done, clocked_table t ms)) → IsQuietFor (Scanner t) wait
unfolding step
device_rests t wait quiet ms early short before = ap as_scanner (quiet ms early short before)
