-- For how long no connection of a device times out, by what it reports of them (Volume 1, chapter 3, inactivity watchdog).
use Rattle.std.specs.Prelude.{ℕ, true, false, if◌then◌else◌}
use Rattle.adapter_table.specs.declared.report.ConnectionReport.{ConnectionReport}
use Rattle.cip_events.specs.Clock.{longest_tick}
use Rattle.cip_productions.specs.declared.age.Age.{Age}
use Rattle.cip_productions.specs.declared.age.Age.TheVariants.{SinceOpening, SinceAccepted}
use Rattle.scanner_table.specs.declared.report.SlotReport.{SlotReport}
use Rattle.scanner_table.specs.declared.report.SlotReport.TheVariants.{Established}
use Rattle.udp_runner.specs.Times.Timeouts.{before_timeout}

-- a connection of this packet interval and age
abbrev pub age_rest : ℕ → Age → ℕ
age_rest api (SinceOpening ms) = before_timeout api ms.0 true
age_rest api (SinceAccepted ms) = before_timeout api ms.0 false

-- a connection of an adapter: a timed-out one does not time out again
abbrev pub connection_rest : ConnectionReport → ℕ
connection_rest report = if report.established then age_rest report.o_t_api_ms report.age else longest_tick

-- the connection of a slot
abbrev pub slot_rest : SlotReport → ℕ
slot_rest (Established target) = age_rest target.t_o_api_ms target.age
slot_rest report = longest_tick
