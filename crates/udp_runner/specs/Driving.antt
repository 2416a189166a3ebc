-- What a turn, or a part of it, did to a port, a device and an observer: all that the contracts of this crate say.
use Rattle.std.specs.Prelude.{◌≡◌, ℕ, ◌≤◌, Bool, true, List, drop, Result, Ok, Err, IfOk, IfErr, OnOk, OnErr}
use Rattle.cip_events.specs.declared.event.Event.{Event}
use Rattle.cip_events.specs.Outcomes.{Follows, Outcome}
use Rattle.cip_tables.specs.declared.table.DeviceTable.{DeviceTable}
use Rattle.cip_tables.specs.Step.{step}
use Rattle.udp_runner.specs.declared.fault.RunFault.{RunFault}
use Rattle.udp_runner.specs.declared.fault.RunFault.TheVariants as run
use Rattle.udp_runner.specs.Handing.{HandsOut, HandsSome}
use Rattle.udp_runner.specs.Tape.{Tape}
use Rattle.udp_runner.specs.Turns.{Blames, Drives, Stops}

-- a port, a device and an observer, as contracts see them
pub record Seen (O : Type 0) : Type 0 where
  pub tape : Tape
  pub failed : ℕ
  pub table : DeviceTable
  pub observer : O

abbrev pub seen : {P D O : Type 0} → (P → Tape) → (P → ℕ) → (D → DeviceTable) → P → D → O → Seen O
seen tape failed table port device observer = record { tape = tape port; failed = failed port; table = table device; observer = observer }

-- A device was driven by these events. If a scripted port and a scripted clock gave them, the device took them, and the
-- port sent all outputs of their answers, received so many times, and counted no failure; or a fault stopped the run, as
-- `Stops` says, and the port counted a failure exactly if it is blamed. The observer was handed each event and its
-- outcome, in order. The result is the number of events, which is at most so large, or the fault.
pub record Drove {O : Type 0} (notes : O → Event → Outcome → O → Type 0) (scripted timed : Bool) (events : List Event) (receives most : ℕ) (old new : Seen O) (result : Result ℕ RunFault) : Type 0 where
  pub run : IfOk result (λ count. scripted ≡ true → timed ≡ true → Drives events count old.tape new.tape old.table new.table)
  pub received : OnOk result (scripted ≡ true → new.tape.coming ≡ drop receives old.tape.coming)
  pub few : IfOk result (λ count. count ≤ most)
  pub stopped : IfErr result (λ fault. scripted ≡ true → timed ≡ true → Stops fault events old.tape new.tape old.table new.table)
  pub worked : OnOk result (new.failed ≡ old.failed)
  pub blamed : IfErr result (Blames old.failed new.failed)
  pub handed : IfOk result (λ count. HandsOut notes (λ given. scripted ≡ true → timed ≡ true → given ≡ events) count old.observer new.observer old.table new.table)
  pub handed_some : OnErr result (HandsSome notes old.observer new.observer old.table new.table)

-- the result of one event, as a number of events
abbrev pub once : Result Unit RunFault → Result ℕ RunFault
once (Ok done) = Ok 1
once (Err fault) = Err fault

-- The device was stepped by this event, and the observer was handed it with its outcome.
pub record Stepped {O : Type 0} (notes : O → Event → Outcome → O → Type 0) (event : Event) (old new : O) (before after : DeviceTable) : Type 0 where
  pub outcome : Outcome
  pub follows : Follows (step before event) before outcome after
  pub noted : notes old event outcome new

-- an event that the device refuses sends and receives nothing
abbrev pub IsQuiet : (scripted : Bool) → (old new : Tape) → Result Unit RunFault → Type 0
IsQuiet scripted old new (Err (run.Step fault)) = scripted ≡ true → new ≡ old
IsQuiet scripted old new other = Unit
