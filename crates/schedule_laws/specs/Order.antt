-- Order over every schedule: one end of a connection accepts what was produced in the order in which it was produced, if the
-- schedule keeps the half-circle condition (Volume 1, chapter 3, class 1 transport; Volume 2, chapter 2, sequenced address
-- item).
use Rattle.std.specs.Prelude.{ℕ, ◌≡◌, ◌+◌, ◌<◌, ◌^◌, Bool, true, false, List, [], ◌∷◌, replicate, slice_get, unwrap_or, Option, Some, None, Result, Ok, Err}
use Rattle.std.specs.List.{AllByRecursion}
use Rattle.cip_events.specs.declared.event.Event.TheVariants.{Datagram}
use Rattle.cip_events.specs.declared.event.StepFault.{StepFault}
use Rattle.adapter_table.specs.declared.table.AdapterTable.{AdapterTable}
use Rattle.scanner_table.specs.declared.table.ScannerTable.{ScannerTable}
use Rattle.scanner_table.specs.Slots.{IndexedSlot, slot_at}
use Rattle.device_laws.specs.ScannerDeliveries.{reports_accepted}
use Rattle.device_laws.specs.Scratch.{last_output}
use Rattle.cip_tables.specs.declared.table.Config.{Config}
use Rattle.cip_tables.specs.declared.table.DeviceTable.{DeviceTable}
use Rattle.cip_tables.specs.declared.table.DeviceTable.TheVariants.{Adapter, Scanner}
use Rattle.cip_tables.specs.Step.{DeviceNext, step}
use Rattle.segment_world.specs.Transit.Log.{Sent}
use Rattle.segment_world.specs.declared.act.Act.{Act}
use Rattle.segment_world.specs.declared.act.Act.TheVariants.{Local, Deliver, NextFrame, OpenStream, CutStream}
use Rattle.segment_world.specs.declared.act.ActFault.{ActFault}
use Rattle.segment_world.specs.Story.{events_of}
use Rattle.segment_world.specs.Configs.{opening_world}
use Rattle.schedule_laws.specs.Lives.{AreApart, AreLives, GiveNoIds, HaveOwnIncarnations}
use Rattle.device_laws.specs.Productions.{end_at, Production}
use Rattle.schedule_laws.specs.Chronicle.{Acceptance, Chronicle, names, newest, then_act, chronicles, blank}

-- THE HALF-CIRCLE CONDITION

-- two numbers differ by less than a bound
pub record AreWithin (bound a b : ℕ) : Type 0 where
  pub first : a < b + bound
  pub second : b < a + bound

-- A datagram and the one that was accepted before it: their production indexes differ by less than half of the circle of
-- sequence numbers; and where it is accepted, their new-data indexes by less than half of the circle of counts.
pub record AreNear (is_accepted : Bool) (p last : Production) : Type 0 where
  pub index : AreWithin (2 ^ 31) p.index last.index
  pub new_data : is_accepted ≡ true → AreWithin (2 ^ 15) p.new_data last.new_data

-- where none was accepted, there is no condition
abbrev pub IsNear : Bool → Production → Option Acceptance → Type 0
IsNear is_accepted p None = Unit {0}
IsNear is_accepted p (Some last) = AreNear is_accepted p last.production

abbrev pub step_accepts : Result DeviceNext StepFault → Bool
step_accepts (Err fault) = false
step_accepts (Ok next) = reports_accepted next.0.verdict

-- a datagram that names no established connection is free
abbrev pub IsNearNamed : Chronicle → ℕ → Production → Bool → Option ℕ → Type 0
IsNearNamed c device p is_accepted None = Unit {0}
IsNearNamed c device p is_accepted (Some number) = IsNear is_accepted p (newest (end_at device number) c.accepted)

abbrev pub IsNearSent : Chronicle → ℕ → Option DeviceTable → Option Sent → Option Production → Type 0
IsNearSent c device (Some t) (Some sent) (Some p) = IsNearNamed c device p (step_accepts (step t (Datagram sent.from sent.bytes))) (names t sent)
IsNearSent c device t sent p = Unit {0}

-- an act keeps the condition: of the acts, deliveries have one
abbrev pub IsNearAct : Chronicle → Act → Type 0
IsNearAct c (Local device call) = Unit {0}
IsNearAct c (Deliver index device) = IsNearSent c device (slice_get c.story.world.tables device) (slice_get c.story.world.sent index) (slice_get c.produced index)
IsNearAct c (NextFrame stream direction) = Unit {0}
IsNearAct c (OpenStream from to) = Unit {0}
IsNearAct c (CutStream stream) = Unit {0}

abbrev pub IsNearIn : Result Chronicle ActFault → Act → Type 0
IsNearIn (Err fault) act = Unit {0}
IsNearIn (Ok c) act = IsNearAct c act

-- the schedule keeps the condition
unfoldable pub HalfCircle : Result Chronicle ActFault → List Act → Type 0
HalfCircle c [] = Unit {0}
HalfCircle c (act ∷ acts) = IsNearIn c act × HalfCircle (then_act c act) acts

-- SCHEDULES

-- A schedule of a world that begins from configurations of lives, and its chronicle; no two devices have blocks with one id.
pub record IsChronicle (configs : List Config) (acts : List Act) (c : Chronicle) : Type 0 where
  pub lives : AreLives configs
  pub ran : chronicles (Ok (blank (opening_world configs))) acts ≡ Ok c
  pub apart : AreApart c.story.world.tables

-- Where each device begins with the ids of its own incarnation, and no act gives a further block, nothing is asked of the tables: each
-- schedule of such lives has its chronicle.
abbrev pub SchedulesWithoutIdsHaveChronicles : Type 0
SchedulesWithoutIdsHaveChronicles =
    (configs : List Config) (acts : List Act) (c : Chronicle) → AreLives configs → HaveOwnIncarnations configs → GiveNoIds acts →
    chronicles (Ok (blank (opening_world configs))) acts ≡ Ok c → IsChronicle configs acts c

abbrev pub KeepsHalfCircle : List Config → List Act → Type 0
KeepsHalfCircle configs acts = HalfCircle (Ok (blank (opening_world configs))) acts

-- WHAT HOLDS

-- of the datagrams that one end accepted, the later one was produced later; the latest stands first
abbrev pub Rise : List Acceptance → Type 0
Rise [] = Unit {0}
Rise (a ∷ rest) = AllByRecursion (λ (b : Acceptance). b.consumer ≡ a.consumer → b.production.index < a.production.index) rest × Rise rest

-- Of each end of a connection accepted indexes strictly rise.
abbrev pub AcceptedIndexesRise : Type 0
AcceptedIndexesRise = (configs : List Config) (acts : List Act) (c : Chronicle) → IsChronicle configs acts c → KeepsHalfCircle configs acts → Rise c.accepted

-- THE DEVICES OF A PLACE

abbrev pub IsAdapterAt : Chronicle → ℕ → AdapterTable → Type 0
IsAdapterAt c device t = slice_get c.story.world.tables device ≡ Some (Adapter t)

abbrev pub IsScannerAt : Chronicle → ℕ → ScannerTable → Type 0
IsScannerAt c device t = slice_get c.story.world.tables device ≡ Some (Scanner t)

-- WHAT A SLOT PRODUCES

-- What a slot's output holds is what the application last wrote there, or zeros before the first write: so it is at each
-- moment, and so at each production.
abbrev pub OutputsAreWritten : Chronicle → List Config → Type 0
OutputsAreWritten c configs =
    (device : ℕ) (first now : ScannerTable) (place : IndexedSlot) → slice_get (opening_world configs).tables device ≡ Some (Scanner first) →
    IsScannerAt c device now → slot_at now place.number ≡ Some place →
    place.slot.output ≡ unwrap_or (last_output place.number first (events_of device c.story.reported)) (replicate place.config.out_len 0)

abbrev pub ProducedAsWritten : Type 0
ProducedAsWritten = (configs : List Config) (acts : List Act) (c : Chronicle) → IsChronicle configs acts c → OutputsAreWritten c configs
