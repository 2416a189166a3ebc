-- The invariant of a scanner's table: it holds of a fresh table whose profile has no fault, and every step keeps it. Slots
-- match their configurations, requests and streams are distinct, and numbers are within their limits.
use Rattle.std.specs.Prelude.{◌≡◌, ℕ, ◌&&◌, ◌+◌, ◌<◌, ◌≤◌, ◌^◌, Bool, true, false, List, [], ◌∷◌, length, None}
use Rattle.std.specs.List.{list_any, AllByRecursion}
use Rattle.cip_types.specs.Ids.{are_blocks, end_number}
use Rattle.cip_netparams.specs.Rate.{timeout}
use Rattle.scanner_table.specs.declared.profile.SlotConfig.{SlotConfig}
use Rattle.scanner_table.specs.declared.slot.SlotConnection.{SlotConnection}
use Rattle.scanner_table.specs.declared.slot.Slot.{Slot}
use Rattle.scanner_table.specs.declared.slot.SlotState.{SlotState}
use Rattle.scanner_table.specs.declared.slot.SlotState.TheVariants.{Idle, Opening, Established, TimedOut, Closing}
use Rattle.scanner_table.specs.declared.table.ScannerTable.{ScannerTable}
use Rattle.scanner_table.specs.declared.table.TargetStream.{TargetStream}
use Rattle.scanner_table.specs.Profiles.{profile_fault}
use Rattle.scanner_table.specs.Slots.{IndexedSlot, indexed_slots, is_with}
use Rattle.scanner_table.specs.Replies.{state_consumes}
use Rattle.scanner_table.specs.Encapsulation.{waits_for}
use Rattle.scanner_table.specs.Sessions.{is_stream, is_to}

-- SLOTS

-- the number of the opening was given out before, the packet intervals are at most 10,000 ms, and the producer is due within
-- 10,000 ms
pub record FitsConnection (next_request clock : ℕ) (c : SlotConnection) : Type 0 where
  pub opening : c.opening < next_request
  pub o_t_api_ms : c.o_t_api_ms ≤ 10000
  pub t_o_api_ms : c.t_o_api_ms ≤ 10000
  pub due : c.production.due.0 ≤ clock + 10000

-- Only a slot whose connection is desired opens or is established. The number of a pending request was given out before.
abbrev pub FitsState : ℕ → ℕ → Bool → SlotState → Type 0
FitsState next_request clock desired_up Idle = Unit {0}
FitsState next_request clock desired_up (Opening o) = (desired_up ≡ true) × (o.request < next_request)
FitsState next_request clock desired_up (Established c) = (desired_up ≡ true) × FitsConnection next_request clock c
FitsState next_request clock desired_up (TimedOut link) = Unit {0}
FitsState next_request clock desired_up (Closing c) = c.request < next_request

-- a connection that timed out is desired, and one that closes is not
abbrev pub StateIsDesired : Bool → SlotState → Type 0
StateIsDesired desired_up Idle = Unit {0}
StateIsDesired desired_up (Opening o) = Unit {0}
StateIsDesired desired_up (Established c) = Unit {0}
StateIsDesired desired_up (TimedOut link) = desired_up ≡ true
StateIsDesired desired_up (Closing c) = desired_up ≡ false

abbrev pub IsDesired : Slot → Type 0
IsDesired slot = StateIsDesired slot.desired_up slot.state

-- the watchdog of an open connection is the time-out of this multiplier and of its T->O packet interval
abbrev pub IsWatched : ℕ → SlotState → Type 0
IsWatched mult Idle = Unit {0}
IsWatched mult (Opening o) = Unit {0}
IsWatched mult (Established c) = c.watchdog ≡ record { 0 = timeout mult c.t_o_api_ms }
IsWatched mult (TimedOut link) = Unit {0}
IsWatched mult (Closing c) = Unit {0}

-- output and image have the lengths that the configuration says, the state fits, and the watchdog is that of the
-- configuration
pub record FitsSlot (next_request clock : ℕ) (config : SlotConfig) (slot : Slot) : Type 0 where
  pub output : length slot.output ≡ config.out_len
  pub image : length slot.image ≡ config.in_len
  pub state : FitsState next_request clock slot.desired_up slot.state
  pub watchdog : IsWatched config.mult slot.state

-- there are as many slots as configurations, and each fits its own
abbrev pub SlotsFit : ℕ → ℕ → List SlotConfig → List Slot → Type 0
SlotsFit next_request clock [] [] = Unit {0}
SlotsFit next_request clock [] (slot ∷ slots) = ⊥
SlotsFit next_request clock (config ∷ configs) [] = ⊥
SlotsFit next_request clock (config ∷ configs) (slot ∷ slots) = FitsSlot next_request clock config slot × SlotsFit next_request clock configs slots

-- CONNECTION IDS

-- both are established, with one T->O id
abbrev pub states_clash : SlotState → SlotState → Bool
states_clash Idle other = false
states_clash (Opening o) other = false
states_clash (Established c) other = state_consumes c.link.t_o_id other
states_clash (TimedOut link) other = false
states_clash (Closing c) other = false

-- both slots are established with one target and one T->O id
abbrev pub clashes : IndexedSlot → IndexedSlot → Bool
clashes indexed other = is_with indexed.config.target other && states_clash indexed.slot.state other.slot.state

-- no two established slots of one target have one T->O id
abbrev pub IdsDiffer : List IndexedSlot → Type 0
IdsDiffer [] = Unit {0}
IdsDiffer (indexed ∷ rest) = (list_any (clashes indexed) rest ≡ false) × IdsDiffer rest

-- REQUESTS

-- both wait for the reply to one request
abbrev pub states_share : SlotState → SlotState → Bool
states_share Idle other = false
states_share (Opening o) other = waits_for o.request other
states_share (Established c) other = false
states_share (TimedOut link) other = false
states_share (Closing c) other = waits_for c.request other

abbrev pub shares_request : Slot → Slot → Bool
shares_request slot other = states_share slot.state other.state

-- no two slots wait for the reply to one request
abbrev pub RequestsDiffer : List Slot → Type 0
RequestsDiffer [] = Unit {0}
RequestsDiffer (slot ∷ slots) = (list_any (shares_request slot) slots ≡ false) × RequestsDiffer slots

-- STREAMS

-- no two streams have one number, or one target
abbrev pub StreamsDiffer : List TargetStream → Type 0
StreamsDiffer [] = Unit {0}
StreamsDiffer (stream ∷ streams) = (list_any (is_stream stream.number) streams ≡ false) × (list_any (is_to stream.peer) streams ≡ false) × StreamsDiffer streams

-- THE TABLE

pub record IsWellFormed (t : ScannerTable) : Type 0 where
  pub faultless : profile_fault t.profile ≡ None
  pub slots : SlotsFit t.next_request t.clock.0 t.profile.slots t.slots
  -- With `tidy` a connection that is no longer desired may be timed out, and one that is desired may close first.
  pub desires : t.profile.tidy ≡ false → AllByRecursion IsDesired t.slots
  pub ids_differ : IdsDiffer (indexed_slots t)
  pub requests_differ : RequestsDiffer t.slots
  pub clock : t.clock.0 ≤ 2 ^ 48
  pub blocks : are_blocks t.ids ≡ true
  pub ids_begin : 1 ≤ t.next_id
  pub ids : t.next_id ≤ end_number t.ids
  pub serial_begins : 1 ≤ t.next_serial
  pub serial_ends : t.next_serial ≤ 65535
  pub requests : t.next_request ≤ 2 ^ 48 + 1
  pub few_streams : length t.streams ≤ 16
  pub streams_differ : StreamsDiffer t.streams
