-- A tidy scanner leaves no connection behind: a slot has each connection that it requests until the scanner sends a Forward_Close
-- of it, or the target refuses it (Volume 1, chapter 3, Forward_Open and Forward_Close services, connection timeouts).
use Rattle.std.specs.Prelude.{ℕ, ◌≡◌, ◌⊎◌, ◌<◌, ◌^◌, Bool, true, false, List, [], ◌∷◌, Option, Some, None, Result, Ok, Err}
use Rattle.std.specs.List.{AllByRecursion, Contains}
use Rattle.cip_types.specs.declared.names.Triad.{Triad}
use Rattle.cip_events.specs.declared.event.Event.{Event}
use Rattle.cip_events.specs.declared.event.Frame.{Frame}
use Rattle.cip_events.specs.declared.event.Notice.TheVariants as notice
use Rattle.cip_events.specs.declared.event.Reason.{Reason}
use Rattle.cip_events.specs.declared.event.Reason.TheVariants as reason
use Rattle.cip_events.specs.declared.event.Recipient.TheVariants as recipient
use Rattle.cip_events.specs.declared.event.StepFault.{StepFault}
use Rattle.scanner_table.specs.declared.slot.PendingOpen as pending
use Rattle.scanner_table.specs.declared.slot.SlotState.{SlotState}
use Rattle.scanner_table.specs.declared.slot.SlotState.TheVariants.{Idle, Opening, Established, TimedOut, Closing}
use Rattle.scanner_table.specs.declared.table.ScannerTable.{ScannerTable}
use Rattle.scanner_table.specs.declared.table.Session.{Session}
use Rattle.scanner_table.specs.Effects.{Next}
use Rattle.scanner_table.specs.Opening.{has_request}
use Rattle.scanner_table.specs.Requests.{closing, close_fields, numbered, sent_frame}
use Rattle.scanner_table.specs.Runs.{left_by}
use Rattle.scanner_table.specs.Sessions.{session_with}
use Rattle.scanner_table.specs.Slots.{IndexedSlot, slot_at}
use Rattle.scanner_table.specs.Step.{scanner_step}
use Rattle.device_laws.specs.Frames.{OpeningsAre}

-- THE CONNECTION OF A SLOT

-- the triad of the connection that the slot opens, has open, or has to close since it timed out
abbrev pub triad_in : SlotState → Option Triad
triad_in Idle = None
triad_in (Opening o) = Some o.requested.triad
triad_in (Established c) = Some c.link.triad
triad_in (TimedOut link) = Some link.triad
triad_in (Closing c) = None

-- the slot of this number has the connection of this triad
pub record HasConnection (t : ScannerTable) (number : ℕ) (triad : Triad) : Type 0 where
  pub place : IndexedSlot
  pub at : slot_at t number ≡ Some place
  pub has : triad_in place.slot.state ≡ Some triad

-- WHAT ENDS IT

-- the scanner sends a Forward_Close of the connection, over the session with the slot's target
pub record IsClosed (t : ScannerTable) (number : ℕ) (triad : Triad) (next : Next) : Type 0 where
  pub place : IndexedSlot
  pub at : slot_at t number ≡ Some place
  pub session : Session
  pub registered : session_with next.1 place.config.target ≡ Some session
  pub request : ℕ
  pub sent : Contains next.0.frames (sent_frame (numbered session request (closing (close_fields place.config triad))))

abbrev pub is_mismatch : Reason → Bool
is_mismatch (reason.Mismatch why) = true
is_mismatch other = false

-- The target refuses the connection: the slot waited for the reply to its opening, and the notice gives another reason than that a
-- success does not suit.
pub record IsRefused (t : ScannerTable) (number : ℕ) (triad : Triad) (next : Next) : Type 0 where
  pub place : IndexedSlot
  pub at : slot_at t number ≡ Some place
  pub opening : pending.PendingOpen
  pub waits : place.slot.state ≡ Opening opening
  pub triad_is : opening.requested.triad ≡ triad
  pub why : Reason
  pub refuses : is_mismatch why ≡ false
  pub said : Contains next.0.notices (notice.Refused number why)

-- an event that is accepted ends the connection
abbrev pub IsEnded : ScannerTable → ℕ → Triad → Result Next StepFault → Type 0
IsEnded t number triad (Err fault) = ⊥
IsEnded t number triad (Ok next) = IsClosed t number triad next ⊎ IsRefused t number triad next

-- OVER EVENTS

-- the slot has the connection until one of the events ends it, or after all of them
abbrev pub HasUntilEnd : ℕ → Triad → ScannerTable → List Event → Type 0
HasUntilEnd number triad t [] = HasConnection t number triad
HasUntilEnd number triad t (event ∷ events) =
    HasConnection t number triad × (IsEnded t number triad (scanner_step t event) ⊎ HasUntilEnd number triad (left_by t (scanner_step t event)) events)

-- from a table on a slot has the connection, and the frame went over the session with the slot's target
pub record IsOfSlot (t : ScannerTable) (events : List Event) (frame : Frame) (triad : Triad) : Type 0 where
  pub number : ℕ
  pub place : IndexedSlot
  pub at : slot_at t number ≡ Some place
  pub session : Session
  pub registered : session_with t place.config.target ≡ Some session
  pub goes : frame.to ≡ recipient.Stream session.stream
  pub until : HasUntilEnd number triad t events

-- so it is of each connection that a frame requests, whoever reads it
abbrev pub FrameIsOfSlot : ScannerTable → List Event → Frame → Type 0
FrameIsOfSlot t events frame = OpeningsAre (λ request. IsOfSlot t events frame request.triad) frame.bytes

abbrev pub RequestedAreOfSlots : List Event → Result Next StepFault → Type 0
RequestedAreOfSlots events (Err fault) = Unit {0}
RequestedAreOfSlots events (Ok next) = AllByRecursion (FrameIsOfSlot next.1 events) next.0.frames

-- at each of the events
abbrev pub EachRequested : ScannerTable → List Event → Type 0
EachRequested t [] = Unit {0}
EachRequested t (event ∷ events) = RequestedAreOfSlots events (scanner_step t event) × EachRequested (left_by t (scanner_step t event)) events

-- THE LAW

-- so it is of each connection that a slot has before the events, and of each that is requested at one of them
pub record LeavesNone (t : ScannerTable) (events : List Event) : Type 0 where
  pub had : (number : ℕ) (triad : Triad) → HasConnection t number triad → HasUntilEnd number triad t events
  pub requested : EachRequested t events

-- It is so at a tidy scanner, if a request number is left in the end. The scanner's vendor id has 16 bits, its serial number 32.
abbrev pub TidyScannersLeaveNone : ScannerTable → List Event → ScannerTable → Type 0
TidyScannersLeaveNone old events new =
    old.profile.tidy ≡ true → has_request new ≡ true → old.profile.vendor < 2 ^ 16 → old.profile.serial < 2 ^ 32 → LeavesNone old events
