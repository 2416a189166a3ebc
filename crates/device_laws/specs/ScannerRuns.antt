-- Relations of a scanner's table before a run, the events that the run performs, and the table after it.
use Rattle.std.specs.Prelude.{ℕ, ◌≡◌, ◌≢◌, ◌<◌, ◌⊎◌, List, replicate, unwrap_or, Option, Some, None}
use Rattle.cip_types.specs.declared.names.ConnId.{ConnId}
use Rattle.cip_events.specs.declared.event.Event.{Event}
use Rattle.cip_events.specs.Outcomes.{Outcome}
use Rattle.cip_productions.specs.declared.acceptance.Accepted.{Accepted}
use Rattle.scanner_table.specs.declared.profile.ScannerProfile.{ScannerProfile}
use Rattle.scanner_table.specs.declared.slot.PendingOpen as pending
use Rattle.scanner_table.specs.declared.slot.SlotState.TheVariants.{Opening}
use Rattle.scanner_table.specs.declared.table.ScannerTable.{ScannerTable}
use Rattle.scanner_table.specs.Slots.{IndexedSlot, slot_at}
use Rattle.scanner_table.specs.Step.{scanner_table}
use Rattle.scanner_table.specs.Runs.{table_after}
use Rattle.scanner_table.specs.Drawn.{IsDrawn}
use Rattle.device_laws.specs.Newest.{Acceptance, EachAfter, acceptances, last_in}
use Rattle.device_laws.specs.Scratch.{last_image, last_output}
use Rattle.cip_tables.specs.declared.table.Config.TheVariants as config
use Rattle.cip_tables.specs.declared.table.DeviceTable.{DeviceTable}
use Rattle.cip_tables.specs.declared.table.DeviceTable.TheVariants.{Scanner}
use Rattle.cip_tables.specs.Step.{opening_table, config_fault}
use Rattle.cip_tables.specs.Run.{Runs, performed}
use Rattle.cip_tables.specs.Whole.{IsWholeDevice}

-- RUNS

-- a run of a scanner ends in the scanner to which the events that found memory lead
abbrev pub RunsFoldEvents : Type 0
RunsFoldEvents =
    (t : ScannerTable) (events : List Event) (outcomes : List Outcome) (new : DeviceTable) →
    Runs (Scanner t) events outcomes new → new ≡ Scanner (table_after t (performed events outcomes))

-- the relation holds of every run from a whole scanner
abbrev pub OverWholeRuns : (ScannerTable → List Event → ScannerTable → Type 0) → Type 0
OverWholeRuns Holds =
    (old new : ScannerTable) (events : List Event) (outcomes : List Outcome) →
    IsWholeDevice (Scanner old) → Runs (Scanner old) events outcomes (Scanner new) → Holds old (performed events outcomes) new

-- the relation holds of every run from a fresh scanner whose profile has no fault
abbrev pub OverFreshRuns : (ScannerProfile → List Event → ScannerTable → Type 0) → Type 0
OverFreshRuns Holds =
    (profile : ScannerProfile) (new : ScannerTable) (events : List Event) (outcomes : List Outcome) →
    config_fault (config.Scanner profile) ≡ None → Runs (opening_table (config.Scanner profile)) events outcomes (Scanner new) →
    Holds profile (performed events outcomes) new

-- the relation holds of all these runs
pub record OverScannerRuns (Holds : ScannerTable → List Event → ScannerTable → Type 0) : Type 0 where
  pub whole : OverWholeRuns Holds
  pub fresh : OverFreshRuns (λ profile events new. Holds (scanner_table profile) events new)

-- IMAGES AND OUTPUTS

-- each image holds the bytes that the last event which touched it left, or else its bytes from before
abbrev pub HoldsLastImages : ScannerTable → List Event → ScannerTable → Type 0
HoldsLastImages old events new =
    (number : ℕ) (was now : IndexedSlot) → slot_at old number ≡ Some was → slot_at new number ≡ Some now →
    now.slot.image ≡ unwrap_or (last_image number old events) was.slot.image

-- the same at a fresh scanner, or else zeros
abbrev pub HoldsLastImagesOrZeros : ScannerProfile → List Event → ScannerTable → Type 0
HoldsLastImagesOrZeros profile events new =
    (number : ℕ) (now : IndexedSlot) → slot_at new number ≡ Some now →
    now.slot.image ≡ unwrap_or (last_image number (scanner_table profile) events) (replicate now.config.in_len 0)

-- each output holds the bytes that were last written there, or else its bytes from before
abbrev pub HoldsLastOutputs : ScannerTable → List Event → ScannerTable → Type 0
HoldsLastOutputs old events new =
    (number : ℕ) (was now : IndexedSlot) → slot_at old number ≡ Some was → slot_at new number ≡ Some now →
    now.slot.output ≡ unwrap_or (last_output number old events) was.slot.output

-- the same at a fresh scanner, or else zeros
abbrev pub HoldsLastOutputsOrZeros : ScannerProfile → List Event → ScannerTable → Type 0
HoldsLastOutputsOrZeros profile events new =
    (number : ℕ) (now : IndexedSlot) → slot_at new number ≡ Some now →
    now.slot.output ≡ unwrap_or (last_output number (scanner_table profile) events) (replicate now.config.out_len 0)

-- ACCEPTED DATAGRAMS

-- Each two datagrams that a connection accepts one after the other are so related. A connection is named by its slot's
-- number and the request number of its opening.
abbrev pub AcceptsAfter : (Option Accepted → Acceptance → Type 0) → ScannerTable → List Event → ScannerTable → Type 0
AcceptsAfter R old events new =
    (number opening : ℕ) → EachAfter R (last_in number opening old) (acceptances number opening old events)

-- NUMBERS

-- a slot that is opening after the events waited for the same reply before them, or its request number is above every number
-- that was allocated by then
abbrev pub OpensAbove : ScannerTable → List Event → ScannerTable → Type 0
OpensAbove old events new =
    (request : ℕ) → request < old.next_request →
    (was now : IndexedSlot) (opening : pending.PendingOpen) →
    slot_at old was.number ≡ Some was → slot_at new was.number ≡ Some now →
    now.slot.state ≡ Opening opening → (was.slot.state ≡ Opening opening) ⊎ (request < opening.request)

-- a slot that is opening after the events waited for the same reply before them, or requests no id that was allocated by then
abbrev pub OpensWithNewId : ScannerTable → List Event → ScannerTable → Type 0
OpensWithNewId old events new =
    (id : ConnId) → IsDrawn old.ids 1 old.next_id id →
    (was now : IndexedSlot) (opening : pending.PendingOpen) →
    slot_at old was.number ≡ Some was → slot_at new was.number ≡ Some now →
    now.slot.state ≡ Opening opening → (was.slot.state ≡ Opening opening) ⊎ (opening.requested.t_o_id ≢ Some id)
