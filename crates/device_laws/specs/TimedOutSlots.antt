-- A connection that timed out waits for its slot's retry time and for a session alone: a tick leaves no slot timed out whose retry time
-- has come and with whose target a session is registered (Volume 1, chapter 3, Forward_Close service, connection timeouts).
use Rattle.std.specs.Prelude.{ℕ, ◌≡◌, ◌≤◌, false, None, Ok}
use Rattle.cip_events.specs.declared.event.Event.TheVariants.{Tick}
use Rattle.conn_state.specs.declared.names.Link.{Link}
use Rattle.scanner_table.specs.declared.slot.SlotState.TheVariants.{TimedOut}
use Rattle.scanner_table.specs.declared.table.ScannerTable.{ScannerTable}
use Rattle.scanner_table.specs.Effects.{Next}
use Rattle.scanner_table.specs.Runs.{OfEachSlot}
use Rattle.scanner_table.specs.Sessions.{session_with}
use Rattle.scanner_table.specs.Slots.{IndexedSlot}
use Rattle.scanner_table.specs.Step.{scanner_step}

-- a slot that has timed out waits for its retry time, or for a session with its target
abbrev pub WaitsForSession : ScannerTable → IndexedSlot → Type 0
WaitsForSession t place =
    (link : Link) → place.slot.state ≡ TimedOut link → place.slot.retry_at.0 ≤ t.clock.0 → session_with t place.config.target ≡ None

-- A connection that timed out is closed out of turn: the scanner is tidy, or its openings are not limited, so that no slot waits for
-- its turn.
abbrev pub ClosesInTime : ScannerTable → Type 0
ClosesInTime t = t.profile.tidy ≡ false → t.profile.openings ≡ None

-- so it is of each slot after a tick
abbrev pub TimedOutSlotsWait : Type 0
TimedOutSlotsWait =
    (t : ScannerTable) (ms : ℕ) (next : Next) → ClosesInTime t → scanner_step t (Tick ms) ≡ Ok next → OfEachSlot (WaitsForSession next.1) next.1
