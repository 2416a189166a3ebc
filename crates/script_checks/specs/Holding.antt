-- Whether a condition of a script holds of a device's table (Volume 1, chapter 3, connection object instance attributes, application
-- connection types).
use Rattle.std.specs.Prelude.{ℕ, zero, suc, ◌==◌, ◌&&◌, ◌||◌, not, bytes_eq, is_none, is_some, Bool, true, false, List, Option, Some, None}
use Rattle.adapter_table.specs.declared.report.ConnectionReport.{ConnectionReport}
use Rattle.adapter_table.specs.declared.row.Mode.{Mode}
use Rattle.adapter_table.specs.declared.row.Mode.TheVariants as mode
use Rattle.cip_productions.specs.Kinds.{is_owner}
use Rattle.cip_tables.specs.declared.table.DeviceTable.{DeviceTable}
use Rattle.cip_tables.specs.States.{connection_in, owner_in, slot_in}
use Rattle.cip_tables.specs.Step.{bytes_in}
use Rattle.cip_types.specs.declared.names.Node.{Node}
use Rattle.scanner_table.specs.declared.report.SlotReport.{SlotReport}
use Rattle.scanner_table.specs.declared.report.SlotReport.TheVariants as report
use Rattle.script_checks.specs.declared.condition.Condition.{Condition}
use Rattle.script_checks.specs.declared.condition.Condition.TheVariants as condition
use Rattle.script_checks.specs.declared.condition.OwnerState.{OwnerState}
use Rattle.script_checks.specs.declared.condition.OwnerState.TheVariants as owner
use Rattle.script_checks.specs.declared.condition.ExpectedState.{ExpectedState}
use Rattle.script_checks.specs.declared.condition.ExpectedState.TheVariants as state

-- BYTES

-- a point is there, and holds these bytes
abbrev pub has_bytes : List ℕ → Option (List ℕ) → Bool
has_bytes bytes (Some held) = bytes_eq held bytes
has_bytes bytes None = false

abbrev pub has_point : Option (List ℕ) → Bool
has_point held = is_some held

-- a point of an adapter holds these bytes
abbrev pub output_holds : DeviceTable → ℕ → List ℕ → Bool
output_holds table point bytes = is_none (slot_in table point) && has_bytes bytes (bytes_in table point)

-- the image of a scanner's slot holds these bytes
abbrev pub image_holds : DeviceTable → ℕ → List ℕ → Bool
image_holds table slot bytes = is_some (slot_in table slot) && has_bytes bytes (bytes_in table slot)

-- SLOTS

abbrev pub state_of : SlotReport → ExpectedState
state_of report.Idle = state.Idle
state_of report.Opening = state.Opening
state_of (report.Established target) = state.Established
state_of report.TimedOut = state.TimedOut
state_of report.Closing = state.Closing

abbrev pub code_of : ExpectedState → ℕ
code_of state.Idle = 0
code_of state.Opening = 1
code_of state.Established = 2
code_of state.TimedOut = 3
code_of state.Closing = 4

-- a slot is there, and has this state
abbrev pub has_state : Option SlotReport → ExpectedState → Bool
has_state (Some said) required = code_of (state_of said) == code_of required
has_state None required = false

-- OWNERS

-- a connection is an owner of this output that has timed out
abbrev pub is_lost_owner : ℕ → Option ConnectionReport → Bool
is_lost_owner point (Some said) = not said.established && (is_owner said.kind && (said.consumed == point))
is_lost_owner point None = false

-- one of the connections at the first places is
abbrev pub lost_below : DeviceTable → ℕ → ℕ → Bool
lost_below table point zero = false
lost_below table point (suc place) = lost_below table point place || is_lost_owner point (connection_in table place)

-- one of all connections is
unfoldable pub has_lost : DeviceTable → ℕ → Bool
has_lost table point = lost_below table point 64

abbrev pub mode_is : Option Mode → (run : Bool) → Bool
mode_is (Some mode.Run) run = run
mode_is (Some mode.Idle) run = not run
mode_is None run = false

-- an owner is there, and its newest data has the mode run, or idle
abbrev pub has_mode : Option ConnectionReport → (run : Bool) → Bool
has_mode (Some said) run = mode_is said.mode run
has_mode None run = false

-- an owner is there, and this is its originator
abbrev pub is_of : Option ConnectionReport → Node → Bool
is_of (Some said) node = said.peer.0 == node.0
is_of None node = false

abbrev pub owned_so : DeviceTable → ℕ → OwnerState → Bool
owned_so table point owner.Unowned = is_none (owner_in table point)
owned_so table point owner.Lost = is_none (owner_in table point) && has_lost table point
owned_so table point owner.Running = has_mode (owner_in table point) true
owned_so table point owner.Idle = has_mode (owner_in table point) false
owned_so table point (owner.Of node) = is_of (owner_in table point) node

-- an output is there, and is owned so
abbrev pub owner_holds : DeviceTable → ℕ → OwnerState → Bool
owner_holds table point required = has_point (bytes_in table point) && owned_so table point required

-- CONDITIONS

abbrev pub holds : DeviceTable → Condition → Bool
holds table (condition.Output point bytes) = output_holds table point bytes
holds table (condition.Image slot bytes) = image_holds table slot bytes
holds table (condition.Slot slot required) = has_state (slot_in table slot) required
holds table (condition.Owner point required) = owner_holds table point required
