-- Conditions in words, and what a device has in their place.
use Rattle.std.specs.Prelude.{ℕ, List, ◌++◌, codes, decimal, if◌then◌else◌, Bool, true, false, Option, Some, None}
use Rattle.adapter_table.specs.declared.report.ConnectionReport.{ConnectionReport}
use Rattle.adapter_table.specs.declared.row.Mode.{Mode}
use Rattle.adapter_table.specs.declared.row.Mode.TheVariants as mode
use Rattle.cip_tables.specs.declared.table.DeviceTable.{DeviceTable}
use Rattle.cip_tables.specs.States.{owner_in, slot_in}
use Rattle.cip_tables.specs.Step.{bytes_in}
use Rattle.scanner_table.specs.declared.report.SlotReport.{SlotReport}
use Rattle.script_checks.specs.declared.condition.Condition.{Condition}
use Rattle.script_checks.specs.declared.condition.Condition.TheVariants as condition
use Rattle.script_checks.specs.declared.condition.OwnerState.{OwnerState}
use Rattle.script_checks.specs.declared.condition.OwnerState.TheVariants as owner
use Rattle.script_checks.specs.declared.condition.ExpectedState.{ExpectedState}
use Rattle.script_checks.specs.declared.condition.ExpectedState.TheVariants as state
use Rattle.script_checks.specs.Holding.{has_lost, has_point, state_of}
use Rattle.trace_words.specs.Words.{bytes_word, node_word}

-- CONDITIONS

abbrev pub state_text : ExpectedState → List ℕ
state_text state.Idle = codes "idle"
state_text state.Opening = codes "opening"
state_text state.Established = codes "established"
state_text state.TimedOut = codes "timed-out"
state_text state.Closing = codes "closing"

abbrev pub owner_text : OwnerState → List ℕ
owner_text owner.Unowned = codes "none"
owner_text owner.Lost = codes "lost"
owner_text owner.Running = codes "run"
owner_text owner.Idle = codes "idle"
owner_text (owner.Of node) = codes "of " ++ node_word node

-- a point or an image holds bytes
abbrev pub held_text : (word : List ℕ) → ℕ → List ℕ → List ℕ
held_text word point bytes = word ++ (decimal point ++ (codes " = " ++ bytes_word bytes))

-- a condition, as it is read
abbrev pub condition_text : Condition → List ℕ
condition_text (condition.Output point bytes) = held_text (codes "output ") point bytes
condition_text (condition.Image slot bytes) = held_text (codes "image ") slot bytes
condition_text (condition.Slot slot required) = codes "slot " ++ (decimal slot ++ (codes " " ++ state_text required))
condition_text (condition.Owner point required) = codes "owner " ++ (decimal point ++ (codes " " ++ owner_text required))

-- WHAT A DEVICE HAS IN THEIR PLACE

abbrev pub seen_bytes : Option (List ℕ) → List ℕ
seen_bytes (Some held) = bytes_word held
seen_bytes None = codes "no such point"

abbrev pub seen_state : Option SlotReport → List ℕ
seen_state (Some said) = state_text (state_of said)
seen_state None = codes "no such slot"

abbrev pub mode_text : Option Mode → List ℕ
mode_text (Some mode.Run) = codes " run"
mode_text (Some mode.Idle) = codes " idle"
mode_text None = codes " without data"

-- an owner, or none: then one that owned it has timed out or not
abbrev pub seen_owner : Option ConnectionReport → (lost : Bool) → List ℕ
seen_owner (Some said) lost = codes "of " ++ (node_word said.peer ++ mode_text said.mode)
seen_owner None lost = if lost then codes "lost" else codes "none"

abbrev pub seen_owner_of : (there : Bool) → Option ConnectionReport → (lost : Bool) → List ℕ
seen_owner_of true said lost = seen_owner said lost
seen_owner_of false said lost = codes "no such point"

-- what a device has where a condition says something else
abbrev pub seen_text : DeviceTable → Condition → List ℕ
seen_text table (condition.Output point bytes) = seen_bytes (bytes_in table point)
seen_text table (condition.Image slot bytes) = seen_bytes (bytes_in table slot)
seen_text table (condition.Slot slot required) = seen_state (slot_in table slot)
seen_text table (condition.Owner point required) = seen_owner_of (has_point (bytes_in table point)) (owner_in table point) (has_lost table point)
