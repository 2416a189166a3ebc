-- Due slots whose due times are in the order of their numbers.
use Rattle.std.specs.Prelude.{ℕ, ◌+◌, nat_lt, Bool, if◌then◌else◌, List, [], ◌∷◌, map, filter, Option, Some, None}
use Rattle.std.specs.List.{filter_map}
use Rattle.cip_types.specs.declared.names.Ms.{Ms}
use Rattle.cip_events.specs.declared.event.OutgoingDatagram.{OutgoingDatagram}
use Rattle.cip_productions.specs.Productions.{sent}
use Rattle.scanner_table.specs.declared.slot.Slot.{Slot}
use Rattle.scanner_table.specs.Productions.{state_is_due, is_due, due_of, slot_production}
use Rattle.scanner_table.specs.Slots.{IndexedSlot}

-- the number of the due slots, after this many so far; none if one of them is due before the last one
abbrev pub due_in_turn : Ms → ℕ → ℕ → List Slot → Option ℕ
due_in_turn clock count last [] = Some count
due_in_turn clock count last (slot ∷ slots) =
    if state_is_due clock slot.state
    then (if nat_lt (due_of slot.state) last then None else due_in_turn clock (count + 1) (due_of slot.state) slots)
    else due_in_turn clock count last slots

-- the datagrams of those slots that are due, in the order of the list
abbrev pub datagrams_in_turn : Bool → Ms → List IndexedSlot → List OutgoingDatagram
datagrams_in_turn run clock indexed_slots = map sent (filter_map (slot_production run) (filter (is_due clock) indexed_slots))
