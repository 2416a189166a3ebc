-- The numbers of a slot's states in notices (Volume 1, chapter 3, connection object state).
use Rattle.std.specs.Prelude.{ℕ, ◌≡◌, ◌==◌, if◌then◌else◌, Option, Some, None, refl}
use Rattle.cip_events.specs.declared.slot_phase.SlotPhase.{SlotPhase}
use Rattle.cip_events.specs.declared.slot_phase.SlotPhase.TheVariants.{Idle, Opening, Established, TimedOut, Closing}

abbrev pub phase_number : SlotPhase → ℕ
phase_number Idle = 0
phase_number Opening = 2
phase_number Established = 3
phase_number TimedOut = 4
phase_number Closing = 6

-- the state of a number, if there is one
abbrev pub phase_of : ℕ → Option SlotPhase
phase_of number =
    if number == 0 then Some Idle
    else if number == 2 then Some Opening
    else if number == 3 then Some Established
    else if number == 4 then Some TimedOut
    else if number == 6 then Some Closing
    else None

-- each state is that of its number
pub numbered_phase : (phase : SlotPhase) → phase_of (phase_number phase) ≡ Some phase
numbered_phase Idle = refl
numbered_phase Opening = refl
numbered_phase Established = refl
numbered_phase TimedOut = refl
numbered_phase Closing = refl
