-- The fault of a profile that has a defect, and what a search for a defect is to find.
use Rattle.std.specs.Prelude.{ℕ, ◌≡◌, ◌<◌, Bool, true, false, List, length, Option, Some, None, IfSome}
use Rattle.std.specs.List.{list_any, list_all, slice_get}
use Rattle.cip_events.specs.declared.profile_fault.ProfileFault.{ProfileFault}
use Rattle.cip_events.specs.declared.profile_fault.ProfileFault.TheVariants as fault
use Rattle.trace_faults.specs.declared.profile_faults.defects.LineName.{LineName}
use Rattle.trace_faults.specs.declared.profile_faults.defects.Defect.{Defect}
use Rattle.trace_faults.specs.declared.profile_faults.defects.Defect.TheVariants as defect
use Rattle.trace_faults.specs.declared.profile_faults.defects.ProfileReason.{ProfileReason}

abbrev pub defect_fault : Defect → ProfileFault
defect_fault defect.Incarnation = fault.Incarnation
defect_fault defect.NoFirstId = fault.Incarnation
defect_fault (defect.LateIds first count) = fault.Incarnation
defect_fault (defect.Mask mask) = fault.Address
defect_fault (defect.NetworkAddress node mask) = fault.Address
defect_fault defect.NoInput = fault.Points
defect_fault (defect.ExtraOutput instance) = fault.Points
defect_fault (defect.ExtraInput instance) = fault.Points
defect_fault defect.NoSlot = fault.Points
defect_fault (defect.ExtraSlot slot) = fault.Points
defect_fault (defect.Listener slot) = fault.Points
defect_fault (defect.SameInstance instance other) = fault.SameInstance
defect_fault (defect.SameGroup slot other target point) = fault.SameInstance
defect_fault (defect.Waiting wait ms) = fault.Timing
defect_fault (defect.Interval slot direction us) = fault.Timing
defect_fault (defect.Multiplier slot mult) = fault.Timing
defect_fault (defect.CyclicInhibit slot ms) = fault.Timing
defect_fault (defect.Inhibit slot ms api) = fault.Timing
defect_fault (defect.Major major) = fault.Identity
defect_fault (defect.Minor minor) = fault.Identity
defect_fault defect.ClassInstance = fault.Description
defect_fault (defect.NameLen len) = fault.Description
defect_fault (defect.AddressLen len) = fault.Description
defect_fault (defect.Inactivity seconds) = fault.Description
defect_fault (defect.Limit said) = fault.Limits
defect_fault (defect.NoPace slot) = fault.Limits
defect_fault (defect.Openings most) = fault.Limits
defect_fault defect.NoSerial = fault.Limits
defect_fault (defect.ExtraClass class) = fault.Objects
defect_fault (defect.OtherClass class) = fault.Objects
defect_fault (defect.SameClass class) = fault.Objects
defect_fault other = fault.Length

-- the fault of the reason that was found
abbrev pub reason_fault : Option ProfileReason → Option ProfileFault
reason_fault None = None
reason_fault (Some reason) = Some (defect_fault reason.defect)

-- a defect at this word of the line of this name and index
abbrev pub reason_at : LineName → ℕ → ℕ → Defect → ProfileReason
reason_at line index word found = record { place = record { line = line; index = index; word = word }; defect = found }

-- A reason is found where the test of a part of the profile fails, and only there. It is one of this fault.
abbrev pub Explains : Option ProfileReason → Bool → ProfileFault → Type 0
Explains None passes first = passes ≡ true
Explains (Some reason) passes first = (passes ≡ false) × (defect_fault reason.defect ≡ first)

-- the same of a defect whose place is known
abbrev pub IsDefectOf : Option Defect → Bool → ProfileFault → Type 0
IsDefectOf None passes first = passes ≡ true
IsDefectOf (Some found) passes first = (passes ≡ false) × (defect_fault found ≡ first)

-- the index of an element that passes the test, if there is one
abbrev pub IsPassing : {A : Type 0} → (A → Bool) → List A → Option ℕ → Type 0
IsPassing passes items None = list_any passes items ≡ false
IsPassing passes items (Some index) = (index < length items) × (list_any passes items ≡ true)

-- the index of an element that fails the test, if there is one
abbrev pub IsFailing : {A : Type 0} → (A → Bool) → List A → Option ℕ → Type 0
IsFailing passes items None = list_all passes items ≡ true
IsFailing passes items (Some index) =
    (index < length items) × ((list_all passes items ≡ false) × IfSome (slice_get items index) (λ item. passes item ≡ false))
