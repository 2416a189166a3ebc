-- The faults of a device that is not created, and the numbers of a profile's faults.
use Rattle.std.specs.Prelude.{◌≡◌, Bool, true, false, Option, Some, None, ℕ}
use Rattle.cip_events.specs.declared.event.NewFault.{NewFault}
use Rattle.cip_events.specs.declared.event.NewFault.TheVariants as fault
use Rattle.cip_events.specs.declared.profile_fault.ProfileFault.{ProfileFault}
use Rattle.cip_events.specs.declared.profile_fault.ProfileFault.TheVariants.{Incarnation, Address, Points, SameInstance, Length, Timing, Identity as IdentityFault, Description as DescriptionFault, Limits, Objects}

-- a fault of the configuration precedes one of its kind; out of memory comes only where neither is so
abbrev pub IsRefusedAs : Option ProfileFault → Bool → NewFault → Type 0
IsRefusedAs wrong same_kind (fault.Profile first) = wrong ≡ Some first
IsRefusedAs wrong same_kind fault.WrongKind = (wrong ≡ None) × (same_kind ≡ false)
IsRefusedAs wrong same_kind fault.OutOfMemory = (wrong ≡ None) × (same_kind ≡ true)

abbrev pub fault_number : ProfileFault → ℕ
fault_number Incarnation = 1
fault_number Address = 2
fault_number Points = 3
fault_number SameInstance = 4
fault_number Length = 5
fault_number Timing = 6
fault_number IdentityFault = 7
fault_number DescriptionFault = 8
fault_number Limits = 9
fault_number Objects = 10
