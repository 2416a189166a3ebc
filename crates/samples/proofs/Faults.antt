-- Which fault is answered where several hold.
use lib.Count.{ones}
use Rattle.std.proofs.Common.{◌≡◌, refl, nat_lt, true, false, List, [], ◌∷◌, Some, None, Err}
use Rattle.cip_events.specs.declared.event.StepFault.TheVariants.{NotAllowedNow, NoSuchPoint, TickTooLong}
use Rattle.cip_events.specs.declared.event.Event.TheVariants.{Inquiry}
use Rattle.cip_events.specs.declared.event.Verdict.TheVariants.{BadFrame}
use Rattle.cip_events.specs.declared.profile_fault.ProfileFault.TheVariants.{Incarnation, Points}
use Rattle.adapter_table.specs.declared.profile.Profile.{Profile}
use Rattle.cip_tables.specs.declared.table.Config.{Config}
use Rattle.cip_tables.specs.declared.table.Config.TheVariants as config
use Rattle.segment_world.specs.declared.transit.direction.Direction.TheVariants.{Forth, Back}
use Rattle.segment_world.specs.Transit.Streams.{Ending}
use Rattle.segment_world.specs.declared.act.Act.TheVariants.{Local, Deliver, NextFrame, OpenStream, CutStream}
use Rattle.segment_world.specs.declared.act.ActFault.TheVariants.{NoSuchDevice, NeverSent, StreamEmpty, NoSuchStream, Step}
use Rattle.segment_world.specs.declared.act.Call.TheVariants as call
use Rattle.segment_world.specs.declared.fault.WorldFault.TheVariants.{SameIncarnation, SameNode, Profile as BadProfile}
use Rattle.segment_world.specs.World.{opened_if, most_stream_numbers}
use Rattle.segment_world.specs.Configs.{world_fault}
use Rattle.samples.specs.Devices.{common}
use Rattle.samples.specs.Worlds.{neighbour, home, two, knowing, ended, over, says, said, nothing, reports, plainly}
use Rattle.samples.proofs.WorldPlaying.{playing}

-- ---- acts

no_such_device : says two (Local 2 (call.Tick 1) ∷ Deliver 0 2 ∷ OpenStream 0 2 ∷ OpenStream 2 0 ∷ []) ≡ Err NoSuchDevice ∷ Err NoSuchDevice ∷ Err NoSuchDevice ∷ Err NoSuchDevice ∷ []
unfolding playing
no_such_device = refl

-- a tick that is too long, at a device that is not there
a_device_before_its_step : says two (Local 2 (call.Tick 60001) ∷ []) ≡ Err NoSuchDevice ∷ []
unfolding playing
a_device_before_its_step = refl

-- nothing was sent
a_device_before_the_datagram : says two (Deliver 9 2 ∷ Deliver 9 1 ∷ Deliver 0 1 ∷ []) ≡ Err NoSuchDevice ∷ Err NeverSent ∷ Err NeverSent ∷ []
unfolding playing
a_device_before_the_datagram = refl

no_stream_from_a_device_to_itself : says two (OpenStream 0 0 ∷ OpenStream 1 1 ∷ []) ≡ Err NoSuchDevice ∷ Err NoSuchDevice ∷ []
unfolding playing
no_stream_from_a_device_to_itself = refl

-- stream number 65,535 is the last one
the_last_number : said (opened_if 0 1 two true (nat_lt 65535 most_stream_numbers)) ≡ nothing
the_last_number = refl

all_numbers_are_given : said (opened_if 0 1 two true (nat_lt 65536 most_stream_numbers)) ≡ Err NoSuchStream
all_numbers_are_given = refl

a_device_before_its_number : said (opened_if 0 0 two false (nat_lt 65536 most_stream_numbers)) ≡ Err NoSuchDevice
a_device_before_its_number = refl

no_such_stream : says two (NextFrame 0 Forth ∷ NextFrame 0 Back ∷ CutStream 0 ∷ CutStream 7 ∷ []) ≡ Err NoSuchStream ∷ Err NoSuchStream ∷ Err NoSuchStream ∷ Err NoSuchStream ∷ []
unfolding playing
no_such_stream = refl

-- the mark that it is cut is still there for one end
a_stream_that_has_ended :
    says (over (ended (knowing []) (knowing (Ending ∷ []))) two) (NextFrame 0 Forth ∷ CutStream 0 ∷ NextFrame 0 Back ∷ [])
    ≡ Err StreamEmpty ∷ Err NoSuchStream ∷ Err (Step NotAllowedNow) ∷ []
unfolding playing
a_stream_that_has_ended = refl

a_step_s_fault :
    says two (Local 0 (call.Tick 60001) ∷ Local 0 (call.Start 0) ∷ Local 1 (call.Mode true) ∷ Local 1 (call.Read 7) ∷ [])
    ≡ Err (Step TickTooLong) ∷ Err (Step NotAllowedNow) ∷ Err (Step NotAllowedNow) ∷ Err (Step NoSuchPoint) ∷ []
unfolding playing
a_step_s_fault = refl

-- what is no inquiry is a bad frame to an adapter, and leaves the network
bytes_that_inquire_nothing : says two (Local 1 (call.Inquiry home []) ∷ []) ≡ reports 1 (Inquiry home []) (plainly BadFrame) ∷ []
unfolding playing
bytes_that_inquire_nothing = refl

-- ---- worlds

-- adapters of two profiles
abbrev both : Profile → Profile → List Config
both first second = config.Adapter first ∷ config.Adapter second ∷ []

no_device_at_all : world_fault [] ≡ None
unfolding playing ones
no_device_at_all = refl

two_devices : world_fault (both common neighbour) ≡ None
unfolding playing ones
two_devices = refl

-- one address, and no input, too
the_incarnation_before_the_address : world_fault (both common (record common { inputs = [] })) ≡ Some SameIncarnation
unfolding playing ones
the_incarnation_before_the_address = refl

the_address_before_a_profile : world_fault (both common (record neighbour { node = home; inputs = [] })) ≡ Some SameNode
unfolding playing ones
the_address_before_a_profile = refl

a_bad_profile : world_fault (both common (record neighbour { inputs = [] })) ≡ Some (BadProfile Points)
unfolding playing ones
a_bad_profile = refl

-- the fault of the first of two bad profiles, though the other's fault goes before it within one profile
the_first_bad_profile : world_fault (both (record common { inputs = [] }) (record neighbour { incarnation = 0 })) ≡ Some (BadProfile Points)
unfolding playing ones
the_first_bad_profile = refl

-- and of one profile its first
the_first_fault_of_a_profile : world_fault (both common (record neighbour { incarnation = 0; inputs = [] })) ≡ Some (BadProfile Incarnation)
unfolding playing ones
the_first_fault_of_a_profile = refl
