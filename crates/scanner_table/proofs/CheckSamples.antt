-- Profiles of scanners, and what is wrong with them first.
use Rattle.std.proofs.Common.{◌≡◌, false, ℕ, [], ◌∷◌, Option, Some, None, replicate, refl}
use Rattle.cip_netparams.specs.declared.Trigger.TheVariants.{ChangeOfState}
use Rattle.cip_events.specs.declared.profile_fault.ProfileFault.{ProfileFault}
use Rattle.cip_events.specs.declared.profile_fault.ProfileFault.TheVariants.{Incarnation, Points, SameInstance, Length, Timing, Limits}
use Rattle.cip_productions.specs.declared.kind.Kind.TheVariants.{ListenOnly}
use Rattle.scanner_table.specs.declared.profile.SlotConfig.{SlotConfig}
use Rattle.scanner_table.specs.Profiles.{profile_fault}
use Rattle.scanner_table.proofs.SmallScanner.{owner, gatherer, other_target, profile}

-- what is wrong with one slot
abbrev alone : SlotConfig → Option ProfileFault
alone slot = profile_fault (profile (slot ∷ []))

-- two slots in order
faultless : profile_fault (profile (owner ∷ gatherer ∷ [])) ≡ None
unfolding profile_fault
faultless = refl

-- an incarnation of 0 goes before everything else
first_of_all : profile_fault (record (profile []) { incarnation = 0; retry = 0 }) ≡ Some Incarnation
unfolding profile_fault
first_of_all = refl

-- no slot
none_at_all : profile_fault (record (profile []) { retry = 0 }) ≡ Some Points
unfolding profile_fault
none_at_all = refl

-- 64 slots
most : profile_fault (profile (replicate 64 owner)) ≡ None
unfolding profile_fault
most = refl

-- 65 slots
too_many : profile_fault (profile (replicate 65 owner)) ≡ Some Points
unfolding profile_fault
too_many = refl

-- a listener without a group
deaf : alone (record gatherer { kind = ListenOnly; multicast = false; in_len = 0 }) ≡ Some Points
unfolding profile_fault
deaf = refl

-- a listener
listener : alone (record gatherer { kind = ListenOnly }) ≡ None
unfolding profile_fault
listener = refl

-- two slots of one group
one_group : profile_fault (profile (gatherer ∷ owner ∷ record gatherer { in_len = 0 } ∷ [])) ≡ Some SameInstance
unfolding profile_fault
one_group = refl

-- the same point of two targets
two_targets : profile_fault (profile (gatherer ∷ record gatherer { target = other_target } ∷ [])) ≡ None
unfolding profile_fault
two_targets = refl

-- two points of one target
two_inputs : profile_fault (profile (gatherer ∷ record gatherer { produced = 101 } ∷ [])) ≡ None
unfolding profile_fault
two_inputs = refl

-- two slots that are of no group
two_owners : profile_fault (profile (owner ∷ owner ∷ [])) ≡ None
unfolding profile_fault
two_owners = refl

-- an input of no bytes
no_input : alone (record owner { in_len = 0; o_t_rpi = 0 }) ≡ Some Length
unfolding profile_fault
no_input = refl

-- an input of 1,400 bytes
longest_input : alone (record owner { in_len = 1400 }) ≡ None
unfolding profile_fault
longest_input = refl

-- an input of 1,401 bytes
long_input : alone (record owner { in_len = 1401 }) ≡ Some Length
unfolding profile_fault
long_input = refl

-- an owner's output of no bytes
no_output : alone (record owner { out_len = 0 }) ≡ Some Length
unfolding profile_fault
no_output = refl

-- an owner's output of 1,401 bytes
long_output : alone (record owner { out_len = 1401 }) ≡ Some Length
unfolding profile_fault
long_output = refl

-- an output of a connection of another kind
other_output : alone (record gatherer { out_len = 1 }) ≡ Some Length
unfolding profile_fault
other_output = refl

-- configuration data for no point
unnamed : alone (record owner { config = None; config_data = 1 ∷ 2 ∷ [] }) ≡ Some Length
unfolding profile_fault
unnamed = refl

-- configuration data of half a word
odd : alone (record owner { config_data = 1 ∷ [] }) ≡ Some Length
unfolding profile_fault
odd = refl

-- 400 bytes of configuration data
longest_config : alone (record owner { config_data = replicate 400 0 }) ≡ None
unfolding profile_fault
longest_config = refl

-- 402 bytes of configuration data
long_config : alone (record owner { config_data = replicate 402 0 }) ≡ Some Length
unfolding profile_fault
long_config = refl

-- packet intervals of 0
no_rpi : alone (record owner { o_t_rpi = 0 }) ≡ Some Timing
unfolding profile_fault
no_rpi = refl

-- the other one
no_t_o_rpi : alone (record owner { t_o_rpi = 0 }) ≡ Some Timing
unfolding profile_fault
no_t_o_rpi = refl

-- packet intervals of 10 seconds
longest_rpi : alone (record owner { o_t_rpi = 10000000; t_o_rpi = 10000000 }) ≡ None
unfolding profile_fault
longest_rpi = refl

-- a packet interval above 10 seconds
long_rpi : alone (record owner { t_o_rpi = 10000001 }) ≡ Some Timing
unfolding profile_fault
long_rpi = refl

-- the greatest multiplier
greatest_mult : alone (record owner { mult = 7 }) ≡ None
unfolding profile_fault
greatest_mult = refl

-- a multiplier above 7
great_mult : alone (record owner { mult = 8 }) ≡ Some Timing
unfolding profile_fault
great_mult = refl

-- a cyclic producer has no inhibit time
cyclic_inhibit : alone (record owner { inhibit = 1 }) ≡ Some Timing
unfolding profile_fault
cyclic_inhibit = refl

-- the inhibit time of a change-of-state producer is at most its packet interval
inhibit : alone (record owner { trigger = ChangeOfState; inhibit = 10 }) ≡ None
unfolding profile_fault
inhibit = refl

-- and not for longer
long_inhibit : alone (record owner { trigger = ChangeOfState; inhibit = 11 }) ≡ Some Timing
unfolding profile_fault
long_inhibit = refl

-- the packet interval is rounded up to milliseconds
rounded_inhibit : alone (record owner { trigger = ChangeOfState; t_o_rpi = 10001; inhibit = 11 }) ≡ None
unfolding profile_fault
rounded_inhibit = refl

-- a retry at once
no_retry : profile_fault (record (profile (owner ∷ [])) { retry = 0 }) ≡ Some Timing
unfolding profile_fault
no_retry = refl

-- waits of a minute
longest_waits : profile_fault (record (profile (owner ∷ [])) { open_timeout = 60000; retry = 60000 }) ≡ None
unfolding profile_fault
longest_waits = refl

-- a retry after more than a minute
long_retry : profile_fault (record (profile (owner ∷ [])) { retry = 60001 }) ≡ Some Timing
unfolding profile_fault
long_retry = refl

-- an open time-out of more than a minute
long_timeout : profile_fault (record (profile (owner ∷ [])) { open_timeout = 60001 }) ≡ Some Timing
unfolding profile_fault
long_timeout = refl

-- no open time-out
no_timeout : profile_fault (record (profile (owner ∷ [])) { open_timeout = 0 }) ≡ Some Timing
unfolding profile_fault
no_timeout = refl

-- ---- a limit on how far ahead numbers can be

-- with this limit, and this slot
abbrev limited : ℕ → SlotConfig → Option ProfileFault
limited within slot = profile_fault (record (profile (slot ∷ [])) { newer = Some within })

limits_in_range : (limited 2 owner ≡ None) × (limited 0x80000000 owner ≡ None)
unfolding profile_fault
limits_in_range = (refl, refl)

limits_out_of_range : (limited 1 owner ≡ Some Limits) × (limited 0x80000001 owner ≡ Some Limits)
unfolding profile_fault
limits_out_of_range = (refl, refl)

-- changes of state that are never held back have no pace, which matters with a limit alone
unpaced : (limited 8 (record owner { trigger = ChangeOfState; inhibit = 0 }) ≡ Some Limits) × (alone (record owner { trigger = ChangeOfState; inhibit = 0 }) ≡ None)
unfolding profile_fault
unpaced = (refl, refl)

held_back : limited 8 (record owner { trigger = ChangeOfState; inhibit = 1 }) ≡ None
unfolding profile_fault
held_back = refl

-- times are looked at first
times_first : profile_fault (record (profile (owner ∷ [])) { retry = 0; newer = Some 1 }) ≡ Some Timing
unfolding profile_fault
times_first = refl

-- ---- openings that wait at one time

-- with this number of them
abbrev turning : ℕ → Option ProfileFault
turning most = profile_fault (record (profile (owner ∷ [])) { openings = Some most })

openings_in_range : (turning 1 ≡ None) × (turning 48 ≡ None)
unfolding profile_fault
openings_in_range = (refl, refl)

openings_out_of_range : (turning 0 ≡ Some Limits) × (turning 49 ≡ Some Limits)
unfolding profile_fault
openings_out_of_range = (refl, refl)

-- ---- the first serial number

serials_in_range : (profile_fault (record (profile (owner ∷ [])) { serials = Some 1 }) ≡ None) × (profile_fault (record (profile (owner ∷ [])) { serials = Some 65535 }) ≡ None)
unfolding profile_fault
serials_in_range = (refl, refl)

no_serial : profile_fault (record (profile (owner ∷ [])) { serials = Some 0 }) ≡ Some Limits
unfolding profile_fault
no_serial = refl
