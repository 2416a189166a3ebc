-- Samples of received datagrams: the delivery of each, and its effect on an output and on the watchdog.
use Rattle.std.proofs.Common.{◌≡◌, refl, ℕ, List, [], ◌∷◌, take, map}
use Rattle.cip_events.specs.declared.event.Delivery.TheVariants.{Applied, Idle, Heartbeat, Duplicate, Old, UnknownId, WrongSize, Malformed}
use Rattle.cip_events.specs.declared.event.Event.{Event}
use Rattle.cip_events.specs.declared.event.Event.TheVariants.{Datagram, Read, Tick}
use Rattle.cip_events.specs.declared.event.Notice.{Notice}
use Rattle.cip_events.specs.declared.event.Notice.TheVariants.{Expired}
use Rattle.adapter_table.specs.declared.profile.Action.TheVariants.{Hold, Zero}
use Rattle.adapter_table.specs.declared.profile.Profile.{Profile}
use Rattle.cip_events.specs.Outcomes.{Outcome}
use Rattle.cip_tables.specs.Run.{outcomes_of}
use Rattle.samples.specs.Hex.{hex}
use Rattle.samples.specs.Devices.{common, acting, double, peer, other, own}
use Rattle.samples.specs.Requests.{OpeningRequest, owner, consumer}
use Rattle.samples.specs.Datagrams.{datagram, running, idling}
use Rattle.samples.specs.Runs.{after, opens, closes, delivers, holds, ends, accepts, notices_of}
use Rattle.samples.specs.Rows.{from}
use Rattle.samples.specs.Computing.{computing}

-- a datagram of the first originator
abbrev comes : List ℕ → Event
comes bytes = Datagram peer bytes

-- the owner's datagram with this number and count, in run mode and in idle mode
abbrev runs : ℕ → ℕ → List ℕ → List ℕ
runs number count bytes = datagram 0x10000001 number count (running bytes)

abbrev idles : ℕ → ℕ → List ℕ
idles number count = datagram 0x10000001 number count (idling (hex "55 66 77 88"))

abbrev first : List ℕ
first = hex "02 00 02 80 08 00 01 00 00 10 01 00 00 00 B1 00 0A 00 01 00 01 00 00 00 11 22 33 44"

-- the bytes of the output, those of the next datagram, and those at the beginning
abbrev before : List ℕ
before = hex "11 22 33 44"

abbrev next : List ℕ
next = hex "55 66 77 88"

abbrev zeros : List ℕ
zeros = hex "00 00 00 00"

-- the outcomes at an adapter that has applied the owner's first datagram
abbrev then_said : Profile → List Event → List Outcome
then_said profile events = outcomes_of (after profile (opens owner ∷ comes first ∷ [])) events

-- ---- its connection

the_first_is_applied : outcomes_of (after common (opens owner ∷ [])) (comes first ∷ Read 150 ∷ []) ≡ delivers Applied ∷ holds before ∷ []
unfolding computing
the_first_is_applied = refl

again_it_is_old : then_said common (comes first ∷ Read 150 ∷ []) ≡ delivers Old ∷ holds before ∷ []
unfolding computing
again_it_is_old = refl

another_node_has_no_such_connection : then_said common (Datagram other (runs 2 2 next) ∷ Read 150 ∷ []) ≡ delivers UnknownId ∷ holds before ∷ []
unfolding computing
another_node_has_no_such_connection = refl

another_id_is_unknown : then_said common (comes (datagram 0x10000002 2 2 (running next)) ∷ []) ≡ delivers UnknownId ∷ []
unfolding computing
another_id_is_unknown = refl

-- the T->O id is no target
the_other_id_is_unknown : then_said common (comes (datagram 0x20000001 2 2 (running next)) ∷ []) ≡ delivers UnknownId ∷ []
unfolding computing
the_other_id_is_unknown = refl

every_prefix_is_malformed : then_said common (map (λ n. comes (take n first)) (from 0 28)) ≡ map (λ n. delivers Malformed) (from 0 28)
unfolding computing
every_prefix_is_malformed = refl

an_unknown_id_before_the_size : then_said common (comes (datagram 0x10000002 2 2 (running (hex "55"))) ∷ []) ≡ delivers UnknownId ∷ []
unfolding computing
an_unknown_id_before_the_size = refl

a_closed_connection_is_unknown : then_said common (closes peer owner ∷ comes (runs 2 2 next) ∷ []) ≡ ends peer owner [] ∷ delivers UnknownId ∷ []
unfolding computing
a_closed_connection_is_unknown = refl

-- ---- its size and its number

a_byte_less : then_said common (comes (runs 2 2 (hex "55 66 77")) ∷ Read 150 ∷ []) ≡ delivers WrongSize ∷ holds before ∷ []
unfolding computing
a_byte_less = refl

a_byte_more : then_said common (comes (runs 2 2 (hex "55 66 77 88 99")) ∷ Read 150 ∷ []) ≡ delivers WrongSize ∷ holds before ∷ []
unfolding computing
a_byte_more = refl

no_header : then_said common (comes (datagram 0x10000001 2 2 next) ∷ []) ≡ delivers WrongSize ∷ []
unfolding computing
no_header = refl

the_size_before_the_number : then_said common (comes (runs 1 2 (hex "55 66 77")) ∷ []) ≡ delivers WrongSize ∷ []
unfolding computing
the_size_before_the_number = refl

half_a_circle_ahead_is_old : then_said common (comes (runs 0x80000001 2 next) ∷ Read 150 ∷ []) ≡ delivers Old ∷ holds before ∷ []
unfolding computing
half_a_circle_ahead_is_old = refl

and_one_less_is_newer :
    then_said common (comes (runs 0x80000001 2 next) ∷ comes (runs 0x80000000 2 next) ∷ Read 150 ∷ [])
    ≡ delivers Old ∷ delivers Applied ∷ holds next ∷ []
unfolding computing
and_one_less_is_newer = refl

numbers_go_round :
    outcomes_of (after common (opens owner ∷ comes (runs 0xFFFFFFFF 1 before) ∷ [])) (comes (runs 0 2 next) ∷ comes (runs 0xFFFFFFFF 3 before) ∷ Read 150 ∷ [])
    ≡ delivers Applied ∷ delivers Old ∷ holds next ∷ []
unfolding computing
numbers_go_round = refl

the_first_number_is_any :
    outcomes_of (after common (opens owner ∷ [])) (comes (runs 0x90000000 1 before) ∷ comes (runs 1 2 next) ∷ [])
    ≡ delivers Applied ∷ delivers Applied ∷ []
unfolding computing
the_first_number_is_any = refl

an_old_one_is_not_the_last :
    then_said common (comes (runs 5 2 next) ∷ comes (runs 3 3 before) ∷ comes (runs 4 4 before) ∷ comes (runs 6 3 before) ∷ [])
    ≡ delivers Applied ∷ delivers Old ∷ delivers Old ∷ delivers Applied ∷ []
unfolding computing
an_old_one_is_not_the_last = refl

-- ---- its count and its mode

the_same_count_is_a_duplicate : then_said common (comes (runs 2 1 next) ∷ Read 150 ∷ []) ≡ delivers Duplicate ∷ holds before ∷ []
unfolding computing
the_same_count_is_a_duplicate = refl

a_duplicate_s_number_counts :
    then_said common (comes (runs 3 1 next) ∷ comes (runs 2 2 next) ∷ Read 150 ∷ [])
    ≡ delivers Duplicate ∷ delivers Old ∷ holds before ∷ []
unfolding computing
a_duplicate_s_number_counts = refl

an_idle_one_of_the_same_count_is_a_duplicate : then_said common (comes (idles 2 1) ∷ Read 150 ∷ []) ≡ delivers Duplicate ∷ holds before ∷ []
unfolding computing
an_idle_one_of_the_same_count_is_a_duplicate = refl

any_other_count_is_new : then_said common (comes (runs 2 0 next) ∷ Read 150 ∷ []) ≡ delivers Applied ∷ holds next ∷ []
unfolding computing
any_other_count_is_new = refl

an_idle_one_s_count_counts :
    then_said common (comes (idles 2 2) ∷ comes (runs 3 2 next) ∷ Read 150 ∷ [])
    ≡ delivers Idle ∷ delivers Duplicate ∷ holds zeros ∷ []
unfolding computing
an_idle_one_s_count_counts = refl

idle_makes_zeros : then_said common (comes (idles 2 2) ∷ Read 150 ∷ []) ≡ delivers Idle ∷ holds zeros ∷ []
unfolding computing
idle_makes_zeros = refl

idle_leaves_the_bytes_under_hold : then_said (acting Hold Hold) (comes (idles 2 2) ∷ Read 150 ∷ []) ≡ delivers Idle ∷ holds before ∷ []
unfolding computing
idle_leaves_the_bytes_under_hold = refl

-- bit 0 of the header alone gives the mode
abbrev headed : List ℕ → Event
headed header = comes (datagram 0x10000001 2 2 header)

other_bits_and_run : then_said common (headed (hex "FF FF FF FF 55 66 77 88") ∷ Read 150 ∷ []) ≡ delivers Applied ∷ holds next ∷ []
unfolding computing
other_bits_and_run = refl

other_bits_and_idle : then_said common (headed (hex "FE FF FF FF 55 66 77 88") ∷ Read 150 ∷ []) ≡ delivers Idle ∷ holds zeros ∷ []
unfolding computing
other_bits_and_idle = refl

-- ---- heartbeats

-- a heartbeat of an input-only connection
abbrev beats : ℕ → ℕ → List ℕ → Event
beats number count payload = comes (datagram 0x10000001 number count payload)

a_heartbeat_is_never_a_duplicate :
    outcomes_of (after common (opens (consumer 1) ∷ [])) (beats 1 1 [] ∷ beats 2 1 [] ∷ beats 2 2 [] ∷ beats 3 2 (hex "01 00 00 00") ∷ [])
    ≡ delivers Heartbeat ∷ delivers Heartbeat ∷ delivers Old ∷ delivers WrongSize ∷ []
unfolding computing
a_heartbeat_is_never_a_duplicate = refl

-- ---- the watchdog: its time-out is 16 times 10 ms

-- the owner's connection in two ticks after an event that comes 100 ms after the first datagram
abbrev refreshed_by : Event → List (List Notice)
refreshed_by event = map notices_of (then_said common (Tick 100 ∷ event ∷ Tick 59 ∷ Tick 1 ∷ Tick 99 ∷ Tick 1 ∷ []))

abbrev expiry : List Notice
expiry = Expired (own 1) ∷ []

abbrev lives_on : List (List Notice)
lives_on = [] ∷ [] ∷ [] ∷ [] ∷ [] ∷ expiry ∷ []

abbrev is_lost : List (List Notice)
is_lost = [] ∷ [] ∷ [] ∷ expiry ∷ [] ∷ [] ∷ []

applied_refreshes : refreshed_by (comes (runs 2 2 next)) ≡ lives_on
unfolding computing
applied_refreshes = refl

idle_refreshes : refreshed_by (comes (idles 2 2)) ≡ lives_on
unfolding computing
idle_refreshes = refl

a_duplicate_refreshes : refreshed_by (comes (runs 2 1 next)) ≡ lives_on
unfolding computing
a_duplicate_refreshes = refl

an_old_one_does_not : refreshed_by (comes (runs 1 2 next)) ≡ is_lost
unfolding computing
an_old_one_does_not = refl

one_of_a_wrong_size_does_not : refreshed_by (comes (runs 2 2 (hex "55"))) ≡ is_lost
unfolding computing
one_of_a_wrong_size_does_not = refl

an_unknown_one_does_not : refreshed_by (Datagram other (runs 2 2 next)) ≡ is_lost
unfolding computing
an_unknown_one_does_not = refl

a_lost_owner_is_unknown :
    map notices_of (then_said common (Tick 160 ∷ [])) ≡ expiry ∷ []
unfolding computing
a_lost_owner_is_unknown = refl

and_drives_nothing :
    outcomes_of (after common (opens owner ∷ comes first ∷ Tick 160 ∷ [])) (comes (runs 2 2 next) ∷ Read 150 ∷ [])
    ≡ delivers UnknownId ∷ holds zeros ∷ []
unfolding computing
and_drives_nothing = refl

-- four times 10 ms, the least time-out
the_least_multiplier :
    map notices_of (outcomes_of (after common (opens (record owner { multiplier = 0 }) ∷ comes first ∷ [])) (Tick 39 ∷ Tick 1 ∷ []))
    ≡ [] ∷ expiry ∷ []
unfolding computing
the_least_multiplier = refl

-- ---- an output whose idle action is not its fault action

-- the bytes of the output after the events
abbrev left : Profile → List Event → List Outcome
left profile events = outcomes_of (after profile (opens owner ∷ comes first ∷ events)) (Read 150 ∷ [])

idle_zero_before_it_is_lost : left (acting Zero Hold) (comes (idles 2 2) ∷ []) ≡ holds zeros ∷ []
unfolding computing
idle_zero_before_it_is_lost = refl

kept_when_it_expires : left (acting Zero Hold) (Tick 160 ∷ []) ≡ holds before ∷ []
unfolding computing
kept_when_it_expires = refl

kept_when_it_is_closed : left (acting Zero Hold) (closes peer owner ∷ []) ≡ holds before ∷ []
unfolding computing
kept_when_it_is_closed = refl

idle_holds : left (acting Hold Zero) (comes (idles 2 2) ∷ []) ≡ holds before ∷ []
unfolding computing
idle_holds = refl

zero_when_it_expires : left (acting Hold Zero) (Tick 160 ∷ []) ≡ holds zeros ∷ []
unfolding computing
zero_when_it_expires = refl

zero_when_it_is_closed : left (acting Hold Zero) (closes peer owner ∷ []) ≡ holds zeros ∷ []
unfolding computing
zero_when_it_is_closed = refl

not_when_another_is_closed : left (acting Hold Zero) (opens (consumer 2) ∷ closes peer (consumer 2) ∷ []) ≡ holds before ∷ []
unfolding computing
not_when_another_is_closed = refl

-- the close of a timed-out owner leaves the output to the next owner
abbrev successor : OpeningRequest
successor = record owner { serial = 2; t_o_id = 0x20000002 }

a_lost_owner_s_close_changes_nothing :
    left (acting Hold Zero) (Tick 160 ∷ opens successor ∷ comes (datagram 0x10000002 1 1 (running next)) ∷ closes other owner ∷ [])
    ≡ holds next ∷ []
unfolding computing
a_lost_owner_s_close_changes_nothing = refl

-- ---- two outputs

-- the owner of the second output, of 2 bytes
abbrev second_owner : OpeningRequest
second_owner = record owner { serial = 2; t_o_id = 0x20000002; o_t_params = 0x4808; t_o_params = 0x4804; path = hex "20 04 24 97 2C A0 2C 6E" }

each_output_has_its_owner :
    outcomes_of (after double (opens owner ∷ comes first ∷ []))
    (opens second_owner ∷ comes (datagram 0x10000002 1 1 (running (hex "AA BB"))) ∷ Read 150 ∷ Read 160 ∷ closes peer owner ∷ Read 150 ∷ Read 160 ∷ [])
    ≡ accepts peer second_owner 2 0x20000002 ∷ delivers Applied ∷ holds before ∷ holds (hex "AA BB")
    ∷ ends peer owner [] ∷ holds zeros ∷ holds (hex "AA BB") ∷ []
unfolding computing
each_output_has_its_owner = refl
