-- Connections that share a multicast producer, and those that listen to it.
use Rattle.std.proofs.Common.{◌≡◌, refl, ℕ, List, [], ◌∷◌}
use Rattle.cip_types.specs.declared.names.Node.{Node}
use Rattle.cip_events.specs.declared.event.Event.{Event}
use Rattle.cip_events.specs.declared.event.Event.TheVariants.{Request, Tick}
use Rattle.cip_events.specs.declared.event.Notice.TheVariants.{Dropped, Opened}
use Rattle.adapter_table.specs.declared.profile.Profile.{Profile}
use Rattle.adapter_table.specs.Opening.{multicast_address}
use Rattle.cip_events.specs.Outcomes.{Outcome}
use Rattle.cip_tables.specs.Run.{outcomes_of}
use Rattle.samples.specs.Hex.{hex}
use Rattle.samples.specs.Devices.{common, double, input, peer, other, group, triad, own}
use Rattle.samples.specs.Requests.{OpeningRequest, opening, owner, gatherer, listener, consumer, inhibited}
use Rattle.samples.specs.Datagrams.{datagram, outgoing}
use Rattle.samples.specs.Runs.{said, after, opens, closes, replies, accepts, refuses, ends, emits}
use Rattle.samples.specs.Computing.{computing}

-- ---- multicast addresses

-- an adapter with two inputs at an address of a network of 65,536 addresses
abbrev wide : ℕ → Profile
wide node = record common { node = record { 0 = node }; mask = 0xFFFF0000; inputs = input 100 4 ∷ input 110 2 ∷ [] }

-- 192.168.1.10 of a network of 256: 239.192.2.32
an_address_by_the_host : multicast_address common 100 ≡ record { 0 = 0xEFC00220 }
an_address_by_the_host = refl

-- 172.16.0.1: 239.192.1.0
the_first_host : multicast_address (wide 0xAC100001) 100 ≡ record { 0 = 0xEFC00100 }
the_first_host = refl

-- 172.16.4.0, host 1,024: 239.192.128.224
host_1024 : multicast_address (wide 0xAC100400) 100 ≡ record { 0 = 0xEFC080E0 }
host_1024 = refl

-- 172.16.4.1, host 1,025: 239.192.1.0 again
host_1025 : multicast_address (wide 0xAC100401) 100 ≡ record { 0 = 0xEFC00100 }
host_1025 = refl

-- 172.16.8.5, host 2,053: 239.192.1.128
host_2053 : multicast_address (wide 0xAC100805) 100 ≡ record { 0 = 0xEFC00180 }
host_2053 = refl

-- and by the place of the input: 239.192.1.129
a_second_input : multicast_address (wide 0xAC100805) 110 ≡ record { 0 = 0xEFC00181 }
a_second_input = refl

-- ---- listeners, and who supports them

-- the other originator's request to listen
abbrev listens : Event
listens = Request other (opening listener)

abbrev gathered : Outcome
gathered = accepts peer gatherer 1 0x10000002

a_listener_is_dropped_with_its_last_supporter :
    said common (opens gatherer ∷ listens ∷ closes peer gatherer ∷ Tick 10 ∷ listens ∷ [])
    ≡ gathered ∷ accepts other listener 3 0x10000002 ∷ ends peer gatherer (Dropped (triad 6 0x12345679) ∷ []) ∷ emits [] [] ∷ refuses other listener 0x0119 ∷ []
unfolding computing
a_listener_is_dropped_with_its_last_supporter = refl

-- an owner, multicast, supports it too
abbrev owner_shared : OpeningRequest
owner_shared = record owner { t_o_id = 0; t_o_params = 0x2806 }

two_supporters :
    said common (opens gatherer ∷ opens owner_shared ∷ listens ∷ closes other gatherer ∷ closes peer owner_shared ∷ [])
    ≡ gathered ∷ accepts peer owner_shared 3 0x10000002 ∷ accepts other listener 4 0x10000002 ∷ ends other gatherer [] ∷ ends peer owner_shared (Dropped (triad 6 0x12345679) ∷ []) ∷ []
unfolding computing
two_supporters = refl

-- a listener supports no listener
abbrev second_listener : OpeningRequest
second_listener = record listener { serial = 9 }

listeners_go_in_opening_order :
    said common (opens gatherer ∷ opens second_listener ∷ listens ∷ closes peer gatherer ∷ [])
    ≡ gathered ∷ accepts peer second_listener 3 0x10000002 ∷ accepts other listener 4 0x10000002
    ∷ ends peer gatherer (Dropped (triad 9 0x12345679) ∷ Dropped (triad 6 0x12345679) ∷ []) ∷ []
unfolding computing
listeners_go_in_opening_order = refl

-- ---- joiners

-- the other originator joins, every 10 ms
abbrev joiner : OpeningRequest
joiner = record gatherer { serial = 7 }

abbrev joins : OpeningRequest → Event
joins a = Request other (opening a)

abbrev joined : Outcome
joined = accepts other joiner 3 0x10000002

abbrev pair : List Node
pair = peer ∷ other ∷ []

-- a joiner's T->O interval
abbrev joiner_every : ℕ → OpeningRequest
joiner_every rpi = record gatherer { serial = 8; t_o_rpi = rpi }

joiners_share_the_producer :
    said common (opens gatherer ∷ joins joiner ∷ Tick 1 ∷ closes peer gatherer ∷ Tick 9 ∷ joins (joiner_every 20000) ∷ opens (joiner_every 9500) ∷ Tick 10 ∷ [])
    ≡ gathered ∷ joined
    ∷ emits (outgoing group pair (hex "02 00 02 80 08 00 02 00 00 10 01 00 00 00 B1 00 06 00 01 00 00 00 00 00") ∷ []) []
    ∷ ends peer gatherer []
    ∷ emits (outgoing group (other ∷ []) (datagram 0x10000002 2 1 (hex "00 00 00 00")) ∷ []) []
    ∷ refuses other (joiner_every 20000) 0x0111
    ∷ accepts peer (joiner_every 9500) 4 0x10000002
    ∷ emits (outgoing group (other ∷ peer ∷ []) (datagram 0x10000002 3 1 (hex "00 00 00 00")) ∷ []) []
    ∷ []
unfolding computing
joiners_share_the_producer = refl

-- two connections of one node get one datagram
one_node_twice :
    said common (opens gatherer ∷ opens joiner ∷ joins (record joiner { serial = 8 }) ∷ Tick 1 ∷ [])
    ≡ gathered ∷ accepts peer joiner 3 0x10000002 ∷ accepts other (record joiner { serial = 8 }) 4 0x10000002
    ∷ emits (outgoing group pair (datagram 0x10000002 1 1 (hex "00 00 00 00")) ∷ []) [] ∷ []
unfolding computing
one_node_twice = refl

-- the outcome of a second request beside the first one's group
abbrev beside : OpeningRequest → OpeningRequest → List Outcome
beside first a = said common (opens first ∷ joins a ∷ [])

abbrev not_beside : OpeningRequest → ℕ → List Outcome
not_beside a code = gathered ∷ refuses other a code ∷ []

another_trigger : beside gatherer (inhibited 0 joiner) ≡ not_beside joiner 0x0103
unfolding computing
another_trigger = refl

and_the_other_way_round : beside (inhibited 0 gatherer) joiner ≡ not_beside joiner 0x0103
unfolding computing
and_the_other_way_round = refl

another_inhibit_time : beside (inhibited 5 gatherer) (inhibited 6 joiner) ≡ not_beside joiner 0x0111
unfolding computing
another_inhibit_time = refl

no_inhibit_time : beside (inhibited 5 gatherer) (record joiner { trigger = 0x11 }) ≡ not_beside joiner 0x0111
unfolding computing
no_inhibit_time = refl

the_same_inhibit_time : beside (inhibited 5 gatherer) (inhibited 5 joiner) ≡ gathered ∷ joined ∷ []
unfolding computing
the_same_inhibit_time = refl

a_cyclic_inhibit_time_is_none : beside gatherer (record (inhibited 5 joiner) { trigger = 0x01 }) ≡ gathered ∷ joined ∷ []
unfolding computing
a_cyclic_inhibit_time_is_none = refl

the_interval_before_the_trigger : beside gatherer (record joiner { trigger = 0x11; t_o_rpi = 20000 }) ≡ not_beside joiner 0x0111
unfolding computing
the_interval_before_the_trigger = refl

the_trigger_before_the_inhibit_time : beside (inhibited 5 gatherer) joiner ≡ not_beside joiner 0x0103
unfolding computing
the_trigger_before_the_inhibit_time = refl

-- the O->T interval is each connection's own
another_consumed_interval :
    beside gatherer (record joiner { o_t_rpi = 20000 })
    ≡ gathered ∷ replies other (hex "D4 00 00 00 03 00 00 10 02 00 00 10 07 00 34 12 78 56 34 12 20 4E 00 00 10 27 00 00 00 00") (Opened (own 7) (record { 0 = 0x10000003 }) ∷ []) ∷ []
unfolding computing
another_consumed_interval = refl

-- a point to point connection joins none
point_to_point_beside :
    beside gatherer (record (consumer 7) { t_o_rpi = 9000; trigger = 0x11 })
    ≡ gathered ∷ replies other (hex "D4 00 00 00 03 00 00 10 02 00 00 20 07 00 34 12 78 56 34 12 10 27 00 00 28 23 00 00 00 00") (Opened (own 7) (record { 0 = 0x10000003 }) ∷ []) ∷ []
unfolding computing
point_to_point_beside = refl

-- ---- two inputs

-- the second input, multicast
abbrev second_gatherer : OpeningRequest
second_gatherer = record gatherer { serial = 9; t_o_params = 0x2804; path = hex "20 04 24 97 2C 98 2C 6E" }

each_input_has_its_group :
    said double (opens gatherer ∷ joins second_gatherer ∷ Tick 1 ∷ [])
    ≡ gathered ∷ accepts other second_gatherer 3 0x10000004
    ∷ emits (outgoing group (peer ∷ []) (datagram 0x10000002 1 1 (hex "00 00 00 00"))
    ∷ outgoing (record { 0 = 0xEFC00221 }) (other ∷ []) (datagram 0x10000004 1 1 (hex "00 00")) ∷ []) []
    ∷ []
unfolding computing
each_input_has_its_group = refl

-- a listener of one input has no support by the other's group
no_support_by_another_input :
    said double (opens second_gatherer ∷ listens ∷ [])
    ≡ accepts peer second_gatherer 1 0x10000002 ∷ refuses other listener 0x0119 ∷ []
unfolding computing
no_support_by_another_input = refl

-- ---- lost connections

-- the next connection begins a group of its own, with an id of its own
a_lost_connection_is_not_joined :
    outcomes_of (after common (opens gatherer ∷ Tick 10000 ∷ [])) (joins joiner ∷ Tick 1 ∷ [])
    ≡ accepts other joiner 3 0x10000004 ∷ emits (outgoing group (other ∷ []) (datagram 0x10000004 1 1 (hex "00 00 00 00")) ∷ []) [] ∷ []
unfolding computing
a_lost_connection_is_not_joined = refl
