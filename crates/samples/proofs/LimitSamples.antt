-- Samples of the limits that a maker states, from bytes to bytes.
use Rattle.std.proofs.Common.{◌≡◌, refl, ℕ, true, List, [], ◌∷◌, map, Some, None}
use Rattle.cip_events.specs.declared.event.Delivery.TheVariants.{Applied, Old}
use Rattle.cip_events.specs.declared.event.Event.{Event}
use Rattle.cip_events.specs.declared.event.Event.TheVariants.{Request, Datagram, Read, Tick}
use Rattle.cip_events.specs.declared.event.Notice.TheVariants.{Expired}
use Rattle.cip_events.specs.Outcomes.{Outcome}
use Rattle.adapter_table.specs.declared.maker_limits.MakerLimits.{MakerLimits}
use Rattle.adapter_table.specs.declared.profile.Profile.{Profile}
use Rattle.adapter_table.specs.Profiles.{no_limits}
use Rattle.cip_tables.specs.Run.{outcomes_of}
use Rattle.samples.specs.Hex.{hex}
use Rattle.samples.specs.Devices.{common, peer, other, own}
use Rattle.samples.specs.Requests.{OpeningRequest, opening, owner, gatherer, consumer, closing}
use Rattle.samples.specs.Datagrams.{datagram, running}
use Rattle.samples.specs.Runs.{opens, closes, said, after, replies, delivers, holds, accepts, refuses, ends, notices_of}
use Rattle.samples.specs.Computing.{computing}

-- the common adapter with these limits
abbrev limited : MakerLimits → Profile
limited limits = record common { limits = limits }

-- ---- packet intervals

-- 10 ms is the least, and then 10,001 microseconds are
the_least_interval : said (limited (record no_limits { least_rpi = Some 10000 })) (opens owner ∷ []) ≡ accepts peer owner 1 0x20000001 ∷ []
unfolding computing
the_least_interval = refl

below_the_least : said (limited (record no_limits { least_rpi = Some 10001 })) (opens owner ∷ []) ≡ refuses peer owner 0x0111 ∷ []
unfolding computing
below_the_least = refl

-- ---- places, and connections of a node

-- one reader has a place, another has none, and the owner has its own
an_owner_has_its_place :
    said (limited (record no_limits { places = Some (record { owners = 1; readers = 1; listeners = 0; class3_connections = None }) })) (opens gatherer ∷ opens (consumer 7) ∷ opens owner ∷ [])
    ≡ accepts peer gatherer 1 0x10000002 ∷ refuses peer (consumer 7) 0x0113 ∷ accepts peer owner 3 0x20000001 ∷ []
unfolding computing
an_owner_has_its_place = refl

-- an owner of another node
abbrev second : OpeningRequest
second = record owner { serial = 9; originator = 0x12345679 }

one_connection_of_a_node :
    said (limited (record no_limits { node_connections = Some (record { connections = 1; openings = None }) })) (opens gatherer ∷ opens owner ∷ Request other (opening second) ∷ [])
    ≡ accepts peer gatherer 1 0x10000002 ∷ refuses peer owner 0x0113 ∷ accepts other second 3 0x20000001 ∷ []
unfolding computing
one_connection_of_a_node = refl

-- ---- closes

-- general status 0F, privilege violation, with the triad; the opener closes it afterwards
another_node_closes_nothing :
    said (limited (record no_limits { own_closers = true })) (opens owner ∷ Request other (closing 1 0x12345678) ∷ closes peer owner ∷ [])
    ≡ accepts peer owner 1 0x20000001 ∷ replies other (hex "CE 00 0F 00 01 00 34 12 78 56 34 12 00 00") [] ∷ ends peer owner [] ∷ []
unfolding computing
another_node_closes_nothing = refl

-- ---- numbers

-- numbers ahead of the newest one by less than 10 are accepted
abbrev near_ones : Profile
near_ones = limited (record no_limits { newer = Some 10 })

-- the owner's datagram with this number and count
abbrev runs : ℕ → ℕ → List ℕ → Event
runs number count bytes = Datagram peer (datagram 0x10000001 number count (running bytes))

abbrev next : List ℕ
next = hex "55 66 77 88"

-- the outcomes at the adapter after the owner's first datagram, number 1
abbrev then_said : List Event → List Outcome
then_said events = outcomes_of (after near_ones (opens owner ∷ runs 1 1 (hex "11 22 33 44") ∷ [])) events

a_number_far_ahead_is_old : then_said (runs 11 2 next ∷ Read 150 ∷ runs 10 2 next ∷ Read 150 ∷ []) ≡ delivers Old ∷ holds (hex "11 22 33 44") ∷ delivers Applied ∷ holds next ∷ []
unfolding computing
a_number_far_ahead_is_old = refl

-- 159 ms after number 1 the limit is 40: a jump by 40 does not begin the watchdog of 160 ms again
it_keeps_no_connection : map notices_of (then_said (Tick 159 ∷ runs 41 2 next ∷ Tick 1 ∷ [])) ≡ [] ∷ [] ∷ (Expired (own 1) ∷ []) ∷ []
unfolding computing
it_keeps_no_connection = refl

-- The limit of 10 grows by two for each packet interval of 10 ms: 100 ms after number 1 it is 30. So an owner whose datagrams
-- were lost for so long is heard again, and a jump by 30 is old.
abbrev later_said : List Event → List Outcome
later_said events = outcomes_of (after near_ones (opens owner ∷ runs 1 1 (hex "11 22 33 44") ∷ Tick 100 ∷ [])) events

a_burst_of_losses_locks_nobody_out : later_said (runs 31 2 next ∷ runs 30 2 next ∷ Read 150 ∷ []) ≡ delivers Old ∷ delivers Applied ∷ holds next ∷ []
unfolding computing
a_burst_of_losses_locks_nobody_out = refl
