-- Samples of ticks: the clock, the connections that time out, and the order of the effects.
use Rattle.std.proofs.Common.{◌≡◌, refl, List, [], ◌∷◌, map, Err}
use Rattle.cip_events.specs.declared.event.Event.{Event}
use Rattle.cip_events.specs.declared.event.Event.TheVariants.{Datagram, Request, Read, Tick}
use Rattle.cip_events.specs.declared.event.Delivery.TheVariants.{Applied, Old}
use Rattle.cip_events.specs.declared.event.Notice.{Notice}
use Rattle.cip_events.specs.declared.event.Notice.TheVariants.{Closed, Dropped, Expired, Opened, Replaced}
use Rattle.cip_events.specs.declared.event.StepFault.TheVariants.{ClockEnd, TickTooLong}
use Rattle.cip_productions.specs.Watchdog.{first_deadline}
use Rattle.cip_events.specs.Outcomes.{Outcome}
use Rattle.cip_tables.specs.Run.{outcomes_of}
use Rattle.samples.specs.Hex.{hex}
use Rattle.samples.specs.Devices.{common, peer, other, group, own, triad}
use Rattle.samples.specs.Requests.{OpeningRequest, opening, owner, gatherer, listener, consumer}
use Rattle.samples.specs.Datagrams.{datagram, running, outgoing, to_one}
use Rattle.samples.specs.Runs.{after, opens, closes, delivers, emits, holds, notices_of}
use Rattle.samples.specs.Rows.{at_clock}
use Rattle.samples.specs.Computing.{computing}

abbrev none : Outcome
none = emits [] []

-- the notices of the events
abbrev happens : List Event → List Event → List (List Notice)
happens before events = map notices_of (outcomes_of (after common before) events)

-- ---- the clock

the_longest_tick : outcomes_of (at_clock 0) (Tick 60000 ∷ Tick 60001 ∷ []) ≡ none ∷ Err TickTooLong ∷ []
unfolding computing
the_longest_tick = refl

-- 2^48 is 281,474,976,710,656
the_clock_s_end :
    outcomes_of (at_clock 281474976710654) (Tick 3 ∷ Tick 1 ∷ Tick 2 ∷ Tick 1 ∷ Tick 0 ∷ Tick 1 ∷ Tick 60001 ∷ [])
    ≡ Err ClockEnd ∷ none ∷ Err ClockEnd ∷ none ∷ none ∷ Err ClockEnd ∷ Err TickTooLong ∷ []
unfolding computing
the_clock_s_end = refl

too_long_a_tick_moves_nothing :
    outcomes_of (after common (opens owner ∷ Tick 9990 ∷ [])) (Tick 60001 ∷ Tick 9 ∷ [])
    ≡ Err TickTooLong ∷ none ∷ []
unfolding computing
too_long_a_tick_moves_nothing = refl

-- ---- the first deadline

at_least_ten_seconds : first_deadline (record { 0 = 5 }) 160 ≡ record { 0 = 10005 }
at_least_ten_seconds = refl

ten_seconds : first_deadline (record { 0 = 5 }) 10000 ≡ record { 0 = 10005 }
ten_seconds = refl

a_longer_time_out : first_deadline (record { 0 = 5 }) 10240 ≡ record { 0 = 10245 }
a_longer_time_out = refl

-- the last datagram is sent 10 ms before the deadline, and none at it
an_owner_that_sends_nothing :
    outcomes_of (after common (opens owner ∷ [])) (Tick 9990 ∷ Tick 9 ∷ Tick 1 ∷ [])
    ≡ emits (to_one peer (datagram 0x20000001 1 1 (hex "00 00 00 00")) ∷ []) [] ∷ none ∷ emits [] (Expired (own 1) ∷ []) ∷ []
unfolding computing
an_owner_that_sends_nothing = refl

-- 512 times 20 ms
abbrev patient : OpeningRequest
patient = record (consumer 2) { multiplier = 7; o_t_rpi = 20000 }

one_that_waits_longer_than_ten_seconds : happens (opens patient ∷ []) (Tick 10239 ∷ Tick 1 ∷ []) ≡ [] ∷ (Expired (own 2) ∷ []) ∷ []
unfolding computing
one_that_waits_longer_than_ten_seconds = refl

-- the O->T interval makes the time-out, not the T->O one
abbrev slow_consumer : OpeningRequest
slow_consumer = record (consumer 2) { multiplier = 7; t_o_rpi = 20000 }

the_consumed_interval_makes_the_time_out : happens (opens slow_consumer ∷ []) (Tick 9999 ∷ Tick 1 ∷ []) ≡ [] ∷ (Expired (own 2) ∷ []) ∷ []
unfolding computing
the_consumed_interval_makes_the_time_out = refl

-- ---- later deadlines

abbrev first : Event
first = Datagram peer (datagram 0x10000001 1 1 (running (hex "11 22 33 44")))

an_old_datagram_does_not_move_the_deadline :
    outcomes_of (after common (opens owner ∷ Tick 1 ∷ [])) (first ∷ Tick 159 ∷ first ∷ Tick 1 ∷ Read 150 ∷ [])
    ≡ delivers Applied ∷ emits (to_one peer (datagram 0x20000001 2 1 (hex "00 00 00 00")) ∷ []) [] ∷ delivers Old
    ∷ emits [] (Expired (own 1) ∷ []) ∷ holds (hex "00 00 00 00") ∷ []
unfolding computing
an_old_datagram_does_not_move_the_deadline = refl

-- a time-out above ten seconds is also that of a later deadline
a_long_time_out_is_every_deadline_s :
    happens (opens patient ∷ Tick 100 ∷ Datagram peer (datagram 0x10000001 1 1 []) ∷ []) (Tick 10239 ∷ Tick 1 ∷ []) ≡ [] ∷ (Expired (own 2) ∷ []) ∷ []
unfolding computing
a_long_time_out_is_every_deadline_s = refl

-- ---- the order of a tick

-- the patient one was opened first
by_deadline : happens (opens patient ∷ opens owner ∷ []) (Tick 10240 ∷ []) ≡ (Expired (own 1) ∷ Expired (own 2) ∷ []) ∷ []
unfolding computing
by_deadline = refl

and_then_in_opening_order :
    happens (opens (consumer 9) ∷ opens owner ∷ opens (consumer 3) ∷ []) (Tick 10000 ∷ [])
    ≡ (Expired (own 9) ∷ Expired (own 1) ∷ Expired (own 3) ∷ []) ∷ []
unfolding computing
and_then_in_opening_order = refl

-- a listener that waits longer than its supporter
abbrev listens : Event
listens = Request other (opening (record listener { multiplier = 7; o_t_rpi = 20000 }))

a_listener_without_support_is_dropped_before_it_gets_a_datagram :
    outcomes_of (after common (opens gatherer ∷ listens ∷ Tick 9995 ∷ [])) (Tick 5 ∷ Tick 240 ∷ [])
    ≡ emits [] (Expired (own 5) ∷ Dropped (triad 6 0x12345679) ∷ []) ∷ none ∷ []
unfolding computing
a_listener_without_support_is_dropped_before_it_gets_a_datagram = refl

-- one that times out with its supporter is not dropped
expired_listeners_are_not_dropped :
    happens (opens gatherer ∷ Request other (opening listener) ∷ []) (Tick 10000 ∷ []) ≡ (Expired (own 5) ∷ Expired (triad 6 0x12345679) ∷ []) ∷ []
unfolding computing
expired_listeners_are_not_dropped = refl

-- a group goes on without the connection that timed out, and for the others alone
abbrev joins : Event
joins = Request other (opening (record gatherer { serial = 7; multiplier = 7; o_t_rpi = 20000 }))

the_group_goes_on :
    outcomes_of (after common (opens gatherer ∷ joins ∷ Tick 9990 ∷ [])) (Tick 10 ∷ [])
    ≡ emits (outgoing group (other ∷ []) (datagram 0x10000002 2 1 (hex "00 00 00 00")) ∷ []) (Expired (own 5) ∷ []) ∷ []
unfolding computing
the_group_goes_on = refl

-- a lost connection expires once, stays, and can be closed
a_lost_connection_can_be_closed :
    happens (opens (consumer 2) ∷ Tick 10000 ∷ []) (Tick 60000 ∷ closes other (consumer 2) ∷ closes other (consumer 2) ∷ [])
    ≡ [] ∷ (Closed (own 2) ∷ []) ∷ [] ∷ []
unfolding computing
a_lost_connection_can_be_closed = refl

-- and its triad can be opened again
a_lost_triad_is_free :
    happens (opens (consumer 2) ∷ Tick 10000 ∷ []) (opens (consumer 2) ∷ [])
    ≡ (Replaced (own 2) ∷ Opened (own 2) (record { 0 = 0x10000002 }) ∷ []) ∷ []
unfolding computing
a_lost_triad_is_free = refl
