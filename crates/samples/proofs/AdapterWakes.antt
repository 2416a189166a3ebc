-- Samples of wakes: in how many milliseconds something is due at an adapter, and that it happens then and not before.
use Rattle.std.proofs.Common.{◌≡◌, refl, ℕ, List, [], ◌∷◌}
use Rattle.cip_events.specs.declared.event.Event.{Event}
use Rattle.cip_events.specs.declared.event.Event.TheVariants.{Datagram, Tick, Write}
use Rattle.cip_events.specs.declared.event.Notice.TheVariants.{Expired}
use Rattle.messaging.specs.declared.requests.Requester.TheVariants.{Peer}
use Rattle.messaging.specs.declared.requests.Waiting.{Waiting}
use Rattle.messaging.specs.Times.{first_moment}
use Rattle.adapter_table.specs.Connections.{Row}
use Rattle.adapter_table.specs.declared.row.State.TheVariants.{Established}
use Rattle.adapter_table.specs.Step.{adapter_table}
use Rattle.cip_tables.specs.declared.table.DeviceTable.TheVariants.{Adapter}
use Rattle.cip_tables.specs.Run.{outcomes_of}
use Rattle.cip_tables.specs.Wakes.{due_in}
use Rattle.samples.specs.Hex.{hex}
use Rattle.samples.specs.Devices.{common, fresh, peer, own}
use Rattle.samples.specs.Requests.{OpeningRequest, owner, inhibited}
use Rattle.samples.specs.Datagrams.{datagram, running, to_one}
use Rattle.samples.specs.Runs.{after, opens, emits}
use Rattle.samples.specs.Rows.{at_clock, connection_in, production, lost, connected}
use Rattle.samples.specs.Computing.{computing}

-- ---- one moment: a connection with this deadline, whose producer is due at this time, at clock 3

abbrev timed : ℕ → ℕ → Row
timed deadline due = record (connection_in 1 (Established (record (production 1) { due = record { 0 = due } }))) { deadline = record { 0 = deadline } }

-- in how many milliseconds something is due at these connections
abbrev wake : List Row → ℕ
wake rows = due_in (connected rows)

its_deadline : wake (timed 20 25 ∷ []) ≡ 17
unfolding first_moment
its_deadline = refl

its_production : wake (timed 25 20 ∷ []) ≡ 17
unfolding first_moment
its_production = refl

the_first_of_all : wake (timed 100 90 ∷ timed 80 95 ∷ timed 85 99 ∷ []) ≡ 77
unfolding first_moment
the_first_of_all = refl

due_now : wake (timed 100 3 ∷ []) ≡ 0
unfolding first_moment
due_now = refl

due_before : wake (timed 2 100 ∷ []) ≡ 0
unfolding first_moment
due_before = refl

-- a timed-out connection has no time
a_lost_connection : wake (record (lost 1) { deadline = record { 0 = 10 } } ∷ []) ≡ 60000
unfolding first_moment
a_lost_connection = refl

a_lost_one_and_a_living_one : wake (record (lost 1) { deadline = record { 0 = 10 } } ∷ timed 50 40 ∷ []) ≡ 37
unfolding first_moment
a_lost_one_and_a_living_one = refl

-- the longest tick is the longest wait
nearly_the_longest : wake (timed 60002 70000 ∷ []) ≡ 59999
unfolding first_moment
nearly_the_longest = refl

just_the_longest : wake (timed 60003 70000 ∷ []) ≡ 60000
unfolding first_moment
just_the_longest = refl

far_away : wake (timed 70000 80000 ∷ []) ≡ 60000
unfolding first_moment
far_away = refl

without_connections : due_in (fresh common) ≡ 60000
unfolding first_moment
without_connections = refl

at_the_clock_s_end : due_in (at_clock 281474976710656) ≡ 60000
unfolding first_moment
at_the_clock_s_end = refl

-- a request that waits for the application until this time, at clock 3 and without connections
abbrev waits : ℕ → Waiting
waits deadline = record { number = 1; peer = peer; asker = Peer peer; service = 0x0E; deadline = record { 0 = deadline } }

its_request : due_in (Adapter (record (adapter_table common) { messaging = record { class3_connections = []; waiting = waits 20 ∷ []; next_number = 2 }; clock = record { 0 = 3 } })) ≡ 17
unfolding first_moment
its_request = refl

-- ---- over events

-- the first production is due at once
a_new_connection : due_in (after common (opens owner ∷ [])) ≡ 0
unfolding computing
a_new_connection = refl

abbrev begun : List Event
begun = opens owner ∷ Tick 1 ∷ []

-- the next one 10 ms after it was due, so in 9
the_next_production : due_in (after common begun) ≡ 9
unfolding computing
the_next_production = refl

-- a millisecond before, nothing happens
it_happens_then : outcomes_of (after common begun) (Tick 8 ∷ Tick 1 ∷ []) ≡ emits [] [] ∷ emits (to_one peer (datagram 0x20000001 2 1 (hex "00 00 00 00")) ∷ []) [] ∷ []
unfolding computing
it_happens_then = refl

-- an owner to which the adapter sends each 10 s
abbrev seldom : OpeningRequest
seldom = record owner { t_o_rpi = 10000000 }

-- its datagram of this number
abbrev numbered : ℕ → Event
numbered number = Datagram peer (datagram 0x10000001 number number (running (hex "11 22 33 44")))

-- ten seconds to its first datagram
before_data : due_in (after common (opens seldom ∷ Tick 1 ∷ [])) ≡ 9999
unfolding computing
before_data = refl

-- and 16 times 10 ms from each
each_datagram_moves_the_time : due_in (after common (opens seldom ∷ Tick 1 ∷ numbered 1 ∷ [])) ≡ 160
unfolding computing
each_datagram_moves_the_time = refl

time_goes_by : due_in (after common (opens seldom ∷ Tick 1 ∷ numbered 1 ∷ Tick 10 ∷ [])) ≡ 150
unfolding computing
time_goes_by = refl

the_next_datagram_moves_it_too : due_in (after common (opens seldom ∷ Tick 1 ∷ numbered 1 ∷ Tick 10 ∷ numbered 2 ∷ [])) ≡ 160
unfolding computing
the_next_datagram_moves_it_too = refl

it_times_out_then : outcomes_of (after common (opens seldom ∷ Tick 1 ∷ numbered 1 ∷ Tick 10 ∷ numbered 2 ∷ [])) (Tick 159 ∷ Tick 1 ∷ []) ≡ emits [] [] ∷ emits [] (Expired (own 1) ∷ []) ∷ []
unfolding computing
it_times_out_then = refl

-- once it has timed out, nothing is due
after_the_time_out : due_in (after common (opens seldom ∷ Tick 1 ∷ numbered 1 ∷ Tick 160 ∷ [])) ≡ 60000
unfolding computing
after_the_time_out = refl

-- a change of state within the inhibit time of 5 ms is sent at its end, at 6, and not at 11
a_write_shortens_the_time : due_in (after common (opens (inhibited 5 owner) ∷ Tick 1 ∷ Tick 1 ∷ Write 100 (hex "01 02 03 04") ∷ [])) ≡ 4
unfolding computing
a_write_shortens_the_time = refl
