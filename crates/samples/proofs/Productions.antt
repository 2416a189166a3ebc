-- Samples of sent datagrams: their times, their order, their numbers and counts.
use Rattle.std.proofs.Common.{◌≡◌, refl, ℕ, false, List, [], ◌∷◌, Some, Err}
use Rattle.cip_netparams.specs.declared.Trigger.TheVariants.{ChangeOfState}
use Rattle.cip_events.specs.declared.event.Event.{Event}
use Rattle.cip_events.specs.declared.event.Event.TheVariants.{Request, Read, Tick, Write}
use Rattle.cip_events.specs.declared.event.OutgoingDatagram.{OutgoingDatagram}
use Rattle.cip_events.specs.declared.event.StepFault.TheVariants.{NoSuchPoint, WrongLength}
use Rattle.cip_productions.specs.declared.production.Production.{Production}
use Rattle.adapter_table.specs.declared.row.State.TheVariants.{Established}
use Rattle.cip_events.specs.Outcomes.{Outcome}
use Rattle.cip_tables.specs.Run.{outcomes_of, table_after}
use Rattle.samples.specs.Hex.{hex}
use Rattle.samples.specs.Devices.{common, double, peer, other, group}
use Rattle.samples.specs.Requests.{opening, owner, gatherer, consumer, inhibited}
use Rattle.samples.specs.Datagrams.{datagram, outgoing, to_one}
use Rattle.samples.specs.Runs.{after, opens, closes, emits, holds}
use Rattle.samples.specs.Rows.{connection_in, production, producing, connected_at}
use Rattle.samples.specs.Computing.{computing}

abbrev zeros : List ℕ
zeros = hex "00 00 00 00"

abbrev first : List ℕ
first = hex "05 06 07 08"

abbrev second : List ℕ
second = hex "09 0A 0B 0C"

-- the owner's producer sends a datagram with this number, this count and these data
abbrev sends : ℕ → ℕ → List ℕ → OutgoingDatagram
sends number count bytes = to_one peer (datagram 0x20000001 number count bytes)

abbrev one : ℕ → ℕ → List ℕ → Outcome
one number count bytes = emits (sends number count bytes ∷ []) []

abbrev none : Outcome
none = emits [] []

-- ---- cyclic

-- the outcomes beside the owner
abbrev owned : List Event → List Outcome
owned events = outcomes_of (after common (opens owner ∷ [])) events

the_first_is_due_at_once : owned (Tick 0 ∷ []) ≡ one 1 1 zeros ∷ []
unfolding computing
the_first_is_due_at_once = refl

the_first_and_the_next :
    owned (Tick 1 ∷ Write 100 first ∷ Tick 8 ∷ Tick 1 ∷ [])
    ≡ emits (to_one peer (hex "02 00 02 80 08 00 01 00 00 20 01 00 00 00 B1 00 06 00 01 00 00 00 00 00") ∷ []) []
    ∷ none ∷ none
    ∷ emits (to_one peer (hex "02 00 02 80 08 00 01 00 00 20 02 00 00 00 B1 00 06 00 02 00 05 06 07 08") ∷ []) [] ∷ []
unfolding computing
the_first_and_the_next = refl

the_count_rises_with_new_data_alone :
    owned (Tick 1 ∷ Tick 9 ∷ Tick 10 ∷ Write 100 first ∷ Write 100 second ∷ Tick 10 ∷ Tick 10 ∷ [])
    ≡ one 1 1 zeros ∷ one 2 1 zeros ∷ one 3 1 zeros ∷ none ∷ none ∷ one 4 2 second ∷ one 5 2 second ∷ []
unfolding computing
the_count_rises_with_new_data_alone = refl

equal_bytes_are_new_data : owned (Tick 1 ∷ Write 100 zeros ∷ Tick 9 ∷ Tick 10 ∷ []) ≡ one 1 1 zeros ∷ none ∷ one 2 2 zeros ∷ one 3 2 zeros ∷ []
unfolding computing
equal_bytes_are_new_data = refl

the_pace_is_kept : owned (Tick 3 ∷ Tick 6 ∷ Tick 1 ∷ Tick 9 ∷ Tick 1 ∷ []) ≡ one 1 1 zeros ∷ none ∷ one 2 1 zeros ∷ none ∷ one 3 1 zeros ∷ []
unfolding computing
the_pace_is_kept = refl

-- late by a whole interval: due again an interval from now
late_by_an_interval : owned (Tick 10 ∷ Tick 9 ∷ Tick 1 ∷ []) ≡ one 1 1 zeros ∷ none ∷ one 2 1 zeros ∷ []
unfolding computing
late_by_an_interval = refl

late_by_more : owned (Tick 9990 ∷ Tick 9 ∷ []) ≡ one 1 1 zeros ∷ none ∷ []
unfolding computing
late_by_more = refl

late_by_almost_two_intervals : owned (Tick 19 ∷ Tick 9 ∷ Tick 1 ∷ Tick 9 ∷ []) ≡ one 1 1 zeros ∷ none ∷ one 2 1 zeros ∷ none ∷ []
unfolding computing
late_by_almost_two_intervals = refl

-- a datagram has the bytes that the input has when it is sent
a_write_makes_no_cyclic_datagram : owned (Write 100 first ∷ Tick 0 ∷ []) ≡ none ∷ one 1 1 first ∷ []
unfolding computing
a_write_makes_no_cyclic_datagram = refl

-- ---- numbers and counts at their ends

abbrev at_the_end : Production
at_the_end = record (production 1) { sequence = 0xFFFFFFFF; count = 0xFFFF }

abbrev consumed : ℕ → ℕ → List ℕ → Outcome
consumed number count bytes = emits (to_one peer (datagram 0x20000002 number count bytes) ∷ []) []

number_and_count_begin_again :
    outcomes_of (producing at_the_end) (Tick 1 ∷ Write 100 first ∷ Tick 10 ∷ [])
    ≡ consumed 0xFFFFFFFF 0 zeros ∷ none ∷ consumed 0 1 first ∷ []
unfolding computing
number_and_count_begin_again = refl

-- also in the table, while it has space for more
abbrev begun_again : Production
begun_again = record (production 1) { sequence = 0; count = 0; written = false; due = record { 0 = 10 }; last = Some (record { 0 = 4 }) }

in_the_table_too :
    table_after (producing at_the_end) (Tick 1 ∷ []) ≡ connected_at 4 (connection_in 1 (Established begun_again) ∷ [])
unfolding computing
in_the_table_too = refl

the_greatest_count_stays_without_new_data :
    outcomes_of (producing (record at_the_end { written = false })) (Tick 1 ∷ Tick 10 ∷ []) ≡ consumed 0xFFFFFFFF 0xFFFF zeros ∷ consumed 0 0xFFFF zeros ∷ []
unfolding computing
the_greatest_count_stays_without_new_data = refl

-- ---- two producers at once

abbrev to_second : ℕ → ℕ → List ℕ → OutgoingDatagram
to_second number count bytes = to_one other (datagram 0x20000002 number count bytes)

-- the other originator's, every 5 ms
abbrev quick : Event
quick = Request other (opening (record (consumer 2) { t_o_rpi = 5000 }))

by_when_they_are_due :
    outcomes_of (after common (opens owner ∷ quick ∷ [])) (Tick 1 ∷ Tick 9 ∷ [])
    ≡ emits (sends 1 1 zeros ∷ to_second 1 1 zeros ∷ []) [] ∷ emits (to_second 2 1 zeros ∷ sends 2 1 zeros ∷ []) [] ∷ []
unfolding computing
by_when_they_are_due = refl

-- the joiner of the first producer was opened after the second
abbrev joiner : Event
joiner = Request other (opening (record gatherer { serial = 7 }))

and_then_by_the_producer_s_number :
    outcomes_of (after common (opens gatherer ∷ opens owner ∷ joiner ∷ closes peer gatherer ∷ [])) (Tick 1 ∷ [])
    ≡ emits (outgoing group (other ∷ []) (datagram 0x10000002 1 1 zeros) ∷ sends 1 1 zeros ∷ []) [] ∷ []
unfolding computing
and_then_by_the_producer_s_number = refl

-- ---- change of state

abbrev changing : ℕ → List Event → List Outcome
changing ms events = outcomes_of (after common (opens (inhibited ms owner) ∷ [])) events

changes_are_held_back :
    changing 5 (Write 100 first ∷ Write 100 second ∷ Tick 4 ∷ Tick 1 ∷ Tick 9 ∷ Tick 1 ∷ [])
    ≡ emits (to_one peer (hex "02 00 02 80 08 00 01 00 00 20 01 00 00 00 B1 00 06 00 01 00 05 06 07 08") ∷ []) []
    ∷ none ∷ none
    ∷ emits (to_one peer (hex "02 00 02 80 08 00 01 00 00 20 02 00 00 00 B1 00 06 00 02 00 09 0A 0B 0C") ∷ []) []
    ∷ none ∷ one 3 2 second ∷ []
unfolding computing
changes_are_held_back = refl

without_an_inhibit_time_none_is :
    changing 0 (Write 100 first ∷ Write 100 second ∷ Tick 9 ∷ Tick 1 ∷ [])
    ≡ one 1 1 first ∷ one 2 2 second ∷ none ∷ one 3 2 second ∷ []
unfolding computing
without_an_inhibit_time_none_is = refl

free_again_at_the_inhibit_time : changing 5 (Write 100 first ∷ Tick 4 ∷ Tick 1 ∷ Write 100 second ∷ []) ≡ one 1 1 first ∷ none ∷ none ∷ one 2 2 second ∷ []
unfolding computing
free_again_at_the_inhibit_time = refl

equal_bytes_are_a_change : changing 5 (Write 100 zeros ∷ Tick 5 ∷ Write 100 zeros ∷ []) ≡ one 1 1 zeros ∷ none ∷ one 2 2 zeros ∷ []
unfolding computing
equal_bytes_are_a_change = refl

-- due an interval after each production, at a write or at a tick, and not after the old due time
a_tick_s_production_begins_the_interval : changing 0 (Tick 3 ∷ Tick 9 ∷ Tick 1 ∷ []) ≡ one 1 1 zeros ∷ none ∷ one 2 1 zeros ∷ []
unfolding computing
a_tick_s_production_begins_the_interval = refl

a_write_s_production_begins_it_too :
    changing 0 (Tick 0 ∷ Tick 7 ∷ Write 100 first ∷ Tick 9 ∷ Tick 1 ∷ [])
    ≡ one 1 1 zeros ∷ none ∷ one 2 2 first ∷ none ∷ one 3 2 first ∷ []
unfolding computing
a_write_s_production_begins_it_too = refl

-- it has produced at 0 and may again at 8, and is due at 5
abbrev due_sooner : Production
due_sooner = record (production 1) { trigger = ChangeOfState; inhibit = 8; written = false; due = record { 0 = 5 }; last = Some (record { 0 = 0 }) }

a_held_one_that_is_due_sooner :
    outcomes_of (producing due_sooner) (Write 100 first ∷ Tick 1 ∷ Tick 1 ∷ [])
    ≡ none ∷ none ∷ consumed 1 1 first ∷ []
unfolding computing
a_held_one_that_is_due_sooner = refl

-- it is due at 10
a_held_one_that_is_due_later :
    outcomes_of (producing (record due_sooner { due = record { 0 = 10 } })) (Write 100 first ∷ Tick 4 ∷ Tick 1 ∷ [])
    ≡ none ∷ none ∷ consumed 1 1 first ∷ []
unfolding computing
a_held_one_that_is_due_later = refl

-- at a write producers go by their numbers, also where another is due sooner
abbrev both_changing : List Event
both_changing = opens (inhibited 0 owner) ∷ Request other (opening (inhibited 0 (record (consumer 2) { t_o_rpi = 5000 }))) ∷ Write 100 first ∷ Tick 1 ∷ []

at_a_write_by_their_numbers :
    outcomes_of (after common both_changing) (Write 100 second ∷ []) ≡ emits (sends 2 2 second ∷ to_second 2 2 second ∷ []) [] ∷ []
unfolding computing
at_a_write_by_their_numbers = refl

-- also where the joiner of the first was opened after the second
abbrev shared_changing : List Event
shared_changing = opens (inhibited 0 gatherer) ∷ opens (inhibited 0 owner) ∷ Request other (opening (inhibited 0 (record gatherer { serial = 7 }))) ∷ closes peer gatherer ∷ []

and_not_in_opening_order :
    outcomes_of (after common shared_changing) (Write 100 first ∷ [])
    ≡ emits (outgoing group (other ∷ []) (datagram 0x10000002 1 1 first) ∷ sends 1 1 first ∷ []) [] ∷ []
unfolding computing
and_not_in_opening_order = refl

-- a write of one input makes no producer of another produce
abbrev of_both_inputs : List Event
of_both_inputs = opens (inhibited 0 owner) ∷ Request other (opening (inhibited 0 (record (consumer 2) { t_o_params = 0x4804; path = hex "20 04 24 97 2C 98 2C 6E" }))) ∷ []

each_input_has_its_producers :
    outcomes_of (after double of_both_inputs) (Write 110 (hex "AA BB") ∷ Tick 1 ∷ Read 100 ∷ Read 110 ∷ [])
    ≡ emits (to_second 1 1 (hex "AA BB") ∷ []) [] ∷ one 1 1 zeros ∷ holds zeros ∷ holds (hex "AA BB") ∷ []
unfolding computing
each_input_has_its_producers = refl

-- ---- writes and reads

a_write_is_of_an_input :
    owned (Write 150 first ∷ Write 151 [] ∷ Write 152 [] ∷ Write 70 first ∷ Write 100 (hex "05 06 07") ∷ Write 100 (hex "05 06 07 08 09") ∷ Write 70 [] ∷ Read 100 ∷ Write 100 first ∷ Read 100 ∷ [])
    ≡ Err NoSuchPoint ∷ Err NoSuchPoint ∷ Err NoSuchPoint ∷ Err NoSuchPoint ∷ Err WrongLength ∷ Err WrongLength ∷ Err NoSuchPoint ∷ holds zeros ∷ none ∷ holds first ∷ []
unfolding computing
a_write_is_of_an_input = refl

a_read_is_of_a_point_with_data :
    owned (Read 150 ∷ Read 100 ∷ Read 151 ∷ Read 152 ∷ Read 153 ∷ Read 70 ∷ [])
    ≡ holds zeros ∷ holds zeros ∷ holds [] ∷ Err NoSuchPoint ∷ Err NoSuchPoint ∷ Err NoSuchPoint ∷ []
unfolding computing
a_read_is_of_a_point_with_data = refl
