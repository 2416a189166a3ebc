-- Each law of connection ids refuses a chronicle that was bent against it.
use Rattle.std.proofs.Common.{◌≡◌, ◌+◌, Bool, true, false, List, [], ◌∷◌, map, Some, refl}
use Rattle.cip_tables.specs.declared.table.DeviceTable.{DeviceTable}
use Rattle.cip_tables.specs.declared.table.DeviceTable.TheVariants.{Adapter, Scanner}
use Rattle.segment_world.specs.World.{World}
use Rattle.device_laws.specs.Productions.{end_at, Production}
use Rattle.device_laws.specs.Requests.{asks_id}
use Rattle.schedule_laws.specs.Chronicle.{Acceptance, Chronicle, Opened}
use Rattle.schedule_laws.specs.MadeOnce.{IdsAreUsedOnce, OneConnectionHasIt, uses, waiting_count}
use Rattle.schedule_laws.specs.Names.{IdsNameOpenings, OneOpeningHasTheId, OneOpeningIsAccepted}
use Rattle.schedule_laws.specs.Producers.{OneProducerHasTheId, OneProducerSends}
use Rattle.samples.specs.Playing.{playing}
use Rattle.samples.specs.Schedules.{observed, owned, played, shared}
use Rattle.samples.specs.Stories.{gathered, joined, twice_written}
use Rattle.samples.specs.NameTests.{accept_one_opening, adapters_produce_by_entries, are_entries, has_entries, one_has_it, one_makes, one_sends, one_slot_makes, scanners_produce_by_entries, slots_accept_by_entries, unused_before, used_once, were_produced}
use Rattle.samples.proofs.NameTesting.{accepts_by_entries, adapters_produce_passes, are_entries_passes, entries_pass, one_has_it_passes, one_makes_passes, one_opening_passes, one_sends_passes, one_slot_passes, scanners_produce_passes, unused_passes, used_once_passes, were_produced_passes}
use Rattle.samples.proofs.Passing.{LawAt, refuses}

-- ---- as they were played

abbrev all_named : Chronicle → List Bool
all_named c =
    accept_one_opening c ∷ slots_accept_by_entries c ∷ were_produced c ∷ scanners_produce_by_entries c ∷ adapters_produce_by_entries c ∷ has_entries 0 c
    ∷ has_entries 1 c ∷ are_entries c ∷ one_makes c ∷ one_slot_makes c ∷ one_sends c ∷ one_has_it 1 c ∷ []

abbrev twelve : List Bool
twelve = true ∷ true ∷ true ∷ true ∷ true ∷ true ∷ true ∷ true ∷ true ∷ true ∷ true ∷ true ∷ []

writes_are_named : observed all_named (played owned twice_written) ≡ Some twelve
unfolding playing
writes_are_named = refl

gathering_is_named : observed all_named (played owned gathered) ≡ Some twelve
unfolding playing
gathering_is_named = refl

joining_is_named : observed all_named (played shared joined) ≡ Some twelve
unfolding playing
joining_is_named = refl

-- ---- what was accepted

abbrev with_other_id : Production → Production
with_other_id p = record p { made = record p.made { datagram = record p.made.datagram { connection = p.made.datagram.connection + 1 } } }

abbrev renamed : Acceptance → Acceptance
renamed a = record a { production = with_other_id a.production }

-- what was accepted has the id of another connection
abbrev accepted_by_another_id : Chronicle → Chronicle
accepted_by_another_id c = record c { accepted = map renamed c.accepted }

at_adapter_fails : observed (λ c. accept_one_opening (accepted_by_another_id c)) (played owned twice_written) ≡ Some false
unfolding playing
at_adapter_fails = refl

another_id_at_an_adapter_is_refused : LawAt OneOpeningIsAccepted accepted_by_another_id (played owned twice_written) → ⊥
another_id_at_an_adapter_is_refused law = refuses OneOpeningIsAccepted accept_one_opening one_opening_passes accepted_by_another_id (played owned twice_written) at_adapter_fails law

at_slot_fails : observed (λ c. slots_accept_by_entries (accepted_by_another_id c)) (played owned gathered) ≡ Some false
unfolding playing
at_slot_fails = refl

another_id_at_a_slot_is_refused : LawAt IdsNameOpenings accepted_by_another_id (played owned gathered) → ⊥
another_id_at_a_slot_is_refused law = refuses IdsNameOpenings slots_accept_by_entries accepts_by_entries accepted_by_another_id (played owned gathered) at_slot_fails law

-- nothing was produced
abbrev unmade : Chronicle → Chronicle
unmade c = record c { produced = [] }

unmade_fails : observed (λ c. were_produced (unmade c)) (played owned twice_written) ≡ Some false
unfolding playing
unmade_fails = refl

what_nobody_produced_is_refused : LawAt IdsNameOpenings unmade (played owned twice_written) → ⊥
what_nobody_produced_is_refused law = refuses IdsNameOpenings were_produced were_produced_passes unmade (played owned twice_written) unmade_fails law

-- ---- what was produced

-- each production has the id of another connection
abbrev produced_by_another_id : Chronicle → Chronicle
produced_by_another_id c = record c { produced = map with_other_id c.produced }

by_scanner_fails : observed (λ c. scanners_produce_by_entries (produced_by_another_id c)) (played owned twice_written) ≡ Some false
unfolding playing
by_scanner_fails = refl

another_id_of_a_scanner_is_refused : LawAt IdsNameOpenings produced_by_another_id (played owned twice_written) → ⊥
another_id_of_a_scanner_is_refused law = refuses IdsNameOpenings scanners_produce_by_entries scanners_produce_passes produced_by_another_id (played owned twice_written) by_scanner_fails law

by_adapter_fails : observed (λ c. adapters_produce_by_entries (produced_by_another_id c)) (played owned gathered) ≡ Some false
unfolding playing
by_adapter_fails = refl

another_id_of_an_adapter_is_refused : LawAt IdsNameOpenings produced_by_another_id (played owned gathered) → ⊥
another_id_of_an_adapter_is_refused law = refuses IdsNameOpenings adapters_produce_by_entries adapters_produce_passes produced_by_another_id (played owned gathered) by_adapter_fails law

-- a datagram holds other data than the input held
abbrev with_other_data : Production → Production
with_other_data p = record p { made = record p.made { value = 6 ∷ 6 ∷ 6 ∷ 6 ∷ [] } }

abbrev produced_otherwise : Chronicle → Chronicle
produced_otherwise c = record c { produced = map with_other_data c.produced }

otherwise_fails : observed (λ c. adapters_produce_by_entries (produced_otherwise c)) (played owned gathered) ≡ Some false
unfolding playing
otherwise_fails = refl

other_data_than_the_inputs_are_refused : LawAt IdsNameOpenings produced_otherwise (played owned gathered) → ⊥
other_data_than_the_inputs_are_refused law = refuses IdsNameOpenings adapters_produce_by_entries adapters_produce_passes produced_otherwise (played owned gathered) otherwise_fails law

-- ---- connections, slots, entries

abbrev in_world : (World → World) → Chronicle → Chronicle
in_world f c = record c { story = record { world = f c.story.world; reported = c.story.reported } }

-- the devices have each other's addresses
abbrev moved : Chronicle → Chronicle
moved c = in_world (λ w. record w { nodes = record { 0 = 0xC0A80114 } ∷ record { 0 = 0xC0A8010A } ∷ [] }) c

rows_moved : observed (λ c. has_entries 0 (moved c)) (played owned twice_written) ≡ Some false
unfolding playing
rows_moved = refl

another_peer_is_refused : LawAt IdsNameOpenings moved (played owned twice_written) → ⊥
another_peer_is_refused law = refuses IdsNameOpenings (has_entries 0) (entries_pass 0) moved (played owned twice_written) rows_moved law

slots_moved : observed (λ c. has_entries 1 (moved c)) (played owned twice_written) ≡ Some false
unfolding playing
slots_moved = refl

another_target_is_refused : LawAt IdsNameOpenings moved (played owned twice_written) → ⊥
another_target_is_refused law = refuses IdsNameOpenings (has_entries 1) (entries_pass 1) moved (played owned twice_written) slots_moved law

-- the connection has a second entry, of another slot's opening
abbrev of_another_slot : List Opened → List Opened
of_another_slot [] = []
of_another_slot (e ∷ rest) = e ∷ record e { slot = end_at 1 9 } ∷ rest

abbrev entered_twice : Chronicle → Chronicle
entered_twice c = record c { opened = of_another_slot c.opened }

twice_fails : observed (λ c. are_entries (entered_twice c)) (played owned twice_written) ≡ Some false
unfolding playing
twice_fails = refl

a_second_entry_is_refused : LawAt IdsNameOpenings entered_twice (played owned twice_written) → ⊥
a_second_entry_is_refused law = refuses IdsNameOpenings are_entries are_entries_passes entered_twice (played owned twice_written) twice_fails law

-- nor may two connections have one id that a scanner drew
once_fails : observed (λ c. one_has_it 1 (entered_twice c)) (played owned twice_written) ≡ Some false
unfolding playing
once_fails = refl

two_connections_of_an_id_are_refused : LawAt OneConnectionHasIt entered_twice (played owned twice_written) → ⊥
two_connections_of_an_id_are_refused law = refuses OneConnectionHasIt (one_has_it 1) (one_has_it_passes 1) entered_twice (played owned twice_written) once_fails law

abbrev UsedOnceIn : Chronicle → Type 0
UsedOnceIn c = IdsAreUsedOnce c.story.world c.opened

uses_fail : observed (λ c. used_once 1 1 (entered_twice c)) (played owned twice_written) ≡ Some false
unfolding playing asks_id waiting_count uses
uses_fail = refl

an_id_that_is_used_twice_is_refused : LawAt UsedOnceIn entered_twice (played owned twice_written) → ⊥
an_id_that_is_used_twice_is_refused law = refuses UsedOnceIn (used_once 1 1) (used_once_passes 1 1) entered_twice (played owned twice_written) uses_fail law

-- the scanner has not drawn the id with which a connection was opened
abbrev undrawn : DeviceTable → DeviceTable
undrawn (Adapter t) = Adapter t
undrawn (Scanner t) = Scanner (record t { next_id = 1 })

abbrev opened_before_it_was_drawn : Chronicle → Chronicle
opened_before_it_was_drawn c = in_world (λ w. record w { tables = map undrawn w.tables }) c

undrawn_fails : observed (λ c. unused_before 1 1 (opened_before_it_was_drawn c)) (played owned twice_written) ≡ Some false
unfolding playing asks_id waiting_count uses
undrawn_fails = refl

an_id_that_was_not_drawn_is_refused : LawAt UsedOnceIn opened_before_it_was_drawn (played owned twice_written) → ⊥
an_id_that_was_not_drawn_is_refused law = refuses UsedOnceIn (unused_before 1 1) (unused_passes 1 1) opened_before_it_was_drawn (played owned twice_written) undrawn_fails law

-- ---- one producer has an id

-- the first production is of another opening of the device, and has the same id
abbrev of_another : List Production → List Production
of_another [] = []
of_another (p ∷ rest) = record p { producer = end_at p.producer.device 9 } ∷ rest

abbrev made_by_two : Chronicle → Chronicle
made_by_two c = record c { produced = of_another c.produced }

two_slots_fail : observed (λ c. one_slot_makes (made_by_two c)) (played owned twice_written) ≡ Some false
unfolding playing
two_slots_fail = refl

two_openings_of_an_id_are_refused : LawAt OneOpeningHasTheId made_by_two (played owned twice_written) → ⊥
two_openings_of_an_id_are_refused law = refuses OneOpeningHasTheId one_slot_makes one_slot_passes made_by_two (played owned twice_written) two_slots_fail law

two_producers_fail : observed (λ c. one_makes (made_by_two c)) (played shared joined) ≡ Some false
unfolding playing
two_producers_fail = refl

two_producers_of_an_id_are_refused : LawAt OneProducerHasTheId made_by_two (played shared joined) → ⊥
two_producers_of_an_id_are_refused law = refuses OneProducerHasTheId one_makes one_makes_passes made_by_two (played shared joined) two_producers_fail law

-- the second connection of the group has a producer of its own
abbrev of_its_own : Opened → Opened
of_its_own e = record e { producer = e.row }

abbrev sent_by_two : Chronicle → Chronicle
sent_by_two c = record c { opened = map of_its_own c.opened }

two_send_fails : observed (λ c. one_sends (sent_by_two c)) (played shared joined) ≡ Some false
unfolding playing
two_send_fails = refl

two_producers_of_a_group_are_refused : LawAt OneProducerSends sent_by_two (played shared joined) → ⊥
two_producers_of_a_group_are_refused law = refuses OneProducerSends one_sends one_sends_passes sent_by_two (played shared joined) two_send_fails law
