-- Samples of capacity: the number of ids, the number of connections, and the connection that a new one replaces.
use Rattle.std.proofs.Common.{◌≡◌, refl, ℕ, List, [], ◌∷◌, map}
use Rattle.cip_events.specs.declared.event.Event.{Event}
use Rattle.cip_events.specs.declared.event.Event.TheVariants.{Tick}
use Rattle.cip_events.specs.declared.event.Notice.TheVariants.{Closed, Expired, Replaced}
use Rattle.cip_tables.specs.declared.table.DeviceTable.{DeviceTable}
use Rattle.cip_events.specs.Outcomes.{Outcome}
use Rattle.cip_tables.specs.Run.{outcomes_of}
use Rattle.samples.specs.Hex.{hex}
use Rattle.samples.specs.Devices.{common, peer, own}
use Rattle.samples.specs.Requests.{OpeningRequest, owner, gatherer, listener, consumer, inhibited, opened_reply}
use Rattle.samples.specs.Runs.{after, opens, closes, replies, opened_notice, accepts, refuses, notices_of, id}
use Rattle.samples.specs.Rows.{from, at_counter, alive, lost, connected}
use Rattle.samples.specs.Computing.{computing}

-- ---- ids

-- one id is left: too few for a multicast producer
the_last_id :
    outcomes_of (at_counter 16777215) (opens gatherer ∷ opens owner ∷ opens (consumer 100) ∷ [])
    ≡ refuses peer gatherer 0x0113 ∷ accepts peer owner 0xFFFFFF 0x20000001 ∷ refuses peer (consumer 100) 0x0113 ∷ []
unfolding computing
the_last_id = refl

the_last_two_ids :
    outcomes_of (at_counter 16777214) (opens gatherer ∷ opens (consumer 100) ∷ [])
    ≡ accepts peer gatherer 0xFFFFFE 0x10FFFFFF ∷ refuses peer (consumer 100) 0x0113 ∷ []
unfolding computing
the_last_two_ids = refl

-- a connection that joins a group takes one
a_joiner_takes_the_last_id :
    outcomes_of (at_counter 16777213) (opens gatherer ∷ opens (record gatherer { serial = 6 }) ∷ opens (record gatherer { serial = 7 }) ∷ [])
    ≡ accepts peer gatherer 0xFFFFFD 0x10FFFFFE ∷ accepts peer (record gatherer { serial = 6 }) 0xFFFFFF 0x10FFFFFE ∷ refuses peer (record gatherer { serial = 7 }) 0x0113 ∷ []
unfolding computing
a_joiner_takes_the_last_id = refl

the_group_before_the_ids :
    outcomes_of (at_counter 16777214) (opens (inhibited 5 gatherer) ∷ opens (inhibited 6 (record gatherer { serial = 6 })) ∷ [])
    ≡ accepts peer gatherer 0xFFFFFE 0x10FFFFFF ∷ refuses peer (record gatherer { serial = 6 }) 0x0111 ∷ []
unfolding computing
the_group_before_the_ids = refl

-- the owner has the last id
abbrev second : OpeningRequest
second = record owner { serial = 2; t_o_id = 0x20000002 }

ownership_and_support_before_the_ids :
    outcomes_of (at_counter 16777215) (opens owner ∷ opens second ∷ opens listener ∷ [])
    ≡ accepts peer owner 0xFFFFFF 0x20000001 ∷ refuses peer second 0x0106 ∷ refuses peer listener 0x0119 ∷ []
unfolding computing
ownership_and_support_before_the_ids = refl

-- a refused request takes none
a_refused_request_draws_no_id :
    outcomes_of (at_counter 16777215) (opens (record owner { t_o_params = 0x4807 }) ∷ opens owner ∷ [])
    ≡ refuses peer owner 0x0128 ∷ accepts peer owner 0xFFFFFF 0x20000001 ∷ []
unfolding computing
a_refused_request_draws_no_id = refl

-- ---- connections

-- a request for which another connection is replaced
abbrev replaces : ℕ → ℕ → ℕ → Outcome
replaces serial counter old = replies peer (opened_reply (consumer serial) (id counter) 0x20000002 10000 10000) (Replaced (own old) ∷ opened_notice (consumer serial) counter ∷ [])

abbrev opened : ℕ → ℕ → Outcome
opened serial counter = accepts peer (consumer serial) counter 0x20000002

-- connections 3 to 64 live
abbrev sixty_two : DeviceTable
sixty_two = connected (lost 1 ∷ lost 2 ∷ map alive (from 3 62))

the_own_lost_connection_before_the_oldest :
    outcomes_of sixty_two (opens (consumer 2) ∷ opens (consumer 65) ∷ opens (consumer 66) ∷ [])
    ≡ replaces 2 65 2 ∷ replaces 65 66 1 ∷ refuses peer (consumer 66) 0x0113 ∷ []
unfolding computing
the_own_lost_connection_before_the_oldest = refl

the_oldest_timed_out_connection_is_replaced :
    outcomes_of (connected (alive 1 ∷ lost 2 ∷ lost 3 ∷ map alive (from 4 61))) (opens (consumer 65) ∷ [])
    ≡ replaces 65 65 2 ∷ []
unfolding computing
the_oldest_timed_out_connection_is_replaced = refl

only_among_sixty_four :
    outcomes_of (connected (lost 1 ∷ map alive (from 2 62))) (opens (consumer 65) ∷ opens (consumer 66) ∷ [])
    ≡ opened 65 65 ∷ replaces 66 66 1 ∷ []
unfolding computing
only_among_sixty_four = refl

the_own_lost_connection_goes_at_any_time :
    outcomes_of (connected (lost 1 ∷ lost 2 ∷ [])) (opens (consumer 2) ∷ opens (consumer 3) ∷ closes peer (consumer 1) ∷ [])
    ≡ replaces 2 65 2 ∷ opened 3 66 ∷ replies peer (hex "CE 00 00 00 01 00 34 12 78 56 34 12 00 00") (Closed (own 1) ∷ []) ∷ []
unfolding computing
the_own_lost_connection_goes_at_any_time = refl

-- the first connection, and a millisecond later 63 more
abbrev sixty_four : List Event
sixty_four = opens (consumer 100) ∷ Tick 1 ∷ map (λ n. opens (consumer n)) (from 101 63)

the_sixty_fifth_waits_for_a_lost_one :
    outcomes_of (after common sixty_four) (opens (consumer 164) ∷ []) ≡ replies peer (hex "D4 00 01 01 13 01 A4 00 34 12 78 56 34 12 00 00") [] ∷ []
unfolding computing
the_sixty_fifth_waits_for_a_lost_one = refl

and_takes_its_place :
    map notices_of (outcomes_of (after common sixty_four) (Tick 9999 ∷ opens (consumer 164) ∷ []))
    ≡ (Expired (own 100) ∷ []) ∷ (Replaced (own 100) ∷ opened_notice (consumer 164) 0x41 ∷ []) ∷ []
unfolding computing
and_takes_its_place = refl
