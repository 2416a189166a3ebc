-- A scanner that owns an output: what it produces, and what the adapter accepts of it.
use Rattle.std.proofs.Common.{◌≡◌, [], ◌∷◌, map, Some, refl}
use Rattle.cip_events.specs.declared.event.Delivery.TheVariants.{Applied, Duplicate}
use Rattle.device_laws.specs.Productions.{end_at}
use Rattle.samples.specs.Schedules.{owned, played, observed, seen, numbers, accepted_at, produced_by_openings}
use Rattle.samples.specs.Stories.{begins, twice_written, reopened}
use Rattle.samples.specs.Playing.{playing}

-- the opening is the first request of the scanner, and the first connection of the adapter
a_connection_opens : observed (λ c. c.opened) (played owned begins)
    ≡ Some (record { row = end_at 0 1; slot = end_at 1 1; o_t_id = record { 0 = 0x10000001 }; t_o_id = record { 0 = 0x20000001 }; producer = end_at 0 1 } ∷ [])
unfolding playing
a_connection_opens = refl

-- production indexes count on; the new-data index rises with each write, and not without one
a_write_makes_new_data : observed (λ c. map seen c.produced) (played owned twice_written)
    ≡ Some ((1, 1, 1, 1, 7 ∷ 7 ∷ 7 ∷ 7 ∷ []) ∷ (1, 1, 2, 2, 8 ∷ 8 ∷ 8 ∷ 8 ∷ []) ∷ (1, 1, 3, 2, 8 ∷ 8 ∷ 8 ∷ 8 ∷ []) ∷ [])
unfolding playing
a_write_makes_new_data = refl

-- the sequence number and the count of a datagram are its indexes
numbers_are_indexes : observed (λ c. map numbers c.produced) (played owned twice_written) ≡ Some ((1, 1) ∷ (2, 2) ∷ (3, 2) ∷ [])
unfolding playing
numbers_are_indexes = refl

-- the newest stands first: the repeated count is a duplicate, and the output holds what the slot's output held
a_repeated_count_is_a_duplicate : observed (accepted_at 0 150) (played owned twice_written)
    ≡ Some ((1, 1, 1, 3, Duplicate) ∷ (1, 1, 1, 2, Applied) ∷ (1, 1, 1, 1, Applied) ∷ [], Some (8 ∷ 8 ∷ 8 ∷ 8 ∷ []))
unfolding playing
a_repeated_count_is_a_duplicate = refl

-- the requests are the first and the third; the second opening begins its own indexes
an_opening_counts_from_one : observed produced_by_openings (played owned reopened)
    ≡ Some ((1, 1, 1, 1, 7 ∷ 7 ∷ 7 ∷ 7 ∷ []) ∷ (1, 3, 1, 1, 8 ∷ 8 ∷ 8 ∷ 8 ∷ []) ∷ [], 3 ∷ 1 ∷ [])
unfolding playing
an_opening_counts_from_one = refl

-- nobody accepts what the ended opening produced
a_held_datagram_is_accepted_by_nobody : observed (accepted_at 0 150) (played owned reopened)
    ≡ Some ((2, 1, 3, 1, Applied) ∷ [], Some (8 ∷ 8 ∷ 8 ∷ 8 ∷ []))
unfolding playing
a_held_datagram_is_accepted_by_nobody = refl
