-- Two scanners that gather one input from its group.
use Rattle.std.proofs.Common.{◌≡◌, true, false, [], ◌∷◌, ◌++◌, map, Some, refl}
use Rattle.cip_events.specs.declared.event.Delivery.TheVariants.{Applied}
use Rattle.device_laws.specs.Productions.{end_at}
use Rattle.samples.specs.Oracle.{has_connection}
use Rattle.samples.specs.Schedules.{shared, closes, played, observed, seen, accepted_at}
use Rattle.samples.specs.Stories.{joined}
use Rattle.samples.specs.Playing.{playing}

-- both connections have the producer of the first, and its id
one_producer : observed (λ c. c.opened) (played shared joined)
    ≡ Some (
    record { row = end_at 0 1; slot = end_at 1 1; o_t_id = record { 0 = 0x10000001 }; t_o_id = record { 0 = 0x10000002 }; producer = end_at 0 1 }
    ∷ record { row = end_at 0 3; slot = end_at 2 1; o_t_id = record { 0 = 0x10000003 }; t_o_id = record { 0 = 0x10000002 }; producer = end_at 0 1 }
    ∷ [])
unfolding playing
one_producer = refl

one_count_for_both : observed (λ c. map seen c.produced) (played shared joined)
    ≡ Some ((0, 1, 1, 1, 7 ∷ 7 ∷ 7 ∷ 7 ∷ []) ∷ (0, 1, 2, 2, 9 ∷ 9 ∷ 9 ∷ 9 ∷ []) ∷ [])
unfolding playing
one_count_for_both = refl

-- the joiner accepts as its first what the living group sent before it joined
a_joiner_accepts_what_is_older_than_its_opening : observed (accepted_at 2 0) (played shared joined)
    ≡ Some ((1, 0, 1, 2, Applied) ∷ (1, 0, 1, 2, Applied) ∷ (1, 0, 1, 1, Applied) ∷ [], Some (9 ∷ 9 ∷ 9 ∷ 9 ∷ []))
unfolding playing
a_joiner_accepts_what_is_older_than_its_opening = refl

-- the producer has a connection until the last of its group is closed
a_group_outlives_its_first_connection : observed (has_connection (end_at 0 1)) (played shared (joined ++ closes 1 0)) ≡ Some true
unfolding playing
a_group_outlives_its_first_connection = refl

a_group_ends_with_its_last_connection : observed (has_connection (end_at 0 1)) (played shared (joined ++ closes 1 0 ++ closes 2 1)) ≡ Some false
unfolding playing
a_group_ends_with_its_last_connection = refl
