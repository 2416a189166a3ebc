-- The laws of order at the chronicle of each act of some schedules.
use Rattle.std.proofs.Common.{◌≡◌, Bool, true, false, List, [], ◌∷◌, ◌++◌, map, Some, Result, Ok, Err, refl}
use Rattle.cip_events.specs.declared.event.Delivery.TheVariants.{Applied, Idle}
use Rattle.segment_world.specs.declared.act.Act.{Act}
use Rattle.segment_world.specs.declared.act.Act.TheVariants.{Deliver, Local}
use Rattle.segment_world.specs.declared.act.ActFault.{ActFault}
use Rattle.segment_world.specs.declared.act.Call.TheVariants as call
use Rattle.segment_world.specs.Configs.{opening_world}
use Rattle.cip_tables.specs.declared.table.Config.{Config}
use Rattle.device_laws.specs.Productions.{end_at, Production}
use Rattle.schedule_laws.specs.Chronicle.{Acceptance, Chronicle, blank, then_act}
use Rattle.samples.specs.Oracle.{is_in_order}
use Rattle.samples.specs.Schedules.{owned, rivals, shared, runs_mode, writes, ticks, played, observed, accepted_at}
use Rattle.samples.specs.Stories.{again, begins, followed, gathered, joined, lost, reopened, twice_written}
use Rattle.samples.specs.Playing.{playing}

-- what the tests say after each act
abbrev tested : Result Chronicle ActFault → List Bool
tested (Err fault) = false ∷ []
tested (Ok c) = is_in_order c ∷ []

abbrev tests : Result Chronicle ActFault → List Act → List Bool
tests so_far [] = []
tests so_far (act ∷ acts) = tested (then_act so_far act) ++ tests (then_act so_far act) acts

abbrev all_of : List Bool → Bool
all_of [] = true
all_of (true ∷ rest) = all_of rest
all_of (false ∷ rest) = false

-- each moment of the schedule is in order
abbrev stays_in_order : List Config → List Act → Bool
stays_in_order configs acts = all_of (tests (Ok (blank (opening_world configs))) acts)

writes_in_order : stays_in_order owned twice_written ≡ true
unfolding playing
writes_in_order = refl

reopening_in_order : stays_in_order owned reopened ≡ true
unfolding playing
reopening_in_order = refl

joining_in_order : stays_in_order shared joined ≡ true
unfolding playing
joining_in_order = refl

-- The owner goes idle and runs again, without a write. The mode is part of what is produced, so the count rises each time: the
-- output takes its idle action, and holds the value again.
abbrev moded : List Act
moded = begins ++ writes 1 0 7 ∷ ticks 1 ∷ Deliver 0 0 ∷ Local 1 (call.Mode false) ∷ ticks 1 ∷ Deliver 1 0 ∷ runs_mode 1 ∷ ticks 1 ∷ Deliver 2 0 ∷ []

mode_is_new_data : observed (accepted_at 0 150) (played owned moded)
    ≡ Some ((1, 1, 1, 3, Applied) ∷ (1, 1, 1, 2, Idle) ∷ (1, 1, 1, 1, Applied) ∷ [], Some (7 ∷ 7 ∷ 7 ∷ 7 ∷ []))
unfolding playing
mode_is_new_data = refl

modes_in_order : stays_in_order owned moded ≡ true
unfolding playing
modes_in_order = refl

-- What is produced first comes last: it is old, and nothing is accepted of it.
abbrev swapped : List Act
swapped = begins ++ writes 1 0 7 ∷ ticks 1 ∷ writes 1 0 8 ∷ ticks 1 ∷ Deliver 1 0 ∷ Deliver 0 0 ∷ Deliver 1 0 ∷ []

an_older_one_is_not_accepted : observed (accepted_at 0 150) (played owned swapped) ≡ Some ((1, 1, 1, 2, Applied) ∷ [], Some (8 ∷ 8 ∷ 8 ∷ 8 ∷ []))
unfolding playing
an_older_one_is_not_accepted = refl

swapping_in_order : stays_in_order owned swapped ≡ true
unfolding playing
swapping_in_order = refl

losing : observed (accepted_at 1 0) (played owned lost) ≡ Some ((1, 0, 1, 1, Applied) ∷ [], Some (7 ∷ 7 ∷ 7 ∷ 7 ∷ []))
unfolding playing
losing = refl

opening_again : observed (accepted_at 1 0) (played owned again) ≡ Some ((1, 0, 1, 1, Applied) ∷ [], Some (0 ∷ 0 ∷ 0 ∷ 0 ∷ []))
unfolding playing
opening_again = refl

gathering : observed (accepted_at 1 0) (played owned gathered) ≡ Some ((2, 0, 2, 1, Applied) ∷ (1, 0, 1, 1, Applied) ∷ [], Some (9 ∷ 9 ∷ 9 ∷ 9 ∷ []))
unfolding playing
gathering = refl

gathering_in_order : stays_in_order owned gathered ≡ true
unfolding playing
gathering_in_order = refl

another_owner : observed (accepted_at 0 150) (played rivals followed) ≡ Some ((2, 2, 2, 1, Applied) ∷ (1, 1, 1, 1, Applied) ∷ [], Some (5 ∷ 5 ∷ 5 ∷ 5 ∷ []))
unfolding playing
another_owner = refl

following_in_order : stays_in_order rivals followed ≡ true
unfolding playing
following_in_order = refl

-- ---- the tests refuse what is out of order

abbrev reversed : List Acceptance → List Acceptance → List Acceptance
reversed [] rest = rest
reversed (a ∷ more) rest = reversed more (a ∷ rest)

abbrev backwards : Chronicle → Chronicle
backwards c = record c { accepted = reversed c.accepted [] }

abbrev others_made : Production → Production
others_made p = record p { made = record p.made { value = [] } }

abbrev other_values : Acceptance → Acceptance
other_values a = record a { production = others_made a.production }

abbrev valued : Chronicle → Chronicle
valued c = record c { accepted = map other_values c.accepted }

abbrev others_produced : Production → Production
others_produced p = record p { producer = end_at 1 9 }

abbrev other_producers : Acceptance → Acceptance
other_producers a = record a { production = others_produced a.production }

abbrev produced_elsewhere : Chronicle → Chronicle
produced_elsewhere c = record c { accepted = map other_producers c.accepted }

abbrev unmade : Chronicle → Chronicle
unmade c = record c { produced = [] }

falling_indexes : observed (λ c. is_in_order (backwards c)) (played owned twice_written) ≡ Some false
unfolding playing
falling_indexes = refl

other_bytes : observed (λ c. is_in_order (valued c)) (played owned twice_written) ≡ Some false
unfolding playing
other_bytes = refl

another_producer : observed (λ c. is_in_order (produced_elsewhere c)) (played owned twice_written) ≡ Some false
unfolding playing
another_producer = refl

an_image_that_nobody_produced : observed (λ c. is_in_order (unmade c)) (played owned gathered) ≡ Some false
unfolding playing
an_image_that_nobody_produced = refl
