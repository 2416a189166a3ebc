-- How often a T->O id of a scanner is used, in the frames that wait on streams and in the connections that were opened.
use Rattle.std.proofs.Common.{◌≡◌, ℕ, [], ◌∷◌, ◌++◌, Some, refl}
use Rattle.std.specs.List.{count_by}
use Rattle.segment_world.specs.declared.act.Act.TheVariants.{Local, NextFrame, CutStream}
use Rattle.segment_world.specs.declared.act.Call.TheVariants as call
use Rattle.segment_world.specs.declared.transit.direction.Direction.TheVariants.{Forth}
use Rattle.device_laws.specs.Requests.{asks_id}
use Rattle.schedule_laws.specs.Chronicle.{Chronicle}
use Rattle.schedule_laws.specs.MadeOnce.{has_id, waiting_count}
use Rattle.samples.specs.Schedules.{owned, shared, meets, opens, closes, played, observed}
use Rattle.samples.specs.Playing.{playing}

-- the frames that wait and ask for the id, and the connections that were opened with it
abbrev used : ℕ → Chronicle → ℕ × ℕ
used id c = (waiting_count (asks_id id) c.story.world.streams, count_by (has_id id) c.opened)

-- the first id of the scanner of incarnation 0x20, and the second
abbrev first_id : ℕ
first_id = 0x20000001

abbrev second_id : ℕ
second_id = 0x20000002

unused_before : observed (used first_id) (played owned (meets 1 0)) ≡ Some (0, 0)
unfolding playing asks_id waiting_count
unused_before = refl

-- the slot has sent its Forward_Open
requested_once : observed (used first_id) (played owned (meets 1 0 ++ Local 1 (call.Start 0) ∷ [])) ≡ Some (1, 0)
unfolding playing asks_id waiting_count
requested_once = refl

-- the adapter has taken it; its reply waits, and asks for nothing
opened_once : observed (used first_id) (played owned (meets 1 0 ++ Local 1 (call.Start 0) ∷ NextFrame 0 Forth ∷ [])) ≡ Some (0, 1)
unfolding playing asks_id waiting_count
opened_once = refl

-- a cut stream drops the request, and the id is used no more
cut_off : observed (used first_id) (played owned (meets 1 0 ++ Local 1 (call.Start 0) ∷ CutStream 0 ∷ [])) ≡ Some (0, 0)
unfolding playing asks_id waiting_count
cut_off = refl

-- a slot that opens again asks for the next id, and the entry of its first connection stays
opened_again : observed (used first_id) (played owned (meets 1 0 ++ opens 1 0 ++ closes 1 0 ++ opens 1 0)) ≡ Some (0, 1)
unfolding playing asks_id waiting_count
opened_again = refl

next_used : observed (used second_id) (played owned (meets 1 0 ++ opens 1 0 ++ closes 1 0 ++ Local 1 (call.Start 0) ∷ [])) ≡ Some (1, 0)
unfolding playing asks_id waiting_count
next_used = refl

-- a multicast slot asks for no id of its scanner
none_of_a_group : observed (used first_id) (played shared (meets 1 0 ++ opens 1 0)) ≡ Some (0, 0)
unfolding playing asks_id waiting_count
none_of_a_group = refl
