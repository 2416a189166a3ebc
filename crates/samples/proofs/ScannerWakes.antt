-- Wakes of a scanner: in how many milliseconds a slot is due, and that it acts then and not before.
use Rattle.std.proofs.Common.{◌≡◌, refl, ℕ, List, [], ◌∷◌, Some}
use Rattle.cip_events.specs.declared.event.Event.{Event}
use Rattle.cip_events.specs.declared.event.Event.TheVariants.{StreamCut, Frame, Tick, Start, Stop, Explicit}
use Rattle.cip_router.specs.RouterReplies.{router_reply_reading}
use Rattle.scanner_table.specs.declared.slot.Slot.{Slot}
use Rattle.scanner_table.specs.declared.table.ScannerTable.{ScannerTable}
use Rattle.scanner_table.specs.Step.{scanner_table}
use Rattle.cip_tables.specs.declared.table.DeviceTable.TheVariants.{Scanner}
use Rattle.cip_tables.specs.Wakes.{due_in}
use Rattle.samples.proofs.SmallScanner.{target, owner, profile, reported, after, quiet, becomes, sends_request, items, opening_frame, opened_frame, ownership, registers, connected}
use Rattle.samples.proofs.Scanners.{computing, open_slot}

-- in how many milliseconds a slot of the table is due
abbrev wake : ScannerTable → ℕ
wake t = due_in (Scanner t)

-- the same, once the events have happened at a scanner with a session
abbrev wake_after : List Event → ℕ
wake_after events = wake (after connected events)

-- ---- slots without a connection

not_desired : wake connected ≡ 60000
unfolding computing
not_desired = refl

-- a desired one waits for a session, and not for a time
no_session : wake (after (scanner_table (profile (owner ∷ []))) (Start 0 ∷ [])) ≡ 60000
unfolding computing
no_session = refl

-- ---- requests

-- a target has 2 seconds to open a connection
an_opening : wake_after (Start 0 ∷ []) ≡ 2000
unfolding computing
an_opening = refl

its_time_goes_by : wake_after (Start 0 ∷ Tick 300 ∷ []) ≡ 1700
unfolding computing
its_time_goes_by = refl

-- ---- tries

abbrev refused : List Event
refused = Start 0 ∷ Frame 0 (items 1 16 (ownership 1)) ∷ []

-- 3 seconds pass before another try
another_try : wake_after refused ≡ 3000
unfolding computing
another_try = refl

it_tries_then : reported (after connected refused) (Tick 2999 ∷ Tick 1 ∷ []) ≡ quiet ∷ sends_request (opening_frame 2) 2 ∷ []
unfolding computing
it_tries_then = refl

-- without its session it waits for a new one
a_try_without_a_session : wake (after (after connected refused) (StreamCut 0 ∷ [])) ≡ 60000
unfolding computing
a_try_without_a_session = refl

-- an answer that does not come is given up after 2 seconds, and another try follows 3 seconds later
given_up : reported connected (Start 0 ∷ Tick 1999 ∷ Tick 1 ∷ []) ≡ sends_request (opening_frame 1) 2 ∷ quiet ∷ becomes 0 ∷ []
unfolding computing
given_up = refl

a_try_after_no_answer : wake_after (Start 0 ∷ Tick 2000 ∷ []) ≡ 3000
unfolding computing
a_try_after_no_answer = refl

-- one that is no longer desired waits for nothing
stopped : wake (after (after connected refused) (Stop 0 ∷ [])) ≡ 60000
unfolding computing
stopped = refl

-- ---- open connections

abbrev opened_events : List Event
opened_events = Start 0 ∷ Frame 0 opened_frame ∷ []

-- the first production is due at once
a_new_connection : wake_after opened_events ≡ 0
unfolding computing
a_new_connection = refl

the_next_production : wake (after (after connected opened_events) (Tick 1 ∷ [])) ≡ 9
unfolding computing
the_next_production = refl

-- slots of a scanner with a session, at clock 0
abbrev with_slots : List Slot → ScannerTable
with_slots slots = record (after (scanner_table (profile (owner ∷ owner ∷ []))) registers) { slots = slots }

a_time_out : wake (with_slots (open_slot 1 20 25 ∷ open_slot 2 40 30 ∷ [])) ≡ 20
unfolding computing
a_time_out = refl

a_production : wake (with_slots (open_slot 1 25 20 ∷ open_slot 2 40 30 ∷ [])) ≡ 20
unfolding computing
a_production = refl

the_first_of_two : wake (with_slots (open_slot 1 50 45 ∷ open_slot 2 40 30 ∷ [])) ≡ 30
unfolding computing
the_first_of_two = refl

-- one that timed out tries again after the retry time
after_a_time_out : wake (after (with_slots (open_slot 1 20 9000 ∷ [])) (Tick 20 ∷ [])) ≡ 3000
unfolding computing
after_a_time_out = refl

-- the longest tick is the longest wait
far_away : wake (with_slots (open_slot 1 60001 70000 ∷ [])) ≡ 60000
unfolding computing
far_away = refl

nearly_the_longest : wake (with_slots (open_slot 1 59999 70000 ∷ [])) ≡ 59999
unfolding computing
nearly_the_longest = refl

-- ---- closes

-- a target has 2 seconds to close a connection
a_closing : wake (after (after connected opened_events) (Stop 0 ∷ [])) ≡ 2000
unfolding computing
a_closing = refl

-- ---- explicit requests

-- Get_Attributes_All, as request 7 of the application
abbrev asks : Event
asks = Explicit target 7 (0x01 ∷ 0x00 ∷ [])

-- a target has 2 seconds to reply to one too
an_explicit_request : wake_after (asks ∷ []) ≡ 2000
unfolding computing
an_explicit_request = refl

before_an_opening : wake_after (asks ∷ Tick 300 ∷ Start 0 ∷ []) ≡ 1700
unfolding computing
before_an_opening = refl

behind_an_opening : wake_after (Start 0 ∷ Tick 300 ∷ asks ∷ []) ≡ 1700
unfolding computing
behind_an_opening = refl

-- once it is given up, or its reply has come, it waits for nothing
without_a_reply : wake_after (asks ∷ Tick 2000 ∷ []) ∷ wake_after (asks ∷ Frame 0 (items 1 4 (0x81 ∷ 0x00 ∷ 0x08 ∷ 0x00 ∷ [])) ∷ []) ∷ [] ≡ 60000 ∷ 60000 ∷ []
unfolding computing router_reply_reading
without_a_reply = refl

-- ---- turns

-- one opening at a time, and two slots that are started
abbrev in_turn : ScannerTable
in_turn = after (scanner_table (record (profile (owner ∷ record owner { produced = 101 } ∷ [])) { openings = Some 1 })) (Start 0 ∷ Start 1 ∷ registers)

-- a slot that waits for its turn is not due
waits_for_its_turn : wake in_turn ≡ 2000
unfolding computing
waits_for_its_turn = refl

-- it is as soon as the place is free
its_turn_comes : wake (after in_turn (Frame 0 (items 1 16 (ownership 1)) ∷ [])) ≡ 0
unfolding computing
its_turn_comes = refl
