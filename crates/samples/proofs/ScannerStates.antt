-- Samples of what a scanner says of its slots: the state of each, and the age of its target's data.
use Rattle.std.proofs.Common.{◌≡◌, refl, ℕ, List, [], ◌∷◌, Option, Some, None}
use Rattle.cip_events.specs.declared.event.Event.{Event}
use Rattle.cip_events.specs.declared.event.Event.TheVariants.{Datagram, Frame, Tick, Start, Stop}
use Rattle.cip_productions.specs.declared.age.Age.{Age}
use Rattle.cip_productions.specs.declared.age.Age.TheVariants.{SinceOpening, SinceAccepted}
use Rattle.scanner_table.specs.declared.report.SlotReport.{SlotReport}
use Rattle.scanner_table.specs.declared.report.SlotReport.TheVariants.{Idle, Opening, Established, TimedOut, Closing}
use Rattle.cip_tables.specs.declared.table.DeviceTable.TheVariants.{Scanner}
use Rattle.cip_tables.specs.States.{owner_in, slot_in, stream_in, totals_of}
use Rattle.samples.proofs.SmallScanner.{target, after, opened_frame, connected}
use Rattle.samples.proofs.Scanners.{computing}

-- slot 0, once the events have happened at a scanner with a session
abbrev slot_after : List Event → Option SlotReport
slot_after events = slot_in (Scanner (after connected events)) 0

-- an open connection, both packet intervals of which are 10 ms
abbrev open_for : Age → Option SlotReport
open_for age = Some (Established (record {
  triad = record { serial = 1; vendor = 0x1234; originator = 0x12345678 };
  o_t_id = record { 0 = 0x10000001 };
  t_o_id = record { 0 = 0x20000001 };
  o_t_api_ms = 10;
  t_o_api_ms = 10;
  age = age;
}))

abbrev since_opening : ℕ → Age
since_opening ms = SinceOpening (record { 0 = ms })

abbrev since_accepted : ℕ → Age
since_accepted ms = SinceAccepted (record { 0 = ms })

-- a datagram of the target, with this number and count
abbrev sends : ℕ → ℕ → Event
sends number count = Datagram target (0x02 ∷ 0x00 ∷ 0x02 ∷ 0x80 ∷ 0x08 ∷ 0x00 ∷ 0x01 ∷ 0x00 ∷ 0x00 ∷ 0x20 ∷ number ∷ 0x00 ∷ 0x00 ∷ 0x00 ∷ 0xB1 ∷ 0x00 ∷ 0x06 ∷ 0x00 ∷ count ∷ 0x00 ∷ 0x11 ∷ 0x22 ∷ 0x33 ∷ 0x44 ∷ [])

abbrev opens : List Event → List Event
opens events = Start 0 ∷ Frame 0 opened_frame ∷ events

-- ---- the states

idle : slot_after [] ≡ Some Idle
unfolding computing
idle = refl

opening : slot_after (Start 0 ∷ []) ≡ Some Opening
unfolding computing
opening = refl

open_at_once : slot_after (opens []) ≡ open_for (since_opening 0)
unfolding computing
open_at_once = refl

closing : slot_after (opens (Stop 0 ∷ [])) ≡ Some Closing
unfolding computing
closing = refl

-- the first time-out is ten seconds
just_before_it_times_out : slot_after (opens (Tick 9999 ∷ [])) ≡ open_for (since_opening 9999)
unfolding computing
just_before_it_times_out = refl

timed_out : slot_after (opens (Tick 10000 ∷ [])) ≡ Some TimedOut
unfolding computing
timed_out = refl

no_such_slot : slot_in (Scanner connected) 1 ≡ None
unfolding computing
no_such_slot = refl

-- ---- the age of the target's data

data_are_new : slot_after (opens (Tick 7 ∷ sends 1 1 ∷ [])) ≡ open_for (since_accepted 0)
unfolding computing
data_are_new = refl

data_grow_old : slot_after (opens (Tick 7 ∷ sends 1 1 ∷ Tick 12 ∷ [])) ≡ open_for (since_accepted 12)
unfolding computing
data_grow_old = refl

-- a duplicate is accepted
a_duplicate_counts : slot_after (opens (sends 1 1 ∷ Tick 12 ∷ sends 2 1 ∷ Tick 3 ∷ [])) ≡ open_for (since_accepted 3)
unfolding computing
a_duplicate_counts = refl

an_old_one_does_not_count : slot_after (opens (sends 2 2 ∷ Tick 12 ∷ sends 1 1 ∷ [])) ≡ open_for (since_accepted 12)
unfolding computing
an_old_one_does_not_count = refl

-- the time-out is 16 times 10 ms
timed_out_behind_its_data : slot_after (opens (sends 1 1 ∷ Tick 160 ∷ [])) ≡ Some TimedOut
unfolding computing
timed_out_behind_its_data = refl

-- ---- totals

-- a session, and a connection with an id of the scanner's
one_of_each : totals_of (Scanner (after connected (opens []))) ≡ record { streams = 1; sessions = 1; connections = 1; class3_connections = 0; ids_left = 16777214 }
unfolding computing
one_of_each = refl

no_connection_yet : totals_of (Scanner (after connected (Start 0 ∷ []))) ≡ record { streams = 1; sessions = 1; connections = 0; class3_connections = 0; ids_left = 16777214 }
unfolding computing
no_connection_yet = refl

-- ---- streams

its_session : stream_in (Scanner connected) 0 ≡ Some (record { number = 0; peer = target; session = Some 1 })
unfolding computing
its_session = refl

-- ---- a scanner has no outputs that are owned

no_owner : owner_in (Scanner connected) 150 ≡ None
unfolding computing
no_owner = refl
