-- Samples of what an adapter says of itself: the owner of an output, its mode and the age of its data, the connections
-- of an input and of a triad, streams, and totals.
use Rattle.std.proofs.Common.{◌≡◌, refl, ℕ, true, false, List, [], ◌∷◌, ◌++◌, Option, Some, None}
use Rattle.cip_events.specs.declared.event.Event.{Event}
use Rattle.cip_events.specs.declared.event.Event.TheVariants.{Datagram, StreamOpened, Tick}
use Rattle.cip_productions.specs.declared.age.Age.{Age}
use Rattle.cip_productions.specs.declared.age.Age.TheVariants.{SinceOpening, SinceAccepted}
use Rattle.cip_productions.specs.declared.kind.Kind.TheVariants.{ExclusiveOwner, InputOnly}
use Rattle.adapter_table.specs.declared.report.AnyConnection.TheVariants.{Class1, Class3}
use Rattle.adapter_table.specs.declared.report.ConnectionReport.{ConnectionReport}
use Rattle.adapter_table.specs.declared.row.Mode.{Mode}
use Rattle.adapter_table.specs.declared.row.Mode.TheVariants.{Idle, Run}
use Rattle.adapter_table.specs.Step.{adapter_table}
use Rattle.cip_tables.specs.States.{owner_in, connection_in, class3_in, connection_with, consumers_in, slot_in, stream_in, totals_of}
use Rattle.cip_tables.specs.declared.table.DeviceTable.{DeviceTable}
use Rattle.cip_tables.specs.declared.table.DeviceTable.TheVariants.{Adapter}
use Rattle.cip_types.specs.declared.names.ConnId.{ConnId}
use Rattle.cip_types.specs.declared.names.Triad.{Triad}
use Rattle.messaging.specs.declared.class3.Class3Connection.{Class3Connection}
use Rattle.samples.specs.Hex.{hex}
use Rattle.samples.specs.Devices.{common, double, fresh, peer}
use Rattle.samples.specs.Requests.{OpeningRequest, owner, gatherer, listener, consumer}
use Rattle.samples.specs.Datagrams.{datagram, running, idling}
use Rattle.samples.specs.Runs.{after, opens, closes}
use Rattle.samples.specs.Computing.{computing}

-- the owner's datagram with this number and count, in run mode and in idle mode
abbrev runs : ℕ → ℕ → Event
runs number count = Datagram peer (datagram 0x10000001 number count (running (hex "11 22 33 44")))

abbrev idles : ℕ → ℕ → Event
idles number count = Datagram peer (datagram 0x10000001 number count (idling (hex "11 22 33 44")))

-- what is known of the owner of output 150, after these events behind its opening
abbrev owner_after : List Event → Option ConnectionReport
owner_after events = owner_in (after common (opens owner ∷ events)) 150

-- the triad of the first originator with this serial number
abbrev triad_of : ℕ → Triad
triad_of serial = record { serial = serial; vendor = 0x1234; originator = 0x12345678 }

abbrev id : ℕ → ConnId
id number = record { 0 = number }

-- the owner of this O->T id, with the mode of its newest data and their age
abbrev owned_by : ℕ → Option Mode → Age → Option ConnectionReport
owned_by number mode age = Some (record {
  triad = triad_of 1;
  peer = peer;
  o_t_id = id number;
  t_o_id = id 0x20000001;
  kind = ExclusiveOwner;
  consumed = 150;
  produced = 100;
  established = true;
  o_t_api_ms = 10;
  t_o_api_ms = 10;
  mode = mode;
  age = age;
})

-- the first owner
abbrev owned : Option Mode → Age → Option ConnectionReport
owned mode age = owned_by 0x10000001 mode age

abbrev since_opening : ℕ → Age
since_opening ms = SinceOpening (record { 0 = ms })

abbrev since_accepted : ℕ → Age
since_accepted ms = SinceAccepted (record { 0 = ms })

-- ---- the owner of an output

nobody_owns_it : owner_in (fresh common) 150 ≡ None
nobody_owns_it = refl

the_owner_has_no_mode_yet : owner_after [] ≡ owned None (since_opening 0)
unfolding computing
the_owner_has_no_mode_yet = refl

its_age_counts_from_its_opening : owner_after (Tick 9999 ∷ []) ≡ owned None (since_opening 9999)
unfolding computing
its_age_counts_from_its_opening = refl

another_output_has_no_owner : owner_in (after double (opens owner ∷ [])) 160 ≡ None
unfolding computing
another_output_has_no_owner = refl

an_input_only_connection_owns_nothing : owner_in (after common (opens (consumer 7) ∷ [])) 150 ≡ None
unfolding computing
an_input_only_connection_owns_nothing = refl

-- it times out 160 ms after its datagram
a_millisecond_before_its_time_out : owner_after (runs 1 1 ∷ Tick 159 ∷ []) ≡ owned (Some Run) (since_accepted 159)
unfolding computing
a_millisecond_before_its_time_out = refl

a_timed_out_owner_owns_nothing : owner_after (runs 1 1 ∷ Tick 160 ∷ []) ≡ None
unfolding computing
a_timed_out_owner_owns_nothing = refl

a_closed_owner_owns_nothing : owner_after (runs 1 1 ∷ closes peer owner ∷ []) ≡ None
unfolding computing
a_closed_owner_owns_nothing = refl

-- ---- its mode, and the age of its data

it_runs : owner_after (Tick 5 ∷ runs 1 1 ∷ []) ≡ owned (Some Run) (since_accepted 0)
unfolding computing
it_runs = refl

time_passes : owner_after (Tick 5 ∷ runs 1 1 ∷ Tick 7 ∷ []) ≡ owned (Some Run) (since_accepted 7)
unfolding computing
time_passes = refl

it_is_idle : owner_after (idles 1 1 ∷ []) ≡ owned (Some Idle) (since_accepted 0)
unfolding computing
it_is_idle = refl

it_becomes_idle : owner_after (runs 1 1 ∷ Tick 7 ∷ idles 2 2 ∷ Tick 3 ∷ []) ≡ owned (Some Idle) (since_accepted 3)
unfolding computing
it_becomes_idle = refl

it_runs_again : owner_after (idles 1 1 ∷ runs 2 2 ∷ []) ≡ owned (Some Run) (since_accepted 0)
unfolding computing
it_runs_again = refl

-- a duplicate is accepted, and its data, with the header before them, are not new
a_duplicate_says_no_mode : owner_after (runs 1 1 ∷ Tick 7 ∷ idles 2 1 ∷ Tick 2 ∷ []) ≡ owned (Some Run) (since_accepted 2)
unfolding computing
a_duplicate_says_no_mode = refl

an_old_one_says_nothing : owner_after (runs 2 2 ∷ Tick 7 ∷ idles 1 1 ∷ []) ≡ owned (Some Run) (since_accepted 7)
unfolding computing
an_old_one_says_nothing = refl

-- a later owner has an id of its own, and begins without a mode
the_next_owner_has_no_mode : owner_after (runs 1 1 ∷ closes peer owner ∷ opens owner ∷ []) ≡ owned_by 0x10000002 None (since_opening 0)
unfolding computing
the_next_owner_has_no_mode = refl

-- ---- the first time-out, if it is longer than ten seconds: 512 times 10 s

abbrev slow : OpeningRequest
slow = record owner { multiplier = 7; o_t_rpi = 10000000 }

a_long_first_time_out : owner_in (after common (opens slow ∷ Tick 25 ∷ [])) 150
    ≡ Some (record {
      triad = triad_of 1;
      peer = peer;
      o_t_id = id 0x10000001;
      t_o_id = id 0x20000001;
      kind = ExclusiveOwner;
      consumed = 150;
      produced = 100;
      established = true;
      o_t_api_ms = 10000;
      t_o_api_ms = 10;
      mode = None;
      age = since_opening 25;
    })
unfolding computing
a_long_first_time_out = refl

-- ---- each connection, in opening order

abbrev heartbeat : Event
heartbeat = Datagram peer (datagram 0x10000002 1 1 [])

-- a heartbeat has no mode
the_second_connection : connection_in (after common (opens owner ∷ Tick 1 ∷ opens (consumer 7) ∷ heartbeat ∷ Tick 4 ∷ [])) 1
    ≡ Some (record {
      triad = triad_of 7;
      peer = peer;
      o_t_id = id 0x10000002;
      t_o_id = id 0x20000002;
      kind = InputOnly;
      consumed = 152;
      produced = 100;
      established = true;
      o_t_api_ms = 10;
      t_o_api_ms = 10;
      mode = None;
      age = since_accepted 4;
    })
unfolding computing
the_second_connection = refl

there_is_no_third : connection_in (after common (opens owner ∷ opens (consumer 7) ∷ [])) 2 ≡ None
unfolding computing
there_is_no_third = refl

-- a timed-out connection remains until it is closed or replaced
a_timed_out_one_remains : connection_in (after common (opens owner ∷ runs 1 1 ∷ Tick 160 ∷ [])) 0
    ≡ Some (record {
      triad = triad_of 1;
      peer = peer;
      o_t_id = id 0x10000001;
      t_o_id = id 0x20000001;
      kind = ExclusiveOwner;
      consumed = 150;
      produced = 100;
      established = false;
      o_t_api_ms = 10;
      t_o_api_ms = 10;
      mode = Some Run;
      age = since_accepted 160;
    })
unfolding computing
a_timed_out_one_remains = refl

-- ---- the connection of a triad

-- a timed-out one too
of_a_triad : connection_with (after common (opens owner ∷ runs 1 1 ∷ Tick 160 ∷ [])) (triad_of 1)
    ≡ Some (Class1 (record {
      triad = triad_of 1;
      peer = peer;
      o_t_id = id 0x10000001;
      t_o_id = id 0x20000001;
      kind = ExclusiveOwner;
      consumed = 150;
      produced = 100;
      established = false;
      o_t_api_ms = 10;
      t_o_api_ms = 10;
      mode = Some Run;
      age = since_accepted 160;
    }))
unfolding computing
of_a_triad = refl

another_triad_has_none : connection_with (after common (opens owner ∷ [])) (triad_of 2) ≡ None
unfolding computing
another_triad_has_none = refl

-- one of class 3, over stream 3
abbrev explicit : Class3Connection
explicit = record {
  triad = triad_of 9;
  peer = peer;
  stream = 3;
  o_t_id = id 0x10000005;
  t_o_id = id 0x20000009;
  o_t_api_ms = 1000;
  t_o_api_ms = 2000;
  o_t_size = 500;
  t_o_size = 504;
  watchdog = record { 0 = 4000 };
  opening = 5;
  last = Some 1;
  reply = [];
  deadline = record { 0 = 4000 };
}

abbrev with_explicit : DeviceTable
with_explicit = Adapter (record (adapter_table common) { messaging = record { class3_connections = explicit ∷ []; waiting = []; next_number = 1 } })

the_first_of_class_3 : class3_in with_explicit 0
    ≡ Some (record { triad = triad_of 9; peer = peer; stream = 3; o_t_id = id 0x10000005; t_o_id = id 0x20000009; o_t_api_ms = 1000; t_o_api_ms = 2000 })
the_first_of_class_3 = refl

there_is_no_second : class3_in with_explicit 1 ≡ None
there_is_no_second = refl

a_triad_of_class_3 : connection_with with_explicit (triad_of 9)
    ≡ Some (Class3 (record { triad = triad_of 9; peer = peer; stream = 3; o_t_id = id 0x10000005; t_o_id = id 0x20000009; o_t_api_ms = 1000; t_o_api_ms = 2000 }))
a_triad_of_class_3 = refl

-- ---- streams

-- the handle of a session is one above the number of its stream
abbrev one_session : DeviceTable
one_session = Adapter (record (adapter_table common) { streams = record { number = 3; peer = peer; registered = false } ∷ record { number = 0; peer = peer; registered = true } ∷ [] })

no_session_yet : stream_in one_session 0 ≡ Some (record { number = 3; peer = peer; session = None })
no_session_yet = refl

a_session : stream_in one_session 1 ≡ Some (record { number = 0; peer = peer; session = Some 1 })
a_session = refl

no_third_stream : stream_in one_session 2 ≡ None
no_third_stream = refl

-- ---- the connections of an input, by kinds

abbrev three_kinds : List Event
three_kinds = opens owner ∷ opens gatherer ∷ opens (consumer 7) ∷ opens listener ∷ []

one_two_and_one : consumers_in (after common three_kinds) 100 ≡ record { exclusive_owners = 1; input_only = 2; listen_only = 1 }
unfolding computing
one_two_and_one = refl

another_input_has_none : consumers_in (after double three_kinds) 110 ≡ record { exclusive_owners = 0; input_only = 0; listen_only = 0 }
unfolding computing
another_input_has_none = refl

-- the owner has sent nothing for 160 ms, and the others nothing since they were opened
without_the_timed_out_owner : consumers_in (after common (three_kinds ++ runs 1 1 ∷ Tick 160 ∷ [])) 100
    ≡ record { exclusive_owners = 0; input_only = 2; listen_only = 1 }
unfolding computing
without_the_timed_out_owner = refl

-- ---- totals

an_adapter_begins_with_all_ids : totals_of (fresh common) ≡ record { streams = 0; sessions = 0; connections = 0; class3_connections = 0; ids_left = 16777215 }
an_adapter_begins_with_all_ids = refl

-- the multicast connection draws two ids
three_ids_are_drawn : totals_of (after common (opens owner ∷ opens gatherer ∷ []))
    ≡ record { streams = 0; sessions = 0; connections = 2; class3_connections = 0; ids_left = 16777212 }
unfolding computing
three_ids_are_drawn = refl

a_stream_without_a_session : totals_of (after common (StreamOpened 3 peer ∷ []))
    ≡ record { streams = 1; sessions = 0; connections = 0; class3_connections = 0; ids_left = 16777215 }
unfolding computing
a_stream_without_a_session = refl

-- ---- an adapter has no slots

no_slot : slot_in (fresh common) 0 ≡ None
no_slot = refl
