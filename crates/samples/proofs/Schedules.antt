-- Samples of ids that are still to come, and of one device in a story, written by hand.
use Rattle.std.proofs.Common.{◌≡◌, ℕ, true, false, List, [], ◌∷◌, refl, arith}
use Rattle.cip_datagram.specs.Reading.{datagram_reading}
use Rattle.cip_epath.specs.Reading as paths
use Rattle.cip_fwdopen.specs.Close.{close_reading}
use Rattle.cip_fwdopen.specs.Open.{open_reading}
use Rattle.cip_fwdopen.specs.Request.{request_reading}
use Rattle.cip_netparams.specs.Word.{params16}
use Rattle.cip_router.specs.Requests.{router_request_reading}
use Rattle.cip_events.specs.declared.event.Event.{Event}
use Rattle.cip_events.specs.declared.event.Event.TheVariants.{Datagram, Tick}
use Rattle.cip_events.specs.declared.event.Notice.TheVariants.{Closed}
use Rattle.cip_events.specs.declared.event.Verdict.TheVariants.{Done}
use Rattle.cip_events.specs.Answers.{plain_answer}
use Rattle.adapter_table.specs.Checks.{verdict}
use Rattle.adapter_table.specs.Closing.{closed_table}
use Rattle.adapter_table.specs.Datagrams.{accepted_table, received}
use Rattle.adapter_table.specs.Opening.{opened_row, opened_table}
use Rattle.adapter_table.specs.Requests.{admitted_open, served_open, served_close, requested}
use Rattle.cip_tables.specs.Step.{step}
use Rattle.cip_tables.specs.Run.{table_of}
use Rattle.samples.specs.Datagrams.{datagram, running}
use Rattle.samples.specs.Devices.{common, fresh, own, peer}
use Rattle.samples.specs.Rows.{at_counter}
use Rattle.samples.specs.Hex.{hex}
use Rattle.samples.specs.Requests.{owner}
use Rattle.samples.specs.Runs.{closes, id, opens}
use Rattle.segment_world.specs.World.{ReportedEvent}
use Rattle.schedule_laws.specs.Stories.{led_to}
use Rattle.device_laws.specs.Requests.{is_between}
use Rattle.schedule_laws.specs.Ids.{has_drawn, is_drawn}
use Rattle.schedule_laws.specs.Owners.{Brings, Ends}

-- ---- ids

-- an adapter with incarnation 0x10 whose next number is 3 has drawn two ids
two_are_drawn :
    has_drawn 0x10000001 (at_counter 3) ∷ has_drawn 0x10000002 (at_counter 3) ∷ has_drawn 0x10000003 (at_counter 3) ∷ has_drawn 0x11000001 (at_counter 3) ∷ []
    ≡ true ∷ true ∷ false ∷ false ∷ []
unfolding is_between
two_are_drawn = refl

-- 0 is the id for none
no_others_are_drawn :
    is_drawn (at_counter 3 ∷ []) 0 ∷ is_drawn (at_counter 3 ∷ []) 0x10000001 ∷ is_drawn (at_counter 3 ∷ []) 0x10000003 ∷ is_drawn [] 0x10000001 ∷ []
    ≡ true ∷ true ∷ false ∷ false ∷ []
unfolding is_between
no_others_are_drawn = refl

-- ---- reported events

abbrev happened : ℕ → Event → ReportedEvent
happened device event = record { device = device; event = event; answer = plain_answer Done }

-- events of another device are not its own
another_s : led_to (fresh common) 1 (happened 0 (opens owner) ∷ happened 2 (Tick 5) ∷ []) ≡ fresh common
another_s = refl

its_own : led_to (fresh common) 0 (happened 1 (opens owner) ∷ happened 0 (opens owner) ∷ []) ≡ table_of (fresh common) (step (fresh common) (opens owner))
its_own = refl

-- ---- an owner

abbrev before : List ReportedEvent
before = happened 0 (opens owner) ∷ happened 1 (Tick 5) ∷ []

-- data of the connection that was opened as 1 are applied to the output 150
brings : Brings (fresh common) 0 150 1 before (happened 0 (Datagram peer (datagram (id 1) 1 1 (running (hex "01 02 03 04")))))
unfolding datagram_reading paths.path_reading paths.target_reading paths.segments_at paths.segment_at paths.logical_at paths.value_at paths.key_at paths.key_fields_at paths.data_at close_reading open_reading request_reading params16 router_request_reading verdict closed_table accepted_table received opened_row opened_table admitted_open served_open served_close requested step
brings = record { own = refl; adapter = _; there = refl; brings = refl }

-- and its close ends it
ends : Ends (fresh common) 0 150 1 before (record { device = 0; event = closes peer owner; answer = record (plain_answer Done) { notices = Closed (own 1) ∷ [] } })
unfolding datagram_reading paths.path_reading paths.target_reading paths.segments_at paths.segment_at paths.logical_at paths.value_at paths.key_at paths.key_fields_at paths.data_at close_reading open_reading request_reading params16 router_request_reading verdict closed_table accepted_table received opened_row opened_table admitted_open served_open served_close requested step
ends = record { own = refl; adapter = _; there = refl; ends = (0, omega arith, refl) }
