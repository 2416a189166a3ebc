-- A simulated network: the tables of its devices, every datagram that was ever sent, and the streams between the devices;
-- and what one act does to it.
--
-- An act delivers a datagram to any device, in any order, once, many times or never, but only as it was sent and with its
-- sender's address. A stream may be cut, but neither loses, repeats nor reorders its frames before that.
use Rattle.std.specs.Prelude.{ℕ, ◌==◌, ◌&&◌, not, nat_lt, Bool, true, false, List, [], ◌∷◌, ◌++◌, map, set, length, slice_get, slice_index_or, Option, Some, None, Result, Ok, Err}
use Rattle.cip_types.specs.declared.names.Node.{Node}
use Rattle.cip_events.specs.declared.event.Answer.{Answer}
use Rattle.cip_events.specs.declared.event.Event.{Event}
use Rattle.cip_events.specs.declared.event.Event.TheVariants as event
use Rattle.cip_events.specs.declared.event.OutgoingDatagram.{OutgoingDatagram}
use Rattle.cip_events.specs.declared.event.StepFault.{StepFault}
use Rattle.cip_tables.specs.declared.table.DeviceTable.{DeviceTable}
use Rattle.cip_tables.specs.Step.{DeviceNext, step}
use Rattle.segment_world.specs.Transit.Log.{Sent}
use Rattle.segment_world.specs.declared.transit.direction.Direction.{Direction}
use Rattle.segment_world.specs.Transit.Streams.{QueueItem, Opening, Queued, Ending, Stream, side_of, receiver, sender, with_stream, answered, taken_from, fresh_stream, cut_stream}
use Rattle.segment_world.specs.declared.act.Act.{Act}
use Rattle.segment_world.specs.declared.act.Act.TheVariants.{Local, Deliver, NextFrame, OpenStream, CutStream}
use Rattle.segment_world.specs.declared.act.Call.{Call}
use Rattle.segment_world.specs.declared.act.Call.TheVariants as call
use Rattle.segment_world.specs.declared.act.ReadyCall.{ReadyCall}
use Rattle.segment_world.specs.declared.act.ReadyCall.TheVariants as ready
use Rattle.segment_world.specs.declared.act.ActFault.{ActFault}
use Rattle.segment_world.specs.declared.act.ActFault.TheVariants.{NoSuchDevice, NeverSent, StreamEmpty, NoSuchStream, Step}

-- the addresses of the devices, their tables, all datagrams sent, and the streams; a device is given by its index
pub record World : Type 0 where
  pub nodes : List Node
  pub tables : List DeviceTable
  pub sent : List Sent
  pub streams : List Stream

-- an event of a device, with its answer
pub record ReportedEvent : Type 0 where
  pub device : ℕ
  pub event : Event
  pub answer : Answer

-- the event that an act makes at a device, if it makes one, and the next world; or the fault of the act
abbrev pub Happened : Type 0
Happened = Result (Option ReportedEvent × World) ActFault

abbrev pub node_at : World → ℕ → Node
node_at w device = slice_index_or w.nodes device (record { 0 = 0 })

-- A DEVICE PERFORMS AN EVENT

-- a datagram of an answer enters the log once, however many consumers it has
abbrev pub sent_by : Node → OutgoingDatagram → Sent
sent_by node outgoing = record { from = node; bytes = outgoing.bytes }

-- the world after a device has sent its answer
abbrev pub fan_out : ℕ → Answer → World → World
fan_out device answer w = record w {
  sent = w.sent ++ map (sent_by (node_at w device)) answer.datagrams;
  streams = answered device answer w.streams;
}

abbrev pub after_device_step : ℕ → Event → World → Result DeviceNext StepFault → Happened
after_device_step device event w (Err fault) = Err (Step fault)
after_device_step device event w (Ok next) = Ok (Some (record { device = device; event = event; answer = next.0 }), fan_out device next.0 (record w { tables = set w.tables device next.1 }))

abbrev pub event_at_table : ℕ → Event → World → Option DeviceTable → Happened
event_at_table device event w None = Err NoSuchDevice
event_at_table device event w (Some t) = after_device_step device event w (step t event)

abbrev pub event_at_device : ℕ → Event → World → Happened
event_at_device device event w = event_at_table device event w (slice_get w.tables device)

-- EVENTS OF A DEVICE

abbrev pub event_of_call : Call → Event
event_of_call (call.Write point bytes) = event.Write point bytes
event_of_call (call.Read point) = event.Read point
event_of_call (call.Mode run) = event.Mode run
event_of_call (call.Start slot) = event.Start slot
event_of_call (call.Stop slot) = event.Stop slot
event_of_call (call.Explicit target number bytes) = event.Explicit target number bytes
event_of_call (call.Respond number status bytes) = event.Respond number status bytes
event_of_call (call.Counters bytes) = event.Counters bytes
event_of_call (call.Ids block) = event.Ids block
event_of_call (call.Tick ms) = event.Tick ms
event_of_call (call.Inquiry peer bytes) = event.Inquiry peer bytes

abbrev pub event_of_ready : ReadyCall → Event
event_of_ready (ready.Write point bytes) = event.Write point bytes.now
event_of_ready (ready.Event made) = made

abbrev pub delivered : ℕ → World → Option DeviceTable → Option Sent → Happened
delivered device w None sent = Err NoSuchDevice
delivered device w (Some t) None = Err NeverSent
delivered device w (Some t) (Some sent) = event_at_device device (event.Datagram sent.from sent.bytes) w

-- the event of the end that receives this item
abbrev pub event_of_item : ℕ → Node → QueueItem → Event
event_of_item n peer Opening = event.StreamOpened n peer
event_of_item n peer (Queued bytes) = event.Frame n bytes
event_of_item n peer Ending = event.StreamCut n

abbrev pub without_front : ℕ → Direction → World → World
without_front n direction w = record w { streams = with_stream (taken_from direction) n w.streams }

-- the end receives the front of its queue; the front stays if the device refuses the event
abbrev pub taken : ℕ → Direction → World → Stream → List QueueItem → Happened
taken n direction w s [] = Err StreamEmpty
taken n direction w s (item ∷ rest) = event_at_device (receiver direction s) (event_of_item n (node_at w (sender direction s)) item) (without_front n direction w)

abbrev pub taken_at : ℕ → Direction → World → Option Stream → Happened
taken_at n direction w None = Err NoSuchStream
taken_at n direction w (Some s) = taken n direction w s (side_of direction s).queue

-- STREAMS

-- two devices of the world
abbrev pub are_two : ℕ → ℕ → World → Bool
are_two from to w = nat_lt from (length w.tables) && nat_lt to (length w.tables) && not (from == to)

-- a stream's number has 16 bits
abbrev pub most_stream_numbers : ℕ
most_stream_numbers = 65536

abbrev pub opened_if : ℕ → ℕ → World → Bool → Bool → Happened
opened_if from to w false numbered = Err NoSuchDevice
opened_if from to w true false = Err NoSuchStream
opened_if from to w true true = Ok (None, record w { streams = w.streams ++ fresh_stream from to ∷ [] })

abbrev pub cut_if : ℕ → World → Bool → Happened
cut_if n w true = Err NoSuchStream
cut_if n w false = Ok (None, record w { streams = with_stream cut_stream n w.streams })

abbrev pub cut_at : ℕ → World → Option Stream → Happened
cut_at n w None = Err NoSuchStream
cut_at n w (Some s) = cut_if n w s.ended

-- ACTS

abbrev pub happens : World → Act → Happened
happens w (Local device call) = event_at_device device (event_of_call call) w
happens w (Deliver index device) = delivered device w (slice_get w.tables device) (slice_get w.sent index)
happens w (NextFrame stream direction) = taken_at stream direction w (slice_get w.streams stream)
happens w (OpenStream from to) = opened_if from to w (are_two from to w) (nat_lt (length w.streams) most_stream_numbers)
happens w (CutStream stream) = cut_at stream w (slice_get w.streams stream)
