-- What arrives at a device from outside: over a stream, or as a class 1 datagram. Which events its own application makes.
use Rattle.std.specs.Prelude.{Bool, true, false}
use Rattle.cip_events.specs.declared.arrival.Arrival.{Arrival}
use Rattle.cip_events.specs.declared.arrival.Arrival.TheVariants as arrival
use Rattle.cip_events.specs.declared.event.Event.{Event}
use Rattle.cip_events.specs.declared.event.Event.TheVariants as event

-- the event of the device at which this arrives
abbrev pub arrival_event : Arrival → Event
arrival_event (arrival.Opened stream peer) = event.StreamOpened stream peer
arrival_event (arrival.Frame stream bytes) = event.Frame stream bytes
arrival_event (arrival.Cut stream) = event.StreamCut stream
arrival_event (arrival.Datagram peer bytes) = event.Datagram peer bytes
arrival_event (arrival.Inquiry peer bytes) = event.Inquiry peer bytes

-- the event is a call of the device's own application, a block of ids, a tick, or an inquiry, which changes nothing and goes over
-- no stream
abbrev pub is_own : Event → Bool
is_own (event.Request peer bytes) = false
is_own (event.StreamOpened stream peer) = false
is_own (event.Frame stream bytes) = false
is_own (event.StreamCut stream) = false
is_own (event.Datagram peer bytes) = false
is_own other = true

-- the event gives the device a further block of connection ids
abbrev pub gives_ids : Event → Bool
gives_ids (event.Ids block) = true
gives_ids other = false
