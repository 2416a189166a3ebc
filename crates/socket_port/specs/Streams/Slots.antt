-- The streams of a port by their numbers: sixteen slots, each free or with a stream.
use Rattle.std.specs.Prelude.{◌≡◌, ℕ, Bool, true, false, List, slice_index_or, slice_set, Option, Some, None}
use Rattle.std.specs.Option.{is_none}
use Rattle.cip_events.specs.declared.arrival.Arrival.{Arrival}
use Rattle.socket_port.specs.declared.streams.port_stream.PortStream.{PortStream}
use Rattle.socket_port.specs.Streams.StreamArrivals.{ReceivesBytes, Sends, ended, given_of, left_of, takes_bytes}

-- no stream has the number of the slot
abbrev pub is_free : {S : Type 0} → Option (PortStream S) → Bool
is_free slot = is_none slot

-- the stream of a number, if there is one
abbrev pub slot_at : {S : Type 0} → List (Option (PortStream S)) → ℕ → Option (PortStream S)
slot_at slots number = slice_index_or slots number None

-- the next arrival of a slot, and the slot after it: a number is free again once the end of its stream was taken
abbrev pub given_at : {S : Type 0} → ℕ → Option (PortStream S) → Option Arrival
given_at number None = None
given_at number (Some port_stream) = given_of number port_stream

abbrev pub left_at : {S : Type 0} → Option (PortStream S) → Option (PortStream S)
left_at None = None
left_at (Some port_stream) = left_of port_stream

-- the stream has ended, if there is one
abbrev pub ended_at : {S : Type 0} → Option (PortStream S) → Option (PortStream S)
ended_at None = None
ended_at (Some port_stream) = Some (ended port_stream)

-- the stream has ended, if there is one
abbrev pub has_ended : {S : Type 0} → Option (PortStream S) → Bool
has_ended None = false
has_ended (Some port_stream) = port_stream.ended

-- the slot after a piece of bytes was received
abbrev pub ReceivesAt : {S : Type 0} → Option (PortStream S) → List ℕ → Option (PortStream S) → Type 0
ReceivesAt None piece new = new ≡ None
ReceivesAt (Some port_stream) piece None = ⊥
ReceivesAt (Some port_stream) piece (Some new) = ReceivesBytes (takes_bytes port_stream) port_stream piece new

-- bytes of the stream of this number were received: no other stream changes
pub record Receives {S : Type 0} (old : List (Option (PortStream S))) (number : ℕ) (piece : List ℕ) (new : List (Option (PortStream S))) : Type 0 where
  pub slot : Option (PortStream S)
  pub received : ReceivesAt (slot_at old number) piece slot
  pub others : new ≡ slice_set old number slot

-- the slot after a message was sent over its stream
abbrev pub SendsAt : {S : Type 0} → (S → Option (List ℕ)) → Option (PortStream S) → List ℕ → Option (PortStream S) → Type 0
SendsAt contents None message new = new ≡ None
SendsAt contents (Some port_stream) message None = ⊥
SendsAt contents (Some port_stream) message (Some new) = Sends contents port_stream.ended port_stream message new

-- a message was sent over the stream of this number: no other stream changes
pub record SendsOver {S : Type 0} (contents : S → Option (List ℕ)) (old : List (Option (PortStream S))) (number : ℕ) (message : List ℕ) (new : List (Option (PortStream S))) : Type 0 where
  pub slot : Option (PortStream S)
  pub sent : SendsAt contents (slot_at old number) message slot
  pub others : new ≡ slice_set old number slot

-- the socket to read from, of a stream that takes bytes
abbrev pub socket_if : {S : Type 0} → Bool → S → Option S
socket_if true socket = Some socket
socket_if false socket = None

abbrev pub read_at : {S : Type 0} → Option (PortStream S) → Option S
read_at None = None
read_at (Some port_stream) = socket_if (takes_bytes port_stream) port_stream.socket

-- the socket of a slot's stream, if there is one
abbrev pub socket_at : {S : Type 0} → Option (PortStream S) → Option S
socket_at None = None
socket_at (Some port_stream) = Some port_stream.socket
