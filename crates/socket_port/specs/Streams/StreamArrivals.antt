-- One stream of a port: how it begins, the messages in its bytes, and its arrivals in turn.
use Rattle.std.specs.Prelude.{◌≡◌, ◌⊎◌, ℕ, ◌<◌, Bool, true, false, List, [], ◌∷◌, ◌++◌, length, take, Option, Some, None}
use Rattle.std.specs.Io.KnownBytes.{Appends}
use Rattle.cip_types.specs.declared.names.Node.{Node}
use Rattle.cip_encap.specs.Stream.{AreMessages, EndsTooLong, GoOn}
use Rattle.cip_events.specs.declared.arrival.Arrival.{Arrival}
use Rattle.cip_events.specs.declared.arrival.Arrival.TheVariants as arrival
use Rattle.socket_port.specs.declared.streams.port_stream.PortStream.{PortStream}

-- a new stream: its opening is not reported yet, and no byte of it was received
abbrev pub begun : {S : Type 0} → Node → S → PortStream S
begun peer socket = record { peer = peer; socket = socket; reported = false; ended = false; splitter = []; waiting = [] }

-- bytes of a stream are read once its opening was reported, while no message waits, until it ends
abbrev pub reads : Bool → Bool → List (List ℕ) → Bool
reads true false [] = true
reads true false (message ∷ messages) = false
reads true true messages = false
reads false ended messages = false

abbrev pub takes_bytes : {S : Type 0} → PortStream S → Bool
takes_bytes port_stream = reads port_stream.reported port_stream.ended port_stream.waiting

-- The bytes that were left, with the piece behind them, are the messages that wait now and the bytes that are left
-- now.
pub record Splits {S : Type 0} (old : PortStream S) (piece : List ℕ) (new : PortStream S) : Type 0 where
  pub messages : AreMessages (old.splitter ++ piece) new.waiting new.splitter
  pub goes_on : GoOn old.splitter piece new.waiting new.splitter
  pub same : new ≡ record old { splitter = new.splitter; waiting = new.waiting }

-- The bytes end with a message that is too long, and with it the stream ends.
pub record Overflows {S : Type 0} (old : PortStream S) (piece : List ℕ) (new : PortStream S) : Type 0 where
  pub too_long : EndsTooLong (old.splitter ++ piece)
  pub same : new ≡ record old { ended = true }

-- a stream after a piece of its bytes was received: a stream that takes none drops them
abbrev pub ReceivesBytes : {S : Type 0} → Bool → PortStream S → List ℕ → PortStream S → Type 0
ReceivesBytes true old piece new = Splits old piece new ⊎ Overflows old piece new
ReceivesBytes false old piece new = new ≡ old

-- a stream that has ended
abbrev pub ended : {S : Type 0} → PortStream S → PortStream S
ended port_stream = record port_stream { ended = true }

-- the next arrival of the stream of this number: first its opening, then its messages, last its end
abbrev pub given_next : ℕ → Node → Bool → List (List ℕ) → Bool → Option Arrival
given_next number peer false messages ended = Some (arrival.Opened number peer)
given_next number peer true (message ∷ messages) ended = Some (arrival.Frame number message)
given_next number peer true [] true = Some (arrival.Cut number)
given_next number peer true [] false = None

abbrev pub given_of : {S : Type 0} → ℕ → PortStream S → Option Arrival
given_of number port_stream = given_next number port_stream.peer port_stream.reported port_stream.waiting port_stream.ended

-- the stream after that arrival: none after its end
abbrev pub left_next : {S : Type 0} → PortStream S → Bool → List (List ℕ) → Bool → Option (PortStream S)
left_next port_stream false messages ended = Some (record port_stream { reported = true })
left_next port_stream true (message ∷ messages) ended = Some (record port_stream { waiting = messages })
left_next port_stream true [] true = None
left_next port_stream true [] false = Some port_stream

abbrev pub left_of : {S : Type 0} → PortStream S → Option (PortStream S)
left_of port_stream = left_next port_stream port_stream.reported port_stream.waiting port_stream.ended

-- only a beginning of a message was written
abbrev pub IsCutShort : Option (List ℕ) → List ℕ → Option (List ℕ) → Type 0
IsCutShort old message new = (count : ℕ) × ((count < length message) × Appends old new (take count message))

-- The whole message was written over the socket, and nothing else changes. Of a socket the bytes that it took may be
-- known.
pub record SendsWhole {S : Type 0} (contents : S → Option (List ℕ)) (old : PortStream S) (message : List ℕ) (new : PortStream S) : Type 0 where
  pub written : Appends (contents old.socket) (contents new.socket) message
  pub same : new ≡ record old { socket = new.socket }

-- Only a beginning of the message was written, and with it the stream ends.
pub record SendsInPart {S : Type 0} (contents : S → Option (List ℕ)) (old : PortStream S) (message : List ℕ) (new : PortStream S) : Type 0 where
  pub part : IsCutShort (contents old.socket) message (contents new.socket)
  pub same : new ≡ record old { socket = new.socket; ended = true }

-- a stream after a message was sent over it: a stream that has ended drops it
abbrev pub Sends : {S : Type 0} → (S → Option (List ℕ)) → Bool → PortStream S → List ℕ → PortStream S → Type 0
Sends contents true old message new = new ≡ old
Sends contents false old message new = SendsWhole contents old message new ⊎ SendsInPart contents old message new
