-- Who sent what a device took: the record of its address, and there an answer that has the datagram.
use Rattle.std.specs.Prelude.{◌≡◌, ◌⊎◌, ℕ, ◌==◌, ◌&&◌, Bool, true, false, List, [], ◌∷◌, Option, Some, None, Result, Ok, Err}
use Rattle.cip_types.specs.declared.names.Node.{Node}
use Rattle.cip_datagram.specs.Datagram.{DatagramFields}
use Rattle.cip_datagram.specs.Reading.{datagram_reading}
use Rattle.cip_datagram.specs.declared.datagram.DatagramFault.{DatagramFault}
use Rattle.cip_events.specs.declared.event.Event.{Event}
use Rattle.cip_events.specs.declared.event.Event.TheVariants.{StreamOpened, Datagram}
use Rattle.cip_events.specs.declared.event.OutgoingDatagram.{OutgoingDatagram}
use Rattle.trace_text.specs.Reading.{Entry}

-- the address that an event comes from, if it comes from another device
abbrev pub peer_of : Event → Option Node
peer_of (StreamOpened stream peer) = Some peer
peer_of (Datagram peer bytes) = Some peer
peer_of other = None

-- DATAGRAMS

-- one connection id, one sequence number and one sequence count
abbrev pub has_numbers : DatagramFields → DatagramFields → Bool
has_numbers one other = one.connection == other.connection && (one.sequence == other.sequence && one.count == other.count)

abbrev pub is_bare_of : Result DatagramFields DatagramFault → Result DatagramFields DatagramFault → Bool
is_bare_of (Ok one) (Ok other) = has_numbers one other
is_bare_of (Ok one) (Err fault) = false
is_bare_of (Err fault) other = false

abbrev pub is_bare : List ℕ → List ℕ → Bool
is_bare one other = is_bare_of (datagram_reading one) (datagram_reading other)

-- the datagram that was sent is the one with these bytes, which a record may have bare: without their data
abbrev pub IsSentAs : List ℕ → Bool → OutgoingDatagram → Type 0
IsSentAs bytes true sent = is_bare bytes sent.bytes ≡ true
IsSentAs bytes false sent = bytes ≡ sent.bytes

-- .. is one of these, is in an entry's answer, is in one of these entries
abbrev pub AnySends : List ℕ → Bool → List OutgoingDatagram → Type 0
AnySends bytes bare [] = ⊥
AnySends bytes bare (sent ∷ datagrams) = IsSentAs bytes bare sent ⊎ AnySends bytes bare datagrams

abbrev pub EntrySends : List ℕ → Bool → Entry → Type 0
EntrySends bytes bare (event, Some (Ok answer)) = AnySends bytes bare answer.datagrams
EntrySends bytes bare (event, Some (Err fault)) = ⊥
EntrySends bytes bare (event, None) = ⊥

abbrev pub WasSent : List ℕ → Bool → List Entry → Type 0
WasSent bytes bare [] = ⊥
WasSent bytes bare (entry ∷ entries) = EntrySends bytes bare entry ⊎ WasSent bytes bare entries
