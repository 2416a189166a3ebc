-- Class 1 datagrams, byte for byte (Volume 2, chapter 2, sequenced address item and connected data item).
use Rattle.std.specs.Prelude.{ℕ, ◌+◌, List, [], ◌∷◌, ◌++◌, length}
use Rattle.cip_types.specs.declared.names.Node.{Node}
use Rattle.cip_events.specs.declared.event.OutgoingDatagram.{OutgoingDatagram}
use Rattle.samples.specs.Hex.{hex, little}

-- a datagram by its connection id, sequence number, sequence count and data
abbrev pub datagram : ℕ → ℕ → ℕ → List ℕ → List ℕ
datagram id number count payload =
    hex "02 00 02 80 08 00" ++ little 4 id ++ little 4 number ++ hex "B1 00" ++ little 2 (length payload + 2) ++ little 2 count ++ payload

-- data of an owner in run mode, behind a run/idle header
abbrev pub running : List ℕ → List ℕ
running bytes = hex "01 00 00 00" ++ bytes

-- data of an owner in idle mode
abbrev pub idling : List ℕ → List ℕ
idling bytes = hex "00 00 00 00" ++ bytes

-- a sent datagram
abbrev pub outgoing : Node → List Node → List ℕ → OutgoingDatagram
outgoing address nodes bytes = record { address = address; nodes = nodes; bytes = bytes }

-- a datagram for one consumer
abbrev pub to_one : Node → List ℕ → OutgoingDatagram
to_one node bytes = outgoing node (node ∷ []) bytes
