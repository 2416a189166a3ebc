-- What becomes of an arrival at a port with faults.
use Rattle.std.specs.Prelude.{◌≡◌, ◌⊎◌, ℕ, List, option_map, Option, Some}
use Rattle.cip_types.specs.declared.names.Node.{Node}
use Rattle.cip_events.specs.declared.arrival.Arrival.{Arrival}
use Rattle.cip_events.specs.declared.arrival.Arrival.TheVariants.{Datagram}
use Rattle.port_faults.specs.declared.hold.HeldDatagram.{HeldDatagram}
use Rattle.port_faults.specs.Holds.{GivesDue, HoldValue, given, taken}

-- what goes on at once, and what waits; without memory the datagram goes on, and nothing else changes
abbrev pub PassesDatagram : HoldValue → ℕ → Node → List ℕ → Option Arrival → HoldValue → Type 0
PassesDatagram old now peer bytes result new =
    ((result ≡ option_map (Datagram peer) (given old bytes)) × (new ≡ taken old now peer bytes)) ⊎ ((result ≡ Some (Datagram peer bytes)) × (new ≡ old))

-- what arrives over a stream passes as it is
abbrev pub Passes : HoldValue → ℕ → Arrival → Option Arrival → HoldValue → Type 0
Passes old now (Datagram peer bytes) result new = PassesDatagram old now peer bytes result new
Passes old now other result new = (result ≡ Some other) × (new ≡ old)

-- a datagram that was due arrives
pub record ArrivesLate (now : ℕ) (old : HoldValue) (arrival : Arrival) (new : HoldValue) : Type 0 where
  pub first : HeldDatagram
  pub due : GivesDue now old first new
  pub is : arrival ≡ Datagram first.peer first.bytes
