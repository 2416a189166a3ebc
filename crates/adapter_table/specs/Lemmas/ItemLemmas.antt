-- The items around a request, and around a connected message, as a device takes them: what holds of them whatever is behind the data
-- holds of them at every device.
use Rattle.std.proofs.Common.{◌≡◌, ℕ, List, Option, Some, None, Result, Ok, Err}
use Rattle.cip_encap.specs.declared.packet.ItemFault.{ItemFault}
use Rattle.cip_encap.specs.AnyItems.{any_packet_reading, any_connected_reading}
use Rattle.cip_encap.specs.Connected.{ConnectedFields}
use Rattle.cip_encap.specs.Packet.{PacketFields}
use Rattle.cip_encap.specs.Lemmas.AnyItemLemmas.{packet_any, packet_covered, connected_any, connected_covered}
use Rattle.adapter_table.specs.declared.profile.Description.{Description}
use Rattle.adapter_table.specs.Encapsulation.{items_for, connected_items_for}

pub items_hold : (P : Result PacketFields ItemFault → Type 0) → ((fault : ItemFault) → P (Err fault)) → (d : Option Description) (body : List ℕ) → P (any_packet_reading body) → P (items_for d body)
items_hold P bad None body holds = packet_covered P bad body holds
items_hold P bad (Some d) body holds = holds

pub connected_items_hold : (P : Result ConnectedFields ItemFault → Type 0) → ((fault : ItemFault) → P (Err fault)) → (d : Option Description) (body : List ℕ) → P (any_connected_reading body) → P (connected_items_for d body)
connected_items_hold P bad None body holds = connected_covered P bad body holds
connected_items_hold P bad (Some d) body holds = holds

-- what a device reads is read whatever is behind the data
pub items_any : (d : Option Description) (body : List ℕ) (packet : PacketFields) → items_for d body ≡ Ok packet → any_packet_reading body ≡ Ok packet
items_any None body packet is = packet_any body packet is
items_any (Some d) body packet is = is

pub connected_items_any : (d : Option Description) (body : List ℕ) (unit : ConnectedFields) → connected_items_for d body ≡ Ok unit → any_connected_reading body ≡ Ok unit
connected_items_any None body unit is = connected_any body unit is
connected_items_any (Some d) body unit is = is
