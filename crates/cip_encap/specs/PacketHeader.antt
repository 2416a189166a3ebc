-- The front of items, as the program keeps it. No public clause cites this module.
use Rattle.std.specs.Prelude.{ℕ, List, [], ◌∷◌}
use Rattle.cip_encap.specs.declared.packet_header.PacketHeader.{PacketHeader}

-- the numbers before the data of items, in their order
abbrev pub packet_header_numbers : PacketHeader → List ℕ
packet_header_numbers h = h.interface ∷ h.timeout ∷ h.count ∷ h.address ∷ h.address_len ∷ h.kind ∷ h.len ∷ []
