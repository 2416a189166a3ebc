-- The front of the items of a connected message, as the program keeps it. No public clause cites this module.
use Rattle.std.specs.Prelude.{ℕ, List, [], ◌∷◌}
use Rattle.std.specs.Int.{Width, w16, w32}
use Rattle.cip_encap.specs.declared.connected_header.ConnectedHeader.{ConnectedHeader}

-- the numbers before the message, in their order
abbrev pub connected_header_numbers : ConnectedHeader → List ℕ
connected_header_numbers h = h.interface ∷ h.timeout ∷ h.items ∷ h.address ∷ h.address_len ∷ h.connection ∷ h.kind ∷ h.len ∷ h.count ∷ []

-- the fields up to the address item
abbrev pub address_widths : List Width
address_widths = w32 ∷ w16 ∷ w16 ∷ w16 ∷ w16 ∷ w32 ∷ []

-- the numbers up to the address item, with timeout 0 and two items
abbrev pub written_address : ℕ → List ℕ
written_address connection = 0 ∷ 0 ∷ 2 ∷ 0xA1 ∷ 4 ∷ connection ∷ []
