-- An identity item is short, since names are.
use Rattle.std.proofs.Common.{arith, ◌≡◌, ◌<◌, ◌+◌, [], ◌∷◌, ◌++◌, length, length-append}
use Rattle.cip_encap.specs.declared.packet.SocketAddress.{SocketAddress}
use Rattle.list_identity.specs.declared.station.StationIdentity.{StationIdentity}
use Rattle.list_identity.specs.Identity.{identity_item, item_head, view_socket, view_device, view_product, view_unit, view_name}

pub identity_item_few : (s : StationIdentity) → (at : SocketAddress) → length s.name < 33 → length (identity_item s at) < 73
unfolding identity_item item_head view_socket view_device view_product view_unit view_name
identity_item_few s at few = let more : length (s.name ++ s.state ∷ []) ≡ length s.name + 1 = length-append s.name (s.state ∷ []) in omega (arith, more, few)
