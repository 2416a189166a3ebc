-- The identity item of a reply to a ListIdentity request (Volume 2, chapter 2, ListIdentity).
--
--   number of items      u16   1
--   item type            u16   000C
--   length               u16   of what follows
--   protocol version     u16   1
--   socket address             family (2), port, IPv4 address, each with the most significant byte first, 8 zeros
--   vendor               u16
--   device type          u16
--   product code         u16
--   revision             u8, u8   major, minor
--   status               u16
--   serial number        u32
--   product name               a byte for its length, its bytes
--   state                u8
use Rattle.std.specs.Prelude.{ℕ, ◌+◌, List, [], ◌∷◌, ◌++◌, length, replicate}
use Rattle.std.specs.Int.{w16, w32, to_be_bytes, to_le_bytes}
use Rattle.cip_encap.specs.declared.packet.SocketAddress.{SocketAddress}
use Rattle.list_identity.specs.declared.station.StationIdentity.{StationIdentity}

-- the bytes of the item behind its length, but for the name
abbrev pub fixed_bytes : ℕ
fixed_bytes = 34

-- the number of items, the item's type and length, and the version of the protocol
unfoldable pub item_head : StationIdentity → List ℕ
item_head s = to_le_bytes w16 1 ++ (to_le_bytes w16 0x000C ++ (to_le_bytes w16 (fixed_bytes + length s.name) ++ to_le_bytes w16 1))

-- the socket address: numbers with the most significant byte first
unfoldable pub view_socket : SocketAddress → List ℕ
view_socket at = to_be_bytes w16 2 ++ (to_be_bytes w16 at.port ++ (to_be_bytes w32 at.address.0 ++ replicate 8 0))

-- vendor, device type and product
unfoldable pub view_product : StationIdentity → List ℕ
view_product s = to_le_bytes w16 s.device.vendor ++ (to_le_bytes w16 s.device.device_type ++ to_le_bytes w16 s.device.product)

-- revision, status word and serial number
unfoldable pub view_unit : StationIdentity → List ℕ
view_unit s = s.device.major ∷ s.device.minor ∷ (to_le_bytes w16 s.status ++ to_le_bytes w32 s.serial)

-- what the Identity object says of the device
unfoldable pub view_device : StationIdentity → List ℕ
view_device s = view_product s ++ view_unit s

-- the name behind its length, and the state
unfoldable pub view_name : StationIdentity → List ℕ
view_name s = length s.name ∷ (s.name ++ s.state ∷ [])

-- the one item: the address is the one under which who asks reaches the station
unfoldable pub identity_item : StationIdentity → SocketAddress → List ℕ
identity_item s at = item_head s ++ (view_socket at ++ (view_device s ++ view_name s))
