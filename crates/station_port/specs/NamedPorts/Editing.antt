-- A message with one item more, and with one less. `Naming` has the positions of its bytes.
use Rattle.std.specs.Prelude.{ℕ, ◌-◌, ◌+◌, ◌==◌, ◌||◌, nat_lt, if◌then◌else◌, Bool, false, List, ◌++◌, length, take, drop, Option, Some, None}
use Rattle.std.specs.Int.{w16, to_le_bytes}
use Rattle.cip_types.specs.Parts.{number_in}
use Rattle.cip_encap.specs.Packet.{socket_items}
use Rattle.station_port.specs.NamedPorts.Naming.{opening_len}

-- the bytes up to the number of items, with this length and this number
abbrev pub head : List ℕ → ℕ → ℕ → List ℕ
head message len count = take 2 message ++ (to_le_bytes w16 len ++ (take 26 (drop 4 message) ++ to_le_bytes w16 count))

-- no item is behind the request of so many bytes
abbrev pub ends_behind : List ℕ → Option ℕ → Bool
ends_behind message None = false
ends_behind message (Some len) = length (drop len (drop 40 message)) == 0

-- an item can be added: the message of a stream has at most 20 bytes more
abbrev pub takes_item : List ℕ → Bool
takes_item message = if nat_lt (length message) 40 || nat_lt 2052 (length message) then false else ends_behind message (opening_len message)

-- the message with an item behind it that names the port, and no address
unfoldable pub with_item : List ℕ → ℕ → Option (List ℕ)
with_item message port =
    if takes_item message
    then Some (head message (length message + 20 - 24) 3 ++ (drop 32 message ++ socket_items (Some (record { port = port; address = record { 0 = 0 } }))))
    else None

-- the message without the item that begins so many bytes before its end
unfoldable pub without_item : List ℕ → ℕ → List ℕ
without_item message from_end =
    head message (length message - 20 - 24) (number_in w16 message 30 - 1)
    ++ (drop 32 (take (length message - from_end) message) ++ drop 20 (drop (length message - from_end) message))
