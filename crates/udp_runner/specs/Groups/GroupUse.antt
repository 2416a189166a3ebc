-- Which groups a port uses: whether it sends to groups, and for which it has a socket.
use Rattle.std.specs.Prelude.{ℕ, ◌+◌, ◌-◌, ◌^◌, min, ◌==◌, ◌&&◌, not, nat_le, nat_lt, if◌then◌else◌, Bool, List, [], ◌∷◌, ◌++◌, Option, Some, None}
use Rattle.std.specs.List.{list_any}
use Rattle.cip_types.specs.declared.names.Node.{Node}
use Rattle.udp_runner.specs.declared.groups.group.DataGroup.{DataGroup}

-- ADDRESSES

-- an address of this host alone, 127.0.0.0 to 127.255.255.255 (RFC 1122, section 3.2.1.3)
abbrev pub is_loopback : Node → Bool
is_loopback address = nat_le 0x7F000000 address.0 && nat_le address.0 0x7FFFFFFF

-- a station at this address uses groups: as an option says it, or else unless no other host reaches it
abbrev pub uses_groups : Option Bool → Node → Bool
uses_groups (Some said) address = said
uses_groups None address = not (is_loopback address)

-- the address of a group, 224.0.0.0 to 239.255.255.255 (RFC 1112, section 4)
abbrev pub is_group : Node → Bool
is_group address = nat_le 0xE0000000 address.0 && nat_lt address.0 0xF0000000

-- the UDP port to which a datagram to this address goes, where this one is that of a peer: at a group it is that of all replies
abbrev pub sent_port : Node → ℕ → ℕ
sent_port address peer_port = if is_group address then 2222 else peer_port

-- the UDP port of a group whose item names this one; 0 names none
abbrev pub group_port : ℕ → ℕ
group_port named = if named == 0 then 2222 else named

-- GROUPS

abbrev pub is_same : DataGroup → DataGroup → Bool
is_same group other = (group.address.0 == other.address.0) && (group.port == other.port)

-- these groups with one more, each once
abbrev pub with_group : List DataGroup → Option DataGroup → List DataGroup
with_group groups None = groups
with_group groups (Some group) = if list_any (is_same group) groups then groups else groups ++ group ∷ []

-- SOCKETS

-- a socket at 0.0.0.0 receives what is sent to its UDP port at a group
abbrev pub receives_itself : Node → ℕ → DataGroup → Bool
receives_itself address udp group = (address.0 == 0) && (udp == group.port)

-- a port at this address and UDP port adds a socket for the group, of which it has one or not
abbrev pub is_to_add : Node → ℕ → DataGroup → Bool → Bool
is_to_add address udp group has_socket = not has_socket && not (receives_itself address udp group)

-- when a socket that could not be bound now is tried again, in milliseconds
abbrev pub next_try : ℕ → ℕ
next_try now = min (now + 5000) (2 ^ 64 - 1)

-- a group is to be tried again
abbrev pub is_due : Bool → ℕ → ℕ → Bool
is_due bound next now = not bound && nat_le next now
