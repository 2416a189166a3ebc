-- A reading that takes socket addresses alone behind the data is the reading that takes items of any type there.
use Rattle.std.proofs.Common.{◌≡◌, ◌≤◌, ℕ, zero, suc, ◌-◌, ◌==◌, ◌&&◌, ◌||◌, nat_le, Bool, true, false, cond, not, List, [], ◌∷◌, length, take, drop, Option, Some, None, Result, Ok, Err, refl, subst}
use Rattle.std.proofs.lemmas.Bool.{eqb-true}
use Rattle.cip_types.specs.Fields.{fields_at}
use Rattle.cip_types.specs.Texts.{Tailed}
use Rattle.cip_encap.specs.declared.packet.ItemFault.{ItemFault}
use Rattle.cip_encap.specs.declared.packet.ItemFault.TheVariants.{Bad}
use Rattle.cip_encap.specs.declared.packet.SocketAddress.{SocketAddress}
use Rattle.cip_encap.specs.AnyItems.{is_socket_kind, item_parts, item_found, behind_item, are_items, any_parts, any_found, any_packet_reading, any_connected_parts, any_connected_found, any_connected_reading}
use Rattle.cip_encap.specs.Connected.{ConnectedFields, connected_widths}
use Rattle.cip_encap.specs.ConnectedReading.{are_connected_heads, connected_parts, connected_found, connected_reading}
use Rattle.cip_encap.specs.Packet.{PacketFields, packet_text, packet_widths}
use Rattle.cip_encap.specs.PacketReading.{socket_widths, socket_parts, socket_found, behind_socket, passes, are_sockets, are_heads, parts_reading, found_reading, packet_reading}
use Rattle.cip_encap.specs.ReadsBack.{ItemsReadBack}

-- ---- one item

socket_is : (a b c : Bool) (len : ℕ) (rest after : List ℕ) → (len == 16) ≡ b → nat_le 16 (length rest) ≡ c → cond (a && b && c) (Some (drop 16 rest)) None ≡ Some after → cond (nat_le len (length rest) && (not a || len == 16)) (Some (drop len rest)) None ≡ Some after
socket_is false b c len rest after sized long is = absurd cc
socket_is true false c len rest after sized long is = absurd cc
socket_is true true false len rest after sized long is = absurd cc
socket_is true true true len rest after sized long is = rw (eqb-true len 16 sized, long) is

parts_are : (numbers rest after : List ℕ) → socket_parts numbers rest ≡ Some after → item_parts numbers rest ≡ Some after
parts_are [] rest after is = absurd cc
parts_are (kind ∷ []) rest after is = absurd cc
parts_are (kind ∷ len ∷ []) rest after is = socket_is (is_socket_kind kind) (len == 16) (nat_le 16 (length rest)) len rest after refl refl is
parts_are (kind ∷ len ∷ other ∷ more) rest after is = absurd cc

found_is : (found : Option Tailed) (after : List ℕ) → socket_found found ≡ Some after → item_found found ≡ Some after
found_is None after is = absurd cc
found_is (Some p) after is = parts_are p.0 p.1 after is

-- a socket address is an item
socket_item : (bytes after : List ℕ) → behind_socket bytes ≡ Some after → behind_item bytes ≡ Some after
unfolding behind_socket behind_item
socket_item bytes after is = found_is (fields_at socket_widths bytes) after is

-- ---- a number of them

passed : (n : ℕ) (socket item : Option (List ℕ)) → ((after : List ℕ) → socket ≡ Some after → item ≡ Some after) → ((rest : List ℕ) → are_sockets n rest ≡ true → are_items n rest ≡ true) → passes (are_sockets n) socket ≡ true → passes (are_items n) item ≡ true
passed n None item same goes is = absurd cc
passed n (Some after) item same goes is = rw (same after refl) (goes after is)

-- socket addresses are items
pub sockets_items : (n : ℕ) (bytes : List ℕ) → are_sockets n bytes ≡ true → are_items n bytes ≡ true
unfolding are_sockets are_items
sockets_items zero bytes is = is
sockets_items (suc n) bytes is = passed n (behind_socket bytes) (behind_item bytes) (socket_item bytes) (sockets_items n) is

-- ---- items of a request

behind_is : (s : Bool) (n : ℕ) (rest : List ℕ) (packet found : PacketFields) → are_sockets n rest ≡ s → ◌≡◌ {A = Result PacketFields ItemFault} (cond s (Ok packet) (Err Bad)) (Ok found) → ◌≡◌ {A = Result PacketFields ItemFault} (cond (are_items n rest) (Ok packet) (Err Bad)) (Ok found)
behind_is false n rest packet found are is = absurd cc
behind_is true n rest packet found are is = rw (sockets_items n rest are) is

heads_is : (heads fits : Bool) (n : ℕ) (rest : List ℕ) (packet found : PacketFields) → ◌≡◌ {A = Result PacketFields ItemFault} (cond (heads && fits && are_sockets n rest) (Ok packet) (Err Bad)) (Ok found) → ◌≡◌ {A = Result PacketFields ItemFault} (cond (heads && fits && are_items n rest) (Ok packet) (Err Bad)) (Ok found)
heads_is false fits n rest packet found is = absurd cc
heads_is true false n rest packet found is = absurd cc
heads_is true true n rest packet found is = behind_is (are_sockets n rest) n rest packet found refl is

packet_parts : (numbers rest : List ℕ) (found : PacketFields) → parts_reading numbers rest ≡ Ok found → any_parts numbers rest ≡ Ok found
packet_parts [] rest found is = absurd cc
packet_parts (a ∷ []) rest found is = absurd cc
packet_parts (a ∷ b ∷ []) rest found is = absurd cc
packet_parts (a ∷ b ∷ c ∷ []) rest found is = absurd cc
packet_parts (a ∷ b ∷ c ∷ d ∷ []) rest found is = absurd cc
packet_parts (a ∷ b ∷ c ∷ d ∷ e ∷ []) rest found is = absurd cc
packet_parts (a ∷ b ∷ c ∷ d ∷ e ∷ f ∷ []) rest found is = absurd cc
packet_parts (interface ∷ timeout ∷ count ∷ address ∷ address_len ∷ kind ∷ len ∷ []) rest found is =
    heads_is (are_heads interface count address address_len kind len) (nat_le len (length rest)) _ (drop len rest) (record { timeout = timeout; payload = take len rest }) found is
packet_parts (a ∷ b ∷ c ∷ d ∷ e ∷ f ∷ g ∷ h ∷ more) rest found is = absurd cc

packet_found : (fields : Option Tailed) (found : PacketFields) → found_reading fields ≡ Ok found → any_found fields ≡ Ok found
packet_found None found is = absurd cc
packet_found (Some p) found is = packet_parts p.0 p.1 found is

-- what is read with socket addresses alone is read the same
pub packet_any : (bytes : List ℕ) (found : PacketFields) → packet_reading bytes ≡ Ok found → any_packet_reading bytes ≡ Ok found
unfolding packet_reading any_packet_reading
packet_any bytes found is = packet_found (fields_at packet_widths bytes) found is

packet_by : (P : Result PacketFields ItemFault → Type 0) → ((fault : ItemFault) → P (Err fault)) → (bytes : List ℕ) (reading : Result PacketFields ItemFault) → packet_reading bytes ≡ reading → P (any_packet_reading bytes) → P reading
packet_by P bad bytes (Err fault) is holds = bad fault
packet_by P bad bytes (Ok packet) is holds = subst P (packet_any bytes packet is) holds

-- what holds of a fault, and of the reading with items of any type, holds of that with socket addresses alone
pub packet_covered : (P : Result PacketFields ItemFault → Type 0) → ((fault : ItemFault) → P (Err fault)) → (bytes : List ℕ) → P (any_packet_reading bytes) → P (packet_reading bytes)
packet_covered P bad bytes holds = packet_by P bad bytes (packet_reading bytes) refl holds

one_fault : (fault : ItemFault) → ◌≡◌ {A = Result PacketFields ItemFault} (Err fault) (Err Bad)
one_fault Bad = refl

-- what cannot be read with items of any type cannot be read
pub packet_bad : (bytes : List ℕ) → any_packet_reading bytes ≡ Err Bad → packet_reading bytes ≡ Err Bad
packet_bad bytes is = packet_covered (λ (reading : Result PacketFields ItemFault). reading ≡ Err Bad) one_fault bytes is

-- data that were written among their items are read back
pub any_back : ItemsReadBack → (payload : List ℕ) (socket : Option SocketAddress) → 1 ≤ length payload → length payload ≤ 65535 → any_packet_reading (packet_text payload socket) ≡ Ok (record { timeout = 0; payload = payload })
any_back back payload socket some few = packet_any (packet_text payload socket) (record { timeout = 0; payload = payload }) (back payload socket some few)

-- ---- items of a connected message

message_behind : (s : Bool) (n : ℕ) (rest : List ℕ) (unit found : ConnectedFields) → are_sockets n rest ≡ s → ◌≡◌ {A = Result ConnectedFields ItemFault} (cond s (Ok unit) (Err Bad)) (Ok found) → ◌≡◌ {A = Result ConnectedFields ItemFault} (cond (are_items n rest) (Ok unit) (Err Bad)) (Ok found)
message_behind false n rest unit found are is = absurd cc
message_behind true n rest unit found are is = rw (sockets_items n rest are) is

message_heads : (heads fits : Bool) (n : ℕ) (rest : List ℕ) (unit found : ConnectedFields) → ◌≡◌ {A = Result ConnectedFields ItemFault} (cond (heads && fits && are_sockets n rest) (Ok unit) (Err Bad)) (Ok found) → ◌≡◌ {A = Result ConnectedFields ItemFault} (cond (heads && fits && are_items n rest) (Ok unit) (Err Bad)) (Ok found)
message_heads false fits n rest unit found is = absurd cc
message_heads true false n rest unit found is = absurd cc
message_heads true true n rest unit found is = message_behind (are_sockets n rest) n rest unit found refl is

message_parts : (numbers rest : List ℕ) (found : ConnectedFields) → connected_parts numbers rest ≡ Ok found → any_connected_parts numbers rest ≡ Ok found
message_parts [] rest found is = absurd cc
message_parts (a ∷ []) rest found is = absurd cc
message_parts (a ∷ b ∷ []) rest found is = absurd cc
message_parts (a ∷ b ∷ c ∷ []) rest found is = absurd cc
message_parts (a ∷ b ∷ c ∷ d ∷ []) rest found is = absurd cc
message_parts (a ∷ b ∷ c ∷ d ∷ e ∷ []) rest found is = absurd cc
message_parts (a ∷ b ∷ c ∷ d ∷ e ∷ f ∷ []) rest found is = absurd cc
message_parts (a ∷ b ∷ c ∷ d ∷ e ∷ f ∷ g ∷ []) rest found is = absurd cc
message_parts (a ∷ b ∷ c ∷ d ∷ e ∷ f ∷ g ∷ h ∷ []) rest found is = absurd cc
message_parts (interface ∷ seconds ∷ items ∷ address ∷ address_len ∷ connection ∷ kind ∷ len ∷ count ∷ []) rest found is =
    message_heads (are_connected_heads interface items address address_len kind len) (nat_le (len - 2) (length rest)) _ (drop (len - 2) rest) (record { connection = connection; count = count; message = take (len - 2) rest }) found is
message_parts (a ∷ b ∷ c ∷ d ∷ e ∷ f ∷ g ∷ h ∷ i ∷ j ∷ more) rest found is = absurd cc

message_found : (fields : Option Tailed) (found : ConnectedFields) → connected_found fields ≡ Ok found → any_connected_found fields ≡ Ok found
message_found None found is = absurd cc
message_found (Some p) found is = message_parts p.0 p.1 found is

-- a connected message, likewise
pub connected_any : (bytes : List ℕ) (found : ConnectedFields) → connected_reading bytes ≡ Ok found → any_connected_reading bytes ≡ Ok found
unfolding connected_reading any_connected_reading
connected_any bytes found is = message_found (fields_at connected_widths bytes) found is

message_by : (P : Result ConnectedFields ItemFault → Type 0) → ((fault : ItemFault) → P (Err fault)) → (bytes : List ℕ) (reading : Result ConnectedFields ItemFault) → connected_reading bytes ≡ reading → P (any_connected_reading bytes) → P reading
message_by P bad bytes (Err fault) is holds = bad fault
message_by P bad bytes (Ok unit) is holds = subst P (connected_any bytes unit is) holds

pub connected_covered : (P : Result ConnectedFields ItemFault → Type 0) → ((fault : ItemFault) → P (Err fault)) → (bytes : List ℕ) → P (any_connected_reading bytes) → P (connected_reading bytes)
connected_covered P bad bytes holds = message_by P bad bytes (connected_reading bytes) refl holds
