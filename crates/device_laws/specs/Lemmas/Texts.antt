-- Texts that were written are read back, whether or not their numbers fit: each number as its field cuts it.
use Rattle.std.proofs.Common.{◌≡◌, ◌<◌, ◌≤◌, ℕ, ◌^◌, ◌+◌, ◌-◌, ltb, Bool, true, false, cond, List, [], ◌∷◌, ◌++◌, length, Option, Some, Ok, Err, refl, sym, ◌∙◌, ap, subst, append_assoc, arith}
use Rattle.std.specs.Int.{Width, w8, w16, w32, w64, w128, byte_len, from_le_bytes, to_le_bytes}
use Rattle.std.proofs.lemmas.Bool.{le-ltb}
use Rattle.std.proofs.lemmas.List.{take_at, drop_at, length-append, append-nil}
use Rattle.std.proofs.lemmas.Nat.{from_le_bytes-to_le_bytes_4}
use Rattle.cip_types.specs.Fields.{fields_text, field_at, fields_at}
use Rattle.cip_types.specs.Texts.{Tailed}
use Rattle.cip_datagram.specs.declared.datagram.DatagramFault.TheVariants as fault
use Rattle.cip_datagram.specs.Datagram.{DatagramFields, datagram_widths, datagram_numbers, datagram_text}
use Rattle.cip_datagram.specs.Reading.{are_items, sized_reading, parts_reading, found_reading, datagram_reading}
use Rattle.cip_encap.specs.declared.message.EncapFault.TheVariants as encap_fault
use Rattle.cip_encap.specs.declared.packet.SocketAddress.{SocketAddress}
use Rattle.cip_encap.specs.Message.{MessageFields, header_widths, header_numbers, message_text}
use Rattle.cip_encap.specs.Reading as messages
use Rattle.cip_encap.specs.Packet.{packet_text}
use Rattle.cip_encap.specs.AnyItems.{any_packet_reading}
use Rattle.cip_encap.specs.ReadsBack.{ItemsReadBack}
use Rattle.cip_encap.specs.Lemmas.AnyItemLemmas.{any_back}
use Rattle.device_laws.specs.Ids.{PayloadIds, PacketIds, MessageIds, FrameIds, ReadId, DatagramId}

pub either : {X : Type 0} (P : X → Type 0) (b : Bool) (x y : X) → P x → P y → P (cond b x y)
either P true x y first second = first
either P false x y first second = second

-- ---- numbers

-- a number, as a field of the width brings it back
abbrev pub again : Width → ℕ → ℕ
again w n = from_le_bytes w (to_le_bytes w n)

abbrev pub cut : List Width → List ℕ → List ℕ
cut [] ns = []
cut (w ∷ ws) [] = []
cut (w ∷ ws) (n ∷ ns) = again w n ∷ cut ws ns

wide_len : (w : Width) (n : ℕ) → length (to_le_bytes w n) ≡ byte_len w
wide_len w8 n = refl
wide_len w16 n = refl
wide_len w32 n = refl
wide_len w64 n = refl
wide_len w128 n = refl

field_cut : (w : Width) (n : ℕ) (rest : List ℕ) → field_at w (to_le_bytes w n ++ rest) ≡ Some (again w n, rest)
field_cut w n rest =
    let len = wide_len w n in
    let long : ltb (length (to_le_bytes w n ++ rest)) (byte_len w) ≡ false = le-ltb _ _ (omega (arith, length-append (to_le_bytes w n) rest, wide_len w n)) in
    rw (long, take_at (to_le_bytes w n) rest (byte_len w) len, drop_at (to_le_bytes w n) rest (byte_len w) len) refl

pub fields_cut : (ws : List Width) (ns rest : List ℕ) → length ns ≡ length ws → fields_at ws (fields_text ws ns ++ rest) ≡ Some (cut ws ns, rest)
fields_cut [] ns rest are = refl
fields_cut (w ∷ ws) [] rest are = absurd (omega (arith, are))
fields_cut (w ∷ ws) (n ∷ ns) rest are =
    let regrouped = append_assoc (to_le_bytes w n) (fields_text ws ns) rest in
    ap (fields_at (w ∷ ws)) regrouped ∙ rw (field_cut w n (fields_text ws ns ++ rest), fields_cut ws ns rest (omega (arith, are))) refl

-- with nothing behind them
pub all_cut : (ws : List Width) (ns : List ℕ) → length ns ≡ length ws → fields_at ws (fields_text ws ns) ≡ Some (cut ws ns, [])
all_cut ws ns are = ap (fields_at ws) (sym (append-nil (fields_text ws ns))) ∙ fields_cut ws ns [] are

pub same_again : (n : ℕ) → n < 2 ^ 32 → again w32 n ≡ n
same_again n lt = from_le_bytes-to_le_bytes_4 n lt

-- what a field brings back of an id has what the id has
abbrev pub Cuts : (ℕ → Type 0) → Type 0
Cuts P = (id : ℕ) → P id → P (again w32 id)

-- ---- datagrams

sized_id : (P : ℕ → Type 0) (len : ℕ) (d : DatagramFields) → P d.connection → ReadId P (sized_reading len d)
sized_id P len d holds =
    either (ReadId P) (ltb (length d.payload) len) (Err fault.Truncated) _ tt
    (either (ReadId P) (ltb len (length d.payload)) (Err fault.Trailing) (Ok d) tt holds)

parts_id : (P : ℕ → Type 0) (d : DatagramFields) → P (again w32 d.connection) → ReadId P (parts_reading (cut datagram_widths (datagram_numbers d)) d.payload)
parts_id P d holds =
    either (ReadId P) (are_items (again w16 2) (again w16 0x8002) (again w16 8) (again w16 0xB1) (again w16 (length d.payload + 2)))
    (sized_reading (again w16 (length d.payload + 2) - 2) (record { connection = again w32 d.connection; sequence = again w32 d.sequence; count = again w16 d.count; payload = d.payload }))
    (Err fault.Items)
    (sized_id P (again w16 (length d.payload + 2) - 2) (record { connection = again w32 d.connection; sequence = again w32 d.sequence; count = again w16 d.count; payload = d.payload }) holds)
    tt

-- the id of a datagram that was written
pub datagram_id : (P : ℕ → Type 0) (d : DatagramFields) → P (again w32 d.connection) → DatagramId P (datagram_text d)
unfolding datagram_reading
datagram_id P d holds =
    subst (λ (found : Option Tailed). ReadId P (found_reading found)) (sym (fields_cut datagram_widths (datagram_numbers d) d.payload refl))
    (parts_id P d holds)

-- ---- messages

sized_ids : (P : ℕ → Type 0) (len : ℕ) (m : MessageFields) → PacketIds P (any_packet_reading m.payload) → MessageIds P (messages.sized_reading len m)
sized_ids P len m holds =
    either (MessageIds P) (ltb (length m.payload) len) (Err encap_fault.Truncated) _ tt
    (either (MessageIds P) (ltb len (length m.payload)) (Err encap_fault.Trailing) (Ok m) tt holds)

-- the ids of a message that was written are those of its data
pub message_ids : (P : ℕ → Type 0) (m : MessageFields) → PacketIds P (any_packet_reading m.payload) → FrameIds P (message_text m)
unfolding messages.message_reading
message_ids P m holds =
    subst (λ (found : Option Tailed). MessageIds P (messages.found_reading found)) (sym (fields_cut header_widths (header_numbers m) m.payload refl))
    (sized_ids P _ _ holds)

-- the ids of items are those of their data
pub packet_ids : ItemsReadBack → (P : ℕ → Type 0) (payload : List ℕ) (socket : Option SocketAddress) → 1 ≤ length payload → length payload ≤ 65535 → PayloadIds P payload → PacketIds P (any_packet_reading (packet_text payload socket))
packet_ids back P payload socket some few holds = subst (PacketIds P) (sym (any_back back payload socket some few)) holds
