use Rattle.std.proofs.Common.{◌≡◌, ◌+◌, ◌≤◌, ◌++◌, ℕ, List, Option, length, refl, arith, length-append}
use Rattle.cip_types.specs.Fields.{fields_text}
use Rattle.cip_encap.specs.declared.packet.SocketAddress.{SocketAddress}
use Rattle.cip_encap.specs.Packet.{packet_widths, written_numbers, socket_items, packet_text}
use Rattle.cip_router.specs.Replies.{ReplyFields, GetsFew, view_reply, reply_text}
use Rattle.cip_router.specs.ReplyLaws.{reply_fits, items_fit}
use Rattle.adapter_replies.proofs.replies.write_router.Goals as goal

-- the number of bytes of the items
packet_len : (payload : List ℕ) (socket : Option SocketAddress) → length (packet_text payload socket) ≡ 16 + length payload + length (socket_items socket)
packet_len payload socket =
    let front = fields_text packet_widths (written_numbers (length payload) socket) in
    let sixteen : length front ≡ 16 = refl in
    omega (arith, length-append front (payload ++ socket_items socket), length-append payload (socket_items socket), sixteen)

pub items_len-len-requires : goal.items_len-len-requires
items_len-len-requires c = omega (arith, c.len-reply_len.ensures, reply_fits (view_reply c.args.reply.now) c.requires.few)

-- the items are within the length field of their message
few : (reply : ReplyFields) (socket : Option SocketAddress) (n len : ℕ) → n ≡ length (reply_text reply) → len ≡ 16 + n + length (socket_items socket) → GetsFew reply → len ≤ 65535
few reply socket n len bytes items gets = omega (arith, bytes, items, packet_len (reply_text reply) socket, items_fit reply socket gets)

pub overflow_add-len : goal.overflow_add-len
overflow_add-len c = omega (arith, few (view_reply c.args.reply.now) c.map-socket.result _ _ c.len-reply_len.ensures c.items_len-len.ensures c.requires.few)

pub overflow_cast-len : goal.overflow_cast-len
overflow_cast-len c = omega (arith, few (view_reply c.args.reply.now) c.map-socket.result _ _ c.len-reply_len.ensures c.items_len-len.ensures c.requires.few)
