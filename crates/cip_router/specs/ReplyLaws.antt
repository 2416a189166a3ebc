-- Replies are short: each has at least one byte, and its items are within their length field.
use Rattle.std.proofs.Common.{◌≡◌, ◌≤◌, ℕ, ◌+◌, Bool, List, ◌∷◌, ◌++◌, length, Option, Some, None, refl, arith, length-append}
use Rattle.cip_types.specs.declared.names.Fault.{Fault}
use Rattle.cip_types.specs.declared.names.Triad.{Triad}
use Rattle.cip_types.specs.Fields.{fields_text}
use Rattle.cip_fwdopen.specs.Close.{closed_text}
use Rattle.cip_fwdopen.specs.declared.reply.AcceptableIntervals.{AcceptableIntervals}
use Rattle.cip_fwdopen.specs.declared.reply.Opened.{Opened}
use Rattle.cip_fwdopen.specs.Reply.{reply_service, extended_text, failure_text, opened_text, refused_text, intervals_words, intervals_text}
use Rattle.cip_encap.specs.declared.packet.SocketAddress.{SocketAddress}
use Rattle.cip_encap.specs.Packet.{packet_widths, packet_numbers, socket_count, socket_items, packet_text}
use Rattle.cip_encap.specs.Connected.{connected_widths, written_connected, connected_text}
use Rattle.cip_router.specs.declared.object_service.ObjectService.{ObjectService}
use Rattle.cip_router.specs.Replies.{ReplyFields, opened, closed, object_reply, refused, unacceptable, own, reply_text, object_reply_text, own_reply_text, GetsFew, no_route}

-- ---- a reply and its items

-- a text of a reply: some bytes, and few
pub record IsShort (text : List ℕ) : Type 0 where
  pub some : 1 ≤ length text
  pub few : length text ≤ 1404

short_opened : (large : Bool) (o : Opened) → IsShort (opened_text large o)
unfolding opened_text
short_opened large o = record { some = omega arith; few = omega arith }

short_closed : (triad : Triad) → IsShort (closed_text triad)
unfolding closed_text
short_closed triad = record { some = omega arith; few = omega arith }

short_object_reply : (service : ObjectService) (value : List ℕ) → length value ≤ 1400 → IsShort (object_reply_text service value)
unfolding object_reply_text
short_object_reply service value few = record { some = omega arith; few = omega (arith, few) }

refusal_short : (service general : ℕ) (extended : Option ℕ) (triad : Option Triad) → IsShort (reply_service service ∷ 0 ∷ general ∷ extended_text extended ++ failure_text triad)
refusal_short service general None None = record { some = omega arith; few = omega arith }
refusal_short service general None (Some triad) = record { some = omega arith; few = omega arith }
refusal_short service general (Some code) None = record { some = omega arith; few = omega arith }
refusal_short service general (Some code) (Some triad) = record { some = omega arith; few = omega arith }

short_refused : (service : ℕ) (fault : Fault) (triad : Option Triad) → IsShort (refused_text service fault triad)
unfolding refused_text
short_refused service fault triad = refusal_short service fault.general fault.extended triad

short_intervals : (service : ℕ) (intervals : AcceptableIntervals) (triad : Triad) → IsShort (intervals_text service intervals (Some triad))
unfolding intervals_text intervals_words
short_intervals service intervals triad = record { some = omega arith; few = omega arith }

short_own : (service status : ℕ) (content : List ℕ) → length content ≤ 1400 → IsShort (own_reply_text service status content)
unfolding own_reply_text
short_own service status content few = record { some = omega arith; few = omega (arith, few) }

pub reply_is_short : (reply : ReplyFields) → GetsFew reply → IsShort (reply_text reply)
reply_is_short (opened large o) few = short_opened large o
reply_is_short (closed triad) few = short_closed triad
reply_is_short (object_reply service value) few = short_object_reply service value few
reply_is_short (refused service fault triad) few = short_refused service fault triad
reply_is_short (unacceptable service intervals triad) few = short_intervals service intervals triad
reply_is_short (own service status content) few = short_own service status content few
reply_is_short (no_route words) few = record { some = omega arith; few = omega arith }

-- and is within its length field
pub reply_fits : (reply : ReplyFields) → GetsFew reply → length (reply_text reply) ≤ 65535
reply_fits reply few = omega (arith, (reply_is_short reply few).few)

-- an item around a reply, and one for its socket address
socket_length : (socket : Option SocketAddress) → length (socket_items socket) ≤ 20
socket_length None = omega arith
socket_length (Some s) = omega arith

pub items_length : (payload : List ℕ) (socket : Option SocketAddress) → length (packet_text payload socket) ≤ length payload + 36
items_length payload socket =
    let front = fields_text packet_widths (packet_numbers (record { timeout = 0; payload = payload }) (socket_count socket)) in
    let sixteen : length front ≡ 16 = refl in
    omega (arith, length-append front (payload ++ socket_items socket), length-append payload (socket_items socket), sixteen, socket_length socket)

-- the items are within the length field of their message
pub items_fit : (reply : ReplyFields) (socket : Option SocketAddress) → GetsFew reply → length (packet_text (reply_text reply) socket) ≤ 65535
items_fit reply socket few = omega (arith, items_length (reply_text reply) socket, (reply_is_short reply few).few)

-- ---- a reply of a class 3 connection

pub connected_length : (connection count : ℕ) (message : List ℕ) → length (connected_text connection count message) ≡ 22 + length message
connected_length connection count message =
    let front = fields_text connected_widths (written_connected connection count (length message)) in
    let front_len : length front ≡ 22 = refl in
    omega (arith, length-append front message, front_len)
