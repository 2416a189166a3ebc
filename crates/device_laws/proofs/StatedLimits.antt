-- A close of another node is refused, and a number that is far ahead is not accepted.
use Rattle.std.proofs.Common.{◌≡◌, ◌≢◌, ◌⊎◌, ◌≤◌, ◌+◌, ◌*◌, inl, inr, ℕ, ◌==◌, nat_lt, Bool, true, false, cond, List, [], ◌∷◌, length, find, Option, Some, None, Result, Ok, Err, refl, sym, ◌∙◌, ap, subst, arith}
use Rattle.std.proofs.lemmas.Bool.{le-ltb}
use Rattle.std.proofs.lemmas.Bool.Decides.{nat_tests}
use Rattle.std.specs.List.{list_any}
use Rattle.base_lemmas.specs.Booleans.{and_none, either}
use Rattle.base_lemmas.specs.Lists.{found_passes}
use Rattle.cip_types.specs.declared.names.Node.{Node}
use Rattle.cip_types.specs.declared.names.Triad.{Triad}
use Rattle.cip_types.specs.Circle.{distance}
use Rattle.cip_types.specs.Fields.{fields_at}
use Rattle.cip_types.specs.Texts.{Tailed}
use Rattle.cip_datagram.specs.declared.datagram.DatagramFault.{DatagramFault}
use Rattle.cip_datagram.specs.Datagram.{DatagramFields}
use Rattle.cip_encap.specs.declared.message.EncapFault.{EncapFault}
use Rattle.cip_encap.specs.declared.packet.ItemFault.{ItemFault}
use Rattle.cip_encap.specs.Message.{MessageFields, header_widths}
use Rattle.cip_encap.specs.Packet.{PacketFields}
use Rattle.cip_events.specs.declared.event.Delivery.{Delivery}
use Rattle.cip_events.specs.declared.event.Delivery.TheVariants.{Old, WrongSize}
use Rattle.cip_events.specs.declared.event.Event.{Event}
use Rattle.cip_events.specs.declared.event.Event.TheVariants as event
use Rattle.cip_events.specs.declared.event.Notice.{Notice}
use Rattle.cip_fwdopen.specs.Close.{CloseFields}
use Rattle.cip_productions.specs.declared.acceptance.Accepted.{Accepted}
use Rattle.cip_productions.specs.Acceptance.{accepts_sequence}
use Rattle.cip_productions.specs.Window.{intervals_in, since_accepted, accepts_number}
use Rattle.cip_router.specs.declared.refusal.Status.TheVariants as status
use Rattle.cip_router.specs.Commands.{command_of, is_silent}
use Rattle.cip_router.specs.Frames.{request_header_of, frame_fields, frame_reading, request_header_in, wrong_length_of}
use Rattle.cip_router.specs.Refusals.{status_fault}
use Rattle.cip_router.specs.Requests.{RouterRequestFields, closing, router_request_reading}
use Rattle.messaging.specs.declared.class3.Class3Connection.{Class3Connection}
use Rattle.messaging.specs.Class3Connections.{has_class3_triad}
use Rattle.messaging.specs.Sound.{EachOf}
use Rattle.adapter_table.specs.declared.maker_limits.MakerLimits.{MakerLimits}
use Rattle.adapter_table.specs.Connections.{Row}
use Rattle.adapter_table.specs.declared.counters.Tally.TheVariants.{CloseOther}
use Rattle.adapter_table.specs.declared.table.AdapterTable.{AdapterTable}
use Rattle.adapter_table.specs.Counting.{tallied}
use Rattle.adapter_table.specs.declared.table.Stream.{Stream}
use Rattle.adapter_table.specs.Datagrams.{expected_len, accepted_delivery, judged_datagram, found_datagram, datagram_of, received}
use Rattle.adapter_table.specs.Class3Opening.{stream_served}
use Rattle.adapter_table.specs.Encapsulation.{Handled, items_for, request_replied, request_handled, packet_replied, handled, frame_answer, stream_answer, frame_of, frame}
use Rattle.adapter_table.specs.Inquiries.{inquiry_reply}
use Rattle.adapter_table.specs.Lemmas.ItemLemmas.{items_any}
use Rattle.adapter_table.specs.Lemmas.MessageLemmas.{found_any}
use Rattle.adapter_table.specs.Lemmas.RequestLemmas.{next_is}
use Rattle.adapter_table.specs.MessagesSound.{IsInPlace}
use Rattle.adapter_table.specs.Own.{OwnRequest, own_of}
use Rattle.adapter_table.specs.Requests.{Next, Served, counted_once, refused_close, close_of, served_close, end_of, served_end, served, answered, requested_by, requested}
use Rattle.adapter_table.specs.Rows.{has_triad}
use Rattle.adapter_table.specs.StatedLimits.{is_wrong_ender, is_wrong_closer, accepts_at}
use Rattle.adapter_table.specs.Step.{adapter_step}
use Rattle.adapter_table.specs.Streams.{has_session}
use Rattle.adapter_table.specs.Lemmas.FrameLemmas.{answer_has}
use Rattle.device_laws.specs.StatedLimits.{IsCloseFrame, IsStreamOf, BringsClose, AnotherNodeClosesNothing, AnotherNodeEndsNothing, IsFarAhead, IsNotAccepted, FarNumbersChangeNothing}

-- ---- a close that is refused

differs : (n m : ℕ) → n ≢ m → (n == m) ≡ false
differs n m other = grind (arith, nat_tests)

wrong_closer : (limits : MakerLimits) (peer : Node) (row : Row) → limits.own_closers ≡ true → row.peer.0 ≢ peer.0 → is_wrong_closer limits peer row ≡ true
wrong_closer limits peer row own other = let apart = differs row.peer.0 peer.0 other in rw (own, apart) refl

-- what is served of the close: a refusal
abbrev IsRefused : AdapterTable → Node → CloseFields → Type 0
IsRefused t peer request = served t peer (closing request) ≡ Some (refused_close t request (status_fault status.PrivilegeViolation))

close_refused : (t : AdapterTable) (peer : Node) (request : CloseFields) (row : Row) → t.profile.limits.own_closers ≡ true → find (has_triad request.triad) t.rows ≡ Some row → row.peer.0 ≢ peer.0 → find (has_class3_triad request.triad) t.messaging.class3_connections ≡ None → IsRefused t peer request
unfolding served_close served_end
close_refused t peer request row own found other free =
    let wrong = wrong_closer t.profile.limits peer row own other in
    ap (λ (o : Option Class3Connection). Some (end_of t peer request o)) free ∙ ap (λ (o : Option Row). Some (close_of t peer request o)) found ∙ rw wrong refl

-- a class 3 connection of the triad would have that of the row
other_triad : (triad : Triad) (d : Class3Connection) (row : Row) → has_class3_triad triad d ≡ true → has_triad triad row ≡ true → has_triad d.triad row ≡ true
other_triad triad d row talks holds = grind (arith, nat_tests)

free_step : (b : Bool) (triad : Triad) (rows : List Row) (row : Row) (d : Class3Connection) (rest : Option Class3Connection) → has_class3_triad triad d ≡ b → find (has_triad triad) rows ≡ Some row → list_any (has_triad d.triad) rows ≡ false → rest ≡ None → cond b (Some d) rest ≡ None
free_step true triad rows row d rest talks found alone none =
    let there = found_any (has_triad triad) (has_triad d.triad) rows row found (other_triad triad d row talks (found_passes (has_triad triad) rows row found)) in
    absurd (let e : true ≡ false = sym there ∙ alone in cc)
free_step false triad rows row d rest talks found alone none = none

none_talks : (triad : Triad) (rows : List Row) (open_streams : List Stream) (row : Row) (class3_connections : List Class3Connection) → find (has_triad triad) rows ≡ Some row → EachOf (IsInPlace rows open_streams) class3_connections → find (has_class3_triad triad) class3_connections ≡ None
none_talks triad rows open_streams row [] found all = refl
none_talks triad rows open_streams row (d ∷ class3_connections) found all =
    free_step (has_class3_triad triad d) triad rows row d (find (has_class3_triad triad) class3_connections) refl found all.0.triad (none_talks triad rows open_streams row class3_connections found all.1)

-- the table stays, but for the count of a close that is refused
abbrev Stays : AdapterTable → AdapterTable → List Notice → Type 0
Stays t next notices = ((next ≡ t) ⊎ (next ≡ tallied (Some CloseOther) t)) × (notices ≡ [])

abbrev NextStays : AdapterTable → Next → Type 0
NextStays t next = Stays t next.1 next.0.notices

abbrev HandledStays : AdapterTable → Handled → Type 0
HandledStays t done = Stays t done.table done.notices

-- a close is no request to an object of the maker's own
none_own : (objects : List ℕ) (request : CloseFields) (read : RouterRequestFields) → read ≡ closing request → own_of objects read ≡ None
none_own objects request read is = ap (own_of objects) is

requested_stays : (t : AdapterTable) (peer : Node) (request : CloseFields) → IsRefused t peer request → (bytes : List ℕ) → router_request_reading bytes ≡ closing request → NextStays t (requested t peer bytes)
unfolding requested
requested_stays t peer request refused bytes reads =
    subst (λ (o : Option OwnRequest). NextStays t (requested_by t peer (router_request_reading bytes) o)) (sym (none_own t.profile.objects request (router_request_reading bytes) reads))
    (subst (λ (r : RouterRequestFields). NextStays t (answered t peer (counted_once r (served t peer r)))) (sym reads)
    (subst (λ (s : Option Served). NextStays t (answered t peer (counted_once (closing request) s))) (sym refused) (inr refl, refl)))

packet_stays : (t : AdapterTable) (stream : Stream) (context : ℕ) (request : CloseFields) → IsRefused t stream.peer request → (packet : PacketFields) → router_request_reading packet.payload ≡ closing request → HandledStays t (packet_replied t stream context (Ok packet))
packet_stays t stream context request refused packet reads =
    subst (λ (o : Option OwnRequest). HandledStays t (request_handled t stream context (router_request_reading packet.payload) o)) (sym (none_own t.profile.objects request (router_request_reading packet.payload) reads))
    (subst (λ (r : RouterRequestFields). HandledStays t (request_replied t (counted_once r (stream_served t stream r)))) (sym reads)
    (subst (λ (s : Option Served). HandledStays t (request_replied t (counted_once (closing request) s))) (sym refused) (inr refl, refl)))

-- as the device reads the items
items_stay : (t : AdapterTable) (stream : Stream) (context : ℕ) (request : CloseFields) → IsRefused t stream.peer request → (reading : Result PacketFields ItemFault) → ((packet : PacketFields) → reading ≡ Ok packet → router_request_reading packet.payload ≡ closing request) → HandledStays t (packet_replied t stream context reading)
items_stay t stream context request refused (Err fault) closes = (inl refl, refl)
items_stay t stream context request refused (Ok packet) closes = packet_stays t stream context request refused packet (closes packet refl)

same_packet : (x y : PacketFields) → ◌≡◌ {A = Result PacketFields ItemFault} (Ok x) (Ok y) → x ≡ y
same_packet x y e = cc

closes_as_read : (t : AdapterTable) (request : CloseFields) (bytes : List ℕ) (is : IsCloseFrame bytes request) (packet : PacketFields) → items_for t.profile.description is.message.payload ≡ Ok packet → router_request_reading packet.payload ≡ closing request
closes_as_read t request bytes is packet reads =
    ap (λ (p : PacketFields). router_request_reading p.payload) (same_packet packet is.packet (sym (items_any t.profile.description is.message.payload packet reads) ∙ is.packet_is)) ∙ is.request_is

sent_stays : (t : AdapterTable) (request : CloseFields) (stream : Stream) → IsRefused t stream.peer request → (bytes : List ℕ) (is : IsCloseFrame bytes request) → HandledStays t (handled t stream (request_header_of is.message) is.message.payload (command_of is.message.command))
unfolding handled
sent_stays t request stream refused bytes is =
    subst (λ (c : ℕ). HandledStays t (handled t stream (request_header_of is.message) is.message.payload (command_of c))) (sym is.sends)
    (either (HandledStays t) (has_session stream is.message.session) _ _
    (items_stay t stream is.message.context request refused (items_for t.profile.description is.message.payload) (closes_as_read t request bytes is))
    (inl refl, refl))

message_stays : (t : AdapterTable) (request : CloseFields) (stream : Stream) → IsRefused t stream.peer request → (bytes : List ℕ) → IsCloseFrame bytes request → NextStays t (frame_answer t stream (frame_reading bytes))
unfolding frame_reading
message_stays t request stream refused bytes is =
    subst (λ (r : Result MessageFields EncapFault). NextStays t (frame_answer t stream (frame_fields (fields_at header_widths bytes) r))) (sym is.reads) (sent_stays t request stream refused bytes is)

misfit_stays : (t : AdapterTable) (stream : Stream) (header : Option Tailed) → NextStays t (frame_answer t stream (wrong_length_of header))
misfit_stays t stream None = (inl refl, refl)
misfit_stays t stream (Some h) = either (NextStays t) (is_silent (command_of (request_header_in h.0).command)) _ _ (inl refl, refl) (inl refl, refl)

stream_stays : (t : AdapterTable) (request : CloseFields) (stream : Stream) → IsRefused t stream.peer request → (bytes : List ℕ) (reply : Option (List ℕ)) → IsCloseFrame bytes request → NextStays t (stream_answer t stream bytes reply)
stream_stays t request stream refused bytes None is =
    answer_has (NextStays t) t stream bytes (message_stays t request stream refused bytes is) (misfit_stays t stream (fields_at header_widths bytes)) (inl refl, refl)
stream_stays t request stream refused bytes (Some text) is = (inl refl, refl)

frame_stays : (t : AdapterTable) (peer : Node) (request : CloseFields) → IsRefused t peer request → (number : ℕ) (bytes : List ℕ) (next : Next) → frame t number bytes ≡ Ok next → IsStreamOf t number peer → IsCloseFrame bytes request → NextStays t next
unfolding frame
frame_stays t peer request refused number bytes next is over close =
    let own : IsRefused t over.stream.peer request = subst (λ (n : Node). IsRefused t n request) (sym over.peer_is) refused in
    let said : frame_of t bytes (Some over.stream) ≡ Ok next = ap (frame_of t bytes) (sym over.found) ∙ is in
    subst (NextStays t) (next_is _ _ said) (stream_stays t request over.stream own bytes (inquiry_reply t bytes) close)

step_stays : (t : AdapterTable) (happens : Event) (peer : Node) (request : CloseFields) → IsRefused t peer request → (next : Next) → adapter_step t happens ≡ Ok next → BringsClose t happens peer request → NextStays t next
step_stays t (event.Request from bytes) peer request refused next is brings =
    let own : IsRefused t from request = subst (λ (n : Node). IsRefused t n request) (sym brings.0) refused in
    subst (NextStays t) (next_is _ _ is) (requested_stays t from request own bytes brings.1)
step_stays t (event.Frame number bytes) peer request refused next is brings = frame_stays t peer request refused number bytes next is brings.0 brings.1
step_stays t other peer request refused next is brings = absurd brings

pub closes_nothing : AnotherNodeClosesNothing
closes_nothing t happens peer request row next is whole brings own found other =
    let free = none_talks request.triad t.rows t.streams row t.messaging.class3_connections found whole.messages.class3_connections in
    let stays = step_stays t happens peer request (close_refused t peer request row own found other free) next is brings in
    record { table = stays.0; notices = stays.1 }

wrong_ender : (limits : MakerLimits) (peer : Node) (d : Class3Connection) → limits.own_closers ≡ true → d.peer.0 ≢ peer.0 → is_wrong_ender limits peer d ≡ true
wrong_ender limits peer d own other = let apart = differs d.peer.0 peer.0 other in rw (own, apart) refl

end_refused : (t : AdapterTable) (peer : Node) (request : CloseFields) (d : Class3Connection) → t.profile.limits.own_closers ≡ true → find (has_class3_triad request.triad) t.messaging.class3_connections ≡ Some d → d.peer.0 ≢ peer.0 → IsRefused t peer request
unfolding served_end
end_refused t peer request d own found other =
    let wrong = wrong_ender t.profile.limits peer d own other in
    ap (λ (o : Option Class3Connection). Some (end_of t peer request o)) found ∙ rw wrong refl

pub ends_nothing : AnotherNodeEndsNothing
ends_nothing t happens peer request d next is brings own found other =
    let stays = step_stays t happens peer request (end_refused t peer request d own found other) next is brings in
    record { table = stays.0; notices = stays.1 }

-- ---- a number that is far ahead

pub far_refused : (newer : Option ℕ) (since pace : ℕ) (last : Option Accepted) (number within : ℕ) (newest : Accepted) → newer ≡ Some within → last ≡ Some newest → within + 2 * intervals_in since pace ≤ distance number newest.number → accepts_number newer since pace last number ≡ false
far_refused newer since pace last number within newest states accepted far =
    let near : nat_lt (distance number newest.number) (within + 2 * intervals_in since pace) ≡ false = le-ltb _ _ far in
    rw (states, accepted, near) (and_none (accepts_sequence (Some newest) number))

refused_step : (sized newer : Bool) (t : AdapterTable) (peer : Node) (d : DatagramFields) (row : Row) (what : Delivery) → newer ≡ false → IsNotAccepted t (judged_datagram t peer d row (cond sized (cond newer what Old) WrongSize))
refused_step true true t peer d row what is = absurd (let e = is in cc)
refused_step true false t peer d row what is = record { table = refl; answer = inl refl }
refused_step false newer t peer d row what is = record { table = refl; answer = inr refl }

far_found : (t : AdapterTable) (peer : Node) (d : DatagramFields) (row : Row) → accepts_at t.profile.limits.newer t.clock row d.sequence ≡ false → IsNotAccepted t (found_datagram t peer d (Some row))
far_found t peer d row refused =
    refused_step (length d.payload == expected_len t.profile row) (accepts_at t.profile.limits.newer t.clock row d.sequence) t peer d row (accepted_delivery row d) refused

far_received : (t : AdapterTable) (peer : Node) (bytes : List ℕ) → IsFarAhead t peer bytes → IsNotAccepted t (received t peer bytes)
unfolding received
far_received t peer bytes is =
    let refused = far_refused t.profile.limits.newer (since_accepted t.clock is.row.watchdog is.row.deadline) is.row.o_t_pace_ms is.row.last is.datagram.sequence is.within is.last is.within_is is.last_is is.far in
    subst (λ (r : Result DatagramFields DatagramFault). IsNotAccepted t (datagram_of t peer r)) (sym is.reads)
    (subst (λ (o : Option Row). IsNotAccepted t (found_datagram t peer is.datagram o)) (sym is.found) (far_found t peer is.datagram is.row refused))

pub far_numbers_stay : FarNumbersChangeNothing
far_numbers_stay t peer bytes next is far = subst (IsNotAccepted t) (next_is _ _ is) (far_received t peer bytes far)
