-- The laws of one device's step pass their tests.
use Rattle.std.proofs.Common.{subst, ◌≡◌, ℕ, ◌==◌, ◌&&◌, not, Bool, true, false, List, inl, inr, Result, Ok, Err, refl, sym, ap, arith}
use Rattle.std.specs.List.{list_any, AllByRecursion, list_all}
use Rattle.std.proofs.lemmas.Bool.{and_parts}
use Rattle.cip_types.specs.declared.names.Node.{Node}
use Rattle.cip_datagram.specs.declared.datagram.DatagramFault.{DatagramFault}
use Rattle.cip_datagram.specs.Datagram.{DatagramFields}
use Rattle.cip_datagram.specs.Reading.{datagram_reading}
use Rattle.cip_types.specs.declared.ids.IdBlock.{IdBlock}
use Rattle.cip_types.specs.IdLaws.{has_id, ids_are_theirs}
use Rattle.cip_encap.specs.declared.message.EncapFault.{EncapFault}
use Rattle.cip_encap.specs.declared.packet.ItemFault.{ItemFault}
use Rattle.cip_encap.specs.Message.{MessageFields}
use Rattle.cip_encap.specs.Packet.{PacketFields}
use Rattle.cip_encap.specs.AnyItems.{any_packet_reading}
use Rattle.cip_encap.specs.Reading.{message_reading}
use Rattle.cip_events.specs.declared.event.Event.TheVariants.{Tick}
use Rattle.cip_events.specs.declared.event.Frame.{Frame}
use Rattle.cip_events.specs.declared.event.Reason.{Reason}
use Rattle.cip_fwdopen.specs.declared.reply.OpenAnswer.{OpenAnswer}
use Rattle.cip_fwdopen.specs.declared.reply.OpenAnswer.TheVariants as answer
use Rattle.cip_fwdopen.specs.Open.{OpenFields}
use Rattle.cip_router.specs.Requests.{RouterRequestFields, nothing, refused, closing, object, opening, router_request_reading}
use Rattle.adapter_table.specs.Checks.{is_multicast}
use Rattle.adapter_table.specs.Connections.{Row}
use Rattle.adapter_table.specs.declared.table.AdapterTable.{AdapterTable}
use Rattle.adapter_table.specs.Productions.{producer_of}
use Rattle.adapter_table.specs.Rows.{is_established}
use Rattle.scanner_table.specs.declared.table.ScannerTable.{ScannerTable}
use Rattle.scanner_table.specs.Replies.{open_answer}
use Rattle.scanner_table.specs.Slots.{indexed_slots}
use Rattle.segment_world.specs.World.{World}
use Rattle.device_laws.specs.Carrying.{Passes}
use Rattle.device_laws.specs.Ids.{ReadId}
use Rattle.device_laws.specs.Frames.{OpeningsAre, SuccessesAre, SuccessIs}
use Rattle.device_laws.specs.OwnIds.{AsksOwnId}
use Rattle.device_laws.specs.Replies.{IsNoSuccess}
use Rattle.device_laws.specs.RowIds.{Came, RowCame}
use Rattle.device_laws.specs.Made.{Made}
use Rattle.device_laws.specs.ProductionRuns.{OpeningsDiffer, opening_number}
use Rattle.device_laws.specs.Values.{IsSlots}
use Rattle.schedule_laws.specs.Ids.{IdsAreDrawn, SentHolds, is_drawn}
use Rattle.samples.specs.MomentTests.{has_number}
use Rattle.samples.specs.StepTests.{all_sent_drawn, asks_own, bytes_ask_own, is_apart, is_apart_of, is_made_by_a_slot, is_no_success, is_same_row, is_slots, message_asks_own, message_succeeds_not, one_has_number, packet_asks_own, reads_drawn, request_asks_own, rows_stay, same_mode, sent_drawn, succeeds_not, was_there}
use Rattle.samples.proofs.Passing.{all_pass, both, bytes_are, left_passes, number_is, one_passes, right_passes, slot_among, slots_pass, then_passes, ids_same, number_found}

-- ---- for which id a request asks

pub own_passes : (ids : List IdBlock) (request : OpenFields) → AsksOwnId ids request → asks_own ids request ≡ true
own_passes ids request (inl many) = left_passes (is_multicast request.t_o_params.kind) (list_any (has_id request.t_o_id.0) ids) many
own_passes ids request (inr own) =
    let ends = own.ends in
    right_passes (is_multicast request.t_o_params.kind) (list_any (has_id request.t_o_id.0) ids)
    (subst (λ (id : ℕ). list_any (has_id id) ids ≡ true) (sym own.is) (ids_are_theirs ids own.number own.begins (omega (arith, ends))))

request_step : (ids : List IdBlock) (bytes : List ℕ) (m : MessageFields) (packet : PacketFields) (found : RouterRequestFields) → message_reading bytes ≡ Ok m → any_packet_reading m.payload ≡ Ok packet → router_request_reading packet.payload ≡ found → OpeningsAre (AsksOwnId ids) bytes → request_asks_own ids found ≡ true
request_step ids bytes m packet nothing one two is law = refl
request_step ids bytes m packet (refused service why) one two is law = refl
request_step ids bytes m packet (closing request) one two is law = refl
request_step ids bytes m packet (object service class instance attribute body) one two is law = refl
request_step ids bytes m packet (opening large request) one two is law =
    own_passes ids request (law request (record { message = m; reads = one; packet = packet; packet_is = two; large = large; opens = is }))

packet_step : (ids : List IdBlock) (bytes : List ℕ) (m : MessageFields) (found : Result PacketFields ItemFault) → message_reading bytes ≡ Ok m → any_packet_reading m.payload ≡ found → OpeningsAre (AsksOwnId ids) bytes → packet_asks_own ids found ≡ true
packet_step ids bytes m (Err fault) one is law = refl
packet_step ids bytes m (Ok packet) one is law = request_step ids bytes m packet (router_request_reading packet.payload) one is refl law

message_step : (ids : List IdBlock) (bytes : List ℕ) (found : Result MessageFields EncapFault) → message_reading bytes ≡ found → OpeningsAre (AsksOwnId ids) bytes → message_asks_own ids found ≡ true
message_step ids bytes (Err fault) is law = refl
message_step ids bytes (Ok m) is law = packet_step ids bytes m (any_packet_reading m.payload) is refl law

pub asking_passes : (ids : List IdBlock) (bytes : List ℕ) → OpeningsAre (AsksOwnId ids) bytes → bytes_ask_own ids bytes ≡ true
asking_passes ids bytes law = message_step ids bytes (message_reading bytes) refl law

-- ---- successes

success_step : (context : ℕ) (found : Result OpenAnswer Reason) → SuccessIs (λ opened. ⊥) found → is_no_success found ≡ true
success_step context (Err why) is = refl
success_step context (Ok (answer.Refused refusal)) is = refl
success_step context (Ok (answer.Opened opened)) is = absurd is

succeeds_step : (large : Bool) (bytes : List ℕ) (found : Result MessageFields EncapFault) → message_reading bytes ≡ found → SuccessesAre (λ context opened. ⊥) bytes → message_succeeds_not large found ≡ true
succeeds_step large bytes (Err fault) is law = refl
succeeds_step large bytes (Ok m) is law = success_step m.context (open_answer large m) (law m is large)

pub success_passes : (large : Bool) (frame : Frame) → IsNoSuccess frame → succeeds_not large frame.bytes ≡ true
success_passes large frame law = succeeds_step large frame.bytes (message_reading frame.bytes) refl law.successes

-- ---- connections

row_step : (t next : AdapterTable) (ms : ℕ) (row : Row) → RowCame t next (Tick ms) row → was_there t row ≡ true
row_step t next ms row (inr new) = absurd new
row_step t next ms row (inl was) =
    let same = was.same in
    one_passes (is_same_row row) t.rows was.old was.there
    (both (both (number_is row.opening was.old.opening same.opening) (both (ids_same row.o_t_id was.old.o_t_id same.o_t) (ids_same row.t_o_id was.old.t_o_id same.t_o)))
    (both
    (both (number_is row.peer.0 was.old.peer.0 (ap (λ (node : Node). node.0) same.peer)) (both (number_is row.consumed was.old.consumed same.consumed) (number_is row.produced was.old.produced same.produced)))
    (then_passes (is_established row) (is_established was.old && producer_of row.state == producer_of was.old.state)
    (λ lives. both (same.established lives) (number_is (producer_of row.state) (producer_of was.old.state) (same.producer lives))))))

-- no connection comes with a tick
pub rows_pass : (t next : AdapterTable) (ms : ℕ) → Came t next (Tick ms) → rows_stay t next ≡ true
rows_pass t next ms law = all_pass (RowCame t next (Tick ms)) (was_there t) (row_step t next ms) next.rows law.rows

-- ---- what a device makes

mode_passes : (a b : Bool) → a ≡ b → same_mode a b ≡ true
mode_passes true b is = sym is
mode_passes false b is = ap not (sym is)

pub slots_made_pass : (t : ScannerTable) (made : List Made) → AllByRecursion (IsSlots t) made → list_all (is_made_by_a_slot t) made ≡ true
slots_made_pass t made law =
    all_pass (IsSlots t) (is_made_by_a_slot t)
    (λ m is. one_passes (is_slots t m) (indexed_slots t) is.place (slot_among t is.place.number is.place is.made.there)
    (both is.made.opening (both (bytes_are m.value is.place.slot.output is.made.value) (mode_passes m.run t.run is.made.run))))
    made law

-- ---- opening numbers

pub numbers_pass : (number : ℕ) (t : ScannerTable) → OpeningsDiffer t → one_has_number number t ≡ true
numbers_pass number t law =
    slots_pass t (is_apart_of number t) (λ a here. slots_pass t (is_apart number a) (λ b there.
    then_passes (has_number number (opening_number a.slot.state) && has_number number (opening_number b.slot.state)) (a.number == b.number) (λ have.
    let parts = and_parts (has_number number (opening_number a.slot.state)) (has_number number (opening_number b.slot.state)) have in
    number_is a.number b.number (law a b number here there (number_found number (opening_number a.slot.state) parts.0) (number_found number (opening_number b.slot.state) parts.1)))))

-- ---- ids that are drawn

read_step : (w : World) (found : Result DatagramFields DatagramFault) → ReadId (Passes (is_drawn w.tables)) found → reads_drawn w found ≡ true
read_step w (Err fault) is = refl
read_step w (Ok d) is = is

pub drawn_sent_passes : (w : World) → IdsAreDrawn w → all_sent_drawn w ≡ true
drawn_sent_passes w law = all_pass (SentHolds (Passes (is_drawn w.tables))) (sent_drawn w) (λ s is. read_step w (datagram_reading s.bytes) is) w.sent law.sent
