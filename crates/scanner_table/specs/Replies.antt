-- Replies to a Forward_Open: how the scanner reads one, and what it does to the slot (Volume 1, chapter 3, Forward_Open
-- service, successful and unsuccessful response; Volume 2, chapter 2, SendRRData).
use Rattle.std.specs.Prelude.{ℕ, ◌==◌, ◌&&◌, not, Bool, false, if◌then◌else◌, [], ◌∷◌, replicate, Option, Some, None, Result, Ok, Err}
use Rattle.std.specs.List.{list_any}
use Rattle.cip_types.specs.Cases.{first_case}
use Rattle.cip_types.specs.declared.names.ConnId.{ConnId}
use Rattle.cip_types.specs.declared.names.Mismatch.{Mismatch}
use Rattle.cip_types.specs.declared.names.Node.{Node}
use Rattle.cip_types.specs.declared.names.Triad.{Triad}
use Rattle.cip_netparams.specs.Rate.{interval_ms, timeout}
use Rattle.cip_fwdopen.specs.declared.fault.ReadFault.{ReadFault}
use Rattle.cip_fwdopen.specs.declared.reply.Opened as made
use Rattle.cip_fwdopen.specs.declared.reply.OpenAnswer.{OpenAnswer}
use Rattle.cip_fwdopen.specs.declared.reply.OpenAnswer.TheVariants as answer
use Rattle.cip_fwdopen.specs.declared.reply.OpenReply.{OpenReply}
use Rattle.cip_fwdopen.specs.Reply.{opened_service, open_reply_reading}
use Rattle.cip_encap.specs.declared.packet.ItemFault.{ItemFault}
use Rattle.cip_encap.specs.Message.{MessageFields}
use Rattle.cip_encap.specs.Packet.{PacketFields}
use Rattle.cip_encap.specs.PacketReading.{packet_reading}
use Rattle.cip_events.specs.declared.event.Notice.TheVariants as notice
use Rattle.cip_events.specs.declared.event.Reason.{Reason}
use Rattle.cip_events.specs.declared.event.Reason.TheVariants as reason
use Rattle.cip_productions.specs.Productions.{first_production}
use Rattle.cip_productions.specs.Watchdog.{first_deadline}
use Rattle.conn_state.specs.Answers.{answer_tests, link_of}
use Rattle.scanner_table.specs.declared.slot.SlotConnection.{SlotConnection}
use Rattle.scanner_table.specs.declared.slot.Slot.{Slot}
use Rattle.scanner_table.specs.declared.slot.SlotState.{SlotState}
use Rattle.scanner_table.specs.declared.slot.SlotState.TheVariants.{Idle, Opening, Established, TimedOut, Closing}
use Rattle.scanner_table.specs.declared.slot.PendingOpen as pending
use Rattle.scanner_table.specs.declared.profile.SlotConfig.{SlotConfig}
use Rattle.scanner_table.specs.declared.table.ScannerTable.{ScannerTable}
use Rattle.scanner_table.specs.declared.table.Session.{Session}
use Rattle.scanner_table.specs.Requests.{closing, close_fields, numbered}
use Rattle.scanner_table.specs.Sessions.{session_with}
use Rattle.scanner_table.specs.Slots.{IndexedSlot, indexed_slots, is_numbered, is_with}
use Rattle.scanner_table.specs.Effects.{Effect, nothing, and_then, changed, counted}
use Rattle.scanner_table.specs.Opening.{has_request, later}
use Rattle.scanner_table.specs.Productions.{producer_trigger, producer_inhibit}

-- READING A REPLY

-- the reply is readable if its service is that of the request
abbrev pub serviced : Bool → OpenReply → Result OpenAnswer Reason
serviced large reply = if reply.service == opened_service large then Ok reply.answer else Err reason.Unreadable

abbrev pub reply_answer : Bool → Result OpenReply ReadFault → Result OpenAnswer Reason
reply_answer large (Err fault) = Err reason.Unreadable
reply_answer large (Ok reply) = serviced large reply

abbrev pub packet_answer : Bool → Result PacketFields ItemFault → Result OpenAnswer Reason
packet_answer large (Err fault) = Err reason.Unreadable
packet_answer large (Ok packet) = reply_answer large (open_reply_reading packet.payload)

-- only a SendRRData message carries a reply
abbrev pub command_answer : Bool → MessageFields → Result OpenAnswer Reason
command_answer large m = if m.command == 0x006F then packet_answer large (packet_reading m.payload) else Err reason.Unreadable

-- the answer in a message to a Forward_Open or, if large, to a Large_Forward_Open; the encapsulation status goes first
unfoldable pub open_answer : Bool → MessageFields → Result OpenAnswer Reason
open_answer large m = if m.status == 0 then command_answer large m else Err (reason.Encap m.status)

-- THE EFFECT OF A REPLY

abbrev pub state_consumes : ConnId → SlotState → Bool
state_consumes id Idle = false
state_consumes id (Opening o) = false
state_consumes id (Established c) = c.link.t_o_id.0 == id.0
state_consumes id (TimedOut link) = false
state_consumes id (Closing c) = false

-- the slot is another one, and is established with this T->O id and target
abbrev pub uses_id : ℕ → Node → ConnId → IndexedSlot → Bool
uses_id number target id indexed = not (is_numbered number indexed) && (is_with target indexed && state_consumes id indexed.slot.state)

-- no other established slot of the target has the id
abbrev pub is_id_free : ScannerTable → IndexedSlot → ConnId → Bool
is_id_free t indexed id = not (list_any (uses_id indexed.number indexed.config.target id) (indexed_slots t))

-- the connection that a successful reply opens, with the actual packet intervals of the reply: its watchdog is that of the
-- T->O interval, and its producer is cyclic, or with `tidy` of the slot's trigger
abbrev pub new_connection : ScannerTable → IndexedSlot → pending.PendingOpen → made.Opened → SlotConnection
new_connection t indexed opening opened = record {
  opening = opening.request;
  link = link_of opening.requested opened;
  o_t_api_ms = interval_ms opened.o_t_api_us;
  t_o_api_ms = interval_ms opened.t_o_api_us;
  watchdog = record { 0 = timeout indexed.config.mult (interval_ms opened.t_o_api_us) };
  last = None;
  deadline = first_deadline t.clock (timeout indexed.config.mult (interval_ms opened.t_o_api_us));
  production = first_production t.clock indexed.number indexed.config.target (producer_trigger t.profile.tidy indexed.config.trigger) (producer_inhibit t.profile.tidy indexed.config.inhibit);
}

-- the slot with its new connection, and an image of zeros
abbrev pub established_slot : IndexedSlot → SlotConnection → Slot
established_slot indexed connection = record indexed.slot { state = Established connection; image = replicate indexed.config.in_len 0 }

-- the slot opens again after the retry time
abbrev pub failed_slot : ScannerTable → SlotState → Slot → Slot
failed_slot t state slot = record slot { state = state; retry_at = later t.clock t.profile.retry }

-- the reply opens no connection: a notice gives the reason
abbrev pub refused : ScannerTable → IndexedSlot → Reason → Effect
refused t indexed why = changed t indexed (failed_slot t Idle indexed.slot) (notice.Refused indexed.number why ∷ [])

-- the scanner sends a Forward_Close of a connection that no slot has; no slot waits for the reply
abbrev pub disowned : ScannerTable → SlotConfig → Triad → Session → Effect
disowned t config triad session = record {
  sent = numbered session t.next_request (closing (close_fields config triad)) ∷ [];
  notices = [];
  table = counted t;
}

-- within the session with the target, if one is registered and a request number is left
abbrev pub disowned_within : ScannerTable → SlotConfig → Triad → Option Session → Effect
disowned_within t config triad None = nothing t
disowned_within t config triad (Some session) = if has_request t then disowned t config triad session else nothing t

-- with `tidy`, the target's connection is closed, by the triad that the slot requested
abbrev pub rejected : SlotConfig → Triad → ScannerTable → Effect
rejected config triad t = if t.profile.tidy then disowned_within t config triad (session_with t config.target) else nothing t

abbrev pub judged_success : ScannerTable → IndexedSlot → pending.PendingOpen → made.Opened → Option Mismatch → Effect
judged_success t indexed opening opened (Some why) = and_then (refused t indexed (reason.Mismatch why)) (rejected indexed.config opening.requested.triad)
judged_success t indexed opening opened None = changed t indexed (established_slot indexed (new_connection t indexed opening opened)) []

-- the effect of the answer on the slot that waits for it
unfoldable pub answered : ScannerTable → IndexedSlot → pending.PendingOpen → Result OpenAnswer Reason → Effect
answered t indexed opening (Err why) = refused t indexed why
answered t indexed opening (Ok (answer.Refused r)) = refused t indexed (reason.Cip r.fault)
answered t indexed opening (Ok (answer.Opened o)) =
    judged_success t indexed opening o (first_case (answer_tests opening.requested o (is_id_free t indexed o.t_o_id)))
