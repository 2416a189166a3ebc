-- Explicit requests of the application to the message router of a target: what the scanner sends, how it reads the reply,
-- and how a request ends without one (Volume 1, chapter 2, message router request and response, and chapter 3, unconnected
-- messaging; Volume 2, chapter 2, SendRRData).
use Rattle.std.specs.Prelude.{ℕ, ◌==◌, ◌&&◌, ◌||◌, not, nat_le, Bool, if◌then◌else◌, List, [], ◌∷◌, ◌++◌, length, get_or, map, filter, Option, Some, None, Result, Ok, Err}
use Rattle.std.specs.List.{list_any}
use Rattle.cip_types.specs.declared.names.Ms.{Ms}
use Rattle.cip_types.specs.declared.names.Node.{Node}
use Rattle.cip_encap.specs.declared.packet.ItemFault.{ItemFault}
use Rattle.cip_encap.specs.Message.{MessageFields}
use Rattle.cip_encap.specs.Packet.{PacketFields}
use Rattle.cip_encap.specs.PacketReading.{packet_reading}
use Rattle.cip_events.specs.declared.event.Notice.{Notice}
use Rattle.cip_events.specs.declared.event.Notice.TheVariants as notice
use Rattle.cip_events.specs.declared.event.StepFault.{StepFault}
use Rattle.cip_events.specs.declared.event.StepFault.TheVariants as fault
use Rattle.cip_events.specs.declared.event.Unanswered.{Unanswered}
use Rattle.cip_events.specs.declared.event.Unanswered.TheVariants as unanswered
use Rattle.cip_events.specs.declared.event.Verdict.{Verdict}
use Rattle.cip_events.specs.declared.event.Verdict.TheVariants as verdict
use Rattle.cip_events.specs.Answers.{plain_answer}
use Rattle.cip_fwdopen.specs.Reply.{reply_service}
use Rattle.cip_fwdopen.specs.Services.{forward_close, forward_open, large_forward_open}
use Rattle.cip_router.specs.RouterReplies.{RouterReplyFields, router_reply_reading}
use Rattle.scanner_table.specs.declared.explicit.PendingExplicit.{PendingExplicit}
use Rattle.scanner_table.specs.declared.profile.SlotConfig.{SlotConfig}
use Rattle.scanner_table.specs.declared.table.ScannerTable.{ScannerTable}
use Rattle.scanner_table.specs.declared.table.Session.{Session}
use Rattle.scanner_table.specs.Requests.{requesting, numbered}
use Rattle.scanner_table.specs.Sessions.{session_with}
use Rattle.scanner_table.specs.Effects.{Next, Effect, counted, done}
use Rattle.scanner_table.specs.Opening.{has_request, later}

-- PENDING REQUESTS

-- the application gave the request this number
abbrev pub has_number : ℕ → PendingExplicit → Bool
has_number number pending = pending.number == number

-- the request has this number at the scanner
abbrev pub is_request : ℕ → PendingExplicit → Bool
is_request request pending = pending.request == request

-- the request went over this stream
abbrev pub is_over : ℕ → PendingExplicit → Bool
is_over stream pending = pending.stream == stream

-- the request of this number waits for its reply, on this stream
abbrev pub awaits : ℕ → ℕ → PendingExplicit → Bool
awaits stream request pending = is_over stream pending && is_request request pending

-- the table with other pending requests
abbrev pub with_explicit : ScannerTable → List PendingExplicit → ScannerTable
with_explicit t pending = record t { explicit = pending }

-- the pending requests that do not pass the test
abbrev pub others : (PendingExplicit → Bool) → List PendingExplicit → List PendingExplicit
others test pending = filter (λ p. not (test p)) pending

-- A REQUEST IS SENT

-- the slot connects to this target
abbrev pub connects_to : Node → SlotConfig → Bool
connects_to target config = config.target.0 == target.0

-- 2 to 504 bytes
abbrev pub has_explicit_length : List ℕ → Bool
has_explicit_length bytes = nat_le 2 (length bytes) && nat_le (length bytes) 504

-- the first byte of a request
abbrev pub service_of : List ℕ → ℕ
service_of bytes = get_or bytes 0 0

-- the service opens or closes a connection, which only a slot does, or it has the reply bit: a message with it could be taken
-- for the reply to a slot's opening
abbrev pub is_for_slots : ℕ → Bool
is_for_slots service = service == forward_open || (service == large_forward_open || (service == forward_close || nat_le 0x80 service))

-- the service is for slots, 16 requests are pending, one of them has the number, or no request number is left
abbrev pub is_barred : ScannerTable → ℕ → List ℕ → Bool
is_barred t number bytes =
    is_for_slots (service_of bytes) || (nat_le 16 (length t.explicit) || (list_any (has_number number) t.explicit || not (has_request t)))

-- the request waits for its reply, at most the open timeout
abbrev pub pending_explicit : ScannerTable → Session → ℕ → List ℕ → PendingExplicit
pending_explicit t session number bytes = record {
  number = number;
  request = t.next_request;
  stream = session.stream;
  deadline = later t.clock t.profile.open_timeout;
  service = service_of bytes;
}

-- the scanner sends the next request, and waits for its reply
abbrev pub explicit_sent : ScannerTable → Session → ℕ → List ℕ → Effect
explicit_sent t session number bytes = record {
  sent = numbered session t.next_request (requesting bytes) ∷ [];
  notices = [];
  table = with_explicit (counted t) (t.explicit ++ pending_explicit t session number bytes ∷ []);
}

-- within the session with the target, if one is registered
abbrev pub explicit_within : ScannerTable → ℕ → List ℕ → Option Session → Result Next StepFault
explicit_within t number bytes None = Err fault.NotAllowedNow
explicit_within t number bytes (Some session) = if is_barred t number bytes then Err fault.NotAllowedNow else Ok (done (explicit_sent t session number bytes))

abbrev pub explicit_sized : ScannerTable → Node → ℕ → List ℕ → Result Next StepFault
explicit_sized t target number bytes = if has_explicit_length bytes then explicit_within t number bytes (session_with t target) else Err fault.WrongLength

-- the application sends a request to a target of the profile
unfoldable pub explicit_request : ScannerTable → Node → ℕ → List ℕ → Result Next StepFault
explicit_request t target number bytes = if list_any (connects_to target) t.profile.slots then explicit_sized t target number bytes else Err fault.NoSuchSlot

-- READING A REPLY

-- the reply is readable if its service is that of the request
abbrev pub explicit_serviced : ℕ → Option RouterReplyFields → Result RouterReplyFields Unanswered
explicit_serviced service None = Err unanswered.Unreadable
explicit_serviced service (Some reply) = if reply.service == reply_service service then Ok reply else Err unanswered.Unreadable

abbrev pub explicit_packet : ℕ → Result PacketFields ItemFault → Result RouterReplyFields Unanswered
explicit_packet service (Err fault) = Err unanswered.Unreadable
explicit_packet service (Ok packet) = explicit_serviced service (router_reply_reading packet.payload)

-- only a SendRRData message carries a reply
abbrev pub explicit_command : ℕ → MessageFields → Result RouterReplyFields Unanswered
explicit_command service m = if m.command == 0x006F then explicit_packet service (packet_reading m.payload) else Err unanswered.Unreadable

-- the reply in a message to a request of this service; the encapsulation status goes first
unfoldable pub explicit_reply : ℕ → MessageFields → Result RouterReplyFields Unanswered
explicit_reply service m = if m.status == 0 then explicit_command service m else Err (unanswered.Encap m.status)

-- A REQUEST ENDS

-- the notice that the request has no reply
abbrev pub unanswered_notice : Unanswered → PendingExplicit → Notice
unanswered_notice why pending = notice.Unanswered pending.number why

-- the requests that pass the test end without a reply, in their order
abbrev pub explicit_ended : (PendingExplicit → Bool) → Unanswered → ScannerTable → Effect
explicit_ended test why t = record {
  sent = [];
  notices = map (unanswered_notice why) (filter test t.explicit);
  table = with_explicit t (others test t.explicit);
}

-- the reply, with the number that the application gave the request
abbrev pub replied_verdict : PendingExplicit → RouterReplyFields → Verdict
replied_verdict pending reply = verdict.Replied pending.number reply.status reply.additional reply.content

-- the table in which the request is pending no more
abbrev pub without_explicit : ScannerTable → PendingExplicit → ScannerTable
without_explicit t pending = with_explicit t (others (is_request pending.request) t.explicit)

-- a message to a pending request ends it: with its reply, or without one
abbrev pub explicit_answered : ScannerTable → PendingExplicit → Result RouterReplyFields Unanswered → Next
explicit_answered t pending (Ok reply) = (plain_answer (replied_verdict pending reply), without_explicit t pending)
explicit_answered t pending (Err why) = done (record { sent = []; notices = unanswered_notice why pending ∷ []; table = without_explicit t pending })

-- the deadline of the request has come
abbrev pub is_late : Ms → PendingExplicit → Bool
is_late clock pending = nat_le pending.deadline.0 clock.0

-- the requests whose deadline has come end
unfoldable pub explicit_timed_out : ScannerTable → Effect
explicit_timed_out t = explicit_ended (is_late t.clock) unanswered.TimedOut t

-- the requests of a stream end with it
unfoldable pub explicit_lost : ℕ → ScannerTable → Effect
explicit_lost stream t = explicit_ended (is_over stream) unanswered.Lost t
