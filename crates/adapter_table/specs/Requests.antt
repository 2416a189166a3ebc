-- Requests to the message router: the replies, and the table after each
-- (Volume 1, chapter 2, message router request and reply formats, and chapter 3, Connection Manager).
use Rattle.std.specs.Prelude.{ℕ, find, Bool, true, false, if◌then◌else◌, List, [], ◌∷◌, Option, Some, None, Result, Ok, Err}
use Rattle.cip_types.specs.declared.names.Fault.{Fault}
use Rattle.cip_types.specs.declared.names.Node.{Node}
use Rattle.cip_fwdopen.specs.Open.{OpenFields}
use Rattle.cip_events.specs.declared.event.Notice.{Notice}
use Rattle.cip_events.specs.declared.event.Notice.TheVariants as notice
use Rattle.cip_events.specs.declared.event.Frame.{Frame}
use Rattle.cip_events.specs.declared.event.Recipient.TheVariants.{Peer}
use Rattle.cip_events.specs.declared.event.Verdict.TheVariants.{Done, BadFrame}
use Rattle.cip_events.specs.declared.event.Answer.{Answer}
use Rattle.adapter_table.specs.declared.table.AdapterTable.{AdapterTable}
use Rattle.cip_router.specs.Requests.{RouterRequestFields, nothing, refused, closing, object, opening, router_request_reading}
use Rattle.cip_fwdopen.specs.Close.{CloseFields}
use Rattle.adapter_table.specs.Connections.{Row}
use Rattle.adapter_table.specs.Rows.{has_triad}
use Rattle.cip_router.specs.declared.object_service.ObjectService.TheVariants.{Reset as ResetService}
use Rattle.adapter_table.specs.Objects.{ObjectAnswer, said, denied, resetting, answering, refusing, unrouted}
use Rattle.adapter_table.specs.Carrying.{object_answer}
use Rattle.adapter_table.specs.Closing.{closed_table, closed_notices, class3_closed_table}
use Rattle.cip_router.specs.declared.refusal.Refusal.TheVariants as refusal
use Rattle.cip_router.specs.Replies.{ReplyFields, opened, closed, object_reply, object_service_code, reply_text}
use Rattle.cip_router.specs.Replies as replies
use Rattle.cip_router.specs.declared.refusal.Refusal.{Refusal}
use Rattle.cip_router.specs.declared.refusal.Status.{Status}
use Rattle.cip_router.specs.declared.refusal.Status.TheVariants as status
use Rattle.cip_router.specs.Refusals.{refusal_fault, status_fault}
use Rattle.adapter_table.specs.Checks.{Admitted}
use Rattle.adapter_table.specs.Counters.{tally_of}
use Rattle.adapter_table.specs.Counting.{tallied}
use Rattle.adapter_table.specs.Intervals.{open_refusal, whole_request}
use Rattle.messaging.specs.declared.class3.Class3Connection.{Class3Connection}
use Rattle.messaging.specs.declared.requests.Requester.TheVariants as asker
use Rattle.messaging.specs.Class3Connections.{has_class3_triad}
use Rattle.adapter_table.specs.Own.{OwnRequest, own_of, cannot_ask, referred_verdict, referred_table}
use Rattle.adapter_table.specs.StatedLimits.{limited_admission, is_wrong_closer, is_wrong_ender}
use Rattle.adapter_table.specs.Opening.{opened_row, opened_table, opened_reply, opened_address, opened_notices}
use Rattle.cip_events.specs.Answers.{plain_answer}

-- THE REPLY

-- the reply to a request, the multicast address of a connection that it opened, the notices of connections, and
-- the table after it
pub record Served : Type 0 where
  pub reply : ReplyFields
  pub address : Option Node
  pub notices : List Notice
  pub table : AdapterTable

-- the service that a Forward_Open of either size has
abbrev pub open_service : Bool → ℕ
open_service false = 0x54
open_service true = 0x5B

-- a connection that is refused, with its triad
abbrev pub refused_open : AdapterTable → Bool → OpenFields → Refusal → Served
refused_open t large request why = record {
  reply = open_refusal t.profile t.rows (open_service large) request why;
  address = None;
  notices = [];
  table = t;
}

unfoldable pub admitted_open : AdapterTable → Node → Bool → OpenFields → Admitted → Served
admitted_open t peer large request admitted =
    let row = opened_row t peer request admitted in
    record {
      reply = opened large (opened_reply row);
      address = opened_address row;
      notices = opened_notices t.rows row;
      table = opened_table t row admitted;
    }

abbrev pub judged_open : AdapterTable → Node → Bool → OpenFields → Result Admitted Refusal → Served
judged_open t peer large request (Err why) = refused_open t large request why
judged_open t peer large request (Ok admitted) = admitted_open t peer large request admitted

-- a Forward_Open
unfoldable pub served_open : AdapterTable → Node → Bool → OpenFields → Served
served_open t peer large request = judged_open t peer large (whole_request t.profile.description request) (limited_admission t peer (whole_request t.profile.description request))

-- a close that is refused, with its triad
abbrev pub refused_close : AdapterTable → CloseFields → Fault → Served
refused_close t request fault = record {
  reply = replies.refused 0x4E fault (Some request.triad);
  address = None;
  notices = [];
  table = t;
}

-- a close of no connection
abbrev pub unknown_close : AdapterTable → CloseFields → Served
unknown_close t request = refused_close t request (refusal_fault refusal.NotFound)

abbrev pub known_close : AdapterTable → Row → Served
known_close t row = record {
  reply = closed row.triad;
  address = None;
  notices = closed_notices t.rows row;
  table = closed_table t row;
}

-- a close of a connection: only its own node may close it, if the maker says so
abbrev pub found_close : AdapterTable → Node → CloseFields → Row → Served
found_close t peer request row =
    if is_wrong_closer t.profile.limits peer row then refused_close t request (status_fault status.PrivilegeViolation) else known_close t row

abbrev pub close_of : AdapterTable → Node → CloseFields → Option Row → Served
close_of t peer request None = unknown_close t request
close_of t peer request (Some row) = found_close t peer request row

-- a Forward_Close, of a connection of class 1 in any state
unfoldable pub served_close : AdapterTable → Node → CloseFields → Served
served_close t peer request = close_of t peer request (find (has_triad request.triad) t.rows)

-- the close of a class 3 connection
abbrev pub known_class3_close : AdapterTable → Class3Connection → Served
known_class3_close t d = record {
  reply = closed d.triad;
  address = None;
  notices = notice.Closed d.triad ∷ [];
  table = class3_closed_table t d;
}

-- only its own node may close it, if the maker says so
abbrev pub found_class3_close : AdapterTable → Node → CloseFields → Class3Connection → Served
found_class3_close t peer request d =
    if is_wrong_ender t.profile.limits peer d then refused_close t request (status_fault status.PrivilegeViolation) else known_class3_close t d

-- a class 3 connection of the triad is looked for first
abbrev pub end_of : AdapterTable → Node → CloseFields → Option Class3Connection → Served
end_of t peer request None = served_close t peer request
end_of t peer request (Some d) = found_class3_close t peer request d

-- a Forward_Close, of a connection of any class
unfoldable pub served_end : AdapterTable → Node → CloseFields → Served
served_end t peer request = end_of t peer request (find (has_class3_triad request.triad) t.messaging.class3_connections)

abbrev pub router_refusal : AdapterTable → ℕ → Status → Served
router_refusal t service why = record { reply = replies.refused service (status_fault why) None; address = None; notices = []; table = t }

-- a service of an object: a reply, or a reset that is reported
abbrev pub object_served : AdapterTable → ℕ → ObjectAnswer → Served
object_served t service (said by value) = record { reply = object_reply by value; address = None; notices = []; table = t }
object_served t service (denied why) = router_refusal t service why
object_served t service (resetting kind) = record { reply = object_reply ResetService []; address = None; notices = notice.Reset kind ∷ []; table = t }
object_served t service (answering by general content) = record { reply = replies.own (object_service_code by) general content; address = None; notices = []; table = t }
object_served t service (refusing named why) = router_refusal t named why
object_served t service (unrouted words) = record { reply = replies.no_route words; address = None; notices = []; table = t }

-- a service of another object than the Connection Manager's
unfoldable pub served_object : AdapterTable → ℕ → ℕ → ℕ → Option ℕ → List ℕ → Served
served_object t service class instance attribute body = object_served t service (object_answer t service class instance attribute body)

-- the reply to a request, if there is one
abbrev pub served : AdapterTable → Node → RouterRequestFields → Option Served
served t peer nothing = None
served t peer (refused service why) = Some (router_refusal t service why)
served t peer (closing request) = Some (served_end t peer request)
served t peer (object service class instance attribute body) = Some (served_object t service class instance attribute body)
served t peer (opening large request) = Some (served_open t peer large request)

-- WHAT IS COUNTED

-- the request is counted by its reply, whatever its route
abbrev pub counted_by : RouterRequestFields → Served → Served
counted_by request s = record s { table = tallied (tally_of request s.reply) s.table }

abbrev pub counted_once : RouterRequestFields → Option Served → Option Served
counted_once request None = None
counted_once request (Some s) = Some (counted_by request s)

-- THE ANSWER

-- an answer and the table after it
abbrev pub Next : Type 0
Next = Answer × AdapterTable

abbrev pub reply_frame : Node → ReplyFields → Frame
reply_frame peer reply = record { to = Peer peer; bytes = reply_text reply }

abbrev pub replied : Node → Served → Next
replied peer served = (
  record {
    frames = reply_frame peer served.reply ∷ [];
    datagrams = [];
    verdict = Done;
    notices = served.notices;
  },
  served.table,
)

-- the answer to a request of a peer, or to no request
abbrev pub answered : AdapterTable → Node → Option Served → Next
answered t peer None = (plain_answer BadFrame, t)
answered t peer (Some s) = replied peer s

-- a request to an object of the maker's own is refused (0x02) where no more can wait, else it waits
abbrev pub own_answered : AdapterTable → Node → OwnRequest → Next
own_answered t peer own =
    if cannot_ask t peer then replied peer (router_refusal t own.service status.ResourceUnavailable)
    else (plain_answer (referred_verdict t own), referred_table t peer (asker.Peer peer) own)

abbrev pub requested_by : AdapterTable → Node → RouterRequestFields → Option OwnRequest → Next
requested_by t peer request None = answered t peer (counted_once request (served t peer request))
requested_by t peer request (Some own) = own_answered t peer own

-- a request of a peer
unfoldable pub requested : AdapterTable → Node → List ℕ → Next
requested t peer bytes = requested_by t peer (router_request_reading bytes) (own_of t.profile.objects (router_request_reading bytes))
