-- Replies to repeated messages of class 3 connections, to services of objects, and what the application is asked
-- (Volume 1, chapter 3, transport class 3; Volume 2, chapter 2, SendUnitData).
use Rattle.std.specs.Prelude.{ℕ, List, [], ◌∷◌, Option, Some, None, find}
use Rattle.cip_events.specs.declared.event.Answer.{Answer}
use Rattle.cip_events.specs.declared.event.Delivery.TheVariants.{Duplicate}
use Rattle.cip_events.specs.declared.event.Frame.{Frame}
use Rattle.cip_events.specs.declared.event.Notice.{Notice}
use Rattle.cip_events.specs.declared.event.Notice.TheVariants as notice
use Rattle.cip_events.specs.declared.event.Verdict.TheVariants.{Delivered, Asked}
use Rattle.cip_events.specs.Answers.{plain_answer}
use Rattle.cip_router.specs.declared.object_service.ObjectService.TheVariants.{Reset}
use Rattle.cip_router.specs.Frames.{FrameReply}
use Rattle.cip_router.specs.Refusals.{status_fault}
use Rattle.cip_router.specs.Replies as replies
use Rattle.cip_router.specs.Replies.{ReplyFields, object_reply, object_service_code}
use Rattle.messaging.specs.declared.class3.Class3Connection as kept
use Rattle.messaging.specs.declared.requests.Requester.{Requester}
use Rattle.messaging.specs.declared.requests.Requester.TheVariants.{Peer, Stream, Class3Connection}
use Rattle.messaging.specs.declared.table.Messaging.{Messaging}
use Rattle.messaging.specs.Class3Connections.{is_last_message}
use Rattle.adapter_table.specs.Encapsulation.{reply_frames}
use Rattle.adapter_table.specs.Objects.{ObjectAnswer, said, denied, resetting, answering, refusing, unrouted}
use Rattle.adapter_table.specs.Own.{OwnRequest}
use Rattle.adapter_replies.specs.declared.routes.ConnectionRoute.{ConnectionRoute}
use Rattle.adapter_replies.specs.declared.routes.Route.{Route}
use Rattle.adapter_replies.specs.Routes.{view_request_header, connected_reply, routed_frame}

-- THE LAST MESSAGE AGAIN

-- the reply that the connection keeps, if it has one yet
abbrev pub text_reply : ConnectionRoute → List ℕ → Option FrameReply
text_reply way [] = None
text_reply way (first ∷ rest) = Some (connected_reply way (first ∷ rest))

-- the answer to the last message again, which has the text that the connection keeps
abbrev pub repeated_answer : ConnectionRoute → List ℕ → Answer
repeated_answer way text = record {
  frames = reply_frames way.number (view_request_header way.request_header) (text_reply way text);
  datagrams = [];
  verdict = Delivered Duplicate;
  notices = [];
}

-- SERVICES OF OBJECTS

-- the reply to a service of an object, and the notice of a reset
abbrev pub object_fields : (service : ℕ) → ObjectAnswer → ReplyFields
object_fields service (said by value) = object_reply by value
object_fields service (denied why) = replies.refused service (status_fault why) None
object_fields service (resetting kind) = object_reply Reset []
object_fields service (answering by general content) = replies.own (object_service_code by) general content
object_fields service (refusing named why) = replies.refused named (status_fault why) None
object_fields service (unrouted words) = replies.no_route words

abbrev pub object_notices : ObjectAnswer → List Notice
object_notices (said by value) = []
object_notices (denied why) = []
object_notices (resetting kind) = notice.Reset kind ∷ []
object_notices (answering by general content) = []
object_notices (refusing named why) = []
object_notices (unrouted words) = []

-- REQUESTS TO THE APPLICATION

-- the application is to answer the request of this number
abbrev pub referred_answer : (number : ℕ) → OwnRequest → Answer
referred_answer number own = plain_answer (Asked number own.service own.class own.instance own.attribute own.body)

-- the class 3 connection whose last message is the request, if it is open
abbrev pub found_last : Messaging → Requester → Option kept.Class3Connection
found_last m (Peer node) = None
found_last m (Stream number context) = None
found_last m (Class3Connection id count) = find (is_last_message id count) m.class3_connections

-- the frame of a reply on a route, if there is one
abbrev pub way_frames : Option Route → ReplyFields → List Frame
way_frames None reply = []
way_frames (Some way) reply = routed_frame way reply None ∷ []
