-- Replies to requests, and their bytes (Volume 1, chapter 2, message router reply format, and
-- chapter 3, Connection Manager; appendix A, common services).
use Rattle.std.specs.Prelude.{ℕ, ◌≢◌, ◌≤◌, Bool, Option, Some, List, [], ◌∷◌, length}
use Rattle.cip_types.specs.declared.names.Triad.{Triad}
use Rattle.cip_types.specs.declared.names.Fault.{Fault}
use Rattle.cip_fwdopen.specs.declared.reply.AcceptableIntervals.{AcceptableIntervals}
use Rattle.cip_fwdopen.specs.declared.reply.Opened.{Opened}
use Rattle.cip_fwdopen.specs.Services.{is_large_open}
use Rattle.cip_fwdopen.specs.Reply.{reply_service, opened_text, refused_text, intervals_text}
use Rattle.cip_fwdopen.specs.Close.{closed_text}
use Rattle.cip_router.specs.declared.object_service.ObjectService.{ObjectService}
use Rattle.cip_router.specs.declared.object_service.ObjectService.TheVariants as service
use Rattle.cip_router.specs.declared.reply.Reply.{Reply}
use Rattle.cip_router.specs.declared.reply.Reply.TheVariants as reply

-- the code of a service of an object
abbrev pub object_service_code : ObjectService → ℕ
object_service_code service.GetAll = 0x01
object_service_code service.GetList = 0x03
object_service_code service.SetList = 0x04
object_service_code service.Reset = 0x05
object_service_code service.Packet = 0x0A
object_service_code service.GetSingle = 0x0E

-- the reply with the data that answer a service of an object: general status 0
unfoldable pub object_reply_text : ObjectService → List ℕ → List ℕ
object_reply_text service value = reply_service (object_service_code service) ∷ 0 ∷ 0 ∷ 0 ∷ value

-- a reply of any general status, with data, as of an object of the maker's own, which the application answers
unfoldable pub own_reply_text : (service status : ℕ) → List ℕ → List ℕ
own_reply_text service status content = reply_service service ∷ 0 ∷ status ∷ 0 ∷ content

-- the refusal of an Unconnected_Send, of service 0x52: no port leads on (general status 1, extended status 0x0311), the words of the
-- route that are left, and a reserved byte (Volume 1, chapter 3, Unconnected_Send)
abbrev pub no_route_text : ℕ → List ℕ
no_route_text words = 0xD2 ∷ 0 ∷ 1 ∷ 1 ∷ 0x11 ∷ 0x03 ∷ words ∷ 0 ∷ []

-- the contents of a reply
pub data ReplyFields : Type 0 where
  opened : Bool → Opened → ReplyFields
  closed : Triad → ReplyFields
  object_reply : ObjectService → List ℕ → ReplyFields
  refused : ℕ → Fault → Option Triad → ReplyFields
  unacceptable : ℕ → AcceptableIntervals → Triad → ReplyFields
  own : ℕ → ℕ → List ℕ → ReplyFields
  no_route : ℕ → ReplyFields

abbrev pub view_reply : Reply → ReplyFields
view_reply (reply.Opened service o) = opened (is_large_open service) o
view_reply (reply.Closed triad) = closed triad
view_reply (reply.Object service lent) = object_reply service lent.now
view_reply (reply.Refused service fault triad) = refused service fault triad
view_reply (reply.Unacceptable service intervals triad) = unacceptable service intervals triad
view_reply (reply.Own service status lent) = own service status lent.now
view_reply (reply.NoRoute words) = no_route words

abbrev pub reply_text : ReplyFields → List ℕ
reply_text (opened large o) = opened_text large o
reply_text (closed triad) = closed_text triad
reply_text (object_reply service value) = object_reply_text service value
reply_text (refused service fault triad) = refused_text service fault triad
reply_text (unacceptable service intervals triad) = intervals_text service intervals (Some triad)
reply_text (own service status content) = own_reply_text service status content
reply_text (no_route words) = no_route_text words

-- a refusal has a general status that is not 0
abbrev pub HasStatus : ReplyFields → Type 0
HasStatus (opened large o) = Unit {0}
HasStatus (closed triad) = Unit {0}
HasStatus (object_reply service value) = Unit {0}
HasStatus (refused service fault triad) = fault.general ≢ 0
HasStatus (unacceptable service intervals triad) = Unit {0}
HasStatus (own service status content) = Unit {0}
HasStatus (no_route words) = Unit {0}

-- a replied value, or the data of an own object's reply, has at most 1,400 bytes, the limit of a point
abbrev pub GetsFew : ReplyFields → Type 0
GetsFew (opened large o) = Unit {0}
GetsFew (closed triad) = Unit {0}
GetsFew (object_reply service value) = length value ≤ 1400
GetsFew (refused service fault triad) = Unit {0}
GetsFew (unacceptable service intervals triad) = Unit {0}
GetsFew (own service status content) = length content ≤ 1400
GetsFew (no_route words) = Unit {0}
