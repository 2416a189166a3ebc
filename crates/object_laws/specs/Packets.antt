-- A packet of services equals its services one after another, and an Unconnected_Send without a route equals the request that it carries
-- (Volume 1, appendix A, Multiple_Service_Packet, and chapter 3, Unconnected_Send).
use Rattle.std.specs.Prelude.{ℕ, ◌≡◌, ◌==◌, false, List, [], ◌∷◌, Option, Ok}
use Rattle.cip_types.specs.declared.names.Node.{Node}
use Rattle.cip_events.specs.declared.event.Event.TheVariants as event
use Rattle.cip_router.specs.Replies.{ReplyFields}
use Rattle.cip_router.specs.Requests.{object, router_request_reading}
use Rattle.adapter_table.specs.declared.table.AdapterTable.{AdapterTable}
use Rattle.adapter_table.specs.Carrying.{member_replies, next_start, part_of}
use Rattle.adapter_table.specs.Objects.{word_of}
use Rattle.adapter_table.specs.Own.{is_own_class}
use Rattle.adapter_table.specs.Requests.{replied}
use Rattle.adapter_table.specs.Step.{adapter_step}
use Rattle.object_laws.specs.Routes.{answered_with}

-- a request to an object that the device serves itself: no Reset, no packet and no Unconnected_Send
pub record IsPlainService (t : AdapterTable) (bytes : List ℕ) : Type 0 where
  pub service : ℕ
  pub class : ℕ
  pub instance : ℕ
  pub attribute : Option ℕ
  pub body : List ℕ
  pub reads : router_request_reading bytes ≡ object service class instance attribute body
  pub served : is_own_class t.profile.objects class ≡ false
  pub no_reset : (service == 0x05) ≡ false
  pub no_packet : (service == 0x0A) ≡ false
  pub no_sending : (service == 0x52) ≡ false

-- the device answers this to the request of a peer, reports nothing, and stays as it is
abbrev pub Answers : AdapterTable → Node → List ℕ → ReplyFields → Type 0
Answers t peer bytes reply = adapter_step t (event.Request peer bytes) ≡ Ok (replied peer (answered_with t reply []))

-- the requests of a packet that begin at these places, one after another, are such
abbrev pub ArePlain : AdapterTable → (body starts : List ℕ) → Type 0
ArePlain t body [] = Unit {0}
ArePlain t body (low ∷ []) = Unit {0}
ArePlain t body (low ∷ high ∷ rest) = IsPlainService t (part_of body (word_of low high) (next_start body rest)) × ArePlain t body rest

-- and are answered so, one after another
abbrev pub AnswersEach : AdapterTable → Node → (body starts : List ℕ) → List ReplyFields → Type 0
AnswersEach t peer body (low ∷ high ∷ rest) (reply ∷ later) =
    Answers t peer (part_of body (word_of low high) (next_start body rest)) reply × AnswersEach t peer body rest later
AnswersEach t peer body [] [] = Unit {0}
AnswersEach t peer body (low ∷ []) [] = Unit {0}
AnswersEach t peer body starts replies = ⊥

-- so the replies of a packet are those to its requests, one after another
abbrev pub PacketsAreTheirServices : Type 0
PacketsAreTheirServices =
    (t : AdapterTable) (peer : Node) (body starts : List ℕ) → ArePlain t body starts → AnswersEach t peer body starts (member_replies t body starts)
