-- Samples of the ids in requests, replies and datagrams, written by hand.
use Rattle.std.proofs.Common.{◌≡◌, ℕ, ◌==◌, ◌||◌, true, false, List, refl}
use Rattle.cip_datagram.specs.Reading.{datagram_reading}
use Rattle.cip_epath.specs.Reading as paths
use Rattle.cip_fwdopen.specs.Close.{close_reading}
use Rattle.cip_fwdopen.specs.Open.{open_reading}
use Rattle.cip_fwdopen.specs.Reply.{open_reply_reading, unread_reading}
use Rattle.cip_fwdopen.specs.Request.{request_reading}
use Rattle.cip_netparams.specs.Word.{params16}
use Rattle.cip_router.specs.Requests.{router_request_reading}
use Rattle.scanner_table.specs.Replies.{reply_answer}
use Rattle.samples.specs.Datagrams.{datagram}
use Rattle.samples.specs.Hex.{hex}
use Rattle.samples.specs.Requests.{opening, owner}
use Rattle.device_laws.specs.Ids.{RequestIds, ReplyIds, DatagramId}

abbrev Is : ℕ → ℕ → Type 0
Is expected id = id ≡ expected

abbrev IsEither : ℕ → ℕ → ℕ → Type 0
IsEither one other id = (id == one || id == other) ≡ true

-- a request to open has its T->O id, and reads as no reply
requests_its_id : RequestIds (Is 0x20000001) (router_request_reading (opening owner))
unfolding paths.path_reading paths.target_reading paths.segments_at paths.segment_at paths.logical_at paths.value_at paths.key_at paths.key_fields_at paths.data_at close_reading open_reading request_reading params16 router_request_reading
requests_its_id = refl

answers_nothing : ReplyIds (λ id. ⊥) (reply_answer false (open_reply_reading (opening owner)))
unfolding open_reply_reading unread_reading
answers_nothing = tt

-- its successful reply has both ids, and reads as no request: service 0xD4, O->T id 0x10000001, T->O id 0x20000001
abbrev success : List ℕ
success = hex "D4 00 00 00 01 00 00 10 01 00 00 20 01 00 34 12 78 56 34 12 10 27 00 00 10 27 00 00 00 00"

reports_both : ReplyIds (IsEither 0x10000001 0x20000001) (reply_answer false (open_reply_reading success))
unfolding open_reply_reading unread_reading
reports_both = (refl, refl)

-- it has none as the reply to a Large_Forward_Open
reports_no_large : ReplyIds (λ id. ⊥) (reply_answer true (open_reply_reading success))
unfolding open_reply_reading unread_reading
reports_no_large = tt

requests_nothing : RequestIds (λ id. ⊥) (router_request_reading success)
unfolding paths.path_reading paths.target_reading paths.segments_at paths.segment_at paths.logical_at paths.value_at paths.key_at paths.key_fields_at paths.data_at close_reading open_reading request_reading params16 router_request_reading
requests_nothing = tt

-- a datagram has its connection id
has_its_id : DatagramId (Is 0x10000001) (datagram 0x10000001 7 3 (hex "01 00 00 00"))
unfolding datagram_reading
has_its_id = refl

-- bytes that are none have none
has_none : DatagramId (λ id. ⊥) (hex "02 00")
unfolding datagram_reading
has_none = tt
