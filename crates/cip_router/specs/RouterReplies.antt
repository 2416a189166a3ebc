-- Replies of a message router in general, whatever their service (Volume 1, chapter 2, message router response).
--
--   service             u8   that of the request, with the reply bit 0x80
--   reserved            u8
--   general status      u8
--   additional status   u8   its number of words, and these words (2 bytes each)
--   data
use Rattle.std.specs.Prelude.{ℕ, ◌*◌, nat_le, if◌then◌else◌, List, ◌∷◌, length, take, drop, Option, Some, None}
use Rattle.cip_router.specs.declared.router_reply.RouterReply.{RouterReply}

-- service, general status, bytes of the additional status, and data
pub record RouterReplyFields : Type 0 where
  pub service : ℕ
  pub status : ℕ
  pub additional : List ℕ
  pub content : List ℕ

-- the contents of a reply of the program
abbrev pub view_router_reply : RouterReply → RouterReplyFields
view_router_reply reply = record { service = reply.service; status = reply.status; additional = reply.additional.now; content = reply.content.now }

-- the reply whose additional status has this number of bytes; none where it runs past the end
abbrev pub router_reply_of : ℕ → ℕ → ℕ → List ℕ → Option RouterReplyFields
router_reply_of service status len rest =
    if nat_le len (length rest) then Some (record { service = service; status = status; additional = take len rest; content = drop len rest })
    else None

-- the reading of bytes as a reply; fewer than four bytes are none
unfoldable pub router_reply_reading : List ℕ → Option RouterReplyFields
router_reply_reading (service ∷ reserved ∷ status ∷ words ∷ rest) = router_reply_of service status (2 * words) rest
router_reply_reading _ = None
