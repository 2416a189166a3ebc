-- To which request a reply is: to the explicit request that is pending on the stream of the message, with the sender context
-- as its request number.
use Rattle.std.specs.Prelude.{ℕ, ◌≡◌, Bool, true, false, List, find, Some, Ok}
use Rattle.cip_encap.specs.Message.{MessageFields}
use Rattle.cip_encap.specs.Reading.{message_reading}
use Rattle.cip_events.specs.declared.event.Event.{Event}
use Rattle.cip_events.specs.declared.event.Event.TheVariants.{Frame}
use Rattle.cip_events.specs.declared.event.Verdict.{Verdict}
use Rattle.cip_events.specs.declared.event.Verdict.TheVariants.{Replied}
use Rattle.cip_router.specs.RouterReplies.{RouterReplyFields}
use Rattle.scanner_table.specs.declared.explicit.PendingExplicit.{PendingExplicit}
use Rattle.scanner_table.specs.declared.table.ScannerTable.{ScannerTable}
use Rattle.scanner_table.specs.Effects.{Next}
use Rattle.scanner_table.specs.Explicit.{awaits, is_request, others, explicit_reply, replied_verdict}
use Rattle.scanner_table.specs.Step.{scanner_step}

-- the verdict is a reply
abbrev pub is_reply : Verdict → Bool
is_reply (Replied number status additional content) = true
is_reply other = false

-- The event is a frame whose message is to a pending request. The verdict is what the message replies to that request, which
-- is pending no more.
pub record RepliesToPending (t : ScannerTable) (event : Event) (next : Next) : Type 0 where
  pub stream : ℕ
  pub bytes : List ℕ
  pub event_is : event ≡ Frame stream bytes
  pub message : MessageFields
  pub read : message_reading bytes ≡ Ok message
  pub pending : PendingExplicit
  pub found : find (awaits stream message.context) t.explicit ≡ Some pending
  pub reply : RouterReplyFields
  pub replied : explicit_reply pending.service message ≡ Ok reply
  pub verdict : next.0.verdict ≡ replied_verdict pending reply
  pub removed : next.1.explicit ≡ others (is_request pending.request) t.explicit

-- each reply that a scanner tells its application is so
abbrev pub RepliesAreToPending : Type 0
RepliesAreToPending =
    (t : ScannerTable) (event : Event) (next : Next) → scanner_step t event ≡ Ok next → is_reply next.0.verdict ≡ true → RepliesToPending t event next
