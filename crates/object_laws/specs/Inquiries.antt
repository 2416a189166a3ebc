-- What an adapter answers to inquiries, over a stream and over none (Volume 2, chapter 2, encapsulation commands).
use Rattle.std.specs.Prelude.{ℕ, ◌≡◌, ◌≤◌, List, length, find, Option, Some, None, Ok}
use Rattle.cip_types.specs.declared.names.Node.{Node}
use Rattle.cip_events.specs.Answers.{plain_answer}
use Rattle.cip_events.specs.declared.event.Event.TheVariants.{Frame, Inquiry}
use Rattle.cip_events.specs.declared.event.Recipient.TheVariants as recipient
use Rattle.cip_events.specs.declared.event.Verdict.TheVariants.{BadFrame}
use Rattle.adapter_table.specs.declared.table.AdapterTable.{AdapterTable}
use Rattle.adapter_table.specs.declared.table.Stream.{Stream}
use Rattle.adapter_table.specs.Inquiries.{frame_alone, inquiry_reply}
use Rattle.adapter_table.specs.Step.{adapter_step}
use Rattle.adapter_table.specs.Streams.{is_stream}
use Rattle.adapter_table.specs.Whole.{IsWhole}

-- the most bytes of a reply to an inquiry
abbrev pub most_replied : ℕ
most_replied = 100

-- these bytes of a peer have this reply on each route, and the table stays
pub record IsReplied (t : AdapterTable) (peer : Node) (bytes text : List ℕ) : Type 0 where
  pub over_none : adapter_step t (Inquiry peer bytes) ≡ Ok (frame_alone (recipient.Peer peer) text, t)
  pub over_streams :
      (number : ℕ) (stream : Stream) → find (is_stream number) t.streams ≡ Some stream →
      adapter_step t (Frame number bytes) ≡ Ok (frame_alone (recipient.Stream number) text, t)
  pub short : length text ≤ most_replied

-- the reply to some bytes, or none: over no stream they are then a bad frame, and the table stays
abbrev pub IsInquiryDone : AdapterTable → Node → List ℕ → Option (List ℕ) → Type 0
IsInquiryDone t peer bytes None = adapter_step t (Inquiry peer bytes) ≡ Ok (plain_answer BadFrame, t)
IsInquiryDone t peer bytes (Some text) = IsReplied t peer bytes text

-- so it is of every inquiry at a whole table
abbrev pub InquiriesChangeNothing : Type 0
InquiriesChangeNothing = (t : AdapterTable) (peer : Node) (bytes : List ℕ) → IsWhole t → IsInquiryDone t peer bytes (inquiry_reply t bytes)
