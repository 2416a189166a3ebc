-- What a device takes a frame for: what its bytes say, or one of two things that a described device makes of them.
use Rattle.std.proofs.Common.{ℕ, ◌==◌, ◌&&◌, Bool, true, false, cond, not, List, length, Option, Some, None, Result, Ok, Err}
use Rattle.cip_types.specs.Fields.{fields_at}
use Rattle.cip_types.specs.Texts.{Tailed}
use Rattle.cip_encap.specs.declared.message.EncapFault.{EncapFault}
use Rattle.cip_encap.specs.Message.{MessageFields, header_widths}
use Rattle.cip_encap.specs.Reading.{message_reading}
use Rattle.cip_router.specs.Frames.{FrameFields, whole, request_header_of, wrong_length_of, frame_fields, frame_reading}
use Rattle.adapter_table.specs.declared.profile.Description.{Description}
use Rattle.adapter_table.specs.declared.table.AdapterTable.{AdapterTable}
use Rattle.adapter_table.specs.declared.table.Stream.{Stream}
use Rattle.adapter_table.specs.Encapsulation.{handled, discarded, is_list, described_fields, described_frame, frame_for, frame_answer}
use Rattle.adapter_table.specs.Requests.{Next}
use Rattle.cip_events.specs.Answers.{plain_answer}
use Rattle.cip_events.specs.declared.event.Verdict.TheVariants.{Done}

message_has : (P : FrameFields → Type 0) (optional misfits : Bool) (discards wrong taken : FrameFields) → P taken → P wrong → P discards → P (cond optional discards (cond misfits wrong taken))
message_has P true misfits discards wrong taken read misfit thrown = thrown
message_has P false true discards wrong taken read misfit thrown = misfit
message_has P false false discards wrong taken read misfit thrown = read

fields_have : (P : FrameFields → Type 0) (header : Option Tailed) (reading : Result MessageFields EncapFault) → P (frame_fields header reading) → P (wrong_length_of header) → ((m : MessageFields) → P (discarded m)) → P (described_fields header reading)
fields_have P header (Err why) read misfit thrown = read
fields_have P header (Ok m) read misfit thrown =
    message_has P (not (m.options == 0)) (is_list m.command && not (length m.payload == 0)) (discarded m) (wrong_length_of header) (whole (request_header_of m) m.payload) read misfit (thrown m)

-- what holds of a frame as it reads, of its header with a wrong length, and of a message that is discarded, holds of it as a device
-- takes it
pub frame_has : (P : FrameFields → Type 0) (described : Option Description) (bytes : List ℕ) → P (frame_reading bytes) → P (wrong_length_of (fields_at header_widths bytes)) → ((m : MessageFields) → P (discarded m)) → P (frame_for described bytes)
unfolding frame_reading described_frame
frame_has P None bytes read misfit thrown = read
frame_has P (Some d) bytes read misfit thrown = fields_have P (fields_at header_widths bytes) (message_reading bytes) read misfit thrown

-- ---- answers

-- a message that is discarded has no reply, and changes nothing
discarded_is : (P : Next → Type 0) (t : AdapterTable) (stream : Stream) (m : MessageFields) → P (plain_answer Done, t) → P (frame_answer t stream (discarded m))
unfolding handled
discarded_is P t stream m silent = silent

-- what holds of the answer to a frame as it reads, of that to its header with a wrong length, and of none, holds of the answer that a
-- device gives
pub answer_has : (P : Next → Type 0) (t : AdapterTable) (stream : Stream) (bytes : List ℕ) → P (frame_answer t stream (frame_reading bytes)) → P (frame_answer t stream (wrong_length_of (fields_at header_widths bytes))) → P (plain_answer Done, t) → P (frame_answer t stream (frame_for t.profile.description bytes))
answer_has P t stream bytes read misfit silent =
    frame_has (λ (fields : FrameFields). P (frame_answer t stream fields)) t.profile.description bytes read misfit (λ m. discarded_is P t stream m silent)
