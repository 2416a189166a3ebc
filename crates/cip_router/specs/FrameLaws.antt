-- The reading of a frame, by the readings of its parts.
use Rattle.std.proofs.Common.{◌≡◌, ℕ, List, Some, None, Ok, Err, refl, ap}
use Rattle.cip_types.specs.Fields.{fields_at}
use Rattle.cip_encap.specs.declared.header.MessageHeader.{MessageHeader}
use Rattle.cip_encap.specs.declared.message.EncapFault.{EncapFault}
use Rattle.cip_encap.specs.Message.{MessageFields, header_widths, headed}
use Rattle.cip_encap.specs.Reading.{message_reading}
use Rattle.cip_router.specs.Frames.{whole, wrong_length, without_header, request_header_of, frame_fields, frame_reading}

-- a whole message
pub whole_reads : (bytes : List ℕ) (m : MessageFields) → message_reading bytes ≡ Ok m → frame_reading bytes ≡ whole (request_header_of m) m.payload
unfolding frame_reading
whole_reads bytes m is = ap (frame_fields (fields_at header_widths bytes)) is

-- a header, and bytes of another length
pub wrong_length_reads : (bytes : List ℕ) (fault : EncapFault) (h : MessageHeader) (rest : List ℕ) → message_reading bytes ≡ Err fault → fields_at header_widths bytes ≡ Some (headed h rest) → frame_reading bytes ≡ wrong_length (record { command = h.command; session = h.session; context = h.context })
unfolding frame_reading
wrong_length_reads bytes fault h rest wrong found = rw (wrong, found) refl

-- too few bytes for a header
pub without_header_reads : (bytes : List ℕ) (fault : EncapFault) → message_reading bytes ≡ Err fault → fields_at header_widths bytes ≡ None → frame_reading bytes ≡ without_header
unfolding frame_reading
without_header_reads bytes fault wrong none = rw (wrong, none) refl
