-- An inquiry changes nothing, and has one reply on each route.
use Rattle.std.proofs.Common.{◌≡◌, ℕ, List, find, Option, Some, None, Result, Ok, ◌∙◌, ap, refl, arith}
use Rattle.std.proofs.lemmas.Bool.{eqb-true}
use Rattle.base_lemmas.specs.Lists.{found_passes}
use Rattle.cip_types.specs.declared.names.Node.{Node}
use Rattle.cip_events.specs.declared.event.Event.TheVariants.{Frame}
use Rattle.cip_events.specs.declared.event.Recipient.TheVariants as recipient
use Rattle.cip_events.specs.declared.event.StepFault.{StepFault}
use Rattle.adapter_table.specs.declared.table.AdapterTable.{AdapterTable}
use Rattle.adapter_table.specs.declared.table.Stream.{Stream}
use Rattle.adapter_table.specs.Encapsulation.{stream_answer, frame_of, frame}
use Rattle.adapter_table.specs.Inquiries.{frame_alone, inquiry_reply, inquired_by, inquired}
use Rattle.adapter_table.specs.Requests.{Next}
use Rattle.adapter_table.specs.Step.{adapter_step}
use Rattle.adapter_table.specs.Streams.{is_stream}
use Rattle.answer_sizes.specs.Lemmas.InquiryLengths.{RepliesBriefly, inquiry_reply_few}
use Rattle.object_laws.specs.Inquiries.{IsInquiryDone, InquiriesChangeNothing}

abbrev done : Next → Result Next StepFault
done next = Ok next

found_number : (number : ℕ) (streams : List Stream) (stream : Stream) → find (is_stream number) streams ≡ Some stream → stream.number ≡ number
found_number number streams stream is = eqb-true stream.number number (found_passes (is_stream number) streams stream is)

over_stream : (t : AdapterTable) (bytes text : List ℕ) (number : ℕ) (stream : Stream) → inquiry_reply t bytes ≡ Some text → find (is_stream number) t.streams ≡ Some stream → adapter_step t (Frame number bytes) ≡ done (frame_alone (recipient.Stream number) text, t)
unfolding frame
over_stream t bytes text number stream reply found =
    ap (frame_of t bytes) found ∙ (ap (λ (r : Option (List ℕ)). done (stream_answer t stream bytes r)) reply
    ∙ ap (λ (n : ℕ). done (frame_alone (recipient.Stream n) text, t)) (found_number number t.streams stream found))

inquiry_done : (t : AdapterTable) (peer : Node) (bytes : List ℕ) (reply : Option (List ℕ)) → inquiry_reply t bytes ≡ reply → RepliesBriefly reply → IsInquiryDone t peer bytes reply
unfolding inquired
inquiry_done t peer bytes None is brief = ap (λ (r : Option (List ℕ)). done (inquired_by t peer r)) is
inquiry_done t peer bytes (Some text) is brief = record {
  over_none = ap (λ (r : Option (List ℕ)). done (inquired_by t peer r)) is;
  over_streams = λ number stream found. over_stream t bytes text number stream is found;
  short = omega (arith, brief);
}

pub inquiries_stay : InquiriesChangeNothing
inquiries_stay t peer bytes whole = inquiry_done t peer bytes (inquiry_reply t bytes) refl (inquiry_reply_few t bytes whole.shaped.faultless)
