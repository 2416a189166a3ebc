-- The outputs of an answer, in order: its messages, its datagrams, and the ends of streams.
use Rattle.std.specs.Prelude.{ℕ, List, [], ◌∷◌, ◌++◌}
use Rattle.std.specs.List.{flat_map}
use Rattle.cip_events.specs.declared.event.Answer.{Answer}
use Rattle.cip_events.specs.declared.event.Frame.{Frame}
use Rattle.cip_events.specs.declared.event.Notice.{Notice}
use Rattle.cip_events.specs.declared.event.Notice.TheVariants.{StreamClosed}
use Rattle.cip_events.specs.declared.event.OutgoingDatagram.{OutgoingDatagram}
use Rattle.cip_events.specs.declared.event.Recipient.{Recipient}
use Rattle.cip_events.specs.declared.event.Recipient.TheVariants.{Stream, Peer}

-- a message over a stream, a datagram to all of its nodes, or the end of a stream
pub data AnswerOutput : Type 0 where
  Message : ℕ → List ℕ → AnswerOutput
  Datagram : OutgoingDatagram → AnswerOutput
  End : ℕ → AnswerOutput

-- A frame goes over its stream. The reply to a request that came over no stream is for a peer, and goes over none.
abbrev pub outputs_to : Recipient → List ℕ → List AnswerOutput
outputs_to (Stream stream) bytes = Message stream bytes ∷ []
outputs_to (Peer node) bytes = []

abbrev pub frame_outputs : Frame → List AnswerOutput
frame_outputs frame = outputs_to frame.to frame.bytes

abbrev pub datagram_outputs : OutgoingDatagram → List AnswerOutput
datagram_outputs datagram = Datagram datagram ∷ []

-- a stream that a notice reports closed ends
abbrev pub close_outputs : Notice → List AnswerOutput
close_outputs (StreamClosed stream) = End stream ∷ []
close_outputs notice = []

-- all outputs of an answer
abbrev pub answer_outputs : Answer → List AnswerOutput
answer_outputs answer = flat_map frame_outputs answer.frames ++ (flat_map datagram_outputs answer.datagrams ++ flat_map close_outputs answer.notices)
