-- An output of a device's answer: a datagram joins the log, a message or an end reaches its stream.
use Rattle.std.specs.Prelude.{◌≡◌, ◌≤◌, ◌<◌, ℕ, ◌+◌, [], ◌∷◌, ◌++◌, length}
use Rattle.cip_events.specs.Outputs.{AnswerOutput}
use Rattle.cip_events.specs.Outputs.AnswerOutput.{Message, Datagram, End}
use Rattle.cip_types.specs.declared.names.Node.{Node}
use Rattle.segment_world.specs.Transit.Streams.{with_stream, sent_over, closed_by}
use Rattle.segment_world.specs.World.{sent_by}
use Rattle.segment_world.specs.declared.traffic.Traffic.{Traffic}

-- the output of the device was sent, and took no more of the reserved memory than it needs
abbrev pub IsSent : ℕ → Node → Traffic → AnswerOutput → Traffic → Type 0
IsSent device node old (Message stream bytes) new =
    (new.log ≡ old.log)
    × (new.streams.streams ≡ with_stream (sent_over device bytes) stream old.streams.streams)
    × (old.streams.space ≤ new.streams.space + 1)
IsSent device node old (Datagram outgoing) new =
    (new.streams ≡ old.streams)
    × (new.log.sent ≡ old.log.sent ++ sent_by node outgoing ∷ [])
    × (old.log.texts ≤ new.log.texts + 1)
    × (old.log.bytes ≤ new.log.bytes + length outgoing.bytes)
IsSent device node old (End stream) new =
    (new.log ≡ old.log)
    × (new.streams.streams ≡ with_stream (closed_by device) stream old.streams.streams)
    × (old.streams.space ≤ new.streams.space)

-- memory for the output is reserved; the end of a stream needs none
abbrev pub HasRoom : Traffic → AnswerOutput → Type 0
HasRoom traffic (Message stream bytes) = (0 < traffic.streams.space) × (length bytes ≤ 2048)
HasRoom traffic (Datagram outgoing) = (0 < traffic.log.texts) × (length outgoing.bytes ≤ traffic.log.bytes)
HasRoom traffic (End stream) = Unit {0}
