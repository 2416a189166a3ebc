-- The outputs of a device's answer: there is room for all of them, and what they do to the log and the streams.
use Rattle.std.proofs.Common.{◌≡◌, ◌≤◌, ◌<◌, ℕ, ◌+◌, ◌*◌, List, [], ◌∷◌, ◌++◌, map, length, refl, subst, sym, ap, ◌∙◌, append_assoc, append-nil, arith}
use Rattle.std.specs.List.{AllByRecursion, flat_map}
use Rattle.cip_events.specs.Outputs.{AnswerOutput, outputs_to, frame_outputs, datagram_outputs, close_outputs, answer_outputs}
use Rattle.cip_events.specs.Outputs.AnswerOutput.{Message, Datagram, End}
use Rattle.cip_events.specs.Transmission.{BreaksOff, SendsAll}
use Rattle.cip_types.specs.declared.names.Node.{Node}
use Rattle.cip_events.specs.declared.event.Answer.{Answer}
use Rattle.cip_events.specs.declared.event.Frame.{Frame}
use Rattle.cip_events.specs.declared.event.Notice.{Notice}
use Rattle.cip_events.specs.declared.event.Notice.TheVariants.{Opened, Closed, Expired, Dropped, Replaced, StreamClosed, Slot, Refused, NoIds, Reset, Unanswered}
use Rattle.cip_events.specs.declared.event.OutgoingDatagram.{OutgoingDatagram}
use Rattle.cip_events.specs.declared.event.Recipient.{Recipient}
use Rattle.cip_events.specs.declared.event.Recipient.TheVariants.{Stream, Peer}
use Rattle.answer_sizes.specs.Sizes.{IsShortFrame, IsShortDatagram, IsSmall}
use Rattle.segment_world.specs.Transit.Log.{Sent}
use Rattle.segment_world.specs.Transit.Streams as streams
use Rattle.segment_world.specs.Transit.Streams.{with_stream, sent_over, closed_by, frame_sent, frames_sent, notice_applied, notices_applied, answered}
use Rattle.segment_world.specs.declared.traffic.Traffic.{Traffic}
use Rattle.segment_world.specs.AnswerSpace.{HasSpace}
use Rattle.segment_world.specs.DeviceOutputs.{HasRoom, IsSent}
use Rattle.segment_world.specs.World.{sent_by}

-- A notice ends a stream or changes nothing.
by_close : (P : List AnswerOutput → (List streams.Stream → List streams.Stream) → Type 0) (device : ℕ) (notice : Notice)
    → ((n : ℕ) → P (End n ∷ []) (with_stream (closed_by device) n)) → P [] (λ ss. ss) → P (close_outputs notice) (λ ss. notice_applied device ss notice)
by_close P device (StreamClosed n) ends none = ends n
by_close P device (Opened triad id) ends none = none
by_close P device (Closed triad) ends none = none
by_close P device (Expired triad) ends none = none
by_close P device (Dropped triad) ends none = none
by_close P device (Replaced triad) ends none = none
by_close P device (Slot slot state) ends none = none
by_close P device (Refused slot reason) ends none = none
by_close P device (NoIds slot) ends none = none
by_close P device (Reset kind) ends none = none
by_close P device (Unanswered number why) ends none = none

-- ROOM

-- behind so many messages and datagrams there is room for these outputs
abbrev Fits : ℕ → ℕ → List AnswerOutput → Type 0
Fits m d [] = Unit {0}
Fits m d (Message stream bytes ∷ outputs) = (m < 64) × (length bytes ≤ 2048) × Fits (m + 1) d outputs
Fits m d (Datagram outgoing ∷ outputs) = (d < 64) × (length outgoing.bytes ≤ 2048) × Fits m (d + 1) outputs
Fits m d (End stream ∷ outputs) = Fits m d outputs

fits_ends : (m d : ℕ) (notices : List Notice) → Fits m d (flat_map close_outputs notices)
fits_ends m d [] = tt
fits_ends m d (notice ∷ notices) =
    let later = fits_ends m d notices in
    by_close (λ outputs change. Fits m d (outputs ++ flat_map close_outputs notices)) 0 notice (λ n. later) later

fits_datagrams : (m d : ℕ) (datagrams : List OutgoingDatagram) (more : List AnswerOutput) → AllByRecursion IsShortDatagram datagrams → d + length datagrams ≤ 64
    → ((n : ℕ) → Fits m n more) → Fits m d (flat_map datagram_outputs datagrams ++ more)
fits_datagrams m d [] more short few later = later d
fits_datagrams m d (datagram ∷ datagrams) more short few later = (omega (arith, few), short.0, fits_datagrams m (d + 1) datagrams more short.1 (omega (arith, few)) later)

fits_frame : (m : ℕ) (to : Recipient) (bytes : List ℕ) (more : List AnswerOutput) → m < 64 → length bytes ≤ 2048
    → ((n : ℕ) → n ≤ m + 1 → Fits n 0 more) → Fits m 0 (outputs_to to bytes ++ more)
fits_frame m (Stream n) bytes more few short later = (few, short, later (m + 1) (omega arith))
fits_frame m (Peer node) bytes more few short later = later m (omega arith)

fits_frames : (m : ℕ) (frames : List Frame) (more : List AnswerOutput) → AllByRecursion IsShortFrame frames → m + length frames ≤ 64
    → ((n : ℕ) → Fits n 0 more) → Fits m 0 (flat_map frame_outputs frames ++ more)
fits_frames m [] more short few later = later m
fits_frames m (frame ∷ frames) more short few later =
    subst (Fits m 0) (sym (append_assoc (frame_outputs frame) (flat_map frame_outputs frames) more))
    (fits_frame m frame.to frame.bytes _ (omega (arith, few)) short.0 (λ n le. fits_frames n frames more short.1 (omega (arith, few, le)) later))

fits_answer : (answer : Answer) → IsSmall answer → Fits 0 0 (answer_outputs answer)
fits_answer answer small =
    fits_frames 0 answer.frames _ small.short_frames (omega (arith, small.few_frames))
    (λ n. fits_datagrams n 0 answer.datagrams _ small.short_datagrams (omega (arith, small.few_datagrams)) (λ k. fits_ends n k answer.notices))

-- room for any answer, of which so many messages and datagrams are taken
record IsLeft (m d : ℕ) (traffic : Traffic) : Type 0 where
  frames : 64 ≤ traffic.streams.space + m
  texts : 64 ≤ traffic.log.texts + d
  bytes : 131072 ≤ traffic.log.bytes + 2048 * d

room_for : (m d : ℕ) (traffic : Traffic) (output : AnswerOutput) (more : List AnswerOutput) → IsLeft m d traffic → Fits m d (output ∷ more) → HasRoom traffic output
room_for m d traffic (Message stream bytes) more left fits = (omega (arith, left.frames, fits.0), fits.1)
room_for m d traffic (Datagram outgoing) more left fits = (omega (arith, left.texts, fits.0), omega (arith, left.bytes, fits.0, fits.1))
room_for m d traffic (End stream) more left fits = tt

room_behind : (device : ℕ) (node : Node) (m d : ℕ) (done : List AnswerOutput) (next : AnswerOutput) (more : List AnswerOutput) (old new : Traffic)
    → IsLeft m d old → Fits m d (done ++ next ∷ more) → SendsAll (IsSent device node) old done new → HasRoom new next
room_behind device node m d [] next more old new left fits same = subst (λ t. HasRoom t next) (sym same) (room_for m d old next more left fits)
room_behind device node m d (Message stream bytes ∷ done) next more old new left fits (middle, went, rest) =
    room_behind device node (m + 1) d done next more middle new
    (record { frames = omega (arith, left.frames, went.2); texts = rw went.0 left.texts; bytes = rw went.0 left.bytes })
    fits.2 rest
room_behind device node m d (Datagram outgoing ∷ done) next more old new left fits (middle, went, rest) =
    room_behind device node m (d + 1) done next more middle new
    (record { frames = rw went.0 left.frames; texts = omega (arith, left.texts, went.2); bytes = omega (arith, left.bytes, went.3, fits.1) })
    fits.2 rest
room_behind device node m d (End stream ∷ done) next more old new left fits (middle, went, rest) =
    room_behind device node m d done next more middle new
    (record { frames = omega (arith, left.frames, went.2); texts = rw went.0 left.texts; bytes = rw went.0 left.bytes })
    fits rest

-- no output of a small answer fails
pub none_fails : (device : ℕ) (node : Node) (answer : Answer) (old new : Traffic) → HasSpace old.log old.streams → IsSmall answer
    → BreaksOff (IsSent device node) (λ t output u. HasRoom t output → ⊥) old (answer_outputs answer) new → ⊥
none_fails device node answer old new space small broke =
    broke.fails_there
    (room_behind device node 0 0 broke.done broke.failed broke.unsent old broke.middle
    (record { frames = omega (arith, space.frames); texts = omega (arith, space.texts); bytes = omega (arith, space.bytes) })
    (subst (Fits 0 0) broke.parts (fits_answer answer small)) broke.went)

-- THE LOG AND THE STREAMS

-- the log and the streams behind these outputs of a device
abbrev carried : ℕ → Node → List Sent → List streams.Stream → List AnswerOutput → List Sent × List streams.Stream
carried device node sent ss [] = (sent, ss)
carried device node sent ss (Message stream bytes ∷ outputs) = carried device node sent (with_stream (sent_over device bytes) stream ss) outputs
carried device node sent ss (Datagram outgoing ∷ outputs) = carried device node (sent ++ sent_by node outgoing ∷ []) ss outputs
carried device node sent ss (End stream ∷ outputs) = carried device node sent (with_stream (closed_by device) stream ss) outputs

went_carried : (device : ℕ) (node : Node) (outputs : List AnswerOutput) (old new : Traffic) → SendsAll (IsSent device node) old outputs new
    → ◌≡◌ {A = List Sent × List streams.Stream} (new.log.sent, new.streams.streams) (carried device node old.log.sent old.streams.streams outputs)
went_carried device node [] old new same = ap (λ (t : Traffic). (t.log.sent, t.streams.streams)) same
went_carried device node (Message stream bytes ∷ outputs) old new (middle, went, rest) = rw (← went.0, ← went.1) (went_carried device node outputs middle new rest)
went_carried device node (Datagram outgoing ∷ outputs) old new (middle, went, rest) = rw (← went.0, ← went.1) (went_carried device node outputs middle new rest)
went_carried device node (End stream ∷ outputs) old new (middle, went, rest) = rw (← went.0, ← went.1) (went_carried device node outputs middle new rest)

carried_frame : (device : ℕ) (node : Node) (sent : List Sent) (ss : List streams.Stream) (to : Recipient) (bytes : List ℕ) (more : List AnswerOutput)
    → carried device node sent ss (outputs_to to bytes ++ more) ≡ carried device node sent (frame_sent device ss bytes to) more
carried_frame device node sent ss (Stream n) bytes more = refl
carried_frame device node sent ss (Peer peer) bytes more = refl

carried_frames : (device : ℕ) (node : Node) (sent : List Sent) (ss : List streams.Stream) (frames : List Frame) (more : List AnswerOutput)
    → carried device node sent ss (flat_map frame_outputs frames ++ more) ≡ carried device node sent (frames_sent device ss frames) more
unfolding frames_sent
carried_frames device node sent ss [] more = refl
carried_frames device node sent ss (frame ∷ frames) more =
    ap (carried device node sent ss) (append_assoc (frame_outputs frame) (flat_map frame_outputs frames) more)
    ∙ carried_frame device node sent ss frame.to frame.bytes (flat_map frame_outputs frames ++ more)
    ∙ carried_frames device node sent (frame_sent device ss frame.bytes frame.to) frames more

carried_datagrams : (device : ℕ) (node : Node) (sent : List Sent) (ss : List streams.Stream) (datagrams : List OutgoingDatagram) (more : List AnswerOutput)
    → carried device node sent ss (flat_map datagram_outputs datagrams ++ more) ≡ carried device node (sent ++ map (sent_by node) datagrams) ss more
carried_datagrams device node sent ss [] more = ap (λ l. carried device node l ss more) (sym (append-nil sent))
carried_datagrams device node sent ss (datagram ∷ datagrams) more =
    carried_datagrams device node (sent ++ sent_by node datagram ∷ []) ss datagrams more
    ∙ ap (λ l. carried device node l ss more) (append_assoc sent (sent_by node datagram ∷ []) (map (sent_by node) datagrams))

carried_ends : (device : ℕ) (node : Node) (sent : List Sent) (ss : List streams.Stream) (notices : List Notice)
    → carried device node sent ss (flat_map close_outputs notices) ≡ (sent, notices_applied device ss notices)
unfolding notices_applied
carried_ends device node sent ss [] = refl
carried_ends device node sent ss (notice ∷ notices) =
    by_close (λ outputs change. carried device node sent ss (outputs ++ flat_map close_outputs notices) ≡ carried device node sent (change ss) (flat_map close_outputs notices)) device notice (λ n. refl) refl
    ∙ carried_ends device node sent (notice_applied device ss notice) notices

-- what an answer that was sent did
pub answer_carried : (device : ℕ) (node : Node) (answer : Answer) (old new : Traffic) → SendsAll (IsSent device node) old (answer_outputs answer) new
    → ◌≡◌ {A = List Sent × List streams.Stream} (new.log.sent, new.streams.streams) (old.log.sent ++ map (sent_by node) answer.datagrams, answered device answer old.streams.streams)
answer_carried device node answer old new went =
    went_carried device node (answer_outputs answer) old new went
    ∙ carried_frames device node old.log.sent old.streams.streams answer.frames _
    ∙ carried_datagrams device node old.log.sent (frames_sent device old.streams.streams answer.frames) answer.datagrams _
    ∙ carried_ends device node (old.log.sent ++ map (sent_by node) answer.datagrams) (frames_sent device old.streams.streams answer.frames) answer.notices
