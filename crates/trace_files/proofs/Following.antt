-- What is appended one after the other, one step further.
use Rattle.std.proofs.Common.{◌≡◌, ℕ, ◌<◌, ◌+◌, List, ◌++◌, length, get_or, drop, refl}
use Rattle.std.proofs.lemmas.List.{append_assoc, drop_more}
use Rattle.cip_events.specs.declared.event.Frame.{Frame}
use Rattle.cip_events.specs.declared.event.Notice.{Notice}
use Rattle.trace_files.specs.declared.pcap.traffic.EventContext.{EventContext}
use Rattle.trace_files.specs.Pcap.Traffic.{Streams, frame_records, frame_streams, frames_records, frames_streams, notice_records, notice_streams, notices_records, notices_streams}

pub frames_more : (context : EventContext) (out new : List ℕ) (streams after : Streams) (frames : List Frame) (i : ℕ) (frame : Frame) → i < length frames → frame ≡ get_or frames i frame → new ≡ out ++ frame_records context frame streams → after ≡ frame_streams frame streams → new ++ frames_records context (drop (i + 1) frames) after ≡ out ++ frames_records context (drop i frames) streams
frames_more context out new streams after frames i frame lt is new_is after_is =
    rw (new_is, after_is, drop_more frames i frame lt, ← is) (append_assoc out (frame_records context frame streams) (frames_records context (drop (i + 1) frames) (frame_streams frame streams)))

pub frame_streams_more : (streams after : Streams) (frames : List Frame) (i : ℕ) (frame : Frame) → i < length frames → frame ≡ get_or frames i frame → after ≡ frame_streams frame streams → frames_streams (drop (i + 1) frames) after ≡ frames_streams (drop i frames) streams
frame_streams_more streams after frames i frame lt is after_is = rw (after_is, drop_more frames i frame lt, ← is) refl

pub notices_more : (context : EventContext) (out new : List ℕ) (streams after : Streams) (notices : List Notice) (i : ℕ) (d : Notice) → i < length notices → new ≡ out ++ notice_records context (get_or notices i d) streams → after ≡ notice_streams (get_or notices i d) streams → new ++ notices_records context (drop (i + 1) notices) after ≡ out ++ notices_records context (drop i notices) streams
notices_more context out new streams after notices i d lt new_is after_is =
    rw (new_is, after_is, drop_more notices i d lt) (append_assoc out (notice_records context (get_or notices i d) streams) (notices_records context (drop (i + 1) notices) (notice_streams (get_or notices i d) streams)))

pub notice_streams_more : (streams after : Streams) (notices : List Notice) (i : ℕ) (d : Notice) → i < length notices → after ≡ notice_streams (get_or notices i d) streams → notices_streams (drop (i + 1) notices) after ≡ notices_streams (drop i notices) streams
notice_streams_more streams after notices i d lt after_is = rw (after_is, drop_more notices i d lt) refl
