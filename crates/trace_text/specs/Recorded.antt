-- A recorded outcome, part by part: the verdict or the fault, and then the frames, the datagrams and the notices.
use Rattle.std.specs.Prelude.{◌+◌, ◌==◌, if◌then◌else◌, [], ◌∷◌, ◌++◌, length, option_map, Option, Some, None, Ok, Err}
use Rattle.cip_events.specs.declared.event.Answer.{Answer}
use Rattle.cip_events.specs.declared.event.Frame.{Frame}
use Rattle.cip_events.specs.declared.event.OutgoingDatagram.{OutgoingDatagram}
use Rattle.cip_events.specs.declared.event.Verdict.{Verdict}
use Rattle.cip_events.specs.Outcomes.{Outcome}
use Rattle.trace_outcomes.specs.declared.part.Part.{Part}
use Rattle.trace_outcomes.specs.declared.part.Part.TheVariants as part

-- a frame comes before all datagrams and notices
abbrev pub with_frame : Answer → Frame → Option Answer
with_frame answer frame = if length answer.datagrams + length answer.notices == 0 then Some (record answer { frames = answer.frames ++ frame ∷ [] }) else None

-- a datagram comes before all notices
abbrev pub with_datagram : Answer → OutgoingDatagram → Option Answer
with_datagram answer outgoing = if length answer.notices == 0 then Some (record answer { datagrams = answer.datagrams ++ outgoing ∷ [] }) else None

abbrev pub plain_answer_of : Verdict → Answer
plain_answer_of verdict = record { frames = []; datagrams = []; verdict = verdict; notices = [] }

-- a recorded outcome with one part more
abbrev pub recorded_with : Option Outcome → Part → Option Outcome
recorded_with None (part.Verdict verdict) = Some (Ok (plain_answer_of verdict))
recorded_with None (part.Fault fault) = Some (Err fault)
recorded_with (Some (Ok answer)) (part.Frame frame) = option_map Ok (with_frame answer frame)
recorded_with (Some (Ok answer)) (part.Datagram outgoing) = option_map Ok (with_datagram answer outgoing)
recorded_with (Some (Ok answer)) (part.Notice notice) = Some (Ok (record answer { notices = answer.notices ++ notice ∷ [] }))
recorded_with outcome parsed = None
