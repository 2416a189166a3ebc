-- The state of a connection or a slot: since when, its time-outs, and why a slot is not open.
use Rattle.std.specs.Prelude.{ℕ, ◌==◌, if◌then◌else◌, Bool, true, false, Option, Some, None}
use Rattle.cip_types.specs.declared.names.Node.{Node}
use Rattle.cip_events.specs.declared.event.Reason.{Reason}
use Rattle.cip_events.specs.declared.slot_phase.SlotPhase.TheVariants as phase
use Rattle.cip_events.specs.Phases.{phase_number}
use Rattle.station_lines.specs.Watch.DatagramCounts.Counts.{with_more}
use Rattle.udp_runner.specs.declared.report.PortReport.{PortReport}
use Rattle.udp_runner.specs.declared.report.PortReport.TheVariants as report
use Rattle.udp_runner.specs.declared.report.RefusalCause.{RefusalCause}
use Rattle.udp_runner.specs.declared.report.RefusalCause.TheVariants as cause
use Rattle.station_lines.specs.declared.watch.notes.StateNote.{StateNote}
use Rattle.station_lines.specs.declared.watch.notes.StreamRefusal.{StreamRefusal}

abbrev pub note_since : ℕ → StateNote
note_since ms = record { since_ms = ms; time_outs = 0; last_time_out_ms = None; refusal = None; stream = None }

-- a connection is established at this time
abbrev pub opened_note : ℕ → StateNote → StateNote
opened_note ms note = record note { since_ms = ms; refusal = None; stream = None }

abbrev pub timed_out_note : ℕ → StateNote → StateNote
timed_out_note ms note = record note { since_ms = ms; time_outs = with_more note.time_outs 1; last_time_out_ms = Some ms }

-- a slot changes to the state of this number at this time
abbrev pub changed_note : (ms state : ℕ) → StateNote → StateNote
changed_note ms state note = if state == phase_number phase.TimedOut then timed_out_note ms note else record note { since_ms = ms }

-- a slot is not opened, for this reason
abbrev pub refused_note : Reason → StateNote → StateNote
refused_note reason note = record note { refusal = Some reason }

-- THE STREAM TO A TARGET

abbrev pub is_target : Option Node → Node → Bool
is_target None peer = false
is_target (Some target) peer = target.0 == peer.0

-- a stream is refused or not answered at this time; a port whose streams are all taken says nothing of its target
abbrev pub stream_refusal : Option StreamRefusal → ℕ → RefusalCause → Option StreamRefusal
stream_refusal known ms cause.Full = known
stream_refusal known ms (cause.Refused retry_ms) = Some (record { refused = true; next_ms = with_more ms retry_ms })
stream_refusal known ms (cause.Unanswered retry_ms) = Some (record { refused = false; next_ms = with_more ms retry_ms })

-- after a port's report of a stream: to this target there is one, or there is none and why
abbrev pub stream_after : Option StreamRefusal → Option Node → ℕ → PortReport → Option StreamRefusal
stream_after known target ms (report.Opened stream peer) = if is_target target peer then None else known
stream_after known target ms (report.NotOpened peer cause) = if is_target target peer then stream_refusal known ms cause else known
stream_after known target ms (report.Ended stream peer cause) = known
