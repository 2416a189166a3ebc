-- Why a slot of a scanner is not open, in the words of the line, of `status` and of the page.
use Rattle.std.specs.Prelude.{ℕ, ◌-◌, ◌/◌, ◌%◌, Bool, true, false, List, [], ◌++◌, codes, decimal, Option, Some, None}
use Rattle.cip_types.specs.declared.names.Node.{Node}
use Rattle.cip_events.specs.declared.event.Reason.{Reason}
use Rattle.station_lines.specs.declared.watch.notes.StateNote.{StateNote}
use Rattle.station_lines.specs.declared.watch.notes.StreamRefusal.{StreamRefusal}
use Rattle.station_lines.specs.declared.watch.waits.SlotWait.{SlotWait}
use Rattle.station_lines.specs.declared.watch.waits.SlotWait.TheVariants as wait
use Rattle.trace_words.specs.StatusWords.Reasons.{reason_text}
use Rattle.trace_words.specs.Words.{node_word}

-- so many tenths
abbrev pub tenths_text : ℕ → List ℕ
tenths_text tenths = decimal (tenths / 10) ++ (codes "." ++ decimal (tenths % 10))

abbrev pub next_text : ℕ → List ℕ
next_text ms = codes "the next try is in " ++ (tenths_text (ms / 100) ++ codes " s")

-- why there is no stream to a target
abbrev pub stream_words : Bool → List ℕ
stream_words true = codes " refuses a stream"
stream_words false = codes " does not answer"

abbrev pub no_stream_with : ℕ → Node → StreamRefusal → List ℕ
no_stream_with now target refusal =
    codes "no stream: " ++ (node_word target ++ (stream_words refusal.refused ++ (codes "; " ++ next_text (refusal.next_ms - now))))

abbrev pub no_stream_text : ℕ → Node → Option StreamRefusal → List ℕ
no_stream_text now target None = codes "no stream to its target"
no_stream_text now target (Some refusal) = no_stream_with now target refusal

-- the reason for which a slot was not opened last
abbrev pub refused_for : Reason → List ℕ
refused_for reason = codes "not opened: " ++ (reason_text reason ++ codes "; ")

abbrev pub refused_front : Option Reason → List ℕ
refused_front None = []
refused_front (Some reason) = refused_for reason

abbrev pub no_session_text : Option Reason → List ℕ
no_session_text refusal = refused_front refusal ++ codes "no session with its target"

abbrev pub later_text : Option Reason → ℕ → List ℕ
later_text refusal ms = refused_front refusal ++ next_text ms

-- what a slot of this target waits for at this time; nothing of one that is open, or whose request is on its way
abbrev pub why_text : ℕ → Node → StateNote → SlotWait → List ℕ
why_text now target note wait.Nothing = []
why_text now target note wait.Stopped = codes "stopped by a call, or never started"
why_text now target note wait.NoStream = no_stream_text now target note.stream
why_text now target note wait.NoSession = no_session_text note.refusal
why_text now target note (wait.Later ms) = later_text note.refusal ms
