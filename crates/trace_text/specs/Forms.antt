-- The lines of a trace: the profile of a device, the events at the device, and their recorded outcomes. A line is a
-- keyword or the number of an event, and words behind it.
use Rattle.std.specs.Prelude.{ℕ, nat_lt, Bool, List, [], ◌∷◌, ◌++◌, codes, Option, Some, None, if◌then◌else◌, option_map, option_and_then}
use Rattle.std.specs.List.{list_all}
use Rattle.cip_events.specs.declared.event.Event.{Event}
use Rattle.cip_events.specs.declared.event.Event.TheVariants as event
use Rattle.trace_text.specs.declared.forms.TraceLine.{TraceLine}
use Rattle.trace_text.specs.declared.forms.TraceLine.TheVariants as line
use Rattle.trace_words.specs.Words.{words_of, number_of}
use Rattle.trace_words.specs.Reader.{Reader, next_word, ends, refuses, Meanings, meaning, mapped, ◌>>=◌}
use Rattle.trace_lines.specs.Profiles.{adapter_reader, output_reader, point_reader, description_reader, object_reader, heartbeat_reader}
use Rattle.trace_lines.specs.declared.forms.TermLine.TheVariants as term
use Rattle.trace_lines.specs.declared.limit_lines.LimitName.{LimitName}
use Rattle.trace_lines.specs.Limits.{limit_named, limit_reader}
use Rattle.trace_lines.specs.Slots.{scanner_reader, openings_reader, serials_reader, slot_reader}
use Rattle.trace_lines.specs.declared.shapes.TheConstants.{FROM_NODE, EXPLICIT, ANSWER, COUNTERS, STREAM, FRAME, CUT, WRITE, NUMBER, IDS, MODE}
use Rattle.trace_outcomes.specs.Parts.{part_reader}
use Rattle.trace_lines.specs.Shapes.{shaped}

-- LINES

-- an inquiry: its peer and its bytes
abbrev pub inquiry_reader : Reader Event
inquiry_reader = shaped FROM_NODE (λ peer bytes. ends (event.Inquiry peer bytes))

-- a request that the application has a scanner send: its target, its number and its bytes
abbrev pub explicit_reader : Reader Event
explicit_reader = shaped EXPLICIT (λ target number bytes. ends (event.Explicit target number bytes))

-- the application's answer to a request: the request's number, the general status, and the data
abbrev pub answer_reader : Reader Event
answer_reader = shaped ANSWER (λ number status bytes. ends (event.Respond number status bytes))

-- what a host has counted
abbrev pub counters_reader : Reader Event
counters_reader = shaped COUNTERS (λ bytes. ends (event.Counters bytes))

-- a block of connection ids: the first one, and how many they are
abbrev pub block_reader : Reader Event
block_reader = shaped IDS (λ first count. ends (event.Ids (record { first = first; count = count })))

-- the lines of profiles that a word begins; those of limits have their rows
abbrev pub profile_meanings : Meanings (Reader TraceLine)
profile_meanings =
    (codes "adapter", mapped line.Adapter adapter_reader)
    ∷ (codes "output", mapped line.Output output_reader)
    ∷ (codes "input", mapped line.Input point_reader)
    ∷ (codes "config", mapped line.Config point_reader)
    ∷ (codes "describe", mapped line.Description description_reader)
    ∷ (codes "object", mapped line.Object object_reader)
    ∷ (codes "heartbeat", mapped line.Heartbeat heartbeat_reader)
    ∷ (codes "scanner", mapped line.Scanner scanner_reader)
    ∷ (codes "tidy", ends (line.Term term.Tidy))
    ∷ (codes "openings", mapped line.Term openings_reader)
    ∷ (codes "serials", mapped line.Term serials_reader)
    ∷ (codes "ids", mapped line.Event block_reader)
    ∷ (codes "slot", mapped line.Slot slot_reader)
    ∷ []

-- requests, inquiries, answers, counters, and what happens to a stream
abbrev pub stream_meanings : Meanings (Reader TraceLine)
stream_meanings =
    (codes "request", mapped line.Event (shaped FROM_NODE (λ peer bytes. ends (event.Request peer bytes))))
    ∷ (codes "inquiry", mapped line.Event inquiry_reader)
    ∷ (codes "explicit", mapped line.Event explicit_reader)
    ∷ (codes "answer", mapped line.Event answer_reader)
    ∷ (codes "counters", mapped line.Event counters_reader)
    ∷ (codes "stream", mapped line.Event (shaped STREAM (λ stream peer. ends (event.StreamOpened stream peer))))
    ∷ (codes "frame", mapped line.Event (shaped FRAME (λ stream bytes. ends (event.Frame stream bytes))))
    ∷ (codes "cut", mapped line.Event (shaped CUT (λ stream. ends (event.StreamCut stream))))
    ∷ []

-- datagrams, time, and what an application does
abbrev pub call_meanings : Meanings (Reader TraceLine)
call_meanings =
    (codes "datagram", mapped line.Event (shaped FROM_NODE (λ peer bytes. ends (event.Datagram peer bytes))))
    ∷ (codes "write", mapped line.Event (shaped WRITE (λ point bytes. ends (event.Write point bytes))))
    ∷ (codes "read", mapped line.Event (shaped NUMBER (λ point. ends (event.Read point))))
    ∷ (codes "tick", mapped line.Event (shaped NUMBER (λ ms. ends (event.Tick ms))))
    ∷ (codes "mode", mapped line.Event (shaped MODE (λ run. ends (event.Mode run))))
    ∷ (codes "start", mapped line.Event (shaped NUMBER (λ slot. ends (event.Start slot))))
    ∷ (codes "stop", mapped line.Event (shaped NUMBER (λ slot. ends (event.Stop slot))))
    ∷ []

abbrev pub line_meanings : Meanings (Reader TraceLine)
line_meanings = profile_meanings ++ (stream_meanings ++ call_meanings)

-- a part of the outcome of the event of this number
abbrev pub numbered : Option ℕ → Reader TraceLine
numbered None = refuses
numbered (Some number) = mapped (line.Recorded number) part_reader

-- the line of a limit, or a part of an outcome
abbrev pub of_limit : List ℕ → Option LimitName → Reader TraceLine
of_limit word None = numbered (number_of 64 word)
of_limit word (Some row) = mapped line.Limit (limit_reader row)

abbrev pub limit_or_part : List ℕ → Reader TraceLine
limit_or_part word = of_limit word (limit_named word)

abbrev pub line_reader : Reader TraceLine
line_reader = do
  word ← next_word Some
  meaning line_meanings (limit_or_part word) word

abbrev pub is_ascii : List ℕ → Bool
is_ascii line = list_all (λ byte. nat_lt byte 128) line

-- the value of a line
unfoldable pub line_of : List ℕ → Option TraceLine
line_of line = if is_ascii line then option_map (λ got. got.0) (line_reader (words_of line)) else None

-- EVENTS ALONE

-- the event of a line, if it is the line of one
abbrev pub event_only : TraceLine → Option Event
event_only (line.Event given) = Some given
event_only other = None

-- the event that a line writes
unfoldable pub event_of : List ℕ → Option Event
event_of line = option_and_then event_only (line_of line)
