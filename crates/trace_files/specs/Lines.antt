-- What a line of a trace does: before the first event it is gathered, and behind it it belongs to an entry.
use Rattle.std.specs.Prelude.{ℕ, ◌≡◌, ◌||◌, is_none, if◌then◌else◌, Bool, List, [], ◌∷◌, ◌++◌, Option, Some, None, Result, Ok, Err}
use Rattle.cip_events.specs.declared.event.Event.{Event}
use Rattle.cip_tables.specs.declared.table.Config.{Config}
use Rattle.trace_text.specs.declared.trace.TraceFault.{TraceFault}
use Rattle.trace_text.specs.declared.trace.TraceFault.TheVariants as fault
use Rattle.trace_text.specs.Forms.{event_of}
use Rattle.trace_text.specs.Reading.{given_block, is_skipped, trace_reading}
use Rattle.trace_files.specs.declared.entry_reader.EntryReader.{EntryReader}
use Rattle.trace_files.specs.declared.entry_reader.TraceEntry.{TraceEntry}
use Rattle.trace_files.specs.declared.profile_lines.ProfileLines.{ProfileLines}
use Rattle.trace_files.specs.declared.trace_reader.TracePart.{TracePart}
use Rattle.trace_files.specs.declared.trace_reader.TracePart.TheVariants as part
use Rattle.trace_files.specs.declared.trace_reader.TracePiece.{TracePiece}
use Rattle.trace_files.specs.declared.trace_reader.TracePiece.TheVariants as piece
use Rattle.trace_files.specs.Entries.{Taken, entry_of, taken_line}
use Rattle.trace_files.specs.Profile.{AnswersConfig, IsBadSoFar, config_of, kept_line, may_end, one_more}

-- BEFORE THE FIRST EVENT

-- a block of connection ids is an event once the profile may have ended, and before that its own
abbrev pub event_behind : Bool → Option Event → Option Event
event_behind whole None = None
event_behind whole (Some event) = if whole || is_none (given_block event) then Some event else None

-- the first event, if the line is one
abbrev pub first_event : (whole : Bool) → List ℕ → Option Event
first_event whole line = if is_skipped line then None else event_behind whole (event_of line)

-- the lines with one more
pub record IsGathered (old : ProfileLines) (line : List ℕ) (new : ProfileLines) : Type 0 where
  pub text : new.text.items ≡ old.text.items ++ kept_line line
  pub lines : new.lines ≡ one_more old.lines
  pub whole : new.whole ≡ (old.whole || may_end line)

-- The line is the first event, and the lines before it stay; or it is gathered behind them; or one of the lines is bad.
abbrev pub Gathers : ProfileLines → List ℕ → Result (Option Event) TraceFault → ProfileLines → Type 0
Gathers old line (Ok (Some event)) new = (first_event old.whole line ≡ Some event) × (new ≡ old)
Gathers old line (Ok None) new = (first_event old.whole line ≡ None) × IsGathered old line new
Gathers old line (Err why) new = IsBadSoFar (old.text.items ++ kept_line line) (one_more old.lines) why

-- A configuration is handed out. A fault of the profile is kept for the end of the trace.
abbrev pub HandsOut : Result Config TraceFault → Result (Option TracePiece) TraceFault → Option ℕ → Type 0
HandsOut (Ok made_of) result wrong = result ≡ Ok (Some (piece.Config made_of))
HandsOut (Err (fault.BadProfile number)) result wrong = (result ≡ Ok None) × (wrong ≡ Some number)
HandsOut (Err why) result wrong = result ≡ Err why

-- BEHIND IT

-- what a line does that may be skipped; None if it is not allowed there
abbrev pub line_behind : EntryReader → List ℕ → Option Taken
line_behind reader line = if is_skipped line then Some (None, reader) else taken_line reader line

-- an entry that is handed out, unless the profile has a fault
abbrev pub piece_of : Option ℕ → Option TraceEntry → Option TracePiece
piece_of None None = None
piece_of None (Some entry) = Some (piece.Entry entry)
piece_of (Some number) entry = None

-- The line with this number did what it does, and the entry that is whole with it is handed out; or it is bad.
abbrev pub GoesOn : EntryReader → Option ℕ → ℕ → List ℕ → Result (Option TracePiece) TraceFault → EntryReader → Type 0
GoesOn old wrong number line (Ok got) new = (entry : Option TraceEntry) × ((line_behind old line ≡ Some (entry, new)) × (got ≡ piece_of wrong entry))
GoesOn old wrong number line (Err (fault.BadLine bad)) new = (line_behind old line ≡ None) × (bad ≡ number)
GoesOn old wrong number line (Err (fault.BadProfile first)) new = ⊥
GoesOn old wrong number line (Err fault.OutOfMemory) new = Unit {0}

-- THE END

-- bytes that no LF ends are a bad line, of this number; a fault of the profile comes behind that
abbrev pub end_fault : ℕ → Option ℕ → List ℕ → Option TraceFault
end_fault number wrong (byte ∷ rest) = Some (fault.BadLine number)
end_fault number (Some first) [] = Some (fault.BadProfile first)
end_fault number None [] = None

-- a function found this fault or none
abbrev pub FindsFault : Option TraceFault → Result Unit TraceFault → Type 0
FindsFault None result = result ≡ Ok tt
FindsFault (Some why) result = result ≡ Err why

-- A LINE, WHEREVER IT IS

-- the configuration of the lines so far is read, and handed out
pub record HandsOutLines (lines : List ℕ) (result : Result (Option TracePiece) TraceFault) (wrong : Option ℕ) : Type 0 where
  pub config : Result Config TraceFault
  pub read : AnswersConfig (config_of (trace_reading lines)) config
  pub handed : HandsOut config result wrong

-- the line is the first event, and is the one that came last
pub record IsFirst (old : ProfileLines) (line : List ℕ) (result : Result (Option TracePiece) TraceFault) (new : EntryReader) (wrong : Option ℕ) : Type 0 where
  pub event : Event
  pub is : first_event old.whole line ≡ Some event
  pub last : new ≡ record { number = 1; event = event; recorded = None; sum = None }
  pub config : HandsOutLines old.text.items result wrong

-- the line is not the first event
abbrev pub StaysBefore : ProfileLines → List ℕ → Result (Option TracePiece) TraceFault → ProfileLines → Type 0
StaysBefore old line (Ok None) new = Gathers old line (Ok None) new
StaysBefore old line (Ok (Some got)) new = ⊥
StaysBefore old line (Err why) new = Gathers old line (Err why) new

-- A reader read the line of this number.
abbrev pub Reads : TracePart → Option ℕ → ℕ → List ℕ → Result (Option TracePiece) TraceFault → TracePart → Option ℕ → Type 0
Reads (part.Profile old) wrong number line result (part.Profile new) after = StaysBefore old line result new × (after ≡ wrong)
Reads (part.Profile old) wrong number line result (part.Entries new) after = IsFirst old line result new after
Reads (part.Entries old) wrong number line result (part.Profile new) after = ⊥
Reads (part.Entries old) wrong number line result (part.Entries new) after = GoesOn old wrong number line result new × (after ≡ wrong)

-- the lines so far and the bytes behind them are read as a trace without events
abbrev pub EndsBefore : Result Config TraceFault → Result TracePiece TraceFault → Type 0
EndsBefore said (Ok (piece.Config made_of)) = said ≡ Ok made_of
EndsBefore said (Ok (piece.Entry entry)) = ⊥
EndsBefore said (Err fault.OutOfMemory) = Unit {0}
EndsBefore said (Err why) = said ≡ Err why

-- the entry of the event that came last is handed out, if the end has no fault
abbrev pub EndsBehind : EntryReader → Option TraceFault → Result TracePiece TraceFault → Type 0
EndsBehind last wrong (Ok (piece.Config made_of)) = ⊥
EndsBehind last wrong (Ok (piece.Entry entry)) = (wrong ≡ None) × (entry ≡ entry_of last)
EndsBehind last wrong (Err fault.OutOfMemory) = Unit {0}
EndsBehind last wrong (Err why) = wrong ≡ Some why

-- A reader ended with these bytes, in the line of this number.
abbrev pub Ends : TracePart → Option ℕ → ℕ → List ℕ → Result TracePiece TraceFault → Type 0
Ends (part.Profile profile) wrong number rest result = EndsBefore (config_of (trace_reading (profile.text.items ++ rest))) result
Ends (part.Entries last) wrong number rest result = EndsBehind last (end_fault number wrong rest) result
