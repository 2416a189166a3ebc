-- The lines of scanners as they are read: their events, and what is told of their slots.
use Rattle.std.proofs.Common.{◌≡◌, true, false, List, [], ◌∷◌, map, codes, refl, Option, Some, None}
use Rattle.hex.specs.Hex.{decode_pairs}
use Rattle.cip_types.specs.declared.names.Mismatch.TheVariants as mismatch
use Rattle.cip_events.specs.declared.event.Event.TheVariants.{Write, Read, Mode, Start, Stop}
use Rattle.cip_events.specs.declared.event.Notice.{Notice}
use Rattle.cip_events.specs.declared.event.Notice.TheVariants.{Slot, Refused, NoIds}
use Rattle.cip_events.specs.declared.event.Reason.TheVariants.{Encap, Unreadable, Cip, Mismatch}
use Rattle.cip_events.specs.declared.event.Verdict.TheVariants as verdict
use Rattle.trace_text.specs.declared.forms.TraceLine.{TraceLine}
use Rattle.trace_text.specs.declared.forms.TraceLine.TheVariants.{Event as EventLine, Recorded}
use Rattle.trace_outcomes.specs.declared.part.Part.TheVariants as part
use Rattle.trace_words.specs.Words.{number_of, bytes_of, general_of, extended_of}
use Rattle.trace_outcomes.specs.Parts.{mismatch_of, verdict_of}
use Rattle.trace_lines.specs.Kinds.{mode_of}
use Rattle.trace_text.specs.Forms.{line_of, event_of}

-- ---- events

modes_and_slots_are_read :
    map line_of (codes "mode run" ∷ codes "mode idle" ∷ codes "start 0" ∷ codes "stop 63" ∷ [])
    ≡ Some (EventLine (Mode true)) ∷ Some (EventLine (Mode false)) ∷ Some (EventLine (Start 0)) ∷ Some (EventLine (Stop 63)) ∷ []
unfolding line_of mode_of number_of
modes_and_slots_are_read = refl

-- another mode, no slot, a slot past 32 bits, and a word too many
other_modes_and_slots_are_bad :
    map line_of (codes "mode on" ∷ codes "mode" ∷ codes "start" ∷ codes "stop 4294967296" ∷ codes "start 0 0" ∷ []) ≡ None ∷ None ∷ None ∷ None ∷ None ∷ []
unfolding line_of mode_of number_of
other_modes_and_slots_are_bad = refl

-- ---- events alone

-- calls of an application
calls_are_read_alone :
    map event_of (codes "write 100 05060708" ∷ codes "read 150" ∷ codes "mode run" ∷ codes "start 0" ∷ codes "stop 0" ∷ [])
    ≡ Some (Write 100 (5 ∷ 6 ∷ 7 ∷ 8 ∷ [])) ∷ Some (Read 150) ∷ Some (Mode true) ∷ Some (Start 0) ∷ Some (Stop 0) ∷ []
unfolding event_of line_of mode_of number_of bytes_of decode_pairs
calls_are_read_alone = refl

-- a line of a profile, one of an outcome, a missing word, an LF, no word, and a comment
other_lines_are_no_events :
    map event_of (codes "input 100 4" ∷ codes "1 done" ∷ codes "write 100" ∷ codes "read 150\n" ∷ codes "" ∷ codes "# read 150" ∷ [])
    ≡ None ∷ None ∷ None ∷ None ∷ None ∷ None ∷ []
unfolding event_of line_of mode_of number_of bytes_of verdict_of decode_pairs
other_lines_are_no_events = refl

-- ---- outcomes

abbrev parsed : List Notice
parsed =
    Refused 0 (Encap 4294967295)
    ∷ Refused 1 Unreadable
    ∷ Refused 2 (Cip (record { general = 1; extended = Some 0x0106 }))
    ∷ Refused 3 (Cip (record { general = 0x1C; extended = None }))
    ∷ Refused 4 (Mismatch mismatch.Triad)
    ∷ Refused 5 (Mismatch mismatch.Id)
    ∷ Refused 6 (Mismatch mismatch.Api)
    ∷ NoIds 7
    ∷ Slot 8 6
    ∷ []

abbrev noted : Notice → Option TraceLine
noted notice = Some (Recorded 12 (part.Notice notice))

notices_of_slots_are_read :
    map line_of (
    codes "12 note refused 0 encap 4294967295"
    ∷ codes "12 note refused 1 unreadable"
    ∷ codes "12 note refused 2 cip 01 0106"
    ∷ codes "12 note refused 3 cip 1C -"
    ∷ codes "12 note refused 4 mismatch Triad"
    ∷ codes "12 note refused 5 mismatch Id"
    ∷ codes "12 note refused 6 mismatch Api"
    ∷ codes "12 note no-ids 7"
    ∷ codes "12 note slot 8 6"
    ∷ []
    )
    ≡ map noted parsed
unfolding line_of verdict_of mismatch_of number_of general_of extended_of decode_pairs
notices_of_slots_are_read = refl

ignored_is_read : line_of (codes "12 ignored") ≡ Some (Recorded 12 (part.Verdict verdict.Ignored))
unfolding line_of verdict_of number_of
ignored_is_read = refl

-- a status of one or three digits, no extended status, another reason, a word too many, and a state past 8 bits
other_notices_are_bad :
    map line_of (
    codes "12 note refused 2 cip 1 0106"
    ∷ codes "12 note refused 2 cip 01 106"
    ∷ codes "12 note refused 2 cip 01"
    ∷ codes "12 note refused 2 mismatch id"
    ∷ codes "12 note refused 2 unreadable 0"
    ∷ codes "12 note refused 2"
    ∷ codes "12 note slot 0 256"
    ∷ []
    )
    ≡ None ∷ None ∷ None ∷ None ∷ None ∷ None ∷ None ∷ []
unfolding line_of verdict_of mismatch_of number_of general_of extended_of decode_pairs
other_notices_are_bad = refl
