-- Why a slot of a scanner is not open, as JSON (RFC 8259).
use Rattle.std.specs.Prelude.{ℕ, List, [], ◌++◌, codes, Option, Some, None}
use Rattle.page_feed.specs.declared.waits.SlotFacts.{SlotFacts}
use Rattle.station_lines.specs.Reasons.{why_text}
use Rattle.station_lines.specs.Watch.Notes.{note_since}
use Rattle.station_lines.specs.declared.watch.notes.StateNote.{StateNote}
use Rattle.station_lines.specs.declared.watch.traffic.CountedConnection.{CountedConnection}
use Rattle.station_lines.specs.declared.watch.waits.SlotWait.{SlotWait}
use Rattle.station_lines.specs.declared.watch.waits.SlotWait.TheVariants as wait

abbrev pub wait_word : SlotWait → List ℕ
wait_word wait.Nothing = codes ""
wait_word wait.Stopped = codes "stopped"
wait_word wait.NoStream = codes "no stream"
wait_word wait.NoSession = codes "no session"
wait_word (wait.Later ms) = codes "next try"

-- nothing was noted of an unknown slot
abbrev pub note_of : Option CountedConnection → StateNote
note_of (Some row) = row.note
note_of None = note_since 0

abbrev pub wait_front : SlotWait → List ℕ
wait_front awaited = codes ",\"wait\":\"" ++ (wait_word awaited ++ codes "\",\"why\":\"")

abbrev pub facts_why : SlotFacts → List ℕ
facts_why facts = why_text facts.now_ms facts.target (note_of facts.row) facts.wait

abbrev pub said_wait : SlotFacts → List ℕ
said_wait facts = wait_front facts.wait ++ (facts_why facts ++ codes "\"")

abbrev pub wait_with : SlotFacts → SlotWait → List ℕ
wait_with facts wait.Nothing = []
wait_with facts other = said_wait facts

-- what a slot waits for, if it does, and why in words
abbrev pub wait_text : SlotFacts → List ℕ
wait_text facts = wait_with facts facts.wait
