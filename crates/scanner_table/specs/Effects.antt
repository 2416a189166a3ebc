-- Effects of an event: the requests that the scanner sends, the notices about its slots, and the next table. Effects join
-- one after another, and the joined effect becomes the answer.
use Rattle.std.specs.Prelude.{ℕ, ◌+◌, ◌==◌, if◌then◌else◌, List, [], ◌∷◌, ◌++◌, map}
use Rattle.cip_events.specs.declared.event.Answer.{Answer}
use Rattle.cip_events.specs.declared.event.Notice.{Notice}
use Rattle.cip_events.specs.declared.event.Notice.TheVariants as notice
use Rattle.cip_events.specs.declared.event.OutgoingDatagram.{OutgoingDatagram}
use Rattle.cip_events.specs.declared.event.Verdict.TheVariants.{Done}
use Rattle.scanner_table.specs.declared.slot.Slot.{Slot}
use Rattle.scanner_table.specs.declared.slot.SlotState.{SlotState}
use Rattle.scanner_table.specs.declared.table.ScannerTable.{ScannerTable}
use Rattle.scanner_table.specs.Slots.{IndexedSlot, with_slot, number_of}
use Rattle.scanner_table.specs.declared.table.Session.{Session}
use Rattle.scanner_table.specs.Requests.{Request, Sent, numbered, sent_frame}

-- an answer, and the next table
abbrev pub Next : Type 0
Next = Answer × ScannerTable

-- the requests to send, the notices, and the next table
pub record Effect : Type 0 where
  pub sent : List Sent
  pub notices : List Notice
  pub table : ScannerTable

abbrev pub nothing : ScannerTable → Effect
nothing t = record { sent = []; notices = []; table = t }

-- one effect after another
abbrev pub after : Effect → Effect → Effect
after first next = record { sent = first.sent ++ next.sent; notices = first.notices ++ next.notices; table = next.table }

-- an effect, and then the next one, which starts from the table that the first leaves
abbrev pub and_then : Effect → (ScannerTable → Effect) → Effect
and_then first next = after first (next first.table)

-- the effects on the slots of a list, one after another
abbrev pub on_each : (ScannerTable → IndexedSlot → Effect) → List IndexedSlot → ScannerTable → Effect
on_each effect [] t = nothing t
on_each effect (indexed ∷ rest) t = and_then (effect t indexed) (on_each effect rest)

-- a notice of the new state, where its number differs from that of the old state
abbrev pub state_notices : ℕ → SlotState → SlotState → List Notice
state_notices number old new = if number_of old == number_of new then [] else notice.Slot number (number_of new) ∷ []

-- The table gets another slot under this number. The notices given come before the notice of its new state.
abbrev pub changed : ScannerTable → IndexedSlot → Slot → List Notice → Effect
changed t indexed slot reported = record {
  sent = [];
  notices = reported ++ state_notices indexed.number indexed.slot.state slot.state;
  table = with_slot t indexed.number slot;
}

-- the table after one more request number was used
abbrev pub counted : ScannerTable → ScannerTable
counted t = record t { next_request = t.next_request + 1 }

-- the scanner sends the next request, and the table gets another slot under this number
abbrev pub request_sent : ScannerTable → IndexedSlot → Session → Request → Slot → Effect
request_sent t indexed session request slot = record (changed (counted t) indexed slot []) { sent = numbered session t.next_request request ∷ [] }

-- THE ANSWER

-- the answer `Done` with the effect's requests and notices, and with these datagrams
abbrev pub sent_answer : Effect → List OutgoingDatagram → Answer
sent_answer effect datagrams = record { frames = map sent_frame effect.sent; datagrams = datagrams; verdict = Done; notices = effect.notices }

abbrev pub done : Effect → Next
done effect = (sent_answer effect [], effect.table)
