-- The law of state: a reader that has taken what is on its way has the newest value of each point, or a line with it is due.
use Rattle.std.specs.Prelude.{ℕ, ◌≡◌, ◌==◌, ◌++◌, map, if◌then◌else◌, Bool, true, false, List, [], ◌∷◌, Option, Some, None}
use Rattle.station_rim.specs.Queue.Outlets.{QueueOutlet, new_outlet, offered_text, outlet_after, with_lost, with_owed, with_state, with_text, without_owed}
use Rattle.station_lines.specs.Reported.{Reported, answered, begun, is_due, reported_at, unreported}
use Rattle.station_rim.specs.declared.queue.outlet.NoticeForm.{NoticeForm}
use Rattle.station_rim.specs.declared.queue.outlet.Offer.{Offer}
use Rattle.station_rim.specs.declared.queue.outlet.Offer.TheVariants as offer

-- WHAT HAPPENS

-- a text that an output took: of events, or the line of the point at a place, with its bytes
pub data Given : Type 0 where
  Event : List ℕ → Given
  State : ℕ → List ℕ → List ℕ → Given

abbrev pub given_text : Given → List ℕ
given_text (Event text) = text
given_text (State place bytes text) = text

-- a station with its output: what was reported, what is on its way, all texts that the output took, and those that its reader took
pub record Way : Type 0 where
  pub reported : Reported
  pub outlet : QueueOutlet
  pub given : List Given
  pub read : List (List ℕ)

abbrev pub fresh_way : NoticeForm → ℕ → ℕ → ℕ → Way
fresh_way form most_bytes most_pieces count = record { reported = unreported count; outlet = new_outlet form most_bytes most_pieces; given = []; read = [] }

-- the line of a point is offered, with its bytes; a text of events is offered; lines are offered from the first one on again; the
-- reader takes the oldest text; another station, whose state waited, has ended
pub data Act : Type 0 where
  Report : ℕ → List ℕ → List ℕ → Offer → Act
  Say : List ℕ → Offer → Act
  Begin : Act
  Take : Act
  Release : Act

-- the outlet behind an offer of state, and behind one of events (`DealtState`, `Dealt`)
abbrev pub state_behind : List ℕ → Offer → QueueOutlet → QueueOutlet
state_behind text offer.Taken outlet = with_state outlet text
state_behind text offer.Full outlet = with_owed outlet
state_behind text offer.OutOfMemory outlet = with_owed outlet

abbrev pub events_behind : List ℕ → Offer → QueueOutlet → QueueOutlet
events_behind text offer.Taken outlet = with_text outlet text
events_behind text offer.Full outlet = with_lost outlet text
events_behind text offer.OutOfMemory outlet = with_lost outlet text

abbrev pub was_taken : Offer → Bool
was_taken offer.Taken = true
was_taken offer.Full = false
was_taken offer.OutOfMemory = false

-- with what the output took of an offer
abbrev pub with_given : Offer → Given → List Given → List Given
with_given offer.Taken one given = given ++ one ∷ []
with_given offer.Full one given = given
with_given offer.OutOfMemory one given = given

-- with what the reader takes: the oldest text. (A notice alone is no text of a station.)
abbrev pub read_on : List (List ℕ) → List (List ℕ) → List (List ℕ)
read_on [] read = read
read_on (piece ∷ pieces) read = read ++ piece ∷ []

abbrev pub way_after : Act → Way → Way
way_after (Report place bytes text said) way = record {
  reported = answered place bytes (was_taken said) way.reported;
  outlet = state_behind text said way.outlet;
  given = with_given said (State place bytes (offered_text way.outlet text)) way.given;
  read = way.read;
}
way_after (Say text said) way = record {
  reported = way.reported;
  outlet = events_behind text said way.outlet;
  given = with_given said (Event (offered_text way.outlet text)) way.given;
  read = way.read;
}
way_after Begin way = record way { reported = begun way.reported }
way_after Take way = record way { outlet = outlet_after way.outlet; read = read_on way.outlet.queue.pieces way.read }
way_after Release way = record way { outlet = without_owed way.outlet }

abbrev pub way_through : List Act → Way → Way
way_through [] way = way
way_through (act ∷ acts) way = way_through acts (way_after act way)

-- THE LAW

-- the bytes of the last line of a point among texts
abbrev pub last_on : ℕ → Option (List ℕ) → List Given → Option (List ℕ)
last_on place found [] = found
last_on place found (Event text ∷ others) = last_on place found others
last_on place found (State other bytes text ∷ others) = last_on place (if other == place then Some bytes else found) others

abbrev pub last_line : ℕ → List Given → Option (List ℕ)
last_line place given = last_on place None given

-- the reader took, in order, what the output took and is not on its way
abbrev pub InOrder : Way → Type 0
InOrder way = map given_text way.given ≡ way.read ++ way.outlet.queue.pieces

-- the last line of each point that the output took has the bytes that were reported, and whatever the point holds, these are its
-- bytes or a line with its bytes is due
pub record ReportsPoint (way : Way) (place : ℕ) (reported : Option (List ℕ)) : Type 0 where
  pub last : last_line place way.given ≡ reported
  pub holds : (held : List ℕ) → is_due (Some reported) held ≡ false → last_line place way.given ≡ Some held

abbrev pub ReportsAll : Way → Type 0
ReportsAll way = (place : ℕ) (reported : Option (List ℕ)) → reported_at way.reported place ≡ Some reported → ReportsPoint way place reported

-- State is never lost: whatever happened since the output was fresh.
abbrev pub StateIsNeverLost : Type 0
StateIsNeverLost = (form : NoticeForm) (most_bytes most_pieces count : ℕ) (acts : List Act) →
    let way : Way = way_through acts (fresh_way form most_bytes most_pieces count) in InOrder way × ReportsAll way

-- ROOM

-- the line of the point at a place, which holds these bytes, is offered if it is due, and taken
abbrev pub reported_one : (ℕ → List ℕ) → ℕ → Reported → Reported
reported_one held place reported = if is_due (reported_at reported place) (held place) then answered place (held place) true reported else reported

abbrev pub reported_through : (ℕ → List ℕ) → List ℕ → Reported → Reported
reported_through held [] reported = reported
reported_through held (place ∷ places) reported = reported_through held places (reported_one held place reported)

abbrev pub NoneDue : (ℕ → List ℕ) → List ℕ → Reported → Type 0
NoneDue held [] reported = Unit {0}
NoneDue held (place ∷ places) reported = (is_due (reported_at reported place) (held place) ≡ false) × NoneDue held places reported

-- Where there is room for all, no line is due behind the offers.
abbrev pub RoomReportsAll : Type 0
RoomReportsAll = (held : ℕ → List ℕ) (places : List ℕ) (reported : Reported) → NoneDue held places (reported_through held places reported)
