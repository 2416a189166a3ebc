-- What a station keeps from one start to the next, and its text.
use Rattle.std.specs.Prelude.{ℕ, ◌≡◌, ◌<◌, ◌+◌, ◌-◌, ◌*◌, ◌%◌, ◌^◌, ◌==◌, ◌&&◌, nat_lt, bytes_eq, if◌then◌else◌, Bool, List, [], ◌∷◌, ◌++◌, length, take, drop, position, codes, decimal, Option, Some, None, option_and_then, option_map, unwrap_or, IfSome}
use Rattle.std.specs.Borrow.{Bor}
use Rattle.trace_words.specs.Words.{number_of}
use Rattle.station_record.specs.declared.kept_state.ids.KeptIds.{KeptIds}
use Rattle.station_record.specs.declared.kept_state.state.StationState.{StationState}
use Rattle.station_record.specs.KeptState.Ids.{IsKept, drawn_ids}

-- the state of the next start: 255 is followed by 1
abbrev pub next_incarnation : ℕ → ℕ
next_incarnation incarnation = if incarnation == 255 then 1 else incarnation + 1

-- The first connection serial number of the next start. A start has 257 of the 65,535 numbers before it comes to those of another
-- one, and the next start begins half the circle away.
abbrev pub next_serials : ℕ → ℕ
next_serials first = (first + 257 * 128 - 1) % 65535 + 1

-- that of a start where the last one kept none
abbrev pub drawn_serials : ℕ → ℕ
drawn_serials drawn = drawn % 65535 + 1

abbrev pub serials_behind : Option ℕ → ℕ → ℕ
serials_behind None drawn = drawn_serials drawn
serials_behind (Some first) drawn = next_serials first

abbrev pub next_state : StationState → ℕ → StationState
next_state state drawn = record {
  incarnation = next_incarnation state.incarnation;
  serial = state.serial;
  serials = Some (serials_behind state.serials drawn);
  ids = state.ids;
}

-- the state after the last start, or the first one
abbrev pub following : Option StationState → ℕ → ℕ → StationState
following None own drawn = record { incarnation = own; serial = drawn; serials = Some (drawn_serials drawn); ids = None }
following (Some last) own drawn = next_state last drawn

-- the state with the incarnation that was given, if one was
abbrev pub with_given : Option ℕ → StationState → StationState
with_given None state = state
with_given (Some incarnation) state = record state { incarnation = incarnation }

-- the state of a start
abbrev pub begun : Option StationState → Option ℕ → ℕ → ℕ → StationState
begun last given own drawn = with_given given (following last own drawn)

-- from where on no id was given: as it was kept, or from a drawn place on
abbrev pub kept_ids : StationState → ℕ → KeptIds
kept_ids state drawn = unwrap_or state.ids (drawn_ids drawn)

abbrev pub with_ids : StationState → KeptIds → StationState
with_ids state ids = record state { ids = Some ids }

-- THE TEXT

-- a word and a number behind it
abbrev pub line_of : List ℕ → ℕ → List ℕ
line_of word number = word ++ (decimal number ++ codes "\n")

-- the line of the first connection serial number, if there is one
abbrev pub serials_text : Option ℕ → List ℕ
serials_text None = []
serials_text (Some first) = line_of (codes "serials ") first

-- the line of the place from which on no connection id was given, and of how many are left, if there is one
abbrev pub ids_text : Option KeptIds → List ℕ
ids_text None = []
ids_text (Some ids) = codes "ids " ++ (decimal ids.from ++ (codes " " ++ (decimal ids.left ++ codes "\n")))

abbrev pub state_text : StationState → List ℕ
state_text state =
    line_of (codes "incarnation ") state.incarnation
    ++ (line_of (codes "serial ") state.serial ++ (serials_text state.serials ++ ids_text state.ids))

-- READING

abbrev pub number_word : List ℕ → Option ℕ
number_word word = number_of 64 word

-- a number and the text behind it, wherever that lies in memory
abbrev pub view_line : ℕ × Bor (List ℕ) → ℕ × List ℕ
view_line line = (line.0, line.1.now)

-- a first connection serial number, if there is one, and the text behind it, wherever that lies in memory
abbrev pub view_rest : Option ℕ × Bor (List ℕ) → Option ℕ × List ℕ
view_rest read = (read.0, read.1.now)

abbrev pub is_byte : ℕ → ℕ → Bool
is_byte kind byte = byte == kind

-- the number before the byte at this place, and the text behind that
abbrev pub parted : List ℕ → ℕ → Option (ℕ × List ℕ)
parted text end = option_map (λ number. (number, drop (end + 1) text)) (number_word (take end text))

-- the number before the first byte of this kind, and the text behind that
abbrev pub number_before : ℕ → List ℕ → Option (ℕ × List ℕ)
number_before kind text = option_and_then (parted text) (position (is_byte kind) text)

-- the number of the first line, and the text behind it: LF ends a line
abbrev pub first_line : List ℕ → Option (ℕ × List ℕ)
first_line text = number_before 10 text

-- the number of the first line, which begins with this word, and the text behind it
abbrev pub line_behind : List ℕ → List ℕ → Option (ℕ × List ℕ)
line_behind word text = if bytes_eq (take (length word) text) word then first_line (drop (length word) text) else None

-- a first connection serial number
abbrev pub serial_in : ℕ → Option ℕ
serial_in first = if nat_lt 0 first && nat_lt first (2 ^ 16) then Some first else None

-- the number of the line, and the text behind it
abbrev pub serials_in : List ℕ → Option (Option ℕ × List ℕ)
serials_in text = option_and_then (λ line. option_map (λ first. (Some first, line.1)) (serial_in line.0)) (first_line text)

-- the first connection serial number, if the text begins with its line, and the text behind it
abbrev pub serials_of : List ℕ → Option (Option ℕ × List ℕ)
serials_of text = if bytes_eq (take 8 text) (codes "serials ") then serials_in (drop 8 text) else Some (None, text)

-- a place from which on no id was given, and how many are left; nothing is behind its line
abbrev pub ids_with : ℕ → ℕ → List ℕ → Option (Option KeptIds)
ids_with from left [] =
    if nat_lt 0 from && (nat_lt from (2 ^ 32) && nat_lt left (2 ^ 32)) then Some (Some (record { from = from; left = left })) else None
ids_with from left (byte ∷ bytes) = None

-- the two numbers of the line of ids: a space is between them
abbrev pub ids_in : List ℕ → Option (Option KeptIds)
ids_in text = option_and_then (λ first. option_and_then (λ second. ids_with first.0 second.0 second.1) (first_line first.1)) (number_before 32 text)

-- the place from which on no id was given, if the text has its line
abbrev pub ids_of : List ℕ → Option (Option KeptIds)
ids_of [] = Some None
ids_of (byte ∷ bytes) = if bytes_eq (take 4 (byte ∷ bytes)) (codes "ids ") then ids_in (drop 4 (byte ∷ bytes)) else None

-- the numbers are those of a state
abbrev pub state_with : ℕ → ℕ → Option ℕ → Option KeptIds → Option StationState
state_with incarnation serial serials ids =
    if nat_lt 0 incarnation && (nat_lt incarnation (2 ^ 8) && nat_lt serial (2 ^ 32)) then Some (record { incarnation = incarnation; serial = serial; serials = serials; ids = ids }) else None

-- the state of a text
abbrev pub state_of : List ℕ → Option StationState
state_of text =
    option_and_then
    (λ first. option_and_then
    (λ second. option_and_then (λ third. option_and_then (state_with first.0 second.0 third.0) (ids_of third.1)) (serials_of second.1))
    (line_behind (codes "serial ") first.1))
    (line_behind (codes "incarnation ") text)

-- A state that is written is read as itself.
abbrev pub ReadsBack : Type 0
ReadsBack =
    (state : StationState) → 0 < state.incarnation → state.incarnation < 2 ^ 8 → state.serial < 2 ^ 32 →
    IfSome state.serials (λ first. (0 < first) × (first < 2 ^ 16)) → IfSome state.ids IsKept → state_of (state_text state) ≡ Some state
