-- Inquiries that wait at a station. Times are in milliseconds. The words are those of SplitMix64 (Steele, Lea and Flood).
use Rattle.std.specs.Prelude.{◌≡◌, ℕ, ◌+◌, ◌-◌, ◌^◌, ◌==◌, ◌&&◌, nat_le, nat_lt, min, if◌then◌else◌, Bool, List, [], ◌∷◌, ◌++◌, filter, length, position, remove, slice_get, Option, Some, None}
use Rattle.std.specs.Net.Socket.{socket_port}
use Rattle.cip_types.specs.declared.names.Node.{Node}
use Rattle.rand_xoshiro.specs.SplitMix64.{mix_u64, next_state}
use Rattle.station_port.specs.declared.inquiries.asking.Asker.{Asker}
use Rattle.station_port.specs.declared.inquiries.hold.HeldInquiry.{HeldInquiry}
use Rattle.station_port.specs.Inquiries.Delays.{drawn_delay, longest_delay}

-- the state of the generator of words, and the inquiries that wait, in the order in which they came
pub record InquiriesHeld : Type 0 where
  pub words : ℕ
  pub waiting : List HeldInquiry

-- THE NEXT INQUIRY

-- the word that is drawn next
abbrev pub next_word : InquiriesHeld → ℕ
next_word hold = (mix_u64 hold.words).0

-- when an inquiry that comes at this time is given to the device, within 64 bits
abbrev pub due_at : ℕ → ℕ → List ℕ → ℕ
due_at word now request = min (now + drawn_delay word (longest_delay request)) (2 ^ 64 - 1)

abbrev pub held_inquiry : ℕ → ℕ → Asker → List ℕ → HeldInquiry
held_inquiry word now asker request = record { asker = asker; bytes = request; due_ms = due_at word now request }

-- WHOSE PLACE IT TAKES

-- an inquiry of this address
abbrev pub is_of_node : Node → HeldInquiry → Bool
is_of_node node held = held.asker.node.0 == node.0

-- .. and of this port, so of one peer
abbrev pub is_of_peer : Asker → HeldInquiry → Bool
is_of_peer asker held = is_of_node asker.node held && (socket_port held.asker.at == socket_port asker.at)

-- at most four of one address wait: the first of them, if they are as many
abbrev pub crowded_place : List HeldInquiry → Asker → Option ℕ
crowded_place waiting asker = if nat_lt (length (filter (is_of_node asker.node) waiting)) 4 then None else position (is_of_node asker.node) waiting

abbrev pub place_or_crowded : List HeldInquiry → Asker → Option ℕ → Option ℕ
place_or_crowded waiting asker (Some place) = Some place
place_or_crowded waiting asker None = crowded_place waiting asker

-- the older inquiry whose place one of this peer takes: the one of the peer, or else the first of four of its address
abbrev pub older_place : List HeldInquiry → Asker → Option ℕ
older_place waiting asker = place_or_crowded waiting asker (position (is_of_peer asker) waiting)

-- it is not due later than the older one, so that nobody puts a peer's answer off
abbrev pub no_later : Option HeldInquiry → HeldInquiry → HeldInquiry
no_later None held = held
no_later (Some older) held = record held { due_ms = min older.due_ms held.due_ms }

-- in the place of the older one, or behind all others; at most 64 wait, and one more is lost
abbrev pub held_for : InquiriesHeld → HeldInquiry → Option ℕ → InquiriesHeld
held_for hold held None =
    if nat_lt (length hold.waiting) 64
    then record { words = next_state hold.words; waiting = hold.waiting ++ held ∷ [] }
    else hold
held_for hold held (Some place) = record { words = next_state hold.words; waiting = remove hold.waiting place ++ no_later (slice_get hold.waiting place) held ∷ [] }

abbrev pub held_after : InquiriesHeld → ℕ → Asker → List ℕ → InquiriesHeld
held_after hold now asker request = held_for hold (held_inquiry (next_word hold) now asker request) (older_place hold.waiting asker)

-- INQUIRIES THAT ARE DUE

abbrev pub is_inquiry_due : ℕ → HeldInquiry → Bool
is_inquiry_due now held = nat_le held.due_ms now

-- the first one that is due is given, and the others stay
pub record GivesInquiry (now : ℕ) (old : InquiriesHeld) (first : HeldInquiry) (new : InquiriesHeld) : Type 0 where
  pub place : ℕ
  pub is : position (is_inquiry_due now) old.waiting ≡ Some place
  pub first_is : slice_get old.waiting place ≡ Some first
  pub rest : new ≡ record old { waiting = remove old.waiting place }

-- the time until one is due
abbrev pub time_to_inquiry : ℕ → HeldInquiry → ℕ
time_to_inquiry now held = held.due_ms - now

-- .. until the first of them is, at most so long
abbrev pub inquiry_wait : ℕ → ℕ → List HeldInquiry → ℕ
inquiry_wait now most [] = most
inquiry_wait now most (held ∷ waiting) = inquiry_wait now (min most (time_to_inquiry now held)) waiting
