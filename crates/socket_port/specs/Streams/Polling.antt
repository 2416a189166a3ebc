-- The order in which a port asks its listener, its datagrams and its streams.
use Rattle.std.specs.Prelude.{ℕ, ◌+◌, ◌%◌, min, Bool, nat_eq, if◌then◌else◌}

-- a round has this many polls, and its first one asks the streams before the datagrams
abbrev pub polls_per_round : ℕ
polls_per_round = 16

abbrev pub is_for_streams : ℕ → Bool
is_for_streams polls = nat_eq polls 0

-- the place of the next poll in its round
abbrev pub next_poll : ℕ → ℕ
next_poll polls = (polls + 1) % polls_per_round

-- the number of streams
abbrev pub stream_numbers : ℕ
stream_numbers = 16

-- the streams take turns: the number at this place behind the first one
abbrev pub stream_behind : ℕ → ℕ → ℕ
stream_behind first place = (first + place) % stream_numbers

-- the listener is asked once the polls since the last time have this weight
abbrev pub accept_weight : ℕ
accept_weight = 240

-- the weight of a poll that found something, and of one that found nothing
abbrev pub weight_of : Bool → ℕ
weight_of found = if found then 1 else 30

-- the weight of the polls since the listener was asked, after one more: it is counted up to 255
abbrev pub weight_after : ℕ → Bool → ℕ
weight_after since found = min (since + weight_of found) 255
