-- Rounds of polls, and which socket a poll reads next.
use Rattle.std.specs.Prelude.{ℕ, ◌+◌, ◌==◌, ◌&&◌, ◌||◌, not, min, nat_le, if◌then◌else◌, Bool, false}
use Rattle.station_port.specs.declared.rounds.PollRound.{PollRound}
use Rattle.station_port.specs.declared.rounds.PollSource.{PollSource}
use Rattle.station_port.specs.declared.rounds.PollSource.TheVariants.{Datagrams, Connections, Inquiries, Streams, Nothing}
use Rattle.station_port.specs.declared.rounds.PollSources.{PollSources}
use Rattle.station_port.specs.declared.streams.ready.Ready.{Ready}

-- so many datagrams are read in a round before the other sockets have their turn
abbrev pub most_datagrams : ℕ
most_datagrams = 64

-- a round begins as the system reports which sockets have something
abbrev pub fresh_round : PollRound
fresh_round = record { datagrams = 0; others = 0 }

abbrev pub is_full : PollRound → Bool
is_full round = nat_le most_datagrams round.datagrams

-- A round is over behind 16 polls that asked the other sockets first. If it is full it is over behind two, so that an inquiry
-- and a stream have their turn.
abbrev pub is_over : PollRound → Bool
is_over round = nat_le 16 round.others || (is_full round && nat_le 2 round.others)

-- one datagram more was read
abbrev pub with_datagram : PollRound → PollRound
with_datagram round = record round { datagrams = min (round.datagrams + 1) 255 }

-- one poll more was made, with datagrams to read or without
abbrev pub with_poll : PollRound → Bool → PollRound
with_poll round datagrams = if datagrams && not (is_full round) then round else record round { others = min (round.others + 1) 255 }

-- which of the other sockets comes first: in the first poll that asks them new connections and inquiries, of which there are few, and
-- then the streams
abbrev pub next_other : Bool → PollSources → PollSource
next_other first left =
    if first && left.connections then Connections
    else (if first && left.inquiries then Inquiries
    else (if left.streams then Streams
    else (if left.connections then Connections
    else (if left.inquiries then Inquiries
    else (if left.datagrams then Datagrams
    else Nothing)))))

-- what a poll reads next, of what it has not read: the datagrams before all else, but for those beyond a full round
abbrev pub next_source : PollRound → PollSources → PollSource
next_source round left = if left.datagrams && not (is_full round) then Datagrams else next_other (round.others == 0) left

-- What may have something: a socket that is ready, whatever it is, so that none stays ready unread; and at a station that answers inquiries
-- one that waits, of which its time says when it is due.
abbrev pub poll_sources : Ready → Bool → PollSources
poll_sources ready answers = record {
  datagrams = ready.datagrams;
  connections = ready.listener || ready.openings;
  inquiries = ready.finder || answers;
  streams = ready.streams;
}

-- one of them may
abbrev pub any_source : PollSources → Bool
any_source left = left.datagrams || (left.connections || (left.inquiries || left.streams))

-- what is left once this was read
abbrev pub without : PollSources → PollSource → PollSources
without left Datagrams = record left { datagrams = false }
without left Connections = record left { connections = false }
without left Inquiries = record left { inquiries = false }
without left Streams = record left { streams = false }
without left Nothing = left
