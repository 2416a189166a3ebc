-- Rounds of polls at numbers.
use Rattle.std.proofs.Common.{◌≡◌, ℕ, true, false, refl}
use Rattle.station_port.specs.declared.rounds.PollRound.{PollRound}
use Rattle.station_port.specs.declared.rounds.PollSource.TheVariants.{Datagrams, Connections, Inquiries, Streams, Nothing}
use Rattle.station_port.specs.declared.rounds.PollSources.{PollSources}
use Rattle.station_port.specs.Rounds.{fresh_round, is_over, next_source, poll_sources, with_datagram, with_poll, without}
use Rattle.station_port.specs.Streams.Readiness.{all_ready, marked}
use Rattle.station_port.specs.declared.streams.ready.Ready.{Ready}

-- a round in which so many datagrams were read, and in which so many polls asked the other sockets first
abbrev round : ℕ → ℕ → PollRound
round datagrams others = record { datagrams = datagrams; others = others }

abbrev everything : PollSources
everything = record { datagrams = true; connections = true; inquiries = true; streams = true }

abbrev no_datagram : PollSources
no_datagram = without everything Datagrams

-- ---- what a poll reads

abbrev nothing_ready : Ready
nothing_ready = record { listener = false; datagrams = false; streams = false; openings = false; finder = false; refused = false; reported = false }

-- a scanner answers no inquiries: what its port begins with is read like all else, and is ready no more
pub a_scanner_reads_all_that_is_ready : poll_sources all_ready false ≡ everything
a_scanner_reads_all_that_is_ready = refl

pub a_poll_of_an_adapter_asks_for_an_inquiry_that_waits : poll_sources nothing_ready true ≡ record { datagrams = false; connections = false; inquiries = true; streams = false }
a_poll_of_an_adapter_asks_for_an_inquiry_that_waits = refl

pub what_is_reported_is_read : poll_sources (marked nothing_ready 3) false ≡ record { datagrams = false; connections = true; inquiries = false; streams = false }
what_is_reported_is_read = refl

-- ---- which socket is read next

pub a_datagram_comes_before_all_else : next_source fresh_round everything ≡ Datagrams
a_datagram_comes_before_all_else = refl

pub the_64th_datagram_does_too : next_source (round 63 0) everything ≡ Datagrams
the_64th_datagram_does_too = refl

pub behind_64_datagrams_a_connection_comes : next_source (round 64 0) everything ≡ Connections
behind_64_datagrams_a_connection_comes = refl

pub then_an_inquiry : next_source (round 64 0) (without everything Connections) ≡ Inquiries
then_an_inquiry = refl

pub then_a_stream : next_source (round 64 0) (without (without everything Connections) Inquiries) ≡ Streams
then_a_stream = refl

pub in_the_next_poll_a_stream_comes_first : next_source (round 64 1) everything ≡ Streams
in_the_next_poll_a_stream_comes_first = refl

pub without_datagrams_a_round_begins_with_connections : next_source fresh_round no_datagram ≡ Connections
without_datagrams_a_round_begins_with_connections = refl

pub and_goes_on_with_streams : next_source (round 0 1) no_datagram ≡ Streams
and_goes_on_with_streams = refl

pub connections_come_where_no_stream_has_anything : next_source (round 0 1) (without no_datagram Streams) ≡ Connections
connections_come_where_no_stream_has_anything = refl

pub an_inquiry_comes_last : next_source (round 0 1) (without (without no_datagram Streams) Connections) ≡ Inquiries
an_inquiry_comes_last = refl

pub more_datagrams_are_read_where_nothing_else_is : next_source (round 200 0) (record { datagrams = true; connections = false; inquiries = false; streams = false }) ≡ Datagrams
more_datagrams_are_read_where_nothing_else_is = refl

pub nothing_is_left : next_source fresh_round (record { datagrams = false; connections = false; inquiries = false; streams = false }) ≡ Nothing
nothing_is_left = refl

-- ---- how far a round is

pub a_datagram_is_counted : with_datagram (round 7 3) ≡ round 8 3
a_datagram_is_counted = refl

pub no_more_than_255_are_counted : with_datagram (round 255 3) ≡ round 255 3
no_more_than_255_are_counted = refl

pub a_poll_of_datagrams_is_none_of_the_others : with_poll (round 63 0) true ≡ round 63 0
a_poll_of_datagrams_is_none_of_the_others = refl

pub a_poll_without_datagrams_is_one : with_poll (round 5 3) false ≡ round 5 4
a_poll_without_datagrams_is_one = refl

pub a_poll_of_a_full_round_is_one : with_poll (round 64 0) true ≡ round 64 1
a_poll_of_a_full_round_is_one = refl

pub a_full_round_is_over_behind_two_of_them : is_over (round 64 2) ≡ true
a_full_round_is_over_behind_two_of_them = refl

pub and_not_behind_one : is_over (round 64 1) ≡ false
and_not_behind_one = refl

pub another_round_has_sixteen : is_over (round 63 15) ≡ false
another_round_has_sixteen = refl

pub and_no_more : is_over (round 0 16) ≡ true
and_no_more = refl

pub datagrams_alone_end_no_round : is_over (round 255 0) ≡ false
datagrams_alone_end_no_round = refl
