-- Counts at worked values: skipped numbers on the circle, and what each result adds (Volume 2, chapter 2, sequenced address item).
use Rattle.std.proofs.Common.{◌≡◌, Some, None, refl}
use Rattle.cip_events.specs.declared.event.Delivery.TheVariants.{Applied, Idle, Heartbeat, Duplicate, Old, UnknownId, WrongSize, Malformed}
use Rattle.station_lines.specs.Watch.DatagramCounts.Counts.{counted, missed, sent_counts, with_more}
use Rattle.station_lines.specs.Watch.DatagramCounts.Gaps.{came, fresh_meter, last_minute, no_gaps}
use Rattle.station_lines.specs.declared.watch.datagram_counts.counts.DatagramCounts.{DatagramCounts}

-- NUMBERS

pub nothing_is_lost_before_the_first : missed None 900 ≡ 0
nothing_is_lost_before_the_first = refl

pub the_next_number_loses_none : missed (Some 5) 6 ≡ 0
the_next_number_loses_none = refl

pub four_ahead_loses_three : missed (Some 5) 9 ≡ 3
four_ahead_loses_three = refl

pub numbers_wrap_round : missed (Some 0xFFFFFFFE) 1 ≡ 2
numbers_wrap_round = refl

pub a_count_ends : with_more 0xFFFFFFFFFFFFFFFE 5 ≡ 0xFFFFFFFFFFFFFFFF
a_count_ends = refl

-- RESULTS

abbrev seen : DatagramCounts
seen = record { received = 40; applied = 30; duplicate = 4; old = 3; wrong_size = 6; lost = 2; sent = 90; newest = Some 70 }

pub applied_and_two_are_lost : counted seen Applied 73 ≡ record { received = 41; applied = 31; duplicate = 4; old = 3; wrong_size = 6; lost = 4; sent = 90; newest = Some 73 }
applied_and_two_are_lost = refl

pub idle_is_accepted : counted seen Idle 71 ≡ record { received = 41; applied = 30; duplicate = 4; old = 3; wrong_size = 6; lost = 2; sent = 90; newest = Some 71 }
idle_is_accepted = refl

pub a_heartbeat_is_accepted : counted seen Heartbeat 72 ≡ record { received = 41; applied = 30; duplicate = 4; old = 3; wrong_size = 6; lost = 3; sent = 90; newest = Some 72 }
a_heartbeat_is_accepted = refl

pub a_duplicate_is_accepted : counted seen Duplicate 71 ≡ record { received = 41; applied = 30; duplicate = 5; old = 3; wrong_size = 6; lost = 2; sent = 90; newest = Some 71 }
a_duplicate_is_accepted = refl

pub an_old_one_loses_none : counted seen Old 69 ≡ record { received = 41; applied = 30; duplicate = 4; old = 4; wrong_size = 6; lost = 2; sent = 90; newest = Some 70 }
an_old_one_loses_none = refl

pub a_wrong_size_is_received : counted seen WrongSize 71 ≡ record { received = 41; applied = 30; duplicate = 4; old = 3; wrong_size = 7; lost = 2; sent = 90; newest = Some 70 }
a_wrong_size_is_received = refl

pub an_unknown_one_is_none_of_it : counted seen UnknownId 71 ≡ seen
an_unknown_one_is_none_of_it = refl

pub no_datagram_is_none_of_it : counted seen Malformed 71 ≡ seen
no_datagram_is_none_of_it = refl

pub one_more_is_sent : sent_counts seen ≡ record { received = 40; applied = 30; duplicate = 4; old = 3; wrong_size = 6; lost = 2; sent = 91; newest = Some 70 }
one_more_is_sent = refl

-- GAPS

-- datagrams were accepted at 11,000, 11,030 and 21,000 milliseconds
the_first_datagram_ends_no_gap : (came 11000 fresh_meter).whole ≡ no_gaps
the_first_datagram_ends_no_gap = refl

the_second_ends_one : (came 11030 (came 11000 fresh_meter)).whole ≡ record { count = 1; sum_ms = 30; moved_ms = 0; greatest_ms = 30 }
the_second_ends_one = refl

a_longer_one_is_another : (came 21000 (came 11030 (came 11000 fresh_meter))).whole ≡ record { count = 2; sum_ms = 10000; moved_ms = 9940; greatest_ms = 9970 }
a_longer_one_is_another = refl

-- at 69,999 milliseconds the ten seconds from 10,000 on are still of the last minute
both_are_of_the_last_minute :
    last_minute 69999 (came 21000 (came 11030 (came 11000 fresh_meter))) ≡ record { count = 2; sum_ms = 10000; moved_ms = 9940; greatest_ms = 9970 }
both_are_of_the_last_minute = refl

one_is_of_the_last_minute :
    last_minute 70000 (came 21000 (came 11030 (came 11000 fresh_meter))) ≡ record { count = 1; sum_ms = 9970; moved_ms = 9940; greatest_ms = 9970 }
one_is_of_the_last_minute = refl

-- the ten seconds from 70,000 on take the place of those from 10,000 on
a_later_gap_takes_a_place :
    last_minute 70500 (came 70500 (came 11030 (came 11000 fresh_meter))) ≡ record { count = 1; sum_ms = 59470; moved_ms = 59440; greatest_ms = 59470 }
a_later_gap_takes_a_place = refl
