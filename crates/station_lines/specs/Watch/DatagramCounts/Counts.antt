-- What is counted of the datagrams of one connection: their results (Volume 1, chapter 3, class 1 transport), and the sequence
-- numbers that were skipped (Volume 2, chapter 2, sequenced address item).
use Rattle.std.specs.Prelude.{ℕ, ◌+◌, ◌-◌, ◌^◌, min, Bool, true, false, Option, Some, None}
use Rattle.cip_types.specs.Circle.{distance}
use Rattle.cip_events.specs.declared.event.Delivery.{Delivery}
use Rattle.cip_events.specs.declared.event.Delivery.TheVariants as delivery
use Rattle.station_lines.specs.declared.watch.datagram_counts.counts.DatagramCounts.{DatagramCounts}

-- so many more; a count ends at 2^64 - 1
abbrev pub with_more : ℕ → ℕ → ℕ
with_more count more = min (count + more) (2 ^ 64 - 1)

abbrev pub no_counts : DatagramCounts
no_counts = record { received = 0; applied = 0; duplicate = 0; old = 0; wrong_size = 0; lost = 0; sent = 0; newest = None }

-- SEQUENCE NUMBERS

-- a datagram with this result was accepted
abbrev pub is_accepted : Delivery → Bool
is_accepted delivery.Applied = true
is_accepted delivery.Idle = true
is_accepted delivery.Heartbeat = true
is_accepted delivery.Duplicate = true
is_accepted other = false

-- the numbers between that of the datagram accepted last and that of this one: none before the first one, and n - 1 if it
-- is n ahead on the circle
abbrev pub missed : Option ℕ → ℕ → ℕ
missed None number = 0
missed (Some last) number = distance number last - 1

-- ONE DATAGRAM

abbrev pub received_counts : DatagramCounts → DatagramCounts
received_counts counts = record counts { received = with_more counts.received 1 }

abbrev pub accepted_counts : DatagramCounts → ℕ → DatagramCounts
accepted_counts counts number = record counts {
  received = with_more counts.received 1;
  lost = with_more counts.lost (missed counts.newest number);
  newest = Some number;
}

abbrev pub applied_counts : DatagramCounts → DatagramCounts
applied_counts counts = record counts { applied = with_more counts.applied 1 }

abbrev pub duplicate_counts : DatagramCounts → DatagramCounts
duplicate_counts counts = record counts { duplicate = with_more counts.duplicate 1 }

abbrev pub old_counts : DatagramCounts → DatagramCounts
old_counts counts = record counts { old = with_more counts.old 1 }

abbrev pub misfit_counts : DatagramCounts → DatagramCounts
misfit_counts counts = record counts { wrong_size = with_more counts.wrong_size 1 }

-- the device produced a datagram for the connection
abbrev pub sent_counts : DatagramCounts → DatagramCounts
sent_counts counts = record counts { sent = with_more counts.sent 1 }

-- the counts after a datagram with this result and sequence number
abbrev pub counted : DatagramCounts → Delivery → ℕ → DatagramCounts
counted counts delivery.Applied number = applied_counts (accepted_counts counts number)
counted counts delivery.Idle number = accepted_counts counts number
counted counts delivery.Heartbeat number = accepted_counts counts number
counted counts delivery.Duplicate number = duplicate_counts (accepted_counts counts number)
counted counts delivery.Old number = old_counts (received_counts counts)
counted counts delivery.WrongSize number = misfit_counts (received_counts counts)
counted counts delivery.UnknownId number = counts
counted counts delivery.Malformed number = counts
