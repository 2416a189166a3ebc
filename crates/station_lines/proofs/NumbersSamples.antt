-- The lines of the call `status --csv`, worked by hand.
use Rattle.std.proofs.Common.{◌≡◌, [], Some, None, refl}
use Rattle.std.specs.Prelude.{codes}
use Rattle.std.specs.Fmt.{digits}
use Rattle.station_lines.specs.declared.watch.traffic.CountedConnection.{CountedConnection}
use Rattle.station_lines.specs.Numbers.{slot_numbers, slot_numbers_of}
use Rattle.station_lines.specs.Watch.DatagramCounts.Counts.{no_counts}
use Rattle.station_lines.specs.Watch.DatagramCounts.Gaps.{fresh_meter}
use Rattle.station_lines.specs.Watch.Notes.{note_since}

-- 371 datagrams were sent and 370 came, of which 2 numbers are missing. Of 369 gaps the steps from each to the next are 332 ms together,
-- 0.8997 ms each, and the longest gap is 24 ms. It never timed out.
abbrev counted_slot : CountedConnection
counted_slot = record {
  sender = Some (record { 0 = 2130706433 });
  id = Some 16;
  sends = None;
  counts = record no_counts { received = 370; lost = 2; sent = 371 };
  gaps = record fresh_meter { whole = record { count = 369; sum_ms = 3690; moved_ms = 332; greatest_ms = 24 } };
  note = note_since 120;
}

its_line : slot_numbers (record { number = 3120; ms = 8004 }) 0 (record { 0 = 2130706433 }) counted_slot ≡ codes "csv,3120,8004,slot 0,127.0.0.1,371,370,2,0.8,24,0\n"
unfolding digits
its_line = refl

no_line : slot_numbers_of (record { number = 3120; ms = 8004 }) 7 (record { 0 = 2130706433 }) None ≡ []
no_line = refl
