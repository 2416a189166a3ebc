-- The time between the accepted datagrams of one connection: how often, how long, how unevenly.
use Rattle.std.specs.Prelude.{ℕ, ◌+◌, ◌-◌, ◌/◌, ◌%◌, ◌==◌, nat_lt, max, min, map, if◌then◌else◌, Bool, List, [], ◌∷◌, Option, Some, None}
use Rattle.station_lines.specs.Watch.DatagramCounts.Counts.{with_more}
use Rattle.station_lines.specs.declared.watch.datagram_counts.gaps.GapMeter.{GapMeter}
use Rattle.station_lines.specs.declared.watch.datagram_counts.gaps.GapSums.{GapSums}
use Rattle.station_lines.specs.declared.watch.datagram_counts.gaps.GapWindow.{GapWindow}

abbrev pub no_gaps : GapSums
no_gaps = record { count = 0; sum_ms = 0; moved_ms = 0; greatest_ms = 0 }

abbrev pub fresh_window : ℕ → GapWindow
fresh_window number = record { number = number; sums = no_gaps }

-- no datagram has come
abbrev pub fresh_meter : GapMeter
fresh_meter = record {
  last_ms = None;
  gap_ms = 0;
  whole = no_gaps;
  windows = fresh_window 0 ∷ fresh_window 1 ∷ fresh_window 2 ∷ fresh_window 3 ∷ fresh_window 4 ∷ fresh_window 5 ∷ [];
}

-- WINDOWS OF TEN SECONDS

-- the number of the window in which a time is
abbrev pub window_of : ℕ → ℕ
window_of ms = ms / 10000

-- with a gap that is so far from the one before
abbrev pub with_one : (gap moved : ℕ) → GapSums → GapSums
with_one gap moved sums = record {
  count = with_more sums.count 1;
  sum_ms = with_more sums.sum_ms gap;
  moved_ms = with_more sums.moved_ms moved;
  greatest_ms = max sums.greatest_ms gap;
}

-- what a place of windows has of the window of this number
abbrev pub sums_in : ℕ → GapWindow → GapSums
sums_in number window = if window.number == number then window.sums else no_gaps

-- the window of a number is at the place of the one six before it
abbrev pub is_place_of : ℕ → GapWindow → Bool
is_place_of number window = window.number % 6 == number % 6

-- a place of windows after a gap that ends in the window of this number
abbrev pub window_after : (number gap moved : ℕ) → GapWindow → GapWindow
window_after number gap moved window =
    if is_place_of number window then record { number = number; sums = with_one gap moved (sums_in number window) } else window

-- ONE DATAGRAM

-- how far a gap is from the one before, if there was one
abbrev pub moved_by : ℕ → GapMeter → ℕ
moved_by gap meter = if meter.whole.count == 0 then 0 else max gap meter.gap_ms - min gap meter.gap_ms

-- a gap ends at this time, and is so far from the one before
abbrev pub with_gap : (ms gap moved : ℕ) → GapMeter → GapMeter
with_gap ms gap moved meter = record meter {
  last_ms = Some ms;
  gap_ms = gap;
  whole = with_one gap moved meter.whole;
  windows = map (window_after (window_of ms) gap moved) meter.windows;
}

-- behind the first datagram a gap ends
abbrev pub gap_since : ℕ → GapMeter → Option ℕ → GapMeter
gap_since ms meter None = record meter { last_ms = Some ms }
gap_since ms meter (Some last) = with_gap ms (ms - last) (moved_by (ms - last) meter) meter

-- a datagram is accepted at this time
abbrev pub came : ℕ → GapMeter → GapMeter
came ms meter = gap_since ms meter meter.last_ms

-- THE LAST MINUTE

abbrev pub both : GapSums → GapSums → GapSums
both a b = record {
  count = with_more a.count b.count;
  sum_ms = with_more a.sum_ms b.sum_ms;
  moved_ms = with_more a.moved_ms b.moved_ms;
  greatest_ms = max a.greatest_ms b.greatest_ms;
}

-- a window is of the last minute, if it is one of the newest six
abbrev pub is_recent : ℕ → GapWindow → Bool
is_recent newest window = nat_lt newest (window.number + 6)

abbrev pub with_recent : ℕ → GapWindow → GapSums → GapSums
with_recent newest window sums = if is_recent newest window then both sums window.sums else sums

abbrev pub recent_sums : ℕ → List GapWindow → GapSums → GapSums
recent_sums newest [] sums = sums
recent_sums newest (window ∷ windows) sums = recent_sums newest windows (with_recent newest window sums)

-- the gaps that ended in the newest six windows: in the last 50 to 60 seconds
abbrev pub last_minute : ℕ → GapMeter → GapSums
last_minute ms meter = recent_sums (window_of ms) meter.windows no_gaps
