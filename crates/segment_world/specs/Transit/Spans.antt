-- The ranges of datagrams in a buffer.
use Rattle.std.specs.Prelude.{ℕ, ◌≤◌, List, [], ◌∷◌, map, slice_range}
use Rattle.segment_world.specs.declared.transit.sent_log.SentSpan.{SentSpan}
use Rattle.segment_world.specs.Transit.Log.{Sent}

abbrev pub sent_at : List ℕ → SentSpan → Sent
sent_at bytes span = record { from = span.from; bytes = slice_range bytes span.start span.end }

-- the datagrams of these ranges
abbrev pub sent_in : List ℕ → List SentSpan → List Sent
sent_in bytes spans = map (sent_at bytes) spans

-- each range is within a buffer of this length
abbrev pub AreWithin : ℕ → List SentSpan → Type 0
AreWithin len [] = Unit {0}
AreWithin len (span ∷ spans) = (span.start ≤ span.end) × (span.end ≤ len) × AreWithin len spans
