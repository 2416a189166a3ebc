-- The incarnations of the lives of a plant's devices: each device has some of 1 to 255 as its own.
use Rattle.std.specs.Prelude.{ℕ, ◌+◌, ◌*◌, ◌/◌, ◌<◌, ◌≤◌, ◌≢◌, ◌||◌, nat_lt, nat_le, if◌then◌else◌}
use Rattle.plant_rim.specs.declared.incarnations.IncarnationSpan.{IncarnationSpan}

-- those of a device of so many: 1 to 255 in equal parts, as near as can be
abbrev pub span_of : (device devices : ℕ) → IncarnationSpan
span_of device devices = record { first = device * 255 / devices + 1; last = (device + 1) * 255 / devices }

-- the incarnation of the next life: the last one is followed by the first one
abbrev pub next_of : IncarnationSpan → ℕ → ℕ
next_of span incarnation = if nat_lt incarnation span.first || nat_le span.last incarnation then span.first else incarnation + 1

-- the next incarnation is another one of the span, and within it the next number
abbrev pub GoesRound : IncarnationSpan → Type 0
GoesRound span = (incarnation : ℕ) → span.first ≤ incarnation → incarnation ≤ span.last → (span.first ≤ next_of span incarnation) × ((next_of span incarnation ≤ span.last) × (next_of span incarnation ≢ incarnation))

-- Each device of at most 127 has at least two of 1 to 255, goes round in them, and those of a later device are above them.
abbrev pub AreSpans : Type 0
AreSpans = (device devices : ℕ) → device < devices → devices ≤ 127 →
    (1 ≤ (span_of device devices).first) × (((span_of device devices).first < (span_of device devices).last) × (((span_of device devices).last ≤ 255)
    × (GoesRound (span_of device devices) × ((later : ℕ) → device < later → (span_of device devices).last < (span_of later devices).first))))
