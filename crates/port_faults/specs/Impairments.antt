-- What becomes of a datagram: by a word that is drawn for its number. The words are those of SplitMix64 (Steele, Lea and Flood).
use Rattle.std.specs.Prelude.{ℕ, ◌+◌, ◌*◌, ◌/◌, ◌%◌, ◌^◌, ◌==◌, ◌&&◌, nat_lt, Bool}
use Rattle.rand_xoshiro.specs.SplitMix64.{mix_u64}
use Rattle.port_faults.specs.declared.rates.DatagramImpairment.{DatagramImpairment}
use Rattle.port_faults.specs.declared.rates.FaultRates.{FaultRates}

-- nothing becomes of any datagram
abbrev pub are_none : FaultRates → Bool
are_none rates = rates.lose == 0 && rates.repeat == 0 && rates.reorder == 0 && rates.delay_ms == 0

-- the state of the generator of a seed behind so many words: it steps by a constant
abbrev pub state_at : ℕ → ℕ → ℕ
state_at seed number = (seed + number * 0x9e3779b97f4a7c15 % 2 ^ 64) % 2 ^ 64

-- its word of this number, from 0
abbrev pub word_at : ℕ → ℕ → ℕ
word_at seed number = (mix_u64 (state_at seed number)).0

-- the lowest 16 bits of a word are drawn by a percentage
abbrev pub is_drawn : ℕ → ℕ → Bool
is_drawn word percent = nat_lt (word % 65536 % 100) percent

-- the wait that they draw, of at most so many milliseconds
abbrev pub delay_of : ℕ → ℕ → ℕ
delay_of word most_ms = word % 65536 % (most_ms + 1)

-- the impairment that a word draws: each 16 bits of it one part
abbrev pub drawn_impairment : FaultRates → ℕ → DatagramImpairment
drawn_impairment rates word = record {
  lost = is_drawn word rates.lose;
  repeated = is_drawn (word / 65536) rates.repeat;
  overtaken = is_drawn (word / 4294967296) rates.reorder;
  delay_ms = delay_of (word / 281474976710656) rates.delay_ms;
}

-- the impairment of the datagram of this number, from 0
abbrev pub impairment_of : FaultRates → ℕ → DatagramImpairment
impairment_of rates number = drawn_impairment rates (word_at rates.seed number)
