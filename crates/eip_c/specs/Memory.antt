-- The memory of a caller, and bytes that are written there.
use Rattle.std.specs.Prelude.{◌≡◌, ℕ, ◌<◌, List, ◌++◌, length, drop}
use Rattle.flat_answers.specs.Places.{counted}
use Rattle.eip_c.specs.declared.status.CallStatus.{CallStatus}
use Rattle.eip_c.specs.declared.status.CallStatus.TheVariants.{Done, NoRoom}

-- the room for bytes, and the number of bytes
abbrev pub Memory : Type 0
Memory = List ℕ × ℕ

-- Bytes are written at the front of the room, and counted. They are counted alone where the room is too small for them.
abbrev pub Writes : List ℕ → CallStatus → Memory → Memory → Type 0
Writes bytes Done old new = (new.0 ≡ bytes ++ drop (length bytes) old.0) × (new.1 ≡ length bytes)
Writes bytes NoRoom old new = (length old.0 < length bytes) × (new.0 ≡ old.0) × (new.1 ≡ length bytes)
Writes bytes status old new = ⊥

-- An answer is longer than the room, and is counted alone, as far as 64 bits count.
abbrev pub LacksRoom : ℕ → Memory → Memory → Type 0
LacksRoom len old new = (length old.0 < len) × (new.0 ≡ old.0) × (new.1 ≡ counted len)
