-- The find at the device with the lowest incarnation byte.
use Rattle.std.specs.Prelude.{◌<◌, ℕ, nat_lt, if◌then◌else◌, List, slice_index, Option, Some, None}

-- of two finds, each a device and a place in its history, the one whose device has the lower byte
abbrev pub lower_of : List ℕ → Option (ℕ × ℕ) → ℕ × ℕ → ℕ × ℕ
lower_of bytes None other = other
lower_of bytes (Some best) other = if nat_lt (slice_index bytes other.0) (slice_index bytes best.0) then other else best

-- Of the first n devices each is done, or there is a find, and each of them with a lower byte is done.
abbrev pub IsLowest : (ℕ → Type 0) → (ℕ → ℕ → Type 0) → List ℕ → ℕ → Option (ℕ × ℕ) → Type 0
IsLowest IsDone IsFind bytes n None = (i : ℕ) → i < n → IsDone i
IsLowest IsDone IsFind bytes n (Some p) = IsFind p.0 p.1 × (p.0 < n) × ((i : ℕ) → i < n → slice_index bytes i < slice_index bytes p.0 → IsDone i)
