-- The names of a story's devices.
use Rattle.std.specs.Prelude.{ℕ, not, ◌&&◌, nat_lt, bytes_eq, length, position, Bool, List, codes, Option}

-- the index of the first device with a name
abbrev pub device_at : List (List ℕ) → List ℕ → Option ℕ
device_at names name = position (λ other. bytes_eq other name) names

-- the line of an act begins with the name of its device, so no name is the word of another line
abbrev pub is_name : List ℕ → Bool
is_name word = nat_lt 0 (length word) && not (bytes_eq word (codes "device"))
