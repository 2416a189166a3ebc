-- Messages that stations send beside their devices: NOP (0) and UnRegisterSession (102) (Volume 2, chapter 2, encapsulation
-- commands).
use Rattle.std.specs.Prelude.{ℕ, ◌==◌, ◌||◌, Bool, false, List, Option, Some, None}
use Rattle.std.specs.Int.{w16}
use Rattle.cip_types.specs.Fields.{field_at}

abbrev pub is_station_command : Option (ℕ × List ℕ) → Bool
is_station_command None = false
is_station_command (Some got) = got.0 == 0 || got.0 == 102

abbrev pub is_of_station : List ℕ → Bool
is_of_station message = is_station_command (field_at w16 message)
