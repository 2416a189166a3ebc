-- How a life comes to its incarnation, its port and its beginning. Times are in milliseconds.
use Rattle.std.specs.Prelude.{ℕ, ◌-◌, ◌==◌, nat_lt, min, if◌then◌else◌, Bool, Option, Some, None}
use Rattle.station_setup.specs.Settings.{incarnation_in}
use Rattle.station_setup.specs.declared.opening.starts.Counting.{Counting}
use Rattle.station_setup.specs.declared.opening.starts.Counting.TheVariants.{Said, Counted}

-- an incarnation of the options is that of the first life; without a state's file of the options each further one has the next, and
-- no file is read or written
abbrev pub counting_of : Option ℕ → (has_file : Bool) → (life : ℕ) → Counting
counting_of None has_file life = Counted None
counting_of (Some first) has_file life = if has_file then (if life == 1 then Counted (Some first) else Counted None) else Said (incarnation_in first life)

-- the port of a later life is tried fifty times more: the system may not have given up the earlier one
abbrev pub more_tries : (life : ℕ) → ℕ
more_tries life = if nat_lt 1 life then 50 else 0

-- from the beginning of a life to that of the next one it is at least a second
abbrev pub pause_before_life : (lived : ℕ) → ℕ
pause_before_life lived = 1000 - lived

-- a pause ends with what is left of a station's time
abbrev pub pause_within : (pause : ℕ) → (left : Option ℕ) → ℕ
pause_within pause None = pause
pause_within pause (Some left) = min left pause
