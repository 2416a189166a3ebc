-- Which device of a plant a page shows next. Each new text of a device has another number.
use Rattle.std.specs.Prelude.{ℕ, zero, suc, ◌+◌, ◌-◌, ◌==◌, if◌then◌else◌, not, Bool, true, false, List, length, slice_get, Option, Some, None}

abbrev pub is_other : Option ℕ → Option ℕ → Bool
is_other (Some number) (Some seen) = not (number == seen)
is_other (Some number) None = true
is_other None seen = false

-- a device has a new text: its number is not the one that was seen
abbrev pub is_new : (numbers seen : List ℕ) → ℕ → Bool
is_new numbers seen device = is_other (slice_get numbers device) (slice_get seen device)

-- the first one with a new text of so many devices, from this one on
abbrev pub first_of : (numbers seen : List ℕ) → (from count : ℕ) → Option ℕ
first_of numbers seen from zero = None
first_of numbers seen from (suc count) = if is_new numbers seen from then Some from else first_of numbers seen (from + 1) count

-- the first one of all, from this one on
abbrev pub first_new : (numbers seen : List ℕ) → ℕ → Option ℕ
first_new numbers seen from = first_of numbers seen from (length numbers - from)

abbrev pub or_first : (numbers seen : List ℕ) → Option ℕ → Option ℕ
or_first numbers seen (Some device) = Some device
or_first numbers seen None = first_new numbers seen 0

-- the devices take turns: the first one with a new text from this one on, or else the first one of all
abbrev pub changed_from : (numbers seen : List ℕ) → ℕ → Option ℕ
changed_from numbers seen from = or_first numbers seen (first_new numbers seen from)
