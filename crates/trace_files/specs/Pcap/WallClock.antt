-- The wall-clock time at which a record begins, from its first line (RFC 3339, section 5.6, with Z and three digits behind
-- the second):
--
--   # recorded from 2026-11-26T17:36:10.123Z        alone, or with a space and more words behind it
use Rattle.std.specs.Prelude.{ℕ, ◌+◌, ◌-◌, ◌*◌, ◌/◌, ◌%◌, ◌==◌, ◌&&◌, ◌||◌, not, nat_le, nat_lt, Bool, true, if◌then◌else◌, List, [], ◌∷◌, length, take, drop, codes, bytes_eq, option_map, Option, Some, None}

-- NUMBERS

abbrev pub is_digit : ℕ → Bool
is_digit byte = nat_le 48 byte && nat_le byte 57

-- the number of two decimal digits
abbrev pub two_digits : ℕ → ℕ → Option ℕ
two_digits tens ones = if is_digit tens && is_digit ones then Some ((tens - 48) * 10 + (ones - 48)) else None

-- DATES OF THE GREGORIAN CALENDAR

abbrev pub is_leap : ℕ → Bool
is_leap year = (year % 4 == 0) && (not (year % 100 == 0) || (year % 400 == 0))

abbrev pub days_of_month : ℕ → ℕ → ℕ
days_of_month year month =
    if month == 2 then (if is_leap year then 29 else 28)
    else if (month == 4) || ((month == 6) || ((month == 9) || (month == 11))) then 30
    else 31

-- the date is one, from 1970 on
abbrev pub is_date : ℕ → ℕ → ℕ → Bool
is_date year month day = nat_le 1970 year && (nat_le 1 month && (nat_le month 12 && (nat_le 1 day && nat_le day (days_of_month year month))))

-- the year to which a month belongs, if years begin with March
abbrev pub year_from_march : ℕ → ℕ → ℕ
year_from_march year month = if nat_le month 2 then year - 1 else year

-- The days before a date: those of whole years that begin with March, a leap day in each fourth but for three of four
-- hundredths; those of whole months, since March; and those of the month. From 0000-03-01 to 1970-01-01 it is 719,468
-- days.
abbrev pub days_before : ℕ → ℕ → ℕ → ℕ
days_before year months day = year * 365 + year / 4 + year / 400 + (months * 153 + 2) / 5 + day - (year / 100 + 719468 + 1)

-- the days from 1970-01-01 to a date
abbrev pub days_from_civil : ℕ → ℕ → ℕ → ℕ
days_from_civil year month day = days_before (year_from_march year month) ((month + 9) % 12) day

abbrev pub date_of : ℕ → ℕ → ℕ → Option ℕ
date_of year month day = if is_date year month day then Some (days_from_civil year month day) else None

-- TIMES OF A DAY

-- the milliseconds from midnight
abbrev pub time_of : ℕ → ℕ → ℕ → ℕ → Option ℕ
time_of hour minute second ms =
    if nat_le hour 23 && (nat_le minute 59 && nat_le second 59)
    then Some (((hour * 60 + minute) * 60 + second) * 1000 + ms)
    else None

-- THE TEXT

-- a value, and the text behind it
abbrev pub before : List ℕ → Option ℕ → Option (ℕ × List ℕ)
before rest value = option_map (λ n. (n, rest)) value

-- the date of its century, year, month and day
abbrev pub date_in : Option ℕ → Option ℕ → Option ℕ → Option ℕ → Option ℕ
date_in (Some century) (Some year) (Some month) (Some day) = date_of (century * 100 + year) month day
date_in _ _ _ _ = None

-- the time of its hour, minute, second, hundredths and thousandth
abbrev pub time_in : Option ℕ → Option ℕ → Option ℕ → Option ℕ → Option ℕ → Option ℕ
time_in (Some hour) (Some minute) (Some second) (Some hundredths) (Some thousandth) = time_of hour minute second (hundredths * 10 + thousandth)
time_in _ _ _ _ _ = None

-- the date at the front of a text, YYYY-MM-DD, as days since 1970-01-01, and the text behind it
abbrev pub date_at : List ℕ → Option (ℕ × List ℕ)
date_at (a ∷ b ∷ c ∷ d ∷ dash ∷ e ∷ f ∷ other ∷ g ∷ h ∷ rest) =
    if (dash == 45) && (other == 45)
    then before rest (date_in (two_digits a b) (two_digits c d) (two_digits e f) (two_digits g h))
    else None
date_at _ = None

-- the time at the front of a text, THH:MM:SS.mmmZ, as milliseconds, and the text behind it
abbrev pub time_at : List ℕ → Option (ℕ × List ℕ)
time_at (t ∷ a ∷ b ∷ colon ∷ c ∷ d ∷ other ∷ e ∷ f ∷ dot ∷ g ∷ h ∷ i ∷ z ∷ rest) =
    if (t == 84) && ((colon == 58) && ((other == 58) && ((dot == 46) && (z == 90))))
    then before rest (time_in (two_digits a b) (two_digits c d) (two_digits e f) (two_digits g h) (two_digits 48 i))
    else None
time_at _ = None

-- nothing follows, or a space
abbrev pub ends_there : List ℕ → Bool
ends_there [] = true
ends_there (first ∷ rest) = first == 32

-- the milliseconds of days and of a time behind them
abbrev pub instant_of : ℕ → Option (ℕ × List ℕ) → Option ℕ
instant_of days None = None
instant_of days (Some time) = if ends_there time.1 then Some (days * 86400000 + time.0) else None

abbrev pub time_behind : Option (ℕ × List ℕ) → Option ℕ
time_behind None = None
time_behind (Some date) = instant_of date.0 (time_at date.1)

-- the instant of the time stamp at the front of a text
abbrev pub stamp_at : List ℕ → Option ℕ
stamp_at text = time_behind (date_at text)

-- the words before the time
abbrev pub begins_record : List ℕ → Bool
begins_record words = bytes_eq words (codes "# recorded from ")

-- the time of a record's first line
abbrev pub recorded_from : List ℕ → Option ℕ
recorded_from line = if nat_lt (length line) 16 then None else if begins_record (take 16 line) then stamp_at (drop 16 line) else None
