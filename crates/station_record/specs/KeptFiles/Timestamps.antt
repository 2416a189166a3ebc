-- The time at which a record begins, as a text: RFC 3339, 5.6, in UTC and with milliseconds. Days are those of the Gregorian
-- calendar (RFC 3339, appendix C, has its leap years).
use Rattle.std.specs.Prelude.{ℕ, zero, suc, ◌+◌, ◌-◌, ◌/◌, ◌%◌, ◌==◌, ◌&&◌, ◌||◌, not, nat_lt, if◌then◌else◌, Bool, List, [], ◌∷◌, ◌++◌, length, replicate, codes, decimal}
use Rattle.station_record.specs.declared.kept_files.timestamp.Day.{Day}

-- whether a year has 366 days
abbrev pub is_leap : ℕ → Bool
is_leap year = (year % 4 == 0) && (not (year % 100 == 0) || year % 400 == 0)

-- the days of a year
abbrev pub year_len : ℕ → ℕ
year_len year = if is_leap year then 366 else 365

-- the days of its months
abbrev pub month_lens : ℕ → List ℕ
month_lens year = 31 ∷ (if is_leap year then 29 else 28) ∷ 31 ∷ 30 ∷ 31 ∷ 30 ∷ 31 ∷ 31 ∷ 30 ∷ 31 ∷ 30 ∷ 31 ∷ []

-- the day that is so many days behind the first one of a month, where the months from it on have these days
abbrev pub day_among : (year month : ℕ) (lens : List ℕ) (days : ℕ) → Day
day_among year month [] days = record { year = year; month = 12; day = 31 }
day_among year month (len ∷ lens) days =
    if nat_lt days len then record { year = year; month = month; day = days + 1 }
    else day_among year (month + 1) lens (days - len)

-- the day that is so many days behind the first one of a year, if it is in that year or in so many behind it; else the last day
-- of the year 9999
abbrev pub day_within : (more year days : ℕ) → Day
day_within zero year days = record { year = 9999; month = 12; day = 31 }
day_within (suc more) year days =
    if nat_lt days (year_len year) then day_among year 1 (month_lens year) days
    else day_within more (year + 1) (days - year_len year)

-- the day that is so many days behind 1970-01-01; the last one of the year 9999 if it is behind that
unfoldable pub day_of : ℕ → Day
day_of days = day_within (10000 - 1970) 1970 days

-- a number in at least so many digits
unfoldable pub digits : (width number : ℕ) → List ℕ
digits width number = replicate (width - length (decimal number)) 48 ++ decimal number

-- a day: YEAR-MONTH-DAY
unfoldable pub day_text : Day → List ℕ
day_text day = digits 4 day.year ++ (codes "-" ++ (digits 2 day.month ++ (codes "-" ++ digits 2 day.day)))

-- a time of a day, in milliseconds: THOUR:MINUTE:SECOND.MILLISECONDSZ
unfoldable pub time_text : ℕ → List ℕ
time_text ms =
    codes "T" ++ (digits 2 (ms / 3600000 % 24) ++ (codes ":" ++ (digits 2 (ms / 60000 % 60) ++ (codes ":" ++ (digits 2 (ms / 1000 % 60)
    ++ (codes "." ++ (digits 3 (ms % 1000) ++ codes "Z")))))))

-- the time that is so many milliseconds behind the beginning of 1970
abbrev pub timestamp_text : ℕ → List ℕ
timestamp_text ms = day_text (day_of (ms / 86400000)) ++ time_text ms
